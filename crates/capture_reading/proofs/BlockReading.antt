-- How a capture is read block by block into a sink.
use Rattle.std.proofs.Common.{arith, ◌≡◌, ◌≤◌, ◌+◌, ◌++◌, [], ℕ, List, Bool, sym, subst, refl, ap, ◌∙◌, inl, inr, length, take, append-nil, Option, Some}
use Rattle.std.specs.Prelude.{slice_index}
use Rattle.std.specs.Io.KnownBytes.{Consumes, IsAtEnd}
use Rattle.std.proofs.KnownBytes.{Consumes-trans}
use Rattle.tmds_word.specs.Bits.{bytes_bits}
use Rattle.outside_io.specs.Causes.{Rose}
use Rattle.capture_file.specs.Captures.{HasRead, Stands, StopsIn, SaysOf, SaysRead, IsFault, IsEarlyFault, IsHeaderPart, IsBlockPart, IsCaptureOf, place_of}
use Rattle.capture_file.specs.declared.fault.CaptureError.{CaptureError}
use Rattle.capture_file.specs.declared.fault.CaptureError.TheVariants.{Bad as BadCapture, Read as ReadFailed}
use Rattle.capture_file.proofs.Marks.{consumed}
use Rattle.link_sink.specs.Pieces.{no_bits}
use Rattle.link_sink.specs.Sinks.{Fed, grown}
use Rattle.capture_reading.specs.Blocks.{AreNext}
use Rattle.capture_reading.specs.Reading.{HasHeard, HasHeardAll, IsCausedBy, IsUntaken, IsReadWhole, StopsShort, refused_as}
use Rattle.capture_reading.specs.declared.reading.ReadCaptureError.{ReadCaptureError}

-- a block more was read
abbrev pub Lends : ℕ → List ℕ → ℕ → List ℕ → List ℕ → List ℕ → List ℕ → Type 0
Lends version counts j a b d bits = (taken : List ℕ) (x y z : List Bool) → Stands version counts j taken x y z
    → Stands version counts (j + 1) (taken ++ ((a ++ b) ++ d)) (x ++ take (slice_index bits 0) (bytes_bits a)) (y ++ take (slice_index bits 1) (bytes_bits b)) (z ++ take (slice_index bits 2) (bytes_bits d))

-- what the ear took is so by itself
abbrev pub Reported : {K A : Type 0} → (K → Fed → A → A → Type 0) → (Fed → A → A → Type 0) → Type 0
Reported {K} {A} heard so_far = (sink : K) (fed : Fed) (first now : A) → heard sink fed first now → so_far fed first now

at_its_length : (version : ℕ) (counts : List ℕ) (j : ℕ) (taken : List ℕ) (x y z : List Bool) → Stands version counts j taken x y z → HasRead counts j (length taken) taken x y z
at_its_length version counts j taken x y z h =
    record { head = h.head; headed = h.headed; count_blue = h.count_blue; count_green = h.count_green; count_red = h.count_red; taken_is = h.taken_is; place_is = refl }

pub heard_more : {K A : Type 0} (heard : K → Fed → A → A → Type 0) (version : ℕ) (counts : List ℕ) (j : ℕ) (from left0 left1 : Option (List ℕ)) (sink0 sink1 : K) (a b d bits : List ℕ) (first old new : A)
    → HasHeard heard version counts j from left0 sink0 first old → Consumes left0 left1 ((a ++ b) ++ d) → Lends version counts j a b d bits
    → ((fed : Fed) → heard sink0 fed first old → heard sink1 (grown fed a b d bits) first new)
    → HasHeard heard version counts (j + 1) from left1 sink1 first new
heard_more heard version counts j from left0 left1 sink0 sink1 a b d bits first old new h gone lent fed = record {
  taken = h.taken ++ ((a ++ b) ++ d);
  fed = grown h.fed a b d bits;
  consumed = Consumes-trans from left0 left1 h.taken ((a ++ b) ++ d) h.consumed gone;
  stands = lent h.taken h.fed.blue h.fed.green h.fed.red h.stands;
  heard_so = fed h.fed h.heard_so;
}

-- the same of a reader that says the same
pub moved : {K A : Type 0} (heard : K → Fed → A → A → Type 0) (version version' : ℕ) (counts counts' : List ℕ) (j j' : ℕ) (from left : Option (List ℕ)) (sink : K) (first now : A)
    → version' ≡ version → counts' ≡ counts → j' ≡ j → HasHeard heard version counts j from left sink first now → HasHeard heard version' counts' j' from left sink first now
moved heard version version' counts counts' j j' from left sink first now ev ec ej h =
    subst (λ v. HasHeard heard v counts' j' from left sink first now) (sym ev)
    (subst (λ cs. HasHeard heard version cs j' from left sink first now) (sym ec) (subst (λ n. HasHeard heard version counts n from left sink first now) (sym ej) h))

pub carried : {T : Type 0} (P : T → T → Type 0) (x x' y y' : T) → x' ≡ x → y' ≡ y → P x y → P x' y'
carried P x x' y y' ex ey h = subst (λ t. P t y') (sym ex) (subst (P x) (sym ey) h)

one_more : (version : ℕ) (counts : List ℕ) (j : ℕ) (taken block : List ℕ) (before now : Fed)
    → Stands version counts j taken before.blue before.green before.red → Stands version counts (j + 1) (taken ++ block) now.blue now.green now.red → AreNext before now (taken ++ block)
one_more version counts j taken block before now had has =
    record { counts = counts; j = j; taken = taken; block = block; read_is = refl; had = at_its_length version counts j _ _ _ _ had; has = at_its_length version counts (j + 1) _ _ _ _ has }

pub untaken : {K A : Type 0} (heard : K → Fed → A → A → Type 0) (stops : Fed → Fed → A → A → Type 0) (stops_last : Fed → A → A → Type 0) (version : ℕ) (counts : List ℕ) (j : ℕ) (from left0 left1 : Option (List ℕ)) (sink : K) (a b d bits : List ℕ) (first old new : A)
    → HasHeard heard version counts j from left0 sink first old → Consumes left0 left1 ((a ++ b) ++ d) → Lends version counts j a b d bits
    → ((fed : Fed) → heard sink fed first old → stops fed (grown fed a b d bits) first new)
    → IsUntaken stops stops_last from left1 first new
untaken heard stops stops_last version counts j from left0 left1 sink a b d bits first old new h gone lent stopped =
    let next = lent h.taken h.fed.blue h.fed.green h.fed.red h.stands in
    record {
      fed = h.fed;
      read = h.taken ++ ((a ++ b) ++ d);
      consumed = Consumes-trans from left0 left1 h.taken ((a ++ b) ++ d) h.consumed gone;
      some = inl (grown h.fed a b d bits, one_more version counts j h.taken _ h.fed _ h.stands next, stopped h.fed h.heard_so);
    }

pub heard_all : {K A : Type 0} (heard : K → Fed → A → A → Type 0) (version : ℕ) (counts : List ℕ) (j : ℕ) (from left0 left1 : Option (List ℕ)) (sink : K) (first now : A)
    → HasHeard heard version counts j from left0 sink first now → Consumes left0 left1 []
    → ((taken : List ℕ) (x y z : List Bool) → Stands version counts j taken x y z → IsCaptureOf x y z taken)
    → HasHeardAll heard from left1 sink first now
heard_all heard version counts j from left0 left1 sink first now h gone whole = record {
  taken = h.taken;
  fed = h.fed;
  consumed = subst (Consumes from left1) (append-nil h.taken) (Consumes-trans from left0 left1 h.taken [] h.consumed gone);
  captured = whole h.taken h.fed.blue h.fed.green h.fed.red h.stands;
  heard_so = h.heard_so;
}

-- a reader gives an error
pub stops_short : {K A : Type 0} (heard : K → Fed → A → A → Type 0) (so_far : Fed → A → A → Type 0) (stops : Fed → Fed → A → A → Type 0) (stops_last : Fed → A → A → Type 0) → Reported heard so_far → (version : ℕ) (counts : List ℕ) (j : ℕ) (from left0 left1 : Option (List ℕ)) (sink : K) (first now : A) (error : CaptureError)
    → HasHeard heard version counts j from left0 sink first now
    → ((bytes taken : List ℕ) (x y z : List Bool) → left0 ≡ Some bytes → Stands version counts j taken x y z → SaysOf (λ fault. IsFault (taken ++ bytes) fault × StopsIn counts j taken (place_of fault)) error)
    → SaysRead ((part : List ℕ) × IsBlockPart counts j part × Consumes left0 left1 part) error
    → StopsShort so_far stops stops_last from left1 first now (refused_as error)
stops_short heard so_far stops stops_last reported version counts j from left0 left1 sink first now (BadCapture fault) h says part =
    let so = reported sink h.fed first now h.heard_so in (
      (h.fed, so),
      λ bytes is.
          let c = consumed from left0 bytes h.taken is h.consumed in
          let s = says c.0 h.taken h.fed.blue h.fed.green h.fed.red c.2 h.stands in
          record {
            faulty = subst (λ bs. IsFault bs fault) (sym c.1) s.0;
            fed = h.fed;
            before = inr (h.taken, c.0, counts, j, c.1, at_its_length version counts j _ _ _ _ h.stands, s.1);
            heard = so;
          },
    )
stops_short heard so_far stops stops_last reported version counts j from left0 left1 sink first now ReadFailed h says part = record {
  fed = h.fed;
  read = h.taken ++ part.0;
  consumed = Consumes-trans from left0 left1 h.taken part.0 h.consumed part.2;
  are_read = (part.1.begins _ _ _ _ _ h.stands, inr (h.taken, part.0, counts, j, refl, at_its_length version counts j _ _ _ _ h.stands, part.1.short));
  heard = reported sink h.fed first now h.heard_so;
}

-- a header was read
pub heard_head : {K A : Type 0} (heard : K → Fed → A → A → Type 0) (version : ℕ) (counts : List ℕ) (j : ℕ) (from left : Option (List ℕ)) (sink : K) (now : A) → heard sink no_bits now now
    → (head : List ℕ) × Consumes from left head × Stands version counts j head [] [] [] → HasHeard heard version counts j from left sink now now
heard_head heard version counts j from left sink now fresh h = record { taken = h.0; fed = no_bits; consumed = h.1; stands = h.2; heard_so = fresh }

-- none was read
pub headless : {A : Type 0} (so_far : Fed → A → A → Type 0) (stops : Fed → Fed → A → A → Type 0) (stops_last : Fed → A → A → Type 0) (from left : Option (List ℕ)) (now : A) (error : CaptureError) → so_far no_bits now now
    → ((bytes : List ℕ) → from ≡ Some bytes → SaysOf (λ fault. IsEarlyFault bytes fault) error)
    → SaysRead ((part : List ℕ) × IsHeaderPart part × Consumes from left part) error
    → StopsShort so_far stops stops_last from left now now (refused_as error)
headless so_far stops stops_last from left now (BadCapture fault) so says part = (
  (no_bits, so),
  λ bytes is. let s = says bytes is in record { faulty = s.0; fed = no_bits; before = inl (s.1, refl); heard = so },
)
headless so_far stops stops_last from left now ReadFailed so says part = record { fed = no_bits; read = part.0; consumed = part.2; are_read = (part.1.1, inl (part.1.0, refl)); heard = so }

-- of a source that is at its end nothing is left
left_none : (left : Option (List ℕ)) (rest : List ℕ) → left ≡ Some rest → IsAtEnd left → rest ≡ []
left_none left rest is ended = subst IsAtEnd is ended

pub heard_whole : {K A O : Type 0} (heard : K → Fed → A → A → Type 0) (whole : Fed → O → A → A → Type 0) (from left : Option (List ℕ)) (sink : K) (outcome : O) (first old new : A)
    → HasHeardAll heard from left sink first old → IsAtEnd left
    → ((fed : Fed) → heard sink fed first old → whole fed outcome first new)
    → IsReadWhole whole from outcome first new
heard_whole heard whole from left sink outcome first old new h ended told = record {
  fed = h.fed;
  captured = λ bytes is.
      let c = consumed from left bytes h.taken is h.consumed in
      subst (λ bs. IsCaptureOf h.fed.blue h.fed.green h.fed.red bs) (sym (c.1 ∙ ap (λ bs. h.taken ++ bs) (left_none left c.0 c.2 ended) ∙ append-nil h.taken)) h.captured;
  heard = told h.fed h.heard_so;
}

pub unended : {K A : Type 0} (heard : K → Fed → A → A → Type 0) (stops : Fed → Fed → A → A → Type 0) (stops_last : Fed → A → A → Type 0) (from left : Option (List ℕ)) (sink : K) (first old new : A)
    → HasHeardAll heard from left sink first old → IsAtEnd left
    → ((fed : Fed) → heard sink fed first old → stops_last fed first new)
    → IsUntaken stops stops_last from left first new
unended heard stops stops_last from left sink first old new h ended stopped =
    record { fed = h.fed; read = h.taken; consumed = h.consumed; some = inr (ended, h.captured, stopped h.fed h.heard_so) }

-- a count that rose after it had not fallen has risen
pub rose_after : (a b c : ℕ) → a ≤ b → Rose b c → Rose a c
rose_after a b c h k = grind arith

pub caused_later : (a b c m n : ℕ) (e : ReadCaptureError) → a ≤ b → IsCausedBy b c m n e → IsCausedBy a c m n e
caused_later a b c m n e h k = grind (arith, rose_after)
