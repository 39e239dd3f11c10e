-- A line with one pixel more, and what is reported of it.
use Rattle.std.proofs.Common.{◌≡◌, ℕ, ◌+◌, ◌<◌, ◌≤◌, List, [], ◌∷◌, ◌++◌, length, map, take, refl, ap, sym, ◌∙◌, arith, append_assoc, subst, length-append}
use Rattle.std.specs.Prelude.{nat_le}
use Rattle.std.proofs.lemmas.List.{length_push, take_all, take-append-le, append-nil, map_push, map-append}
use Rattle.std.proofs.lemmas.Bool.{lt-leb, le-leb}
use Rattle.tmds_word.specs.Column.{Column}
use Rattle.period_grammar.specs.Events.{Event, line, long_line}
use Rattle.period_grammar.specs.Heard.{line_bytes, pixel, line_of, line_at, codes_of, code_fault, if_not}
use Rattle.period_grammar.specs.Noted.{events, noted, Lent, lent}
use Rattle.period_grammar.specs.declared.event_queue.QueuedEvent.{QueuedEvent}
use Rattle.period_grammar.specs.declared.island.WholePacket.{WholePacket}
use Rattle.period_grammar.specs.declared.event_queue.QueuedEvent.TheVariants.{Line, Fault as FaultNoted}
use Rattle.period_grammar.specs.declared.event.Fault.TheVariants.{LongLine, Empty}
use Rattle.period_grammar.specs.Judged.{IsLaneAfter}
use Rattle.period_grammar.specs.declared.lane.LaneJudge.{LaneJudge}
use Rattle.period_grammar.specs.LineSeen.{LineSeen}
use Rattle.period_grammar.specs.Lines.{IsLineAfter}

abbrev pub lined : LineSeen → ℕ → ℕ → List Event
lined l start from =
    line l.bytes ∷ ((code_fault 0 from l.blue.first ++ (code_fault 1 from l.green.first ++ code_fault 2 from l.red.first)) ++ if_not (nat_le l.count 4096) (long_line start))

line_is : (l : LineSeen) (start from : ℕ) (pixels : List Column) → IsLineAfter l pixels → line_at start from pixels ≡ lined l start from
unfolding codes_of
line_is l start from pixels was = rw (was.bytes, was.blue.first, was.green.first, was.red.first, was.count) refl

-- after two guard columns
pub line_after : (l : LineSeen) (start : ℕ) (pixels : List Column) → IsLineAfter l pixels → 0 < l.count → line_of start pixels ≡ line_at start (start + 2) pixels
unfolding line_of
line_after l start pixels h k = grind arith

pub line_bytes_push : (cs : List Column) (c : Column) → line_bytes (cs ++ c ∷ []) ≡ line_bytes cs ++ pixel c
unfolding line_bytes
line_bytes_push [] c = refl
line_bytes_push (d ∷ cs) c = ap (λ xs. pixel d ++ xs) (line_bytes_push cs c)

within : (cs : List Column) (c : Column) → length cs < 4096 → take 4096 (cs ++ c ∷ []) ≡ take 4096 cs ++ c ∷ []
within cs c lt =
    take_all 4096 (cs ++ c ∷ []) (omega (arith, length_push cs c)) ∙ ap (λ xs. xs ++ c ∷ []) (sym (take_all 4096 cs (omega arith)))

judge_more : (f : Column → ℕ) (cs : List Column) (c : Column) (word : ℕ) (j : LaneJudge)
    → length cs < 4096 → word ≡ f c → IsLaneAfter j (map f (take 4096 cs) ++ word ∷ []) → IsLaneAfter j (map f (take 4096 (cs ++ c ∷ [])))
judge_more f cs c word j lt e was =
    subst (λ ws. IsLaneAfter j ws) (ap (λ w. map f (take 4096 cs) ++ w ∷ []) e ∙ sym (map_push f (take 4096 cs) c) ∙ ap (map f) (sym (within cs c lt))) was

-- past the room
pub line_past : (old new : LineSeen) (cs : List Column) (c : Column) → IsLineAfter old cs → 4096 ≤ old.count → new.count ≡ old.count + 1
    → new.bytes ≡ old.bytes → new.blue ≡ old.blue → new.green ≡ old.green → new.red ≡ old.red → IsLineAfter new (cs ++ c ∷ [])
line_past old new cs c was ge n e b g r =
    let same : take 4096 (cs ++ c ∷ []) ≡ take 4096 cs = take-append-le 4096 cs (c ∷ []) (omega (arith, was.count)) in
    record {
      count = n ∙ ap (λ x. x + 1) was.count ∙ sym (length_push cs c);
      bytes = e ∙ was.bytes ∙ ap line_bytes (sym same);
      blue = rw (b, same) was.blue;
      green = rw (g, same) was.green;
      red = rw (r, same) was.red;
    }

pub line_push : (old new : LineSeen) (cs : List Column) (c : Column) → IsLineAfter old cs → old.count < 4096 → new.count ≡ old.count + 1
    → new.bytes ≡ old.bytes ++ pixel c
    → ((ws : List ℕ) → IsLaneAfter old.blue ws → IsLaneAfter new.blue (ws ++ c.blue ∷ []))
    → ((ws : List ℕ) → IsLaneAfter old.green ws → IsLaneAfter new.green (ws ++ c.green ∷ []))
    → ((ws : List ℕ) → IsLaneAfter old.red ws → IsLaneAfter new.red (ws ++ c.red ∷ []))
    → IsLineAfter new (cs ++ c ∷ [])
line_push old new cs c was lt n e b g r =
    let few : length cs < 4096 = omega (arith, was.count) in
    record {
      count = n ∙ ap (λ x. x + 1) was.count ∙ sym (length_push cs c);
      bytes = e ∙ ap (λ xs. xs ++ pixel c) was.bytes ∙ sym (line_bytes_push (take 4096 cs) c) ∙ ap line_bytes (sym (within cs c few));
      blue = judge_more (λ d. d.blue) cs c c.blue new.blue few refl (b _ was.blue);
      green = judge_more (λ d. d.green) cs c c.green new.green few refl (g _ was.green);
      red = judge_more (λ d. d.red) cs c c.red new.red few refl (r _ was.red);
    }

pub line_bytes_append : (cs ds : List Column) → line_bytes (cs ++ ds) ≡ line_bytes cs ++ line_bytes ds
unfolding line_bytes
line_bytes_append [] ds = refl
line_bytes_append (c ∷ cs) ds = ap (λ xs. pixel c ++ xs) (line_bytes_append cs ds)

lane_more : (f : Column → ℕ) (cs ds : List Column) (ws : List ℕ) (j : LaneJudge) → map f ds ≡ ws → take 4096 (cs ++ ds) ≡ cs ++ ds → take 4096 cs ≡ cs
    → IsLaneAfter j (map f (take 4096 cs) ++ ws) → IsLaneAfter j (map f (take 4096 (cs ++ ds)))
lane_more f cs ds ws j e all few was =
    subst (λ vs. IsLaneAfter j vs) (ap (λ vs. map f (take 4096 cs) ++ vs) (sym e) ∙ ap (λ (xs : List Column). map f xs ++ map f ds) few ∙ sym (map-append f cs ds) ∙ ap (map f) (sym all)) was

-- with more pixels, within the room
pub line_append : (old new : LineSeen) (cs ds : List Column) (bs gs rs : List ℕ) → IsLineAfter old cs → old.count + length ds ≤ 4096 → new.count ≡ old.count + length ds
    → new.bytes ≡ old.bytes ++ line_bytes ds → map (λ c. c.blue) ds ≡ bs → map (λ c. c.green) ds ≡ gs → map (λ c. c.red) ds ≡ rs
    → ((ws : List ℕ) → IsLaneAfter old.blue ws → IsLaneAfter new.blue (ws ++ bs))
    → ((ws : List ℕ) → IsLaneAfter old.green ws → IsLaneAfter new.green (ws ++ gs))
    → ((ws : List ℕ) → IsLaneAfter old.red ws → IsLaneAfter new.red (ws ++ rs))
    → IsLineAfter new (cs ++ ds)
line_append old new cs ds bs gs rs was le n e mb mg mr b g r =
    let all : take 4096 (cs ++ ds) ≡ cs ++ ds = take_all 4096 (cs ++ ds) (omega (arith, le, was.count, length-append cs ds)) in
    let few : take 4096 cs ≡ cs = take_all 4096 cs (omega (arith, le, was.count)) in
    record {
      count = omega (arith, n, was.count, length-append cs ds);
      bytes = e ∙ ap (λ xs. xs ++ line_bytes ds) (was.bytes ∙ ap line_bytes few) ∙ sym (line_bytes_append cs ds) ∙ ap line_bytes (sym all);
      blue = lane_more (λ d. d.blue) cs ds bs new.blue mb all few (b _ was.blue);
      green = lane_more (λ d. d.green) cs ds gs new.green mg all few (g _ was.green);
      red = lane_more (λ d. d.red) cs ds rs new.red mr all few (r _ was.red);
    }

-- what notes say of the line
pub line_none : (l : LineSeen) (whole : WholePacket) (start : ℕ) (pixels : List Column) (was now : List QueuedEvent) → IsLineAfter l pixels → l.count ≡ 0 → length was ≤ 0
    → now ≡ was ++ FaultNoted (Empty start) ∷ [] → events (lent l.bytes whole) now ≡ line_of start pixels
unfolding line_of
line_none l whole start [] [] now h none room e = ap (events (lent l.bytes whole)) e
line_none l whole start [] (n ∷ was) now h none room e = absurd (omega arith)
line_none l whole start (c ∷ cs) was now h none room e = absurd (omega (arith, h.count))

pub noted_pixels : (l : LineSeen) (whole : WholePacket) (start from : ℕ) (pixels : List Column) (n0 n1 n2 n3 n4 n5 : List QueuedEvent) → IsLineAfter l pixels
    → n1 ≡ n0 ++ Line ∷ []
    → ((bytes : Lent) → events bytes n2 ≡ events bytes n1 ++ code_fault 0 from l.blue.first)
    → ((bytes : Lent) → events bytes n3 ≡ events bytes n2 ++ code_fault 1 from l.green.first)
    → ((bytes : Lent) → events bytes n4 ≡ events bytes n3 ++ code_fault 2 from l.red.first)
    → events (lent l.bytes whole) n5 ≡ events (lent l.bytes whole) n4 ++ if_not (nat_le l.count 4096) (long_line start)
    → events (lent l.bytes whole) n5 ≡ events (lent l.bytes whole) n0 ++ line_at start from pixels
noted_pixels l whole start from pixels n0 n1 n2 n3 n4 n5 was a b c d e =
    let m = lent l.bytes whole in
    let more = if_not (nat_le l.count 4096) (long_line start) in
    let first : events m n1 ≡ events m n0 ++ line l.bytes ∷ [] = ap (events m) a ∙ map-append (noted m) n0 (Line ∷ []) in
    let codes : events m n4 ≡ ((events m n0 ++ line l.bytes ∷ []) ++ code_fault 0 from l.blue.first) ++ (code_fault 1 from l.green.first ++ code_fault 2 from l.red.first) =
    d m ∙ ap (λ ts. ts ++ code_fault 2 from l.red.first)
    (c m ∙ ap (λ ts. ts ++ code_fault 1 from l.green.first) (b m ∙ ap (λ ts. ts ++ code_fault 0 from l.blue.first) first))
    ∙ append_assoc ((events m n0 ++ line l.bytes ∷ []) ++ code_fault 0 from l.blue.first) (code_fault 1 from l.green.first) (code_fault 2 from l.red.first) in
    e ∙ ap (λ ts. ts ++ more) codes
    ∙ joined (events m n0) (line l.bytes) (code_fault 0 from l.blue.first) (code_fault 1 from l.green.first ++ code_fault 2 from l.red.first) more
    ∙ ap (λ ts. events m n0 ++ ts) (sym (line_is l start from pixels was))
  where
    joined : (ts : List Event) (t : Event) (us vs ws : List Event) → (((ts ++ t ∷ []) ++ us) ++ vs) ++ ws ≡ ts ++ (t ∷ ((us ++ vs) ++ ws))
    joined ts t us vs ws = simp append_assoc

pub none_before : (m : Lent) (was : List QueuedEvent) → length was ≤ 0 → events m was ≡ []
none_before m [] room = refl
none_before m (n ∷ was) room = absurd (omega arith)

pub more_than : (bytes : Lent) (was now : List QueuedEvent) (count start : ℕ) → 4096 < count → now ≡ was ++ FaultNoted (LongLine start) ∷ []
    → events bytes now ≡ events bytes was ++ if_not (nat_le count 4096) (long_line start)
more_than bytes was now count start lt e =
    ap (events bytes) e ∙ map-append (noted bytes) was (FaultNoted (LongLine start) ∷ [])
    ∙ ap (λ p. events bytes was ++ if_not p (long_line start)) (sym (lt-leb count 4096 lt))

pub no_more : (ts : List Event) (count start : ℕ) → count ≤ 4096 → ts ≡ ts ++ if_not (nat_le count 4096) (long_line start)
no_more ts count start le = sym (ap (λ p. ts ++ if_not p (long_line start)) (le-leb count 4096 le) ∙ append-nil ts)
