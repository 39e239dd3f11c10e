-- How the reading of a piece ends, by what is answered for its frames.
use Rattle.std.proofs.Common.{◌≡◌, ◌∙◌, inl, inr, ℕ, ◌+◌, ◌-◌, ◌*◌, ◌%◌, ◌<◌, ◌≤◌, ◌==◌, min, Bool, true, false, List, [], ◌++◌, length, take, Option, Some, Result, Ok, Err, ap, sym, subst, append-nil, length-take-le, refl, arith}
use Rattle.std.specs.Prelude.{codes, flat_map, OnOk, IfOk, IfErr}
use Rattle.std.specs.Io.KnownBytes.{Appends, Consumes, IsAtEnd}
use Rattle.std.proofs.lemmas.Bool.{cases_lt, eqb-true, eq-eqb}
use Rattle.std.proofs.lemmas.List.{nil_from_length}
use Rattle.std.proofs.KnownBytes.{Appends-nil, Appends-trans, Consumes-nil}
use Rattle.audio_out.specs.Blocks.{IsBlocksAfter, OpenBlock}
use Rattle.audio_out.specs.Frames.{frame_bytes}
use Rattle.biphase_listing.specs.FrameText.{frames_text, text_after}
use Rattle.biphase_listing.specs.Groups.{most_frames}
use Rattle.biphase_listing.specs.Refusals.{IsRefused}
use Rattle.biphase_listing.specs.Reading.{HasListed, IsListed, IsReadTo, IsUnwritten, Judges, ListsPiece, Stops, StopsAt, TakesUpTo, stopped}
use Rattle.biphase_listing.specs.declared.fault.BiphaseError.{BiphaseError}
use Rattle.biphase_listing.specs.declared.fault.BiphaseError.TheVariants.{Bad, Read}
use Rattle.biphase_listing.specs.declared.fault.BiphaseFault.{BiphaseFault}
use Rattle.biphase_listing.specs.declared.fault.BiphaseFault.TheVariants.{Subframe, Long, Short}
use Rattle.biphase_listing.specs.declared.frame_lines.FrameLines.{FrameLines}
use Rattle.biphase_listing.specs.declared.frame_lines.Stop.{Stop}
use Rattle.biphase_listing.specs.declared.frame_lines.Stop.TheVariants.{End, Left, Right}
use Rattle.biphase_listing.proofs.Answering.{Ahead, adds_few, adds_length, ahead, bad_left, bad_right, bytes_split, read_of, read_size, too_long, too_short, unwritten, written}

error_of : {T : Type 0} → Result T BiphaseError → BiphaseError
error_of (Ok done) = Read
error_of (Err error) = error

-- what was read is as long as it is to be
takes_to : (fault : BiphaseFault) (from left held holds : Option (List ℕ)) (new : FrameLines) (rest : List ℕ) → Ahead from left held holds new rest
    → IsReadTo fault (16 * new.count + length rest) left → TakesUpTo fault from left
takes_to fault from left held holds new rest a size = record {
  taken = flat_map frame_bytes a.all ++ rest;
  consumed = a.consumed;
  size = subst (λ (n : ℕ). IsReadTo fault n left) (sym (read_size from left held holds new rest a)) size;
}

-- a group is no subframe of its side
left_refused : (from left held holds out : Option (List ℕ)) (new : FrameLines) (rest : List ℕ) → Ahead from left held holds new rest → Appends holds out new.text
    → new.count < most_frames → length rest ≤ 4096 → StopsAt Left rest → Stops from left held out (Bad (Subframe (2 * new.count)))
left_refused from left held holds out new rest a then few short stops = (
  takes_to (Subframe (2 * new.count)) from left held holds new rest a (omega (arith, short)),
  λ bytes is. let s = bytes_split from left bytes a.all rest is a.consumed in record {
    samples = a.all;
    refused = subst (λ (n : ℕ). IsRefused bytes (Subframe (2 * n)) a.all) (sym a.counted) (bad_left bytes a.all rest s.0 a.carried s.1 (omega (arith, a.counted, few)) stops);
    written = written from left held holds out new rest a then;
  },
)

right_refused : (from left held holds out : Option (List ℕ)) (new : FrameLines) (rest : List ℕ) → Ahead from left held holds new rest → Appends holds out new.text
    → new.count < most_frames → length rest ≤ 4096 → StopsAt Right rest → Stops from left held out (Bad (Subframe (2 * new.count + 1)))
right_refused from left held holds out new rest a then few short stops = (
  takes_to (Subframe (2 * new.count + 1)) from left held holds new rest a (omega (arith, short)),
  λ bytes is. let s = bytes_split from left bytes a.all rest is a.consumed in record {
    samples = a.all;
    refused = subst (λ (n : ℕ). IsRefused bytes (Subframe (2 * n + 1)) a.all) (sym a.counted) (bad_right bytes a.all rest s.0 a.carried s.1 (omega (arith, a.counted, few)) stops);
    written = written from left held holds out new rest a then;
  },
)

answered : (stop : Stop) (from left held holds out : Option (List ℕ)) (new : FrameLines) (rest : List ℕ) (e : BiphaseError) → Ahead from left held holds new rest → Appends holds out new.text
    → 16 * new.count + length rest ≤ 16 * most_frames + 1 → length rest ≤ 4096 → StopsAt stop rest → Err e ≡ stopped stop new.count → Stops from left held out e
unfolding error_of
answered End from left held holds out new rest e a then few short stops is = absurd (cc is)
answered Left from left held holds out new rest e a then few short stops is =
    subst (λ (f : BiphaseError). Stops from left held out f) (sym (ap error_of is)) (left_refused from left held holds out new rest a then (omega (arith, few, stops.0)) short stops)
answered Right from left held holds out new rest e a then few short stops is =
    subst (λ (f : BiphaseError). Stops from left held out f) (sym (ap error_of is)) (right_refused from left held holds out new rest a then (omega (arith, few, stops.0)) short stops)

-- what was listed, and what was read and made of it
pub record Begun (from left now held holds : Option (List ℕ)) (old : FrameLines) (piece : List ℕ) : Type 0 where
  pub has : HasListed from left held holds old.blocks old.count
  pub read : Consumes left now piece
  pub few : 16 * old.count + length piece ≤ 16 * most_frames + 1
  pub short : length piece ≤ 4096

ahead_of : (from left now held holds out : Option (List ℕ)) (old new : FrameLines) (piece : List ℕ) (result : Result (Unit {0}) BiphaseError)
    → Begun from left now held holds old piece → (l : ListsPiece piece old new holds out result) → Ahead from now held holds new l.rest
ahead_of from left now held holds out old new piece result begun l = ahead from left now held holds old new piece l.samples l.rest begun.has begun.read l.adds

size_of : (from left now held holds out : Option (List ℕ)) (old new : FrameLines) (piece : List ℕ) (result : Result (Unit {0}) BiphaseError)
    → Begun from left now held holds old piece → (l : ListsPiece piece old new holds out result) → 16 * new.count + length l.rest ≡ 16 * old.count + length piece
size_of from left now held holds out old new piece result begun l =
    let n = adds_length piece old new l.samples l.rest l.adds in omega (arith, n, l.adds.count)

pub piece_stopped : (from left now held holds out : Option (List ℕ)) (old new : FrameLines) (piece : List ℕ) (e : BiphaseError)
    → Begun from left now held holds old piece → ListsPiece piece old new holds out (Err e) → Stops from now held out e
unfolding error_of
piece_stopped from left now held holds out old new piece e begun l =
    let a = ahead_of from left now held holds out old new piece (Err e) begun l in
    let n = size_of from left now held holds out old new piece (Err e) begun l in
    elim l.writes [
      | inl (is, then) ↦ answered l.stop from now held holds out new l.rest e a then (omega (arith, n, begun.few)) (omega (arith, n, begun.short, l.adds.count)) l.stops is
      | inr (is, part) ↦
          subst (λ (f : BiphaseError). Stops from now held out f) (sym (ap error_of is))
          (unwritten from now held holds out new l.rest part.0 a (adds_few piece old new l.samples l.rest l.adds begun.few) part.1 part.2)
    ]

-- the lines of a piece are written, and less than a frame is left
pub record Through (from now held out : Option (List ℕ)) (new : FrameLines) (old : ℕ) (size : ℕ) : Type 0 where
  pub rest : List ℕ
  pub holds : Option (List ℕ)
  pub ahead : Ahead from now held holds new rest
  pub then : Appends holds out new.text
  pub stops : StopsAt End rest
  pub sized : 16 * new.count + length rest ≡ 16 * old + size
  pub within : 16 * old + size ≤ 16 * most_frames + 1
  pub few : new.count ≤ most_frames

is_end : (stop : Stop) (count : ℕ) (rest : List ℕ) → Ok tt ≡ stopped stop count → StopsAt stop rest → StopsAt End rest
is_end stop count rest h k = grind arith

pub piece_through : (from left now held holds out : Option (List ℕ)) (old new : FrameLines) (piece : List ℕ) (done : Unit {0})
    → Begun from left now held holds old piece → ListsPiece piece old new holds out (Ok done) → Through from now held out new old.count (length piece)
piece_through from left now held holds out old new piece done begun l =
    elim l.writes [
      | inl (is, then) ↦ record {
        rest = l.rest;
        holds = holds;
        ahead = ahead_of from left now held holds out old new piece (Ok done) begun l;
        then = then;
        stops = is_end l.stop new.count l.rest is l.stops;
        sized = size_of from left now held holds out old new piece (Ok done) begun l;
        within = begun.few;
        few = adds_few piece old new l.samples l.rest l.adds begun.few;
      }
      | inr (is, part) ↦ absurd (cc is)
    ]

pub stopped_as : (from left now held holds out : Option (List ℕ)) (old new : FrameLines) (piece : List ℕ) (result : Result (Unit {0}) BiphaseError) (e : BiphaseError) → result ≡ Err e
    → Begun from left now held holds old piece → ListsPiece piece old new holds out result → Stops from now held out e
stopped_as from left now held holds out old new piece result e is begun l =
    piece_stopped from left now held holds out old new piece e begun (subst (λ (r : Result (Unit {0}) BiphaseError). ListsPiece piece old new holds out r) is l)

pub through_as : (from left now held holds out : Option (List ℕ)) (old new : FrameLines) (piece : List ℕ) (result : Result (Unit {0}) BiphaseError) (done : Unit {0}) → result ≡ Ok done
    → Begun from left now held holds old piece → ListsPiece piece old new holds out result → Through from now held out new old.count (length piece)
through_as from left now held holds out old new piece result done is begun l =
    piece_through from left now held holds out old new piece done begun (subst (λ (r : Result (Unit {0}) BiphaseError). ListsPiece piece old new holds out r) is l)

-- a read failed
pub read_stopped : (from now held out : Option (List ℕ)) (new : FrameLines) (old size : ℕ) → Through from now held out new old size → Stops from now held out Read
read_stopped from now held out new old size t = record {
  samples = t.ahead.all;
  rest = t.rest;
  read = read_of from now held t.holds new t.rest t.ahead t.few;
  less = t.stops.0;
  side = t.stops.1;
  written = written from now held t.holds out new t.rest t.ahead t.then;
}

-- and nothing is left
pub all_listed : (from now held out : Option (List ℕ)) (new : FrameLines) (old size : ℕ) (t : Through from now held out new old size) → length t.rest ≡ 0
    → HasListed from now held out new.blocks new.count
all_listed from now held out new old size t none = record {
  samples = t.ahead.all;
  carried = t.ahead.carried;
  counted = t.ahead.counted;
  consumed = grind (arith, nil_from_length, append-nil);
  written = written from now held t.holds out new t.rest t.ahead t.then;
  stands = t.ahead.stands;
}

ended_known : (left : Option (List ℕ)) (bytes front : List ℕ) → Consumes (Some bytes) left front → IsAtEnd left → bytes ≡ front
ended_known left bytes front h k = grind (arith, append-nil)

pub at_end : (from left : Option (List ℕ)) (bytes front : List ℕ) → from ≡ Some bytes → Consumes from left front → IsAtEnd left → bytes ≡ front
at_end from left bytes front is read ended = ended_known left bytes front (subst (λ (f : Option (List ℕ)). Consumes f left front) is read) ended

-- a byte follows the last frame that there may be
pub long_stopped : (from now held out : Option (List ℕ)) (new : FrameLines) (old size : ℕ) (t : Through from now held out new old size)
    → 16 * most_frames < 16 * new.count + length t.rest → Stops from now held out (Bad Long)
long_stopped from now held out new old size t long =
    let most : length t.ahead.all ≡ most_frames = omega (arith, long, t.stops.0, t.few, t.ahead.counted) in (
      takes_to Long from now held t.holds new t.rest t.ahead (omega (arith, long, t.within, t.sized)),
      λ bytes is. let s = bytes_split from now bytes t.ahead.all t.rest is t.ahead.consumed in record {
        samples = t.ahead.all;
        refused = too_long bytes t.ahead.all t.rest s.0 t.ahead.carried s.1 most (omega (arith, long, most, t.ahead.counted));
        written = written from now held t.holds out new t.rest t.ahead t.then;
      },
    )

-- the bytes that were read to the end are no whole frames
pub short_stopped : (from now held out : Option (List ℕ)) (new : FrameLines) (old size : ℕ) (t : Through from now held out new old size) → IsAtEnd now
    → 16 * new.count + length t.rest ≤ 16 * most_frames → (length t.rest ≡ 0 → ⊥) → Stops from now held out (Bad (Short (16 * new.count + length t.rest)))
short_stopped from now held out new old size t ended few some = (
  takes_to (Short (16 * new.count + length t.rest)) from now held t.holds new t.rest t.ahead (refl, ended),
  λ bytes is.
      let whole = at_end from now bytes (flat_map frame_bytes t.ahead.all ++ t.rest) is t.ahead.consumed ended in
      let split = whole ∙ ap (λ (xs : List ℕ). flat_map frame_bytes t.ahead.all ++ xs) (sym (append-nil t.rest)) in
      record {
        samples = t.ahead.all;
        refused = too_short bytes t.ahead.all t.rest (16 * new.count + length t.rest) t.ahead.carried split (omega (arith, t.ahead.counted)) few some t.stops;
        written = written from now held t.holds out new t.rest t.ahead t.then;
      },
)

-- what is judged
pub judged_stopped : (from now held out : Option (List ℕ)) (new : FrameLines) (old size : ℕ) (t : Through from now held out new old size) (full : Bool) (result : Result Bool BiphaseError)
    → (full ≡ false → IsAtEnd now) → Judges new.count (length t.rest) full result → IfErr result (Stops from now held out)
judged_stopped from now held out new old size t full (Ok more) ended judges = tt
judged_stopped from now held out new old size t full (Err e) ended judges =
    elim judges [
      | inl (is, long) ↦ subst (λ (f : BiphaseError). Stops from now held out f) (sym is) (long_stopped from now held out new old size t long)
      | inr (is, part, few, some) ↦ subst (λ (f : BiphaseError). Stops from now held out f) (sym is) (short_stopped from now held out new old size t (ended part) few some)
    ]

-- a full piece has whole frames alone, or the byte too many
pub record IsFull (old size : ℕ) : Type 0 where
  pub is : size ≡ min 4096 (16 * most_frames + 1 - 16 * old)
  pub few : old ≤ most_frames

full_none : (new old size rest : ℕ) → IsFull old size → 16 * new + rest ≡ 16 * old + size → rest < 16 → 16 * new + rest ≤ 16 * most_frames → rest ≡ 0
full_none new old size rest full sized less few = omega (arith, full.is, full.few, sized, less, few)

nothing_left : (new old size rest : ℕ) (full more : Bool) → (full ≡ true → IsFull old size) → 16 * new + rest ≡ 16 * old + size → rest < 16 → 16 * new + rest ≤ 16 * most_frames
    → more ≡ full → (more ≡ false → rest ≡ 0) → rest ≡ 0
nothing_left new old size rest full more h k l m p q = grind (arith, full_none)

pub judged_more : (from now held out : Option (List ℕ)) (new : FrameLines) (old size : ℕ) (t : Through from now held out new old size) (full : Bool) (result : Result Bool BiphaseError)
    → (full ≡ true → IsFull old size) → Judges new.count (length t.rest) full result → OnOk result (HasListed from now held out new.blocks new.count)
judged_more from now held out new old size t full (Ok more) is judges =
    all_listed from now held out new old size t (nothing_left new.count old size (length t.rest) full more is t.sized t.stops.0 judges.0 judges.1 judges.2)
judged_more from now held out new old size t full (Err e) is judges = tt

-- ---- the room that is filled

-- as many bytes as there is room for were read, or fewer
pub record Fills (old : FrameLines) (into : List ℕ) (count : ℕ) : Type 0 where
  pub bound : count ≤ length into
  pub size : length into ≡ min 4096 (16 * most_frames + 1 - 16 * old.count)
  pub few : old.count ≤ most_frames

pub begun_of : (from left now held holds : Option (List ℕ)) (old : FrameLines) (into : List ℕ) (count : ℕ) → Fills old into count → Consumes left now (take count into)
    → HasListed from left held holds old.blocks old.count → Begun from left now held holds old (take count into)
begun_of from left now held holds old into count fills read has = grind (arith, length-take-le)

rest_is : (new old count size rest : ℕ) → 16 * new + rest ≡ 16 * old + size → size ≡ count → rest < 16 → count % 16 ≡ rest
rest_is new old count size rest sized same less = omega (arith, sized, same, less)

pub full_of : (old : FrameLines) (into : List ℕ) (count : ℕ) → Fills old into count → (count == length into) ≡ true → IsFull old.count (length (take count into))
full_of old into count fills same = grind (arith, length-take-le, eqb-true)

pub less_of : (count size : ℕ) → count ≤ size → (count == size) ≡ false → count < size
less_of count size within other = grind (arith, cases_lt, eq-eqb)

pub judges_rest : (from now held out : Option (List ℕ)) (old new : FrameLines) (into : List ℕ) (count : ℕ) (full : Bool) (result : Result Bool BiphaseError) → Fills old into count
    → (t : Through from now held out new old.count (length (take count into))) → Judges new.count (count % 16) full result → Judges new.count (length t.rest) full result
judges_rest from now held out old new into count full result fills t judges =
    subst (λ (n : ℕ). Judges new.count n full result)
    (rest_is new.count old.count count (length (take count into)) (length t.rest) t.sized (length-take-le count into fills.bound) t.stops.0) judges

pub piece_few : (old new : FrameLines) (into : List ℕ) (count : ℕ) (holds out : Option (List ℕ)) (result : Result (Unit {0}) BiphaseError) → Fills old into count
    → ListsPiece (take count into) old new holds out result → new.count ≤ most_frames
piece_few old new into count holds out result fills l =
    let n = length-take-le count into fills.bound in
    adds_few (take count into) old new l.samples l.rest l.adds (omega (arith, n, fills.bound, fills.size, fills.few))

end_of : (old new : FrameLines) (piece : List ℕ) (holds out : Option (List ℕ)) (done : Unit {0}) (l : ListsPiece piece old new holds out (Ok done)) → length l.rest < 16
end_of old new piece holds out done l = grind (arith, is_end)

more_of : (old new : FrameLines) (into : List ℕ) (count : ℕ) (holds out : Option (List ℕ)) (done : Unit {0}) (judged : Result Bool BiphaseError) → Fills old into count
    → ListsPiece (take count into) old new holds out (Ok done) → Judges new.count (count % 16) (count == length into) judged → IfOk judged (λ more. more ≡ true → new.count ≡ old.count + 256)
more_of old new into count holds out done (Err e) fills l judges = tt
more_of old new into count holds out done (Ok more) fills l judges = λ on.
    let same = eqb-true count (length into) (sym judges.1 ∙ on) in
    let n = length-take-le count into fills.bound in
    let a = adds_length (take count into) old new l.samples l.rest l.adds in
    let less = end_of old new (take count into) holds out done l in
    omega (arith, n, a, same, less, fills.size, fills.few, judges.0, l.adds.count)

pub piece_more : (old new : FrameLines) (into : List ℕ) (count : ℕ) (holds out : Option (List ℕ)) (result : Result (Unit {0}) BiphaseError) (done : Unit {0}) (judged : Result Bool BiphaseError) → result ≡ Ok done
    → Fills old into count → ListsPiece (take count into) old new holds out result → Judges new.count (count % 16) (count == length into) judged → IfOk judged (λ more. more ≡ true → new.count ≡ old.count + 256)
piece_more old new into count holds out result done judged is fills l judges =
    more_of old new into count holds out done judged fills (subst (λ (r : Result (Unit {0}) BiphaseError). ListsPiece (take count into) old new holds out r) is l) judges

-- ---- the whole

pub none_listed : (from held : Option (List ℕ)) (blocks : OpenBlock) → IsBlocksAfter blocks [] → HasListed from from held held blocks 0
unfolding text_after
none_listed from held blocks stands = grind (arith, Consumes-nil, written, Appends-nil)

pub whole_listed : (from left held holds out : Option (List ℕ)) (blocks : OpenBlock) (count : ℕ) → HasListed from left held holds blocks count → count ≤ most_frames → IsAtEnd left
    → Appends holds out (codes "end\n") → (bytes : List ℕ) → from ≡ Some bytes → IsListed bytes held out
whole_listed from left held holds out blocks count has few ended then bytes is = record {
  samples = has.samples;
  stream = record {
    frames = record { carried = has.carried; bytes_are = at_end from left bytes (flat_map frame_bytes has.samples) is has.consumed ended };
    few = omega (arith, has.counted, few);
  };
  written = Appends-trans held holds out (frames_text has.samples) (codes "end\n") has.written then;
}

pub last_unwritten : (from left held holds out : Option (List ℕ)) (blocks : OpenBlock) (count n : ℕ) → HasListed from left held holds blocks count → count ≤ most_frames → IsAtEnd left
    → n < 4 → Appends holds out (take n (codes "end\n")) → IsUnwritten from left held out
last_unwritten from left held holds out blocks count n has few ended less then = grind (arith, append-nil, Appends-trans)
