-- Where bytes stop being the beginning of a capture of either version.
use Rattle.std.proofs.Common.{◌≡◌, ℕ, suc, zero, ◌+◌, ◌-◌, ◌/◌, ◌^◌, ◌<◌, ◌≤◌, Bool, false, List, [], ◌∷◌, ◌++◌, length, take, drop, get_or, replicate, refl, ap, ap₂, ◌∙◌, sym, arith, subst, inl, inr, append_assoc, append-nil, length-append, length-take-le, take-append-drop}
use Rattle.std.specs.Prelude.{◌⊎◌, slice_index, codes}
use Rattle.std.proofs.Math.Seq.{take-append_seam, take-append-add}
use Rattle.std.proofs.lemmas.List.{take-append-le, length-replicate}
use Rattle.tmds_word.specs.Bits.{bytes_bits}
use Rattle.capture_file.specs.Layout.{packed, header, high_first}
use Rattle.capture_file.specs.Captures.{header_two, header_of, IsHeader, counts_of, lane_blocks, IsCapture, BeginsCapture, IsFault, AreBytes, Awaits}
use Rattle.capture_file.specs.declared.fault.CaptureFault.TheVariants.{Short, Padding, Trailing}
use Rattle.capture_file.proofs.Heads.{header_cases, length-header_two, header_long}
use Rattle.capture_file.proofs.Opens.{captured}
use Rattle.capture_file.proofs.Marks.{take_bytes}

pub begins_part : (x y : List ℕ) → BeginsCapture (x ++ y) → BeginsCapture x
begins_part x y h = record { rest = y ++ h.rest; whole = subst (λ bs. IsCapture bs) (append_assoc x y h.rest) h.whole }

pub begins_whole : (x : List ℕ) → IsCapture x → BeginsCapture x
begins_whole x h = record { rest = []; whole = subst (λ bs. IsCapture bs) (sym (append-nil x)) h }

pub begins_take : (n : ℕ) (xs : List ℕ) → BeginsCapture xs → BeginsCapture (take n xs)
begins_take n xs h = begins_part (take n xs) (drop n xs) (subst (λ bs. BeginsCapture bs) (sym (take-append-drop n xs)) h)

-- a chunk with spare bits that are not 0
pub padding_stops : (front bytes piece rest : List ℕ) (count place : ℕ) → Awaits front count → place ≡ length front → bytes ≡ piece ++ rest → length piece ≡ (count + 7) / 8
    → 0 < count → AreBytes piece → (piece ≡ packed (take count (bytes_bits piece)) → ⊥) → IsFault (front ++ bytes) (Padding (place + (length piece - 1)))
padding_stops front bytes piece rest count place w at is len some are bad =
    let n = length piece - 1 in
    let p = place + n in
    let cut : take p (front ++ bytes) ≡ front ++ take n piece =
    ap₂ (λ k xs. take (k + n) (front ++ xs)) at is ∙ take-append-add front (piece ++ rest) n ∙ ap (λ xs. front ++ xs) (take-append-le n piece rest (omega arith)) in
    let next : p + 1 ≡ length front + length piece = omega arith in
    let more : take (p + 1) (front ++ bytes) ≡ front ++ piece =
    ap₂ (λ k xs. take k (front ++ xs)) next is ∙ take-append-add front (piece ++ rest) (length piece) ∙ ap (λ xs. front ++ xs) (take-append_seam piece rest) in
    let less : length (take n piece) < (count + 7) / 8 = omega (arith, length-take-le n piece (omega arith)) in
    let inside : p < length (front ++ bytes) = omega (arith, ap length is, length-append front bytes, length-append piece rest) in
    let before = subst (λ bs. BeginsCapture bs) (sym cut) (w.begins (take n piece) (take_bytes n piece are) less) in
    (record { inside = inside; before = before; stops = λ h. bad (w.spared piece len (rw more at h)) }, omega (arith, w.headed), λ h. w.unfinished (take n piece) less (rw cut at h))

-- a chunk that ends too early
pub short_piece : (front bytes piece : List ℕ) (count place : ℕ) → Awaits front count → place ≡ length front → bytes ≡ piece → AreBytes piece → length piece < (count + 7) / 8
    → IsFault (front ++ bytes) (Short (place + length piece))
short_piece front bytes piece count place w at is are less = grind (arith, length-append)

-- bytes past a capture
pub trailing_stops : (whole rest : List ℕ) (place : ℕ) → IsCapture whole → place ≡ length whole → 0 < length rest → ((more : List ℕ) → IsCapture (whole ++ more) → length more ≡ 0)
    → IsFault (whole ++ rest) (Trailing place)
trailing_stops whole rest place is at some only =
    let cut : take place (whole ++ rest) ≡ whole = ap (λ n. take n (whole ++ rest)) at ∙ take-append_seam whole rest in
    let more : take (place + 1) (whole ++ rest) ≡ whole ++ take 1 rest = ap (λ n. take (n + 1) (whole ++ rest)) at ∙ take-append-add whole rest 1 in
    let past : (r : List ℕ) → IsCapture ((whole ++ take 1 rest) ++ r) → ⊥ =
    λ r h. absurd (omega (arith, some, length-take-le 1 rest some, length-append (take 1 rest) r, only (take 1 rest ++ r) (rw append_assoc at h))) in
    (record { inside = omega (arith, length-append whole rest); before = rw cut (begins_whole whole is); stops = λ h. past h.rest (rw more at h.whole) }, rw cut is)

-- a header is the beginning of a capture
abbrev zero_lanes : List ℕ → ℕ → List Bool
zero_lanes counts c = replicate (slice_index counts c) false

pub header_begins : (head counts : List ℕ) → IsHeader head counts → BeginsCapture head
header_begins head counts h =
    record {
      rest = _;
      whole = captured head counts (zero_lanes counts) h (λ c lt. length-replicate (slice_index counts c) false);
    }

-- a version's header
pub first_of : (n : ℕ) → n < 2 ^ 32 → IsHeader (header n) (n ∷ n ∷ n ∷ [])
unfolding header_of
first_of n lt = grind arith

pub second_of : (p q r : ℕ) → p < 2 ^ 32 → q < 2 ^ 32 → r < 2 ^ 32 → IsHeader (header_two (p ∷ q ∷ r ∷ [])) (p ∷ q ∷ r ∷ [])
unfolding header_of
second_of p q r lp lq lr = record {
  version = 2;
  said = record { small = by_three p q r lp lq lr; shared = inr refl };
  head_is = refl;
}
  where
    by_three : (p q r : ℕ) → p < 2 ^ 32 → q < 2 ^ 32 → r < 2 ^ 32 → (c : ℕ) → c < 3 → slice_index (p ∷ q ∷ r ∷ []) c < 2 ^ 32
    by_three p q r lp lq lr zero less = lp
    by_three p q r lp lq lr (suc zero) less = lq
    by_three p q r lp lq lr (suc (suc zero)) less = lr
    by_three p q r lp lq lr (suc (suc (suc c))) less = absurd (omega arith)

-- the first four bytes of each capture
one_mark : (n p : ℕ) (tail : List ℕ) → p < 3 → get_or (header n ++ tail) p 0 ≡ get_or (codes "TMC") p 0
unfolding header high_first
one_mark n p tail h = grind arith

two_mark : (counts : List ℕ) (p : ℕ) (tail : List ℕ) → p < 3 → get_or (header_two counts ++ tail) p 0 ≡ get_or (codes "TMC") p 0
unfolding header_two high_first
two_mark counts p tail h = grind arith

one_version : (n : ℕ) (tail : List ℕ) → get_or (header n ++ tail) 3 0 ≡ 49
unfolding header high_first
one_version n tail = refl

two_version : (counts tail : List ℕ) → get_or (header_two counts ++ tail) 3 0 ≡ 50
unfolding header_two high_first
two_version counts tail = refl

pub mark_of : (whole : List ℕ) (p : ℕ) → IsCapture whole → p < 3 → get_or whole p 0 ≡ get_or (codes "TMC") p 0
mark_of whole p is lt =
    let own = is.holds in
    let tail = lane_blocks is.blue is.green is.red in
    ap (λ xs. get_or xs p 0) own.bytes_are
    ∙ elim (header_cases own.head (counts_of is.blue is.green is.red) own.headed) [
      | inl one ↦ ap (λ xs. get_or (xs ++ tail) p 0) one.is ∙ one_mark (length is.blue) p tail lt
      | inr two ↦ ap (λ xs. get_or (xs ++ tail) p 0) two ∙ two_mark (counts_of is.blue is.green is.red) p tail lt
    ]

pub version_of : (whole : List ℕ) → IsCapture whole → (get_or whole 3 0 ≡ 49) ⊎ ((get_or whole 3 0 ≡ 50) × (16 ≤ length whole))
version_of whole is =
    let own = is.holds in
    let tail = lane_blocks is.blue is.green is.red in
    elim (header_cases own.head (counts_of is.blue is.green is.red) own.headed) [
      | inl one ↦ inl (ap (λ xs. get_or xs 3 0) (own.bytes_are ∙ ap (λ xs. xs ++ tail) one.is) ∙ one_version (length is.blue) tail)
      | inr two ↦ grind (arith, two_version, length-append, length-header_two)
    ]

pub capture_long : (whole : List ℕ) → IsCapture whole → 8 ≤ length whole
capture_long whole is =
    let own = is.holds in
    omega (arith, ap length own.bytes_are, length-append own.head (lane_blocks is.blue is.green is.red), header_long own.head (counts_of is.blue is.green is.red) own.headed)
