-- The bytes of a subframe are it, and no other bytes are.
use Rattle.std.proofs.Common.{◌≡◌, ℕ, suc, zero, ◌/◌, ◌%◌, ◌^◌, ◌<◌, Bool, true, false, List, [], ◌∷◌, ◌++◌, length, take, drop, refl, ap, ap₂, ◌∙◌, sym, subst, arith, length-append}
use Rattle.std.specs.Prelude.{not, All}
use Rattle.std.proofs.lemmas.List.Elements.{All-nil, All-cons, All-tail}
use Rattle.std.proofs.lemmas.List.{take-append-drop}
use Rattle.bch_block.specs.Bits.{xor}
use Rattle.audio_packets.specs.Samples.{side_bits}
use Rattle.tmds_word.specs.Bits.{bits_of, bytes_bits, bytes_of, number}
use Rattle.tmds_word.proofs.Bytes.{bytes_of-bits}
use Rattle.tmds_word.proofs.Lists.{length-bits_of, length-bytes_bits}
use Rattle.tmds_word.proofs.Numbers.{bits_of-number, number-bits_of}
use Rattle.tmds_word.proofs.Below.{and-left, and-right}
use Rattle.audio_out.specs.Subframes.{IsSound, IsSubframe, preamble, slots, carries, cells_of, subframe_bytes}
use Rattle.audio_out.specs.declared.subframe.Mark.{Mark}
use Rattle.audio_out.specs.declared.subframe.Subframe.{Subframe}
use Rattle.audio_out.specs.Laws.{OneSpelling, OneReading}
use Rattle.audio_out.proofs.Marked.{one_mark}
use Rattle.audio_out.proofs.Joined.{first_eight}
use Rattle.audio_out.proofs.Cells.{cells_carry, length-cells_of}

abbrev pub Cells : Subframe → List Bool
Cells sub = preamble sub.mark ++ cells_of false (slots sub)

length-preamble : (mark : Mark) → length (preamble mark) ≡ 8
unfolding preamble
length-preamble mark = grind arith

length-cells : (sub : Subframe) → length (Cells sub) ≡ 64
unfolding slots
length-cells sub = grind (arith, length-append, length-preamble, length-cells_of, length-bits_of)

-- the half cells of those bytes
pub spelled_cells : (sub : Subframe) → bytes_bits (subframe_bytes sub) ≡ Cells sub
unfolding subframe_bytes
spelled_cells sub =
    let n = number (Cells sub) in
    bytes_of-bits 8 n ∙ ap (λ k. bits_of k n) (sym (length-cells sub)) ∙ bits_of-number (Cells sub)

marked_front : (mark : Mark) (xs : List Bool) → take 8 (preamble mark ++ xs) ≡ preamble mark
unfolding preamble
marked_front mark xs = grind arith

after_mark : (mark : Mark) (xs : List Bool) → drop 8 (preamble mark ++ xs) ≡ xs
unfolding preamble
after_mark mark xs = grind arith

pub spelled_is : (sub : Subframe) → IsSound sub → IsSubframe sub (subframe_bytes sub)
spelled_is sub sound = grind (arith, spelled_cells, marked_front, after_mark, cells_carry)

unlike_is : (a b : Bool) → xor a b ≡ true → b ≡ not a
unlike_is a b h = grind arith

second_is : (u w x : Bool) → not (xor (xor u w) x) ≡ true → w ≡ xor u x
second_is u w x h = grind arith

-- one list of half cells carries bits
pub carries_one : (before : Bool) (bits halves : List Bool) → carries before bits halves ≡ true → halves ≡ cells_of before bits
unfolding carries cells_of
carries_one before [] [] h = refl
carries_one before [] (u ∷ halves) h = absurd (cc)
carries_one before (x ∷ bits) [] h = absurd (cc)
carries_one before (x ∷ bits) (u ∷ []) h = absurd (cc)
carries_one before (x ∷ bits) (u ∷ (w ∷ halves)) h = grind (arith, unlike_is, and-left, and-right, second_is, carries_one w bits halves)

pub cells_are : (sub : Subframe) (bytes : List ℕ) → IsSubframe sub bytes → bytes_bits bytes ≡ Cells sub
cells_are sub bytes h =
    sym (take-append-drop 8 (bytes_bits bytes)) ∙ ap₂ (λ xs ys. xs ++ ys) h.marked (carries_one false (slots sub) (drop 8 (bytes_bits bytes)) h.carried)

after_byte : (a : ℕ) (x : List ℕ) → drop 8 (bytes_bits (a ∷ x)) ≡ bytes_bits x
unfolding bytes_bits bits_of
after_byte a x = refl

byte_same : (a b : ℕ) → a < 256 → b < 256 → bits_of 8 a ≡ bits_of 8 b → a ≡ b
byte_same a b lt less h =
    let e : a % 2 ^ 8 ≡ b % 2 ^ 8 = sym (number-bits_of 8 a) ∙ ap number h ∙ number-bits_of 8 b in
    omega (arith, e)

-- bytes of the same bits are the same
bytes_same : (x y : List ℕ) → All (λ b. b < 256) x → All (λ b. b < 256) y → bytes_bits x ≡ bytes_bits y → x ≡ y
bytes_same [] [] p q h = refl
bytes_same [] (b ∷ y) p q h = absurd (omega (arith, ap length h, length-bytes_bits (b ∷ y), length-bytes_bits []))
bytes_same (a ∷ x) [] p q h = absurd (omega (arith, ap length h, length-bytes_bits (a ∷ x), length-bytes_bits []))
bytes_same (a ∷ x) (b ∷ y) p q h =
    let first = byte_same a b (p 0 0 (omega arith)) (q 0 0 (omega arith)) (sym (first_eight a x) ∙ ap (take 8) h ∙ first_eight b y) in
    let later = bytes_same x y (All-tail (λ b. b < 256) a x p) (All-tail (λ b. b < 256) b y q) (sym (after_byte a x) ∙ ap (drop 8) h ∙ after_byte b y) in
    λ i. first i ∷ later i

pub bytes_of_fit : (k n : ℕ) → All (λ b. b < 256) (bytes_of k n)
unfolding bytes_of
bytes_of_fit zero n = All-nil (λ b. b < 256)
bytes_of_fit (suc k) n = let lt : n % 256 < 256 = omega arith in All-cons (λ b. b < 256) (n % 256) (bytes_of k (n / 256)) lt (bytes_of_fit k (n / 256))

spelled_fit : (sub : Subframe) → All (λ b. b < 256) (subframe_bytes sub)
unfolding subframe_bytes
spelled_fit sub = bytes_of_fit 8 (number (Cells sub))

pub eight_fit : (p a b c d e f g : ℕ) → p < 256 → a < 256 → b < 256 → c < 256 → d < 256 → e < 256 → f < 256 → g < 256
    → All (λ b. b < 256) (p ∷ a ∷ b ∷ c ∷ d ∷ e ∷ f ∷ g ∷ [])
eight_fit p a b c d e f g l0 l1 l2 l3 l4 l5 l6 l7 = grind (arith, All-cons, All-nil)

pub one_spelling : OneSpelling
one_spelling = λ sub bytes sound fit. (
  λ h. bytes_same bytes (subframe_bytes sub) fit (spelled_fit sub) (cells_are sub bytes h ∙ sym (spelled_cells sub)),
  λ e. subst (IsSubframe sub) (sym e) (spelled_is sub sound),
)

same_bit : (u x y : Bool) → xor u x ≡ xor u y → x ≡ y
same_bit u x y h = grind arith

-- half cells carry one list of bits
cells_back : (before : Bool) (x y : List Bool) → cells_of before x ≡ cells_of before y → x ≡ y
unfolding cells_of
cells_back before [] [] h = refl
cells_back before [] (b ∷ y) h = absurd (cc)
cells_back before (a ∷ x) [] h = absurd (cc)
cells_back before (a ∷ x) (b ∷ y) h =
    let first : xor (not before) a ≡ xor (not before) b = cc in
    let same = same_bit (not before) a b first in
    let after : cells_of (xor (not before) a) x ≡ cells_of (xor (not before) b) y = cc in
    let later = cells_back (xor (not before) a) x y (after ∙ ap (λ c. cells_of c y) (sym first)) in
    λ i. same i ∷ later i

front_bits : (v : ℕ) (xs : List Bool) → take 24 (bits_of 24 v ++ xs) ≡ bits_of 24 v
unfolding bits_of
front_bits v xs = refl

last_bits : (v : ℕ) (xs : List Bool) → drop 24 (bits_of 24 v ++ xs) ≡ xs
unfolding bits_of
last_bits v xs = refl

same_slots : (a b : Subframe) → IsSound a → IsSound b → slots a ≡ slots b → (a.value ≡ b.value) × (a.flags ≡ b.flags)
unfolding slots
same_slots a b p q h =
    let front = sym (front_bits a.value _) ∙ ap (take 24) h ∙ front_bits b.value _ in
    let value : a.value % 2 ^ 24 ≡ b.value % 2 ^ 24 = sym (number-bits_of 24 a.value) ∙ ap number front ∙ number-bits_of 24 b.value in
    let after = sym (last_bits a.value _) ∙ ap (drop 24) h ∙ last_bits b.value _ in
    let side : side_bits a.value a.flags % 2 ^ 4 ≡ side_bits b.value b.flags % 2 ^ 4 = sym (number-bits_of 4 _) ∙ ap number after ∙ number-bits_of 4 _ in
    grind arith

pub one_reading : OneReading
one_reading = λ a b bytes p q.
    let same = sym (cells_are a bytes p) ∙ cells_are b bytes q in
    let marks = one_mark a.mark b.mark (sym (marked_front a.mark _) ∙ ap (take 8) same ∙ marked_front b.mark _) in
    let cells = sym (after_mark a.mark _) ∙ ap (drop 8) same ∙ after_mark b.mark _ in
    let bits = same_slots a b p.sound q.sound (cells_back false (slots a) (slots b) cells) in
    λ i. record { mark = marks i; value = bits.0 i; flags = bits.1 i }
