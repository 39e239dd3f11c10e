-- Windows of packed bytes, and of the lane whose bits they hold.
use Rattle.std.proofs.Common.{◌≡◌, ℕ, suc, ◌+◌, ◌-◌, ◌*◌, ◌/◌, ◌%◌, ◌^◌, ◌<◌, ◌≤◌, Bool, true, List, length, take, drop, get_or, ap, ◌∙◌, sym, arith, bit_and, drop-cons}
use Rattle.std.proofs.lemmas.List.{drop-drop}
use Rattle.std.proofs.lemmas.Nat.{and_mask}
use Rattle.tmds_word.specs.Bits.{bytes_bits, number}
use Rattle.tmds_word.proofs.Rows.{AreBytes, number_from, number_of_bytes, word_in_bytes}
use Rattle.terc4.specs.Tables.{is_control}
use Rattle.lane_align.specs.Lanes.{HasControl}
use Rattle.lane_align.proofs.Controls.{control_here}
use Rattle.lane_align.proofs.Parts.{take_piece}
use Rattle.lane_track.specs.Scouts.{HoldsBits}

pub byte_here : (bytes : List ℕ) (j : ℕ) → AreBytes bytes → j < length bytes → get_or bytes j 0 ≡ (number (bytes_bits bytes) / 2 ^ (8 * j)) % 256
byte_here bytes j are lt =
    let n = number (bytes_bits (drop (suc j) bytes)) in
    let first : number (bytes_bits (drop j bytes)) ≡ get_or bytes j 0 + 256 * n =
    ap (λ bs. number (bytes_bits bs)) (drop-cons bytes j 0 lt) ∙ number_of_bytes (get_or bytes j 0) (drop (suc j) bytes) (are j) in
    omega (arith, number_from j bytes are, first, are j)

-- the ten bits from a place on, from the three bytes in which they stand
pub word_of_three : (bytes : List ℕ) (p n : ℕ) → AreBytes bytes → p / 8 + 3 ≤ length bytes
    → n ≡ get_or bytes (p / 8) 0 + get_or bytes (p / 8 + 1) 0 * 256 + get_or bytes (p / 8 + 2) 0 * 65536
    → bit_and (n / 2 ^ (p % 8)) 1023 ≡ number (take 10 (drop p (bytes_bits bytes)))
word_of_three bytes p n are room sum =
    and_mask (n / 2 ^ (p % 8)) 10
    ∙ word_in_bytes (bytes_bits bytes) p (get_or bytes (p / 8) 0) (get_or bytes (p / 8 + 1) 0) (get_or bytes (p / 8 + 2) 0) n sum
    (byte_here bytes (p / 8) are (omega arith)) (byte_here bytes (p / 8 + 1) are (omega arith)) (byte_here bytes (p / 8 + 2) are (omega arith))

-- ten bits of a lane are those that the bytes hold
pub ten_held : (bits xs : List Bool) (skip base count p : ℕ) → HoldsBits (drop skip bits) xs base count → base ≤ p → p + 10 ≤ base + count
    → take 10 (drop (skip + (p - base)) bits) ≡ take 10 (drop p xs)
ten_held bits xs skip base count p holds after long =
    let q = p - base in
    let e : base + q ≡ p = omega arith in
    ap (take 10) (sym (drop-drop q skip bits))
    ∙ sym (take_piece count q 10 (drop skip bits) (omega arith))
    ∙ ap (λ ys. take 10 (drop q ys)) holds.same
    ∙ take_piece count q 10 (drop base xs) (omega arith)
    ∙ ap (take 10) (drop-drop q base xs ∙ ap (λ m. drop m xs) e)

-- a character that was read says whether the lane has a control word there
pub read_control : (bits xs : List Bool) (skip base count p w : ℕ) (control : Bool) → HoldsBits (drop skip bits) xs base count → base ≤ p → p + 10 ≤ base + count
    → w ≡ number (take 10 (drop (skip + (p - base)) bits)) → control ≡ is_control w → (control ≡ true → HasControl xs p) × (HasControl xs p → control ≡ true)
read_control bits xs skip base count p w control holds after long word is =
    let within = holds.within in
    control_here xs p w control (λ short. omega arith) (word ∙ ap number (ten_held bits xs skip base count p holds after long)) is
