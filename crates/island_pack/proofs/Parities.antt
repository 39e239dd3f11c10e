-- After any bytes stands a byte that makes a block, and so there is a number whose bits are the block.
use Rattle.std.proofs.Common.{◌≡◌, ℕ, ◌+◌, ◌*◌, ◌<◌, Bool, ◌==◌, List, [], ◌∷◌, ◌++◌, length, get_or, bit_xor, sym, subst, arith, append_assoc, append-nil, length-append, All, inl, inr}
use Rattle.std.proofs.lemmas.Bool.{cases_lt}
use Rattle.std.proofs.lemmas.List.{get_or_past}
use Rattle.std.proofs.lemmas.List.Elements.{All-get_or, All-append, All-cons, All-nil}
use Rattle.tmds_word.specs.Bits.{bits_of as number_bits}
use Rattle.terc4.specs.Columns.{one_if}
use Rattle.bch_block.specs.Division.{Remainder, kept, times_power}
use Rattle.bch_block.proofs.Bytes.{Leaves, leaves_none, leaves_more, makes_block}
use Rattle.island_pack.specs.Packets.{BeginsWith}
use Rattle.island_pack.proofs.Registers.{bits_of_sum, number_of, bits_of_number, begins}

pub one_if-lt : (b : Bool) → one_if b < 2
unfolding one_if
one_if-lt b = grind arith

pub one_if-bit : (b : Bool) → (one_if b == 1) ≡ b
unfolding one_if
one_if-bit b = grind arith

-- the byte that keeps a remainder
byte_of : Remainder → ℕ
byte_of r =
    one_if r.x7 + 2 * one_if r.x6 + 4 * one_if r.x5 + 8 * one_if r.x4 + 16 * one_if r.x3 + 32 * one_if r.x2 + 64 * one_if r.x1 + 128 * one_if r.x0

byte_of-lt : (r : Remainder) → byte_of r < 256
unfolding byte_of
byte_of-lt r =
    omega (arith, one_if-lt r.x7, one_if-lt r.x6, one_if-lt r.x5, one_if-lt r.x4, one_if-lt r.x3, one_if-lt r.x2, one_if-lt r.x1, one_if-lt r.x0)

kept-byte_of : (r : Remainder) → kept (byte_of r) ≡ r
unfolding byte_of
kept-byte_of r = grind (arith, bits_of_sum, one_if-lt, one_if-bit)

-- what more bytes leave
left_after : (past bytes : List ℕ) (left : ℕ) → left < 256 → Leaves past left → (p : ℕ) × (p < 256) × Leaves (past ++ bytes) p
left_after past [] left lt h = (left, lt, subst (λ (bs : List ℕ). Leaves bs left) (sym (append-nil past)) h)
left_after past (b ∷ bytes) left lt h =
    let next = byte_of (times_power (kept (bit_xor left b)) 8) in
    let all = left_after (past ++ b ∷ []) bytes next (byte_of-lt (times_power (kept (bit_xor left b)) 8)) (leaves_more past left b next h (kept-byte_of (times_power (kept (bit_xor left b)) 8))) in
    (all.0, all.1, subst (λ (bs : List ℕ). Leaves bs all.0) (append_assoc past (b ∷ []) bytes) all.2)

fits_more : (bytes : List ℕ) (p : ℕ) → All (λ byte. byte < 256) bytes → p < 256 → (i : ℕ) → get_or (bytes ++ p ∷ []) i 0 < 256
fits_more bytes p small lt i =
    let all = All-append (λ byte. byte < 256) bytes (p ∷ []) small (All-cons (λ byte. byte < 256) p [] lt (All-nil (λ byte. byte < 256))) in
    elim (cases_lt i (length (bytes ++ p ∷ []))) [
      | inl within ↦ All-get_or (λ byte. byte < 256) (bytes ++ p ∷ []) i 0 within all
      | inr past ↦ let none = get_or_past (bytes ++ p ∷ []) i 0 past in omega (arith, none)
    ]

-- the number of a block that begins with bytes
pub block_of : (bytes : List ℕ) (k : ℕ) → k ≡ 8 * length bytes + 8 → All (λ byte. byte < 256) bytes → (n : ℕ) × BeginsWith (number_bits k n) bytes
block_of bytes k e small =
    let parity = left_after [] bytes 0 (omega arith) leaves_none in
    let p = parity.0 in
    let block = bytes ++ p ∷ [] in
    let width : k ≡ 8 * length block = omega (arith, e, length-append bytes (p ∷ [])) in
    (number_of block, begins (number_bits k (number_of block)) bytes p (bits_of_number block k width (fits_more bytes p small parity.1)) (makes_block bytes p parity.2))
