-- Half cells that carry bits: lists that are joined, and the one list of half cells that carries bits.
use Rattle.std.proofs.Common.{◌≡◌, ℕ, ◌*◌, Bool, true, ◌&&◌, List, [], ◌∷◌, ◌++◌, length, refl, ap, ◌∙◌, arith}
use Rattle.std.specs.Prelude.{not}
use Rattle.bch_block.specs.Bits.{xor}
use Rattle.tmds_word.specs.Bits.{bits_of}
use Rattle.audio_out.specs.Levels.{last_of, level_after}
use Rattle.audio_out.specs.Subframes.{carries, cells_of}

and_moved : (a b c d : Bool) → (a && (b && (c && d))) ≡ ((a && (b && c)) && d)
and_moved a b c d = grind arith

pub carries-append : (before : Bool) (xs ys us vs : List Bool) → length us ≡ 2 * length xs
    → carries before (xs ++ ys) (us ++ vs) ≡ (carries before xs us && carries (last_of before us) ys vs)
unfolding carries last_of
carries-append before [] ys [] vs len = refl
carries-append before [] ys (u ∷ us) vs len = absurd (omega arith)
carries-append before (x ∷ xs) ys [] vs len = absurd (omega arith)
carries-append before (x ∷ xs) ys (u ∷ []) vs len = absurd (omega arith)
carries-append before (x ∷ xs) ys (u ∷ (w ∷ us)) vs len = grind (arith, and_moved, carries-append w xs ys us vs)

-- four bits and eight half cells, and those after them
pub carries-four : (before : Bool) (n byte : ℕ) (ys vs : List Bool)
    → carries before (bits_of 4 n ++ ys) (bits_of 8 byte ++ vs) ≡ (carries before (bits_of 4 n) (bits_of 8 byte) && carries (level_after byte) ys vs)
unfolding bits_of last_of level_after
carries-four before n byte ys vs = carries-append before (bits_of 4 n) ys (bits_of 8 byte) vs refl

pub length-cells_of : (before : Bool) (bits : List Bool) → length (cells_of before bits) ≡ 2 * length bits
unfolding cells_of
length-cells_of before [] = refl
length-cells_of before (x ∷ bits) = omega (arith, length-cells_of (xor (not before) x) bits)

first_unlike : (before : Bool) → xor before (not before) ≡ true
first_unlike before = grind arith

second_says : (first bit : Bool) → not (xor (xor first (xor first bit)) bit) ≡ true
second_says first bit = grind arith

-- those half cells carry the bits
pub cells_carry : (before : Bool) (bits : List Bool) → carries before bits (cells_of before bits) ≡ true
unfolding carries cells_of
cells_carry before [] = refl
cells_carry before (x ∷ bits) =
    let first = not before in
    let second = xor first x in
    ap (λ r. r && (not (xor (xor first second) x) && carries second bits (cells_of second bits))) (first_unlike before)
    ∙ ap (λ r. r && carries second bits (cells_of second bits)) (second_says first x)
    ∙ cells_carry second bits
