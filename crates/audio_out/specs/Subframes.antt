-- Subframes of IEC 60958-1: eight half cells of a preamble (section 4.3), then 28 bits (section 4.1) in biphase-mark code
-- (section 4.2). A subframe has 64 half cells, the first of which is sent first; half cell h is bit h % 8 of byte h / 8.
use Rattle.std.specs.Prelude.{◌≡◌, ℕ, ◌^◌, ◌<◌, Bool, true, false, not, ◌&&◌, List, [], ◌∷◌, ◌++◌, take, drop}
use Rattle.tmds_word.specs.Bits.{bits_of, bytes_bits, bytes_of, number}
use Rattle.bch_block.specs.Bits.{xor}
use Rattle.audio_packets.specs.Samples.{side_bits}
use Rattle.audio_out.specs.declared.subframe.Mark.{Mark}
use Rattle.audio_out.specs.declared.subframe.Mark.TheVariants.{B, M, W}
use Rattle.audio_out.specs.declared.subframe.Subframe.{Subframe}

-- a value of 24 bits, and V, U and C
pub record IsSound (sub : Subframe) : Type 0 where
  pub value : sub.value < 2 ^ 24
  pub flags : sub.flags < 8

-- the half cells of a preamble, after a half cell of level 0: B begins the first subframe of a block's first frame, M
-- that of any other frame, W the second subframe of each frame
unfoldable pub preamble : Mark → List Bool
preamble B = true ∷ true ∷ true ∷ false ∷ true ∷ false ∷ false ∷ false ∷ []
preamble M = true ∷ true ∷ true ∷ false ∷ false ∷ false ∷ true ∷ false ∷ []
preamble W = true ∷ true ∷ true ∷ false ∷ false ∷ true ∷ false ∷ false ∷ []

-- the 28 bits in sent order: the value, its lowest bit first, then V, U, C and the P that makes them even
unfoldable pub slots : Subframe → List Bool
slots sub = bits_of 24 sub.value ++ bits_of 4 (side_bits sub.value sub.flags)

-- whether half cells carry bits in biphase-mark code, after a half cell: of the two of each bit the first is unlike the
-- half cell before it, and the second is unlike the first exactly where the bit is 1
unfoldable pub carries : Bool → List Bool → List Bool → Bool
carries before [] [] = true
carries before [] (half ∷ halves) = false
carries before (bit ∷ bits) [] = false
carries before (bit ∷ bits) (first ∷ []) = false
carries before (bit ∷ bits) (first ∷ (second ∷ halves)) =
    xor before first && (not (xor (xor first second) bit) && carries second bits halves)

-- these bytes are this subframe
pub record IsSubframe (sub : Subframe) (bytes : List ℕ) : Type 0 where
  pub sound : IsSound sub
  pub marked : take 8 (bytes_bits bytes) ≡ preamble sub.mark
  pub carried : carries false (slots sub) (drop 8 (bytes_bits bytes)) ≡ true

-- the half cells that carry bits, after a half cell
unfoldable pub cells_of : Bool → List Bool → List Bool
cells_of before [] = []
cells_of before (bit ∷ bits) = not before ∷ (xor (not before) bit ∷ cells_of (xor (not before) bit) bits)

-- the bytes of a subframe
unfoldable pub subframe_bytes : Subframe → List ℕ
subframe_bytes sub = bytes_of 8 (number (preamble sub.mark ++ cells_of false (slots sub)))
