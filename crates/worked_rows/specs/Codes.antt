-- Rows that were worked out by hand: the characters of short lanes, and the blocks of a header.
use Rattle.std.specs.Prelude.{◌≡◌, ℕ, List, [], ◌∷◌, ℤ, pos, negsuc}
use Rattle.tmds_code.specs.Coding.{decoded_byte}
use Rattle.tmds_code.specs.Lanes.{IsLane, disparity_of}
use Rattle.bch_block.specs.Bits.{bits_of_bytes}
use Rattle.bch_block.specs.Block.{IsBlock}
use Rattle.bch_block.specs.Repair.{IsVerdict, Repairs}
use Rattle.bch_block.specs.declared.Verdict.TheVariants.{Clean, Mended, Lost}

-- bytes and the characters that code them, both ways, for up to three of them
pub record IsCoding (bytes words decoded : List ℕ) : Type 0 where
  pub lane : IsLane bytes words
  pub decoded_are : decoded ≡ bytes

-- three black bytes: 0x100, 0x3ff, 0x100, and the disparity after each of them is -8, 2, -6
pub record IsBlackRow : Type 0 where
  pub coding : IsCoding (0 ∷ 0 ∷ 0 ∷ []) (0x100 ∷ 0x3ff ∷ 0x100 ∷ []) (decoded_byte 0x100 ∷ decoded_byte 0x3ff ∷ decoded_byte 0x100 ∷ [])
  pub first : disparity_of (0x100 ∷ []) ≡ negsuc 7
  pub second : disparity_of (0x100 ∷ 0x3ff ∷ []) ≡ pos 2
  pub third : disparity_of (0x100 ∷ 0x3ff ∷ 0x100 ∷ []) ≡ negsuc 5

-- two white bytes: 0x200, 0x0ff, and the disparity is -8, -2
pub record IsWhiteRow : Type 0 where
  pub coding : IsCoding (255 ∷ 255 ∷ []) (0x200 ∷ 0x0ff ∷ []) (decoded_byte 0x200 ∷ decoded_byte 0x0ff ∷ [])
  pub first : disparity_of (0x200 ∷ []) ≡ negsuc 7
  pub second : disparity_of (0x200 ∷ 0x0ff ∷ []) ≡ negsuc 1

-- the parity byte of 00 00 80 is 83. With 82 bit 24 is mended, and with 80 the block is lost
pub record IsHeaderBlock : Type 0 where
  pub block : IsBlock (bits_of_bytes (0 ∷ 0 ∷ 0x80 ∷ 0x83 ∷ []))
  pub clean : IsVerdict (bits_of_bytes (0 ∷ 0 ∷ 0x80 ∷ 0x83 ∷ [])) Clean
  pub mended : IsVerdict (bits_of_bytes (0 ∷ 0 ∷ 0x80 ∷ 0x82 ∷ [])) (Mended 24)
  pub repaired : Repairs (0 ∷ 0 ∷ 0x80 ∷ 0x82 ∷ []) (0 ∷ 0 ∷ 0x80 ∷ 0x83 ∷ []) (Mended 24)
  pub lost : IsVerdict (bits_of_bytes (0 ∷ 0 ∷ 0x80 ∷ 0x80 ∷ [])) Lost
