-- What may be said of a list of bits that should have been a block, and what a repair makes of it.
use Rattle.std.specs.Prelude.{◌≡◌, ℕ, ◌<◌, ◌≤◌, Bool, true, false, List, length}
use Rattle.bch_block.specs.Bits.{flipped, differences, bits_of_bytes}
use Rattle.bch_block.specs.Block.{IsBlock}
use Rattle.bch_block.specs.declared.Verdict.{Verdict}
use Rattle.bch_block.specs.declared.Verdict.TheVariants.{Clean, Mended, Lost}

-- Clean: a block. Mended i: no block, but one with bit i turned over.
-- Lost: every block of the same length differs in two places at least.
abbrev pub IsVerdict : List Bool → Verdict → Type 0
IsVerdict x Clean = IsBlock x
IsVerdict x (Mended i) = (¬ IsBlock x) × (i < length x) × IsBlock (flipped x i)
IsVerdict x Lost = (y : List Bool) → IsBlock y → length y ≡ length x → 2 ≤ differences x y

-- whether no repair could be
abbrev pub is_lost : Verdict → Bool
is_lost Clean = false
is_lost (Mended i) = false
is_lost Lost = true

-- under a verdict, the bytes become these: bit i is turned over after Mended i, and else nothing changes
abbrev pub Repairs : List ℕ → List ℕ → Verdict → Type 0
Repairs old new Clean = new ≡ old
Repairs old new (Mended i) = bits_of_bytes new ≡ flipped (bits_of_bytes old) i
Repairs old new Lost = new ≡ old
