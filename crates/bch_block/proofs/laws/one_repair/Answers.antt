use Rattle.std.proofs.Common.{◌≡◌, ◌∙◌, ℕ, List, sym, ap}
use Rattle.bch_block.specs.Bits.{bits_of_bytes}
use Rattle.bch_block.specs.Repair.{Repairs}
use Rattle.bch_block.specs.declared.Verdict.{Verdict}
use Rattle.bch_block.specs.declared.Verdict.TheVariants.{Clean, Mended, Lost}
use Rattle.bch_block.proofs.laws.one_repair.Goals as goal

one_repair : (old new other : List ℕ) (v : Verdict) → Repairs old new v → Repairs old other v → bits_of_bytes new ≡ bits_of_bytes other
one_repair old new other Clean same as_well = ap bits_of_bytes (same ∙ sym as_well)
one_repair old new other (Mended i) same as_well = same ∙ sym as_well
one_repair old new other Lost same as_well = ap bits_of_bytes (same ∙ sym as_well)

pub returns : goal.returns
returns c = one_repair
