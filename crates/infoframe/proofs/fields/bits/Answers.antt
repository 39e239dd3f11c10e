use Rattle.std.proofs.Common.{arith}
use Rattle.std.proofs.lemmas.Nat.{and_mask}
use Rattle.infoframe.proofs.Numbers.{mask_of}
use Rattle.infoframe.proofs.fields.bits.Goals as goal

pub returns : goal.returns
returns c = grind (arith, mask_of, and_mask)
