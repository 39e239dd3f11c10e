use Rattle.std.proofs.Common.{◌∙◌, ◌+◌, ◌*◌, ap}
use Rattle.biphase_listing.proofs.LineDigits.{second_is}
use Rattle.biphase_listing.proofs.frame_line.second_part.Goals as goal

pub returns : goal.returns
returns c = c.to_le_bytes.ensures ∙ second_is c.args.side.now.sub.value _ (ap (λ n. 0x2000000000000020 + 256 * n) c.digits.ensures.digits)
