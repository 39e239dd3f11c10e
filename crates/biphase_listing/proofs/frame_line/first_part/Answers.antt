use Rattle.std.proofs.Common.{◌∙◌, ◌+◌, ◌*◌, ap}
use Rattle.biphase_listing.proofs.LineDigits.{first_is}
use Rattle.biphase_listing.proofs.frame_line.first_part.Goals as goal

pub returns : goal.returns
returns c = c.to_le_bytes.ensures ∙ first_is c.args.side.now.sub.value _ (ap (λ n. 0x2073 + 65536 * n) c.digits.ensures.digits)
