use Rattle.source_end.proofs.Contents.{bytes_at}
use Rattle.source_end.proofs.content.bytes.Goals as goal

pub returns : goal.returns
returns c = bytes_at c.args.values.now (λ i. (c.type_inv.values i).fits)
