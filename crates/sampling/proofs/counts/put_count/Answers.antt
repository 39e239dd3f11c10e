use Rattle.std.proofs.Common.{◌∙◌}
use Rattle.sampling.proofs.CountLines.{line_put}
use Rattle.sampling.proofs.counts.put_count.Goals as goal

pub returns-clause-items : goal.returns-clause-items
returns-clause-items c =
    line_put _ _ _ _ _ _ _ _ c.put.ensures.items c.put-2.ensures.items c.put-3.ensures.items (c.as_bytes.ensures.value ∙ c.format.ensures.text) c.put-4.ensures.items
