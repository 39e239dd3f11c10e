use Rattle.std.proofs.Common.{◌-◌, [], arith}
use Rattle.sampling.proofs.Struck.{struck_one, struck_early, struck_late}
use Rattle.sampling.proofs.hits.hit_at.Goals as goal
use Rattle.sampling.proofs.hits.hit_at.Goals.{else-first-bit-via-then-first-bit+else-bit-after, else-first-bit-via-else-first-bit}

pub returns-then-bit-after : goal.returns-then-bit-after
returns-then-bit-after c = grind (arith, struck_one)

pub returns-else-first-bit : goal.returns-else-first-bit
returns-else-first-bit c = grind (arith, struck_late, else-first-bit-via-else-first-bit, struck_early)
