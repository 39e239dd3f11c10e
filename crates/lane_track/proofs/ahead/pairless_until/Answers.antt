use Rattle.std.proofs.Common.{arith}
use Rattle.lane_track.proofs.Sevens.{none_in}
use Rattle.lane_track.proofs.ahead.pairless_until.Goals as goal

pub returns-clause-none : goal.returns-clause-none
returns-clause-none c =
    let after = c.first_paired-paired.ensures.after in
    let other = c.if-paired-first.false in
    none_in c.args.bytes.now c.beside.result c.div_ceil-first.result c.first_paired-paired.result c.args.from c.min.result c.args.phase c.first_paired-paired.ensures.pairless c.beside.ensures.masked
    (omega (arith, c.div_ceil-first.ensures)) (omega (arith, c.div_ceil-first.ensures)) (omega (arith, c.min.ensures)) (omega (arith, after, other))
