use Rattle.std.proofs.Common.{◌∙◌, sym, arith}
use Rattle.island_pack.proofs.Rows.{none_marked}
use Rattle.island_pack.proofs.taking.foreign_in.Goals as goal

pub returns-then-marks-eq0 : goal.returns-then-marks-eq0
returns-then-marks-eq0 c = sym (none_marked c.args.blue.now c.args.others.now (omega (arith, c.told-blue)) (omega (arith, c.told-others)) (sym c.marks.ensures ∙ c.if-marks-eq0.true))
