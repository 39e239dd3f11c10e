use Rattle.std.proofs.Common.{ap, sym, arith}
use Rattle.listing_writer.specs.Checks.{verdict_line}
use Rattle.listing_writer.specs.GrowingChecks.{faulty_line}
use Rattle.listing_writer.proofs.checker.verdict.Goals as goal

pub returns-then-faults-eq0 : goal.returns-then-faults-eq0
returns-then-faults-eq0 c = sym (ap verdict_line c.if-faults-eq0.true)

pub returns-else-faults-eq0 : goal.returns-else-faults-eq0
returns-else-faults-eq0 c = sym (faulty_line c.args.faults (omega (arith, c.if-faults-eq0.false)))
