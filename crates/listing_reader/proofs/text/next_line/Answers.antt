use Rattle.std.proofs.Common.{arith, ℕ, List, ◌++◌, subst}
use Rattle.std.specs.Prelude.{Err}
use Rattle.listing_reader.specs.Taken.{TakesLine}
use Rattle.listing_reader.proofs.Leaving.{leaves_line, leaves_last, leaves_long}
use Rattle.listing_reader.proofs.text.next_line.Goals as goal

pub returns-in-Line-clause-leaves : goal.returns-in-Line-clause-leaves
returns-in-Line-clause-leaves g c = grind (arith, leaves_line)

pub returns-in-Last-clause-leaves : goal.returns-in-Last-clause-leaves
returns-in-Last-clause-leaves g c = grind (arith, leaves_last)

pub returns-in-Long-clause-leaves : goal.returns-in-Long-clause-leaves
returns-in-Long-clause-leaves g c =
    let step = g.T.Teller.step in
    let reported = c.args.teller in
    leaves_long step c.args.place.line c.args.place.bytes reported _ _ c.args.lines.now c.next.new.self _ (rw c.in-Long.is at c.in-Ok.ensures.given)
    (λ more. subst (λ (l : List ℕ). TakesLine c.args.place.line (step reported (l ++ more)) (Err c.too_long.result)) c.line-line.ensures (c.too_long.ensures.takes more))
