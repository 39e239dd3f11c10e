use Rattle.std.proofs.Common.{true, false, refl, sym}
use Rattle.listing_writer.specs.ContentText.{side_lines, parity_words}
use Rattle.listing_writer.proofs.ContentAdding.{adds_as, adds_none}
use Rattle.listing_writer.proofs.content_lines.Lines.add_side.Goals as goal

pub returns-then-not-even-clause-added : goal.returns-then-not-even-clause-added
unfolding parity_words
returns-then-not-even-clause-added c =
    adds_as (side_lines c.args.column c.args.place c.args.side.now) _ _ false _ (sym c.if-not-even.true)
    (c.add_fault.ensures.added _ c.parity_line.ensures refl)

pub returns-else-not-even-clause-added : goal.returns-else-not-even-clause-added
returns-else-not-even-clause-added c =
    adds_as (side_lines c.args.column c.args.place c.args.side.now) _ _ true _ (sym c.if-not-even.false) (adds_none c.args.self.now)
