use Rattle.std.proofs.Common.{refl, ◌∙◌, sym, ap}
use Rattle.std.specs.Prelude.{Err}
use Rattle.listing_writer.specs.ContentText.{clock_lines}
use Rattle.listing_writer.proofs.ContentAdding.{adds_as, adds_none}
use Rattle.listing_writer.proofs.content_lines.Lines.add_clock.Goals as goal

pub returns-in-Ok : goal.returns-in-Ok
unfolding clock_lines
returns-in-Ok c =
    adds_as (clock_lines c.args.column) _ _ _ _ c.in-Ok.ensures.read (c.add.ensures.added _ c.fields_line.ensures refl)

pub returns-in-Err-Uneven : goal.returns-in-Err-Uneven
unfolding clock_lines
returns-in-Err-Uneven c =
    adds_as (clock_lines c.args.column) _ _ _ _ (sym (ap Err c.in-Err-Uneven.field-0-is) ∙ c.in-Err-Uneven.ensures.read) (c.add_fault.ensures.added _ c.long_line.ensures refl)

pub returns-in-Err-Layout : goal.returns-in-Err-Layout
unfolding clock_lines
returns-in-Err-Layout c =
    adds_as (clock_lines c.args.column) _ _ _ _ (sym (ap Err c.in-Err-Layout.field-0-is) ∙ c.in-Err-Layout.ensures.read) (adds_none c.args.self.now)

pub returns-in-Err-Lost : goal.returns-in-Err-Lost
unfolding clock_lines
returns-in-Err-Lost c =
    adds_as (clock_lines c.args.column) _ _ _ _ (sym (ap Err c.in-Err-Lost.field-0-is) ∙ c.in-Err-Lost.ensures.read) (adds_none c.args.self.now)
