use Rattle.std.proofs.Common.{sym, ◌∙◌}
use Rattle.column_rows.proofs.Filled.{spells}
use Rattle.column_rows.proofs.rows.lay_pixels.Goals as goal

pub returns : goal.returns
returns c =
    spells c.args.bytes.now c.code_row.new.row c.code_row-2.new.row c.code_row-3.new.row (c.code_row-2.ensures.size ∙ c.requires.green ∙ sym c.code_row.ensures.size) (c.code_row-3.ensures.size ∙ c.requires.red ∙ sym c.code_row.ensures.size)
    c.code_row.ensures.coded c.code_row-2.ensures.coded c.code_row-3.ensures.coded
