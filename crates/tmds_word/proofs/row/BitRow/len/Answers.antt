use Rattle.std.proofs.Common.{◌+◌, ◌*◌, ◌∙◌, sym, ap, ap₂, length}
use Rattle.tmds_word.proofs.Rows.{length-row}
use Rattle.tmds_word.proofs.row.BitRow.len.Goals as goal

pub returns : goal.returns
returns c =
    sym (ap length (sym c.self.view_is) ∙ length-row c.self.inside.whole.items c.self.inside.held c.self.inside.tail ∙ ap₂ (λ n h. 8 * n + h) (sym c.self.inside.whole.ok.0 ∙ sym c.len.ensures) (sym c.from.ensures))
