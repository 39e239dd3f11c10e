use Rattle.std.proofs.Common.{◌≡◌, false, not, ap, sym, ◌∙◌, arith, slice_index}
use Rattle.std.proofs.lemmas.Grind.{get_or_default_zero}
use Rattle.tmds_word.specs.Column.{column_of}
use Rattle.terc4.specs.Tables.{is_control}
use Rattle.terc4.proofs.Choices.{few_controls}
use Rattle.terc4.proofs.columns.is_control_column.Goals as goal

pub returns-then-not-is_control_word-2 : goal.returns-then-not-is_control_word-2
returns-then-not-is_control_word-2 c =
    let words = c.args.words.now in
    few_controls (column_of words)
    (ap is_control (sym (get_or_default_zero words 1 _ (omega (arith, c.told-words)))) ∙ sym c.is_control_word.ensures ∙ grind arith)
    (ap is_control (sym (get_or_default_zero words 2 _ (omega (arith, c.told-words)))) ∙ sym c.is_control_word-then-not-is_control_word.ensures ∙ grind arith)
