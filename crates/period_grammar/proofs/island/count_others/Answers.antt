use Rattle.std.proofs.Common.{sym, ◌∙◌}
use Rattle.tmds_word.specs.Lent.{columns_in}
use Rattle.period_grammar.proofs.InPacket.{pixels_push}
use Rattle.period_grammar.proofs.island.count_others.Goals as goal

pub loop-i-preserved : goal.loop-i-preserved
loop-i-preserved c =
    record {
      pixels = pixels_push (columns_in c.args.columns) c.loop-i.i _ c.get.ensures (sym c.is_control_column.ensures ∙ c.if-is_control_column.false) c.loop-i.invariant.pixels;
    }
