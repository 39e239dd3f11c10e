use Rattle.std.proofs.Common.{refl}
use Rattle.listing_writer.specs.ContentText.{control_lines, control_words, depth_lines}
use Rattle.listing_writer.proofs.ContentAdding.{adds_both, adds_as}
use Rattle.listing_writer.proofs.content_lines.Lines.add_control.Goals as goal

pub returns : goal.returns
unfolding control_lines control_words
returns c =
    adds_both c.args.self.now c.add.new.self c.add_depth.new.self _ _
    (c.add.ensures.added _ c.control_line.ensures refl) (adds_as (depth_lines c.args.column) _ _ _ _ c.from.ensures c.add_depth.ensures)
