use Rattle.std.proofs.Common.{sym, ap, ◌∙◌, ℕ, List}
use Rattle.std.specs.Prelude.{slice_index}
use Rattle.listing_writer.specs.ContentText.{info_lines, avi_read}
use Rattle.listing_writer.proofs.ContentAdding.{adds_as}
use Rattle.listing_writer.proofs.ContentCases.{type_read, info_is_plain}
use Rattle.listing_writer.proofs.content_lines.Lines.add_info.Goals as goal

pub info_line-requires : goal.info_line-requires
info_line-requires c = ap (λ (h : List ℕ). slice_index h 0) c.header.ensures ∙ sym (type_read c.args.packet.packet.now c.args.packet.verdicts.now c.in-Ok.info c.in-Ok.ensures)

pub returns-in-Ok-clause-added : goal.returns-in-Ok-clause-added
unfolding info_lines
returns-in-Ok-clause-added c =
    adds_as (info_lines c.args.column) _ _ _ _ c.in-Ok.ensures (c.add.ensures.added _ c.info_line.ensures (info_is_plain _ _))

pub returns-in-Err-clause-added : goal.returns-in-Err-clause-added
returns-in-Err-clause-added c = adds_as (info_lines c.args.column) _ _ _ _ c.in-Err.ensures c.add_info_fault.ensures

pub returns-in-Ok-clause-avi : goal.returns-in-Ok-clause-avi
unfolding avi_read
returns-in-Ok-clause-avi c = c.avi.ensures ∙ ap avi_read c.in-Ok.ensures

pub returns-in-Err-clause-avi : goal.returns-in-Err-clause-avi
unfolding avi_read
returns-in-Err-clause-avi c = ap avi_read c.in-Err.ensures
