use Rattle.std.proofs.Common.{ap, ◌∙◌}
use Rattle.infoframe.specs.Fields.{field, avi_of, avi_reserved}
use Rattle.infoframe.proofs.Lists.{all_items}
use Rattle.infoframe.proofs.Contents.{avi_of_bytes, avi_free, avi_plain}
use Rattle.infoframe.proofs.writing.avi_bytes.Goals as goal

pub returns-clause-fields : goal.returns-clause-fields
returns-clause-fields c =
    let x = c.args.avi.now in
    let bars = all_items c.bar_bytes.result 8 c.bar_bytes.ensures.long ∙ c.bar_bytes.ensures.bytes in
    ap avi_of (avi_plain x _ bars)
    ∙ avi_of_bytes x c.requires c.bar_bytes.ensures.four c.bar_bytes.ensures.below

pub returns-clause-reserved : goal.returns-clause-reserved
returns-clause-reserved c =
    let x = c.args.avi.now in
    let bars = all_items c.bar_bytes.result 8 c.bar_bytes.ensures.long ∙ c.bar_bytes.ensures.bytes in
    ap (λ xs. avi_reserved (field xs)) (avi_plain x _ bars) ∙ avi_free x c.requires
