use Rattle.std.proofs.Common.{ℕ, ◌+◌, ◌-◌, ◌<◌, ◌^◌, List, ◌++◌, ap, ap₂, subst, ◌∙◌, append_assoc, arith}
use Rattle.std.specs.Prelude.{OnOk}
use Rattle.source_end.specs.Raster.{Part, columns, blank}
use Rattle.source_end.specs.Lines.{lead, lead_end}
use Rattle.source_end.specs.Gathering.{size, Has}
use Rattle.source_end.proofs.Gathered.{size_append}
use Rattle.source_end.proofs.RasterRuns.{with_ctl, blank_parts, blank_end}
use Rattle.source_end.proofs.RasterWriting.{size_lead}
use Rattle.source_end.proofs.lines.blank_line.Goals as goal

pub returns : goal.returns
returns c parts h few =
    let mode = c.args.mode.now in
    let v = c.args.vsync in
    let ps = c.args.packets.now in
    let a = lead mode (blank v) ps in
    let from = c.in_ok-from.from in
    let end = c.in_ok-from.ensures.end in
    let wide = blank_end mode ps c.requires in
    let few1 : size parts + lead_end ps < 2 ^ 32 = omega (arith, few, wide) in
    let s = size_append parts a in
    let n = size_lead mode (blank v) ps in
    let few2 : size (parts ++ a) + (c.total.result - from) < 2 ^ 32 = omega (arith, few, wide, end, c.total.ensures.value, s, n) in
    subst (λ (qs : List Part). OnOk c.span.result (Has c.span.new.out qs))
    (append_assoc parts a (columns (with_ctl mode (blank v) 0) from c.total.result)
    ∙ ap (λ (qs : List Part). parts ++ qs) (ap₂ (λ (x e : ℕ). a ++ columns (with_ctl mode (blank v) 0) x e) end c.total.ensures.value ∙ blank_parts mode v ps wide))
    (c.span.ensures (parts ++ a) (c.in_ok-from.ensures.parts parts h few1) few2)
