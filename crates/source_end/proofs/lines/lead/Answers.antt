use Rattle.std.proofs.Common.{◌+◌, ◌-◌, ◌<◌, ◌≤◌, ◌^◌, List, [], ◌∷◌, ◌++◌, length, ap, subst, ◌∙◌, append_assoc, arith}
use Rattle.source_end.specs.Raster.{Part, packets, columns, blank}
use Rattle.source_end.specs.Gathering.{size, Has}
use Rattle.source_end.proofs.Gathered.{size_append}
use Rattle.source_end.proofs.RasterSizes.{size_columns}
use Rattle.source_end.proofs.RasterRuns.{with_ctl, some_there, lead_some, end_some}
use Rattle.source_end.proofs.lines.lead.Goals as goal

pub returns-clause-parts : goal.returns-clause-parts
returns-clause-parts c parts h few =
    let mode = c.args.mode.now in
    let v = c.args.vsync in
    let ps = c.args.packets.now in
    let a = columns (with_ctl mode (blank v) 0) 0 4 in
    let b = columns (with_ctl mode (blank v) 20) 4 12 in
    let x = c.in_ok-island_of.field-0 in
    let some : 1 ≤ length ps = some_there c.is_empty.result ps c.is_empty.ensures c.if-is_empty.false in
    let end = end_some ps some in
    let few1 : size parts + (4 - 0) < 2 ^ 32 = omega (arith, few, end) in
    let s = size_append parts a in
    let n = size_columns (with_ctl mode (blank v) 0) 0 4 in
    let few2 : size (parts ++ a) + (12 - 4) < 2 ^ 32 = omega (arith, few, end, s, n) in
    let held = c.in_ok-island.ensures ((parts ++ a) ++ b) (c.in_ok-span-2.ensures (parts ++ a) (c.in_ok-span.ensures parts h few1) few2) in
    subst (λ (qs : List Part). Has c.island.new.self qs)
    (ap (λ (qs : List Part). qs ++ packets x ∷ []) (append_assoc parts a b) ∙ append_assoc parts (a ++ b) (packets x ∷ []) ∙ ap (λ (qs : List Part). parts ++ qs) (lead_some mode v ps x some c.in_ok-island_of.ensures)) held
