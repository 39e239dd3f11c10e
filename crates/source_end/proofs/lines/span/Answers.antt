use Rattle.std.proofs.Common.{◌≡◌, ℕ, ◌+◌, ◌-◌, ◌<◌, ◌^◌, min, max, replicate, List, ◌++◌, ap, subst, ◌∙◌, append_assoc, arith}
use Rattle.std.specs.Prelude.{OnOk}
use Rattle.source_end.specs.Raster.{Part, column, sync}
use Rattle.source_end.specs.Gathering.{size, Has}
use Rattle.source_end.proofs.Gathered.{size_append, size_same}
use Rattle.source_end.proofs.RasterRuns.{span_parts}
use Rattle.source_end.proofs.lines.span.Goals as goal

pub returns : goal.returns
returns c parts h few =
    let from = c.args.from in
    let to = c.args.to in
    let edge = c.min-edge.result in
    let a = c.sync_value.result + c.args.ctl in
    let b = c.sync_value-2.result + c.args.ctl in
    let place : edge ≡ min (max (sync c.args.mode.now.across) from) to = c.min-edge.ensures ∙ ap (λ (k : ℕ). min k to) (c.max.ensures ∙ ap (λ (k : ℕ). max k from) c.sync.ensures.value) in
    let first = replicate (edge - from) (column a) in
    let second = replicate (to - edge) (column b) in
    let few1 : size parts + (edge - from) < 2 ^ 32 = omega (arith, few, place, c.requires.order) in
    let s = size_append parts first in
    let n = size_same (edge - from) a in
    let few2 : size (parts ++ first) + (to - edge) < 2 ^ 32 = omega (arith, few, place, c.requires.order, s, n) in
    let whole = append_assoc parts first second ∙ ap (λ (ps : List Part). parts ++ ps) (span_parts c.args.mode.now c.args.vsync c.args.ctl from to edge a b c.requires.order place (ap (λ (k : ℕ). k + c.args.ctl) c.sync_value.ensures.value) (ap (λ (k : ℕ). k + c.args.ctl) c.sync_value-2.ensures.value)) in
    subst (λ (ps : List Part). OnOk c.columns-2.result (Has c.columns-2.new.self ps)) whole (c.columns-2.ensures (parts ++ first) (c.in_ok-columns.ensures parts h few1) few2)
