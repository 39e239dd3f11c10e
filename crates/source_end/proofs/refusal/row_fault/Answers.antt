use Rattle.std.proofs.Common.{◌≡◌, ◌<◌, ◌≤◌, ◌*◌, Some, [], length, get_or, sym, ap, ◌∙◌, arith}
use Rattle.source_end.specs.declared.refusal.RasterFault.TheVariants.{Row}
use Rattle.source_end.specs.Raster.{active}
use Rattle.source_end.proofs.RasterFaults.{row_right, row_wide, row_surplus, row_missing}
use Rattle.source_end.proofs.refusal.row_fault.Goals as goal
use Rattle.source_end.proofs.refusal.row_fault.Goals.{then-row-height-via-then-row-height, then-row-height-via-else-row-height+then-get-width}

pub returns-then-row-height : goal.returns-then-row-height
returns-then-row-height c =
    let w = active c.args.mode.now.across in
    let h = active c.args.mode.now.down in
    let y = c.loop-i.i in
    let lt : y < length c.args.rows.now = omega (arith, c.loop-i-test.true, c.len-i-end.ensures) in
    let few : y ≤ h = omega (arith, c.loop-i.invariant.row_is, c.loop-i.invariant.few, c.active-height.ensures.value) in
    let row = ap (λ k. Some (Row c.args.frame k)) c.loop-i.invariant.row_is in
    elim c.then-row-height.branch [
      | then-row-height-via-then-row-height v ↦ grind (arith, row_surplus)
      | then-row-height-via-else-row-height+then-get-width v ↦
          let less : y < h = omega (arith, few, v.if-row-height.false, c.loop-i.invariant.row_is, c.active-height.ensures.value) in
          row
          ∙ sym (c.loop-i.invariant.rest
          ∙ row_wide w c.args.frame h c.args.rows.now [] y lt less (λ e. v.if-get-width.true (ap length (v.get.ensures []) ∙ e ∙ ap (λ k. 3 * k) (sym c.active.ensures.value))))
    ]

pub loop-i-preserved : goal.loop-i-preserved
loop-i-preserved c =
    let w = active c.args.mode.now.across in
    let h = active c.args.mode.now.down in
    let y = c.loop-i.i in
    let lt : y < length c.args.rows.now = omega (arith, c.loop-i-test.true, c.len-i-end.ensures) in
    let less : y < h = omega (arith, c.loop-i.invariant.few, c.if-row-height.false, c.loop-i.invariant.row_is, c.active-height.ensures.value) in
    let wide : length (get_or c.args.rows.now y []) ≡ 3 * w = sym (ap length (c.get.ensures [])) ∙ c.if-get-width.false ∙ ap (λ k. 3 * k) c.active.ensures.value in
    record {
      row_is = omega arith;
      few = omega (arith, less, c.active-height.ensures.value);
      rest = c.loop-i.invariant.rest ∙ row_right w c.args.frame h c.args.rows.now [] y lt less wide;
    }

pub returns-then-row-height-2 : goal.returns-then-row-height-2
returns-then-row-height-2 c = grind (arith, row_missing)
