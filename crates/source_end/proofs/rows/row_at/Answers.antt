use Rattle.std.proofs.Common.{◌-◌, length, get_or, take, drop, ap, sym, ◌∙◌, arith}
use Rattle.source_end.proofs.RowEnds.{row_between, ends_rise}
use Rattle.source_end.proofs.rows.row_at.Goals as goal

pub slice_bounds-result-count : goal.slice_bounds-result-count
slice_bounds-result-count c =
    let h = ends_rise 0 c.args.ends.now (length c.args.bytes.now) c.args.i c.requires.ends c.requires.row in
    omega (arith, h.0, c.begin-start.ensures)

pub slice_bounds-result-start : goal.slice_bounds-result-start
slice_bounds-result-start c =
    let h = ends_rise 0 c.args.ends.now (length c.args.bytes.now) c.args.i c.requires.ends c.requires.row in
    omega (arith, h.0, c.begin-start.ensures)

pub slice_bounds-result-end : goal.slice_bounds-result-end
slice_bounds-result-end c =
    let h = ends_rise 0 c.args.ends.now (length c.args.bytes.now) c.args.i c.requires.ends c.requires.row in
    omega (arith, h.1)

pub returns : goal.returns
returns c other =
    ap (λ n. take (get_or c.args.ends.now c.args.i 0 - n) (drop n c.args.bytes.now)) c.begin-start.ensures
    ∙ sym (row_between 0 c.args.bytes.now c.args.ends.now c.args.i other c.requires.row)
