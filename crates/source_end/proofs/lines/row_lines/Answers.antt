use Rattle.std.proofs.Common.{◌≡◌, ℕ, ◌+◌, ◌<◌, min, map, take, get_or, length, List, [], ◌∷◌, ◌++◌, Some, sym, ap, ◌∙◌, append-nil, append_assoc, arith}
use Rattle.std.proofs.lemmas.Grind.{common_steps}
use Rattle.std.proofs.lemmas.List.{take_more, length-take}
use Rattle.source_end.specs.Raster.{Line, active, row_line, row_room, whole, laid, total}
use Rattle.source_end.specs.Lines.{left}
use Rattle.source_end.proofs.Gathered.{size_append}
use Rattle.source_end.proofs.RasterModes.{is_mode}
use Rattle.source_end.proofs.RasterSizes.{size_rows}
use Rattle.source_end.proofs.RasterWriting.{Step, step, one_row, one_time, rows_take, row_at, none_laid, none_left}
use Rattle.source_end.proofs.lines.row_lines.Goals as goal

pub loop-i-init : goal.loop-i-init
loop-i-init c = grind (arith, none_left, none_laid, append-nil)

pub row_line-requires-clause-width : goal.row_line-requires-clause-width
row_line-requires-clause-width c =
    let lt : c.loop-i.i < length c.args.rows.now = omega (arith, c.loop-i-test.true, c.len-i-end.ensures) in
    ap length (c.get.ensures []) ∙ row_at (active c.args.mode.now.across) c.loop-i.i c.args.rows.now [] c.requires.rows lt

pub loop-i-preserved : goal.loop-i-preserved
loop-i-preserved c =
    let mode = c.args.mode.now in
    let ps = c.args.packets.now in
    let rows = c.args.rows.now in
    let i = c.loop-i.i in
    let lt : i < length rows = omega (arith, c.loop-i-test.true, c.len-i-end.ensures) in
    let t = total mode.across in
    let row = c.get.result.now in
    let lines = map row_line (take i rows) in
    let front = c.split_at.result.0.now in
    let back = c.split_at.result.1.now in
    let rest = c.loop-i.rest.now in
    let count : c.min.result ≡ min (length rest) (row_room mode) = c.min.ensures ∙ ap (min (length rest)) c.row_room.ensures.value in
    let more : Step mode lines (row_line row) ps front back = step mode lines (row_line row) ps rest front back c.min.result c.loop-i.invariant.rest count c.split_at.ensures.front c.split_at.ensures.back in
    let is = c.get.ensures [] in
    let next : lines ++ row_line row ∷ [] ≡ map row_line (take (i + 1) rows) =
    ap (λ (r : List ℕ). lines ++ row_line r ∷ []) is ∙ sym (one_row (take i rows) (get_or rows i [])) ∙ sym (ap (map row_line) (take_more rows i [] lt)) in
    record {
      rest = more.rest ∙ ap (λ (ls : List Line). left mode ls ps) next;
      parts = λ parts h few.
          let now = laid mode lines ps in
          let here = whole mode (row_line row) front (Some row) in
          grind (arith, one_time, size_append, length-take, size_rows, is_mode, rows_take, append_assoc);
    }

pub returns-clause-parts : goal.returns-clause-parts
returns-clause-parts c = grind (arith, common_steps)

pub returns-clause-rest : goal.returns-clause-rest
returns-clause-rest c = grind (arith, common_steps)
