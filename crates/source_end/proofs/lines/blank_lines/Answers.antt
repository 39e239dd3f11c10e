use Rattle.std.proofs.Common.{◌≡◌, min, replicate, length, List, None, sym, ap, ◌∙◌, append-nil, append_assoc, arith}
use Rattle.source_end.specs.Raster.{Line, blank, blank_room, whole, laid, total}
use Rattle.source_end.specs.Lines.{left}
use Rattle.source_end.proofs.Gathered.{size_append}
use Rattle.source_end.proofs.RasterSizes.{size_blank}
use Rattle.source_end.proofs.RasterWriting.{Step, step, one_blank, one_time, none_laid, none_left}
use Rattle.source_end.proofs.lines.blank_lines.Goals as goal

pub loop-init : goal.loop-init
loop-init c = grind (arith, none_left, none_laid, append-nil)

pub loop-preserved : goal.loop-preserved
loop-preserved c =
    let mode = c.args.mode.now in
    let v = c.args.vsync in
    let ps = c.args.packets.now in
    let n = c.loop.counter in
    let t = total mode.across in
    let lines = replicate n (blank v) in
    let front = c.split_at.result.0.now in
    let back = c.split_at.result.1.now in
    let rest = c.loop.rest.now in
    let count : c.min.result ≡ min (length rest) (blank_room mode) = c.min.ensures ∙ ap (min (length rest)) c.blank_room.ensures.value in
    let more : Step mode lines (blank v) ps front back = step mode lines (blank v) ps rest front back c.min.result c.loop.invariant.rest count c.split_at.ensures.front c.split_at.ensures.back in
    record {
      rest = more.rest ∙ sym (ap (λ (ls : List Line). left mode ls ps) (one_blank n v));
      parts = λ parts h few.
          let now = laid mode lines ps in
          let here = whole mode (blank v) front None in
          grind (arith, one_time, size_append, size_blank, append_assoc, one_blank);
    }
