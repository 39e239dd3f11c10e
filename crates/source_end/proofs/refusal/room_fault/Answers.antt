use Rattle.std.proofs.Common.{◌<◌, ◌≤◌, Some, length, get_or, sym, ap, ◌∙◌, arith}
use Rattle.source_end.specs.declared.refusal.RasterFault.TheVariants.{NoRoom}
use Rattle.source_end.specs.Content.{Frame}
use Rattle.source_end.proofs.RasterFaults.{room_enough, room_wanting}
use Rattle.source_end.proofs.refusal.room_fault.Goals as goal

pub returns-then-packets-room : goal.returns-then-packets-room
returns-then-packets-room c =
    let frames = c.args.frames.now in
    let i = c.loop-frame.frame-index in
    let d = c.frame-item.result in
    let n = c.frame_room-room.result in
    let size = ap length (c.packets.ensures ∙ ap (λ (f : Frame). f.packets) c.frame-item.is) in
    let many : n < length (get_or frames i d).packets = omega (arith, size, c.if-packets-room.true) in
    ap (λ k. Some (NoRoom k n)) c.loop-frame.invariant.number_is
    ∙ sym (c.loop-frame.invariant.rest ∙ room_wanting c.args.mode.now frames d i n c.requires.rows c.frame_room-room.ensures.value c.loop-frame-test.true many)

pub loop-frame-preserved : goal.loop-frame-preserved
loop-frame-preserved c =
    let frames = c.args.frames.now in
    let i = c.loop-frame.frame-index in
    let d = c.frame-item.result in
    let n = c.frame_room-room.result in
    let size = ap length (c.packets.ensures ∙ ap (λ (f : Frame). f.packets) c.frame-item.is) in
    let few : length (get_or frames i d).packets ≤ n = omega (arith, size, c.if-packets-room.false) in
    record {
      number_is = omega arith;
      rest = c.loop-frame.invariant.rest ∙ room_enough c.args.mode.now frames d i n c.requires.rows c.frame_room-room.ensures.value c.loop-frame-test.true few;
    }
