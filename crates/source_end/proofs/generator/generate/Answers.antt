use Rattle.std.proofs.Common.{length, sym, ap, ◌∙◌, arith}
use Rattle.std.proofs.lemmas.Grind.{common_steps}
use Rattle.source_end.proofs.Generated.{no_frame, length_frames, frame_made}
use Rattle.source_end.proofs.generator.generate.Goals as goal

pub loop-f-init : goal.loop-f-init
loop-f-init c = c.new-content.ensures ∙ sym (no_frame c.avi_packet-avi.result c.audio_packet-audio.result)

pub frame-requires : goal.frame-requires
frame-requires c =
    let count = ap length c.loop-f.invariant ∙ length_frames c.avi_packet-avi.result c.audio_packet-audio.result c.loop-f.f in
    omega (arith, count, c.loop-f-test.true, c.requires)

pub loop-f-preserved : goal.loop-f-preserved
loop-f-preserved c =
    frame_made c.avi_packet-avi.result c.audio_packet-audio.result c.loop-f.f c.loop-f.content c.frame.new.self c.add_packets.new.content c.add_rows.new.content c.loop-f.invariant c.in_ok-frame.ensures.ok c.in_ok-add_packets.ensures.added c.in_ok-add_rows.ensures.added

pub add_packets-requires-clause-some : goal.add_packets-requires-clause-some
add_packets-requires-clause-some c = grind (arith, common_steps)

pub add_rows-requires-clause-some : goal.add_rows-requires-clause-some
add_rows-requires-clause-some c = grind (arith, common_steps)
