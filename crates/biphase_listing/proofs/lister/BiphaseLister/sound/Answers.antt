use Rattle.std.proofs.Common.{◌<◌, List, ℕ, Ok, Err, subst, arith}
use Rattle.std.specs.Io.KnownBytes.{Appends}
use Rattle.audio_packets.specs.Samples.{IsSample, packet_with, sample_at}
use Rattle.biphase_listing.specs.StreamText.{reported_samples}
use Rattle.biphase_listing.proofs.Streaming.{breaks_one, lists_one, lists_no_sound, lost_faults, lost_samples, none_counted, pair_again, pair_few, pair_fits, sound_faults, sound_samples}
use Rattle.biphase_listing.proofs.lister.BiphaseLister.sound.Goals as goal

pub frames_of-frames-requires-clause-few : goal.frames_of-frames-requires-clause-few
frames_of-frames-requires-clause-few g c = pair_few c.args.packet.packet.now c.args.packet.verdicts.now c.get.result c.in-Ok.notes c.in-Ok.ensures

pub frames_of-frames-requires-clause-fit : goal.frames_of-frames-requires-clause-fit
frames_of-frames-requires-clause-fit g c = pair_fits c.args.packet.packet.now c.args.packet.verdicts.now c.get.result c.in-Ok.notes
    (subst (λ (bodies : List ℕ). (place : ℕ) → place < 4 → IsSample (sample_at (packet_with c.args.packet.packet.now.header bodies) place)) c.bodies.ensures
    (subst (λ (header : List ℕ). (place : ℕ) → place < 4 → IsSample (sample_at (packet_with header c.bodies.result.now) place)) c.header.ensures c.bytes_fit.ensures)) c.in-Ok.ensures

pub returns-in-Ok-write_all-clause-ok : goal.returns-in-Ok-write_all-clause-ok
returns-in-Ok-write_all-clause-ok g c = λ reported recalls.
    let p = c.args.packet.packet.now in
    let v = c.args.packet.verdicts.now in
    let k = c.args.self.now.pair in
    let is = pair_again p v c.get.result k (Ok c.in-Ok.notes) c.in-Ok.ensures c.get.ensures.value in
    lists_one k reported _ _ _ _ _ _ _ c.frames_of-frames.result.items
    (sound_samples p v c.args.column k c.in-Ok.notes c.requires is)
    (none_counted c.args.self.now.faults _ (sound_faults p v c.args.column k c.in-Ok.notes c.requires is))
    (c.frames_of-frames.ensures.stands (reported_samples k reported) recalls)
    (c.frames_of-frames.ensures.written (reported_samples k reported) recalls)
    (subst (λ (bytes : List ℕ). Appends (g.K.Sink.held c.args.self.now.sink.now) (g.K.Sink.held c.write_all.new.sink) bytes) c.as_slice.ensures.value c.in-Ok-write_all.ensures.whole)

pub returns-in-Err-write_all-clause-err : goal.returns-in-Err-write_all-clause-err
returns-in-Err-write_all-clause-err g c = grind (arith, pair_again, breaks_one, sound_samples)

pub returns-in-Err-clause-ok : goal.returns-in-Err-clause-ok
returns-in-Err-clause-ok g c = λ reported recalls.
    let p = c.args.packet.packet.now in
    let v = c.args.packet.verdicts.now in
    let k = c.args.self.now.pair in
    let is = pair_again p v c.get.result k (Err c.in-Err.field-0) c.in-Err.ensures c.get.ensures.value in
    let one = lost_faults p v c.args.column k c.in-Err.field-0 c.requires is in
    lists_no_sound k reported _ _ _ _ _
    (lost_samples p v c.args.column k c.in-Err.field-0 c.requires is)
    (omega (arith, one, c.saturating_add-self.ensures)) recalls
