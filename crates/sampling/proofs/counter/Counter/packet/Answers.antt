use Rattle.std.proofs.Common.{◌∙◌, ℕ, refl, ap}
use Rattle.period_grammar.specs.Events.{packet}
use Rattle.listing_writer.specs.ContentText.{frame_event_of, frame_events}
use Rattle.sampling.proofs.LineKinds.{sampled, samples_in, packet_kinds, packet_samples}
use Rattle.sampling.proofs.Counting.{counted_more, unlisted, still, after}
use Rattle.sampling.proofs.counter.Counter.packet.Goals as goal

pub returns : goal.returns
unfolding frame_event_of
returns c before column was =
    let p = c.args.packet.packet.now in
    let v = c.args.packet.verdicts.now in
    let event = packet p v column in
    counted_more c.args.self.now _ before event (sampled 1 (samples_in p v)) was (packet_kinds before p v column)
    (c.other.ensures (frame_events before) was.heard) (unlisted c.args.self.now.pictures before event was.pictures refl)
    (record {
      frames = still _ _ was.frames;
      rows = still _ _ was.rows;
      packets = c.saturating_add-self.ensures;
      samples = c.saturating_add-self-2.ensures ∙ ap (λ (n : ℕ). after c.args.self.now.samples n) (c.sample_count.ensures column ∙ packet_samples p v column);
      symbols = still _ _ was.symbols;
      mended = still _ _ was.mended;
      code = still _ _ was.code;
    })
