use Rattle.std.proofs.Common.{◌≡◌, refl, sym, ◌∙◌, Some}
use Rattle.source_end.proofs.Gathered.{on_ok}
use Rattle.relay.specs.Relayed.{Judged}
use Rattle.relay.proofs.Fits.{packet_reported}
use Rattle.relay.proofs.Going.{few_held, held_packet, fits_packet}
use Rattle.relay.proofs.relaying.Relay.packet.Goals as goal

pub returns-in-Some-clause-at : goal.returns-in-Some-clause-at
returns-in-Some-clause-at c t b good h =
    let j : Judged = record { packet = c.args.packet.packet.now; verdicts = c.args.packet.verdicts.now } in
    let x = c.in-Some.island in
    let e : Some x ≡ _ = sym c.in-Some.is ∙ h.island in
    on_ok c.push.result _ _
    (λ n. record {
      whole = h.whole;
      period = h.period;
      period_columns = h.period_columns;
      columns = h.columns;
      few = h.few;
      island = held_packet b x c.push.new.island j c.sent_on-sent.result e (c.sent_on-sent.ensures j refl) n;
      fits = fits_packet b j h.fits (packet_reported j.packet c.requires.whole c.requires.digits);
      faulty = h.faulty;
    })
    (c.push.ensures (few_held b x e))
