-- The samples that `recover biphase K` writes of a tapped stream are those of the received packets, each that is as sent in the
-- account with the samples that it was sent with.
use Rattle.std.proofs.Common.{arith, ◌≡◌, ℕ, true, List, [], ◌∷◌, ◌++◌, length, refl, ap, ◌∙◌, subst}
use Rattle.std.specs.Prelude.{flat_map, Option, Some}
use Rattle.std.specs.Io.KnownBytes.{Appends}
use Rattle.tmds_word.specs.Column.{Column}
use Rattle.audio_out.specs.Frames.{biphase}
use Rattle.period_grammar.specs.Events.{Event, packet}
use Rattle.link_laws.specs.Account.{account}
use Rattle.link_laws.specs.Laws.{ReceivedOf}
use Rattle.listing_laws.specs.ListingLaws.{Each, as_sent_at}
use Rattle.listing_laws.specs.PacketLaws.{IsAsSent, Placed, received_packet, placed, reported_packets}
use Rattle.listing_laws.proofs.PacketsAsSent.{packets_as_sent}
use Rattle.listing_laws.proofs.Reported.{packets_come_back}
use Rattle.biphase_listing.specs.StreamText.{biphase_text, samples_at, reported_samples}
use Rattle.biphase_listing.proofs.Payload.{samples_of_payload}
use Rattle.command_line.specs.Commands.{IsCommand}
use Rattle.command_line.specs.declared.command.Command.TheVariants.{RecoverBiphase}
use Rattle.capture_commands.specs.Endings.{Devices, RunEnds, Unless, status_of}
use Rattle.hdmi_cli.specs.Headline.{TappedStream, IsTapped, IsRecovered, Aligns, FromFirst, aligned_of}
use Rattle.capture_commands.specs.Listings.{biphase_listing}
use Rattle.hdmi_cli.specs.Sounds.{AreSamples, samples_sent, samples_reported}
use Rattle.capture_commands.specs.declared.ending.Ending.{Ending}
use Rattle.hdmi_cli.proofs.Headline.{recovered, unless_so}
use Rattle.hdmi_cli.proofs.Pictures.{within_received}

-- what is reported has the samples of the packets that are reported

of_events : (pair : ℕ) (events : List Event) → reported_samples pair events ≡ flat_map (samples_reported pair) (reported_packets events)
unfolding reported_samples reported_packets samples_at
of_events pair [] = refl
of_events pair (packet p verdicts column ∷ events) = ap (λ xs. samples_at pair (packet p verdicts column) ++ xs) (of_events pair events)
of_events pair (event ∷ events) = of_events pair events

-- each packet that was sent

abbrev IsSent : List Column → List Column → ℕ → Placed → Type 0
IsSent sent received a k = as_sent_at sent received k ≡ true → IsAsSent k.packet (received_packet sent received a k).packet (received_packet sent received a k).verdicts

abbrev HasSamples : ℕ → List Column → List Column → ℕ → Placed → Type 0
HasSamples pair sent received a k = as_sent_at sent received k ≡ true → samples_reported pair (received_packet sent received a k) ≡ samples_sent pair k

each_has : (pair : ℕ) (sent received : List Column) (a : ℕ) (ks : List Placed) → Each (IsSent sent received a) ks → Each (HasSamples pair sent received a) ks
each_has pair sent received a [] h = tt
each_has pair sent received a (k ∷ ks) h = grind (arith, samples_of_payload, each_has pair sent received a ks)

-- what is recovered has the received samples
samples_are : (pair : ℕ) (t : TappedStream) (d e f a status : ℕ) (old new : Option (List ℕ)) → ReceivedOf t.periods t.sent t.received
    → IsRecovered (biphase_listing pair) t d e f a status old new → AreSamples pair t d e f a status old new
unfolding biphase_text
samples_are pair t d e f a status old new reception h =
    let aligned = aligned_of t d e f in
    let reported =
    of_events pair (account t.periods t.sent t.received a (length aligned))
    ∙ ap (flat_map (samples_reported pair))
    (packets_come_back t.periods t.sent t.received reception a (length aligned) h.accounted.ends (within_received t.periods t.sent t.received aligned a reception h.accounted)) in
    record {
      accounted = h.accounted;
      begins = h.begins;
      status_is = h.status_is;
      written = subst (λ samples. Appends old new (biphase samples)) reported h.written;
      samples = each_has pair t.sent t.received a (placed 0 t.periods) (packets_as_sent t.periods t.sent t.received reception a);
    }

pub sounded : (words : List (List ℕ)) (ending : Ending) (before after : Devices) (status : ℕ) → RunEnds words ending before after → status ≡ status_of ending → (pair : ℕ) → IsCommand words (RecoverBiphase pair)
    → (t : TappedStream) → IsTapped t → Aligns t → before.left ≡ Some t.bytes
    → Unless (λ s old new. FromFirst t (λ d e f a. AreSamples pair t d e f a s old new)) status before after
sounded words ending before after status ends is pair named t tapped aligns left =
    unless_so
    (λ s old new. FromFirst t (λ d e f a. IsRecovered (biphase_listing pair) t d e f a s old new))
    (λ s old new. FromFirst t (λ d e f a. AreSamples pair t d e f a s old new))
    status before after
    (λ h. (h.0, h.1, h.2, h.3, (h.4.0, h.4.1, samples_are pair t h.0 h.1 h.2 h.4.0 status before.held after.held tapped.reception h.4.2)))
    (recovered Aligns (λ t aligns. aligns) (biphase_listing pair) (RecoverBiphase pair) (λ t tapped aligns o does. does) words ending before after status ends is named t tapped aligns left)
