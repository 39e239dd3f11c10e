-- A short stream of two lines after three other bits: the control period between the lines comes whole.
use Rattle.std.proofs.Common.{◌≡◌, ℕ, Bool, true, false, List, [], ◌∷◌, length, refl, arith, inl}
use Rattle.std.proofs.lemmas.List.{length-map}
use Rattle.tmds_word.specs.Column.{blues, greens, reds}
use Rattle.tmds_word.specs.Taps.{part_of}
use Rattle.capture_file.specs.Captures.{layout}
use Rattle.island_pack.specs.Sparse.{column_at, unlike_at}
use Rattle.lane_track.proofs.Around.{length-part}
use Rattle.link_sink.specs.Sinks.{Fed}
use Rattle.listing_laws.proofs.Undamaged.{undamaged}
use Rattle.relock_laws.specs.WholePeriods.{ComesWholeAgain}
use Rattle.relock_laws.proofs.Announced.{self_unlike}
use Rattle.relock_laws.proofs.ShortStream.{stream, sent, conforming, spelled, long_sent, whole}
use Rattle.hdmi_cli.specs.RelockAgain.{AgainStream}
use Rattle.hdmi_cli.specs.RelockWhole.{HasWholeStream}
use Rattle.hdmi_cli.proofs.TrackExamples.{captured}

as_sent : (k : ℕ) → unlike_at sent sent k ≡ 0
as_sent k = self_unlike (column_at sent k)

-- The lanes, with three bits first.

abbrev ahead : List Bool → List Bool
ahead us = true ∷ (false ∷ (false ∷ us))

abbrev x : Fed
x = record { blue = part_of (blues sent) 0 900; green = part_of (greens sent) 10 890; red = part_of (reds sent) 20 880 }

abbrev lanes : Fed
lanes = record { blue = ahead x.blue; green = ahead x.green; red = ahead x.red }

long_blue : length x.blue ≡ 900
long_blue = let m = long_sent in let b = length-map sent (λ c. c.blue) in length-part (blues sent) 0 900 (omega arith)

long_green : length x.green ≡ 890
long_green = let m = long_sent in let b = length-map sent (λ c. c.green) in length-part (greens sent) 10 890 (omega arith)

long_red : length x.red ≡ 880
long_red = let m = long_sent in let b = length-map sent (λ c. c.red) in length-part (reds sent) 20 880 (omega arith)

comes : ComesWholeAgain stream sent sent 0 (0 ∷ (10 ∷ (20 ∷ []))) (900 ∷ (890 ∷ (880 ∷ []))) x lanes (3 ∷ (3 ∷ (3 ∷ []))) 27 35 473 463 453
comes =
    let b = length-map sent (λ c. c.blue) in
    let g = length-map sent (λ c. c.green) in
    let r = length-map sent (λ c. c.red) in
    let m = long_sent in
    let lb = long_blue in
    let lg = long_green in
    let lr = long_red in
    record {
      reception = record {
        reception = undamaged stream sent conforming spelled;
        tapped = record {
          blue_part = record { within = omega arith; bits_are = refl };
          green_part = record { within = omega arith; bits_are = refl };
          red_part = record { within = omega arith; bits_are = refl };
        };
      };
      blue_after = refl;
      green_after = refl;
      red_after = refl;
      whole = whole sent (λ k low high. as_sent k);
      blue = record { at = omega arith; from = omega arith; upto = omega arith };
      green = record { at = omega arith; from = omega arith; upto = omega arith };
      red = record { at = omega arith; from = omega arith; upto = omega arith };
      blue_green = (omega arith, omega arith);
      green_red = (omega arith, omega arith);
      blue_red = (omega arith, omega arith);
    }

pub whole_stream : HasWholeStream
whole_stream =
    let lb = long_blue in
    let lg = long_green in
    let lr = long_red in
    let t : AgainStream = record {
      periods = stream;
      sent = sent;
      received = sent;
      offset = 0;
      skews = 0 ∷ (10 ∷ (20 ∷ []));
      counts = 900 ∷ (890 ∷ (880 ∷ []));
      tapped = x;
      before = 3 ∷ (3 ∷ (3 ∷ []));
      lanes = lanes;
      a = 35;
      blue = 473;
      green = 463;
      red = 453;
      bytes = layout 2 lanes.blue lanes.green lanes.red;
    } in (
      t,
      27,
      record {
        comes = comes;
        captured = captured lanes.blue lanes.green lanes.red (omega arith) (omega arith) (omega arith);
        spared = λ i late ends inside. inl (λ k low high. as_sent k);
      },
    )
