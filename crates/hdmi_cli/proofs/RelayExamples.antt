-- A clean capture, and one that was relayed and is relayed again.
use Rattle.std.proofs.Common.{◌≡◌, ℕ, ◌*◌, ◌≤◌, Bool, true, List, [], ◌∷◌, length, drop, replicate, refl, ap, sym, ◌∙◌, subst, inl, arith, length-drop, append-nil}
use Rattle.tmds_word.specs.Column.{Column}
use Rattle.terc4.specs.Columns.{is_control_column, one_if}
use Rattle.terc4.specs.Tables.{control_words, is_control, is_in, video_guard}
use Rattle.bch_block.specs.declared.Verdict.TheVariants.{Clean}
use Rattle.capture_file.specs.Taps.{tapped_capture}
use Rattle.island_pack.specs.Conforming.{IsConforming, conforms, is_control_period, is_video_period, is_packet, is_data_island}
use Rattle.island_pack.specs.Periods.{ControlRun, DataIsland, Period, control, video, island, values_of, has_preamble, period_columns, columns_of, VIDEO_PREAMBLE, ISLAND_PREAMBLE}
use Rattle.island_pack.specs.Runs.{longest}
use Rattle.island_pack.specs.Spelling.{Spells}
use Rattle.island_pack.specs.Taken.{first_lost}
use Rattle.island_pack.specs.declared.packet.Packet.{Packet}
use Rattle.island_pack.specs.declared.packet.PacketVerdicts.{PacketVerdicts}
use Rattle.island_pack.proofs.Spelled.{conforming_is_spelled}
use Rattle.island_pack.specs.declared.ranges.TheConstants.{COLUMN_LIMIT}
use Rattle.lane_deskew.specs.Aligned.{aligned_columns}
use Rattle.period_grammar.specs.Cut.{stretches}
use Rattle.period_grammar.specs.Events.{Event, line, open_island, packet, close_island}
use Rattle.period_grammar.specs.Exact.{IsFront}
use Rattle.link_laws.specs.Whole.{ends_long}
use Rattle.link_laws.proofs.exact.Arrivals.{front_is_clean}
use Rattle.link_laws.proofs.exact.Law.{check_is_exact}
use Rattle.track_laws.proofs.SlipStream.{stream, sent, reception}
use Rattle.relay.specs.Relayed.{without_faults, kept_from, kept, nulled, gathered, announcing, settled, conformed, relayed}
use Rattle.relay.proofs.Conforming.{relayed_conforms}
use Rattle.relay.specs.Own.{RelayedAgain, cut_first}
use Rattle.link_laws.proofs.Freely.{free_spelled}
use Rattle.capture_commands.specs.Outcome.{RunOutcome}
use Rattle.hdmi_cli.specs.RelayClauses.{IsCleanToEnd}
use Rattle.hdmi_cli.specs.RelayExamples.{HasCleanCapture, HasRelayedTwice}
use Rattle.capture_commands.specs.Relays.{relay_status, whole_tap}
use Rattle.hdmi_cli.proofs.OwnCapture.{blue_of, green_of, red_of, own_aligned, own_captured}
use Rattle.hdmi_cli.proofs.RelayAgain.{cut_spelled, heard_again}

-- The short stream from the last twelve columns of its first control period on.

abbrev times : ℕ → ℕ → ControlRun
times value count = record { value = value; count = count }

abbrev twelve : List ControlRun
twelve = times 0 12 ∷ []

abbrev first_runs : List ControlRun
first_runs = times 0 16 ∷ (times 4 8 ∷ [])

abbrev from_second : List Period
from_second = control (times 0 12 ∷ (times 4 8 ∷ [])) ∷ (video (replicate 3 16) ∷ (control twelve ∷ []))

abbrev from_long : List Period
from_long = video (replicate 90 16) ∷ from_second

long_sent : length sent ≡ 91
unfolding sent values_of video_guard
long_sent = refl

starts : stream ≡ control first_runs ∷ from_long
unfolding stream
starts = refl

first_long : length (values_of first_runs) ≡ 24
unfolding values_of
first_long = refl

cut_conforms : IsConforming (cut_first 12 (control first_runs ∷ from_long))
unfolding cut_first conforms is_control_period is_video_period values_of has_preamble longest
cut_conforms = refl

ends_in_control : ends_long (stretches (drop 12 sent)) ≡ true
unfolding stretches is_control_column one_if is_control is_in control_words sent values_of video_guard
ends_in_control = refl

clean_end : IsCleanToEnd (drop 12 sent)
clean_end =
    let spelled : Spells (control first_runs ∷ from_long) sent = subst (λ (ps : List Period). Spells ps sent) starts reception.spelled in
    let n = first_long in
    let cut = cut_spelled 12 first_runs from_long sent (omega (arith, n)) (free_spelled (control first_runs ∷ from_long) sent spelled) in
    let front : IsFront (drop 12 sent) = record { periods = _; spelled = drop 12 sent; conforming = cut_conforms; spells = cut; rest = []; front = sym (append-nil (drop 12 sent)) } in
    record { clean = (check_is_exact (drop 12 sent)).0 (front_is_clean (drop 12 sent) front); ends = ends_in_control }

pub clean_capture : HasCleanCapture
clean_capture =
    let spelled : Spells (control first_runs ∷ from_long) sent = subst (λ (ps : List Period). Spells ps sent) starts reception.spelled in
    let good : IsConforming (control first_runs ∷ from_long) = subst (λ (ps : List Period). IsConforming ps) starts reception.conforming in
    let n = first_long in
    let long = long_sent in
    let own = own_aligned first_runs (video (replicate 90 16)) from_second sent good spelled (omega (arith, n, long)) in
    let from = own.from in
    let a : own.a ≡ 12 = omega (arith, from, n) in
    let aligned = own.aligned ∙ ap (λ k. drop k sent) a in
    let size = length-drop 12 sent in (
      blue_of sent,
      green_of sent,
      red_of sent,
      own.blue,
      own.green,
      own.red,
      tapped_capture sent whole_tap,
      record {
        captured = record { captured = own_captured sent (omega (arith, long)); first = own.first };
        clean = subst (λ (cs : List Column). IsCleanToEnd cs) (sym aligned) clean_end;
        size = ap length aligned ∙ omega (arith, size, long);
      },
    )

-- A data island with a packet of zeros, and a line of one pixel.

abbrev zeros : Packet
zeros = record { header = replicate 3 0; bodies = replicate 28 0; sync = replicate 32 0 }

abbrev clean : PacketVerdicts
clean = record { blocks = replicate 5 Clean; symbols = 0 }

abbrev pub island_and_line : List Event
island_and_line = open_island 0 0 ∷ (packet zeros clean 0 ∷ (close_island 0 0 ∷ (line (replicate 3 16) ∷ [])))

abbrev pub one_packet : DataIsland
one_packet = record { opening = record { first = 0; second = 0 }; packets = zeros ∷ []; closing = record { first = 0; second = 0 } }

abbrev pub announces : ℕ → List ControlRun
announces bits = times 0 4 ∷ (times (4 * bits) 8 ∷ [])

abbrev pub from_line : List Period
from_line = control (announces VIDEO_PREAMBLE) ∷ (video (replicate 3 16) ∷ (control twelve ∷ []))

pub are_sent : relayed island_and_line ≡ control (announces ISLAND_PREAMBLE) ∷ (island one_packet ∷ from_line)
unfolding relayed conformed settled gathered nulled kept kept_from without_faults announcing longest is_data_island is_packet is_video_period first_lost
are_sent = refl

pub few_columns : columns_of (relayed island_and_line) ≤ COLUMN_LIMIT
unfolding columns_of period_columns values_of
few_columns = let e = ap columns_of are_sent in omega (arith, e)

pub relayed_twice : RelayedAgain → HasRelayedTwice
relayed_twice law =
    let made = conforming_is_spelled (relayed island_and_line) (relayed_conforms island_and_line) in
    let columns = made.0 in
    let again = heard_again law island_and_line (announces ISLAND_PREAMBLE) (island one_packet) from_line columns are_sent few_columns made.1 in
    let own = again.own in
    let next = conforming_is_spelled (relayed again.events) (relayed_conforms again.events) in
    let output = tapped_capture next.0 whole_tap in
    let second : RunOutcome = record { status = 0; output = output; note = [] } in (
      island_and_line,
      tapped_capture columns whole_tap,
      second,
      record {
        sent = record { first = announces ISLAND_PREAMBLE; x = one_packet; second = announces VIDEO_PREAMBLE; bytes = replicate 3 16; last = twelve; are = are_sent };
        relayed_is = record { columns = columns; few = few_columns; spelled = made.1; output_is = refl };
        does = inl (
          blue_of columns,
          green_of columns,
          red_of columns,
          length (aligned_columns (blue_of columns) (green_of columns) (red_of columns) own.blue own.green own.red),
          again.events,
          output,
          again.captured,
          record { blue = own.blue; green = own.green; red = own.red; first = own.first; columns_are = refl; reported = sym again.reported },
          record { columns = next.0; few = again.few; spelled = next.1; output_is = refl },
          ap (λ (b : Bool). record { status = relay_status b; output = output; note = [] }) (sym again.faultless_is),
        );
        done = refl;
      },
    )
