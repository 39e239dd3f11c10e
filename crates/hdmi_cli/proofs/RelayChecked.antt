-- What `check` says of what `relay` wrote.
use Rattle.std.proofs.Common.{◌≡◌, ℕ, ◌≤◌, Bool, true, false, not, List, [], ◌∷◌, ◌++◌, length, refl, ap, ◌∙◌, sym, subst, inl, inr, arith}
use Rattle.std.specs.Prelude.{codes, count_by}
use Rattle.std.proofs.lemmas.List.Sums.{sum_by-cons}
use Rattle.tmds_word.specs.Column.{Column}
use Rattle.tmds_word.proofs.Below.{and-left, and-right}
use Rattle.island_pack.specs.Conforming.{IsConforming, conforms}
use Rattle.island_pack.specs.Periods.{ControlRun, Period, control, video, island, columns_of, ISLAND_PREAMBLE}
use Rattle.island_pack.proofs.Spelled.{conforming_is_spelled}
use Rattle.island_pack.specs.Spelling.{Spells}
use Rattle.island_pack.specs.declared.ranges.TheConstants.{COLUMN_LIMIT}
use Rattle.period_grammar.specs.Events.{Event}
use Rattle.period_grammar.specs.Exact.{is_fault_event, faultless}
use Rattle.lane_deskew.specs.Aligned.{aligned_columns}
use Rattle.lane_deskew.specs.Triples.{IsTriple}
use Rattle.link_sink.specs.Grammar.{link_grammar}
use Rattle.link_laws.proofs.Freely.{free_spelled}
use Rattle.listing_writer.specs.Texts.{fault_lines}
use Rattle.listing_writer.specs.Checks.{check_lines, verdict_line}
use Rattle.capture_file.specs.Captures.{IsCaptureOf}
use Rattle.capture_file.specs.Taps.{tapped_capture}
use Rattle.capture_file.proofs.OneCapture.{one_capture, no_fault}
use Rattle.relay.specs.Relayed.{relayed}
use Rattle.relay.proofs.Below.{facts}
use Rattle.relay.proofs.Conforming.{relayed_conforms}
use Rattle.relay.proofs.Own.{relayed_again, spelled_long}
use Rattle.capture_commands.specs.Listings.{check_listing}
use Rattle.capture_commands.specs.Listers.{check_is_text}
use Rattle.capture_commands.specs.Outcome.{RunOutcome, ListsCapture, ListsLanes, status_with}
use Rattle.capture_commands.specs.Relays.{whole_tap}
use Rattle.hdmi_cli.specs.RelayChecked.{IsClean, RelayIsClean, HasCheckedRelay}
use Rattle.hdmi_cli.proofs.Headline.{capture_listing, same_lanes}
use Rattle.hdmi_cli.proofs.OwnCapture.{blue_of, green_of, red_of, own_captured, own_nowhere}
use Rattle.hdmi_cli.proofs.RelayAgain.{heard_again}
use Rattle.hdmi_cli.proofs.RelayExamples.{one_packet, announces, from_line, island_and_line, are_sent, few_columns}

not_true : (p : Bool) → not p ≡ true → p ≡ false
not_true p h = grind arith

counts_none : (ts : List Event) → faultless ts ≡ true → count_by is_fault_event ts ≡ 0
counts_none [] h = refl
counts_none (t ∷ ts) h = grind (arith, sum_by-cons, not_true, and-left, and-right, counts_none ts)

none : (ts : List Event) → faultless ts ≡ true → fault_lines ts ≡ 0
unfolding fault_lines
none ts h = counts_none ts h

clean_line : verdict_line 0 ≡ codes "clean\n"
clean_line = refl

-- with an edge it is aligned, and reported without a fault
with_edge : (events : List Event) (runs : List ControlRun) (q : Period) (ps : List Period) (columns : List Column) (o : RunOutcome)
    → relayed events ≡ control runs ∷ (q ∷ ps) → columns_of (relayed events) ≤ COLUMN_LIMIT → Spells (relayed events) columns
    → ListsCapture link_grammar check_listing (tapped_capture columns whole_tap) o → IsClean o
with_edge events runs q ps columns o are few spelled does =
    let again = heard_again (relayed_again facts) events runs q ps columns are few spelled in
    let own = again.own in
    let is = capture_listing link_grammar check_listing again.events (blue_of columns) (green_of columns) (red_of columns) own.blue own.green own.red (tapped_capture columns whole_tap) o again.captured own.first again.reported does in
    let zero = none again.events again.faultless_is in
    inl (is.status ∙ ap status_with zero, (check_lines again.events, is.output ∙ (check_is_text.whole again.events ∙ ap (λ (l : List ℕ). check_lines again.events ++ l) (ap verdict_line zero ∙ clean_line))))

-- lanes that are aligned nowhere
lanes_nowhere : (x y z : List Bool) (o : RunOutcome) → ((d e f : ℕ) → IsTriple x y z d e f → ⊥) → ListsLanes link_grammar check_listing x y z o → o.status ≡ 7
lanes_nowhere x y z o nowhere (inl (columns, events, aligned, is)) = absurd (nowhere aligned.blue aligned.green aligned.red aligned.first.triple)
lanes_nowhere x y z o nowhere (inr (columns, events, reported, is)) = ap (λ (r : RunOutcome). r.status) is

capture_nowhere : (x y z : List Bool) (bytes : List ℕ) (o : RunOutcome) → IsCaptureOf x y z bytes → ((d e f : ℕ) → IsTriple x y z d e f → ⊥) → ListsCapture link_grammar check_listing bytes o → o.status ≡ 7
capture_nowhere x y z bytes o holds nowhere (inl (u, v, w, is, lists)) =
    lanes_nowhere x y z o nowhere (same_lanes link_grammar check_listing x y z u v w o (one_capture x y z u v w bytes holds is) lists)
capture_nowhere x y z bytes o holds nowhere (inr (fault, is)) = absurd (no_fault bytes fault (record { blue = x; green = y; red = z; holds = holds }) is.is)

-- one control period alone
alone : (events : List Event) (runs : List ControlRun) (columns : List Column) (o : RunOutcome) → relayed events ≡ control runs ∷ [] → columns_of (relayed events) ≤ COLUMN_LIMIT → Spells (relayed events) columns
    → ListsCapture link_grammar check_listing (tapped_capture columns whole_tap) o → IsClean o
alone events runs columns o are few spelled does =
    let all = control runs ∷ [] in
    let good : IsConforming all = subst (λ (xs : List Period). IsConforming xs) are (relayed_conforms events) in
    let own_spelled : Spells all columns = subst (λ (xs : List Period). Spells xs columns) are spelled in
    let many = spelled_long all columns (free_spelled all columns own_spelled) in
    let size = ap columns_of are in
    let captured = own_captured columns (omega (arith, many, size, few)) in
    inr (capture_nowhere (blue_of columns) (green_of columns) (red_of columns) (tapped_capture columns whole_tap) o captured (own_nowhere runs columns good own_spelled) does)

by_periods : (events : List Event) (ps : List Period) (columns : List Column) (o : RunOutcome) → IsConforming ps → relayed events ≡ ps → columns_of (relayed events) ≤ COLUMN_LIMIT → Spells (relayed events) columns
    → ListsCapture link_grammar check_listing (tapped_capture columns whole_tap) o → IsClean o
unfolding conforms
by_periods events [] columns o good are few spelled does = absurd cc
by_periods events (control runs ∷ []) columns o good are few spelled does = alone events runs columns o are few spelled does
by_periods events (control runs ∷ (q ∷ ps)) columns o good are few spelled does = with_edge events runs q ps columns o are few spelled does
by_periods events (video bytes ∷ ps) columns o good are few spelled does = absurd cc
by_periods events (island x ∷ ps) columns o good are few spelled does = absurd cc

pub relay_is_clean : RelayIsClean
relay_is_clean events text sent o does =
    by_periods events (relayed events) sent.columns o (relayed_conforms events) refl sent.few sent.spelled
    (subst (λ (bytes : List ℕ). ListsCapture link_grammar check_listing bytes o) sent.output_is does)

-- An island and a line that were relayed.

pub checked_relay : HasCheckedRelay
checked_relay =
    let made = conforming_is_spelled (relayed island_and_line) (relayed_conforms island_and_line) in
    let columns = made.0 in
    let again = heard_again (relayed_again facts) island_and_line (announces ISLAND_PREAMBLE) (island one_packet) from_line columns are_sent few_columns made.1 in
    let own = again.own in
    let o : RunOutcome = record { status = status_with (check_listing.faults again.events); output = check_listing.text again.events; note = [] } in (
      island_and_line,
      tapped_capture columns whole_tap,
      o,
      record { columns = columns; few = few_columns; spelled = made.1; output_is = refl },
      inl (
        blue_of columns,
        green_of columns,
        red_of columns,
        again.captured,
        inl (
          length (aligned_columns (blue_of columns) (green_of columns) (red_of columns) own.blue own.green own.red),
          again.events,
          record { blue = own.blue; green = own.green; red = own.red; first = own.first; columns_are = refl; reported = sym again.reported },
          refl,
        ),
      ),
      ap status_with (none again.events again.faultless_is),
    )
