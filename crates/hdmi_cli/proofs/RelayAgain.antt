-- What `relay` makes of what it wrote: the same from the last twelve columns of its first control period on.
use Rattle.std.proofs.Common.{◌≡◌, ◌<◌, ◌≤◌, ℕ, suc, zero, true, List, [], ◌∷◌, length, map, drop, ap, sym, ◌∙◌, subst, inl, inr, refl, arith, length-drop}
use Rattle.std.specs.Prelude.{Option, Some}
use Rattle.std.specs.Io.KnownBytes.{Appends}
use Rattle.std.proofs.lemmas.List.{drop-append-le, append-nil, length-map}
use Rattle.tmds_word.specs.Column.{Column}
use Rattle.capture_file.specs.Captures.{IsCaptureOf}
use Rattle.capture_file.specs.Taps.{tapped_capture}
use Rattle.lane_deskew.specs.Aligned.{aligned_columns}
use Rattle.island_pack.specs.Conforming.{IsConforming, conforms}
use Rattle.island_pack.specs.Periods.{ControlRun, Period, control, video, island, values_of, period_columns, columns_of}
use Rattle.island_pack.specs.Spelling.{control_column, SpellsBy, Spells, freely}
use Rattle.island_pack.proofs.Runs.{values_longest}
use Rattle.island_pack.specs.declared.ranges.TheConstants.{COLUMN_LIMIT}
use Rattle.period_grammar.specs.Exact.{IsFront, faultless}
use Rattle.period_grammar.specs.Heard.{heard}
use Rattle.period_grammar.specs.Events.{Event}
use Rattle.link_laws.specs.Account.{account}
use Rattle.link_laws.proofs.exact.Arrivals.{front_is_clean}
use Rattle.relay.specs.Own.{RelayedAgain, cut_first}
use Rattle.relay.specs.Relayed.{relayed}
use Rattle.relay.proofs.Conforming.{relayed_conforms}
use Rattle.link_laws.proofs.Freely.{free_spelled}
use Rattle.relay.proofs.Own.{spelled_long}
use Rattle.command_line.specs.Commands.{IsCommand}
use Rattle.command_line.specs.declared.command.Command.TheVariants.{Relay}
use Rattle.capture_commands.specs.Endings.{Devices, RunEnds, Unless, status_of}
use Rattle.capture_commands.specs.Outcome.{RunOutcome, Relays}
use Rattle.hdmi_cli.specs.RelayClauses.{ComesBack, IsRelayedAgain}
use Rattle.capture_commands.specs.Relays.{IsRelayed, whole_tap}
use Rattle.capture_commands.specs.declared.ending.Ending.{Ending}
use Rattle.hdmi_cli.proofs.Headline.{run_ended}
use Rattle.hdmi_cli.proofs.OwnCapture.{IsOwn, blue_of, green_of, red_of, own_aligned, own_captured, own_nowhere}
use Rattle.hdmi_cli.proofs.RelayHeadline.{capture_relay, keeps_of, nowhere_relay}

-- What is spelled without the first columns.

map-drop : (a : ℕ) (vs : List ℕ) → map control_column (drop a vs) ≡ drop a (map control_column vs)
map-drop zero vs = refl
map-drop (suc a) [] = refl
map-drop (suc a) (v ∷ vs) = map-drop a vs

pub cut_spelled : (a : ℕ) (runs : List ControlRun) (ps : List Period) (cs : List Column) → a ≤ length (values_of runs) → SpellsBy freely (control runs ∷ ps) cs
    → SpellsBy freely (cut_first a (control runs ∷ ps)) (drop a cs)
unfolding cut_first
cut_spelled a runs ps cs le h = grind (arith, length-map, drop-append-le, map-drop, values_longest)

-- With an edge.

-- a period after the first has columns
columns_more : (runs : List ControlRun) (q : Period) (ps : List Period) → IsConforming (control runs ∷ (q ∷ ps)) → length (values_of runs) < columns_of (control runs ∷ (q ∷ ps))
unfolding conforms columns_of period_columns
columns_more runs q ps h = grind arith

-- what is heard of what was relayed: all from the last twelve columns of its first control period on, without a fault
pub record IsHeardAgain (runs : List ControlRun) (ps : List Period) (columns : List Column) : Type 0 where
  pub own : IsOwn runs ps columns
  pub events : List Event
  pub reported : heard (aligned_columns (blue_of columns) (green_of columns) (red_of columns) own.blue own.green own.red) ≡ events
  pub back : relayed events ≡ cut_first own.a (control runs ∷ ps)
  pub few : columns_of (relayed events) ≤ COLUMN_LIMIT
  pub front : IsFront (drop own.a columns)
  pub faultless_is : faultless events ≡ true
  pub captured : IsCaptureOf (blue_of columns) (green_of columns) (red_of columns) (tapped_capture columns whole_tap)

pub heard_again : RelayedAgain → (events : List Event) (runs : List ControlRun) (q : Period) (ps : List Period) (columns : List Column)
    → relayed events ≡ control runs ∷ (q ∷ ps) → columns_of (relayed events) ≤ COLUMN_LIMIT → Spells (relayed events) columns → IsHeardAgain runs (q ∷ ps) columns
heard_again law events runs q ps columns are few spelled =
    let all = control runs ∷ (q ∷ ps) in
    let good : IsConforming all = subst (λ (xs : List Period). IsConforming xs) are (relayed_conforms events) in
    let own_spelled : Spells all columns = subst (λ (xs : List Period). Spells xs columns) are spelled in
    let free = free_spelled all columns own_spelled in
    let many = spelled_long all columns free in
    let size = ap columns_of are in
    let more = columns_more runs q ps good in
    let own = own_aligned runs q ps columns good own_spelled (subst (λ n. length (values_of runs) < n) (sym many) more) in
    let a = own.a in
    let from = own.from in
    let m = length (drop a columns) in
    let reported = account all columns columns a m in
    let rest = length-drop a columns in
    let back : relayed reported ≡ cut_first a all =
    ap (λ xs. relayed (account xs columns columns a m)) (sym are) ∙ law events runs (q ∷ ps) are columns spelled a m from (omega (arith, rest)) ∙ ap (cut_first a) are in
    let cut = cut_spelled a runs (q ∷ ps) columns (omega (arith, from)) free in
    let cut_many = spelled_long (cut_first a all) (drop a columns) cut in
    let back_many = ap columns_of back in
    let conforming = subst (λ (ps : List Period). IsConforming ps) back (relayed_conforms reported) in
    let front : IsFront (drop a columns) = record { periods = _; spelled = drop a columns; conforming = conforming; spells = cut; rest = []; front = sym (append-nil (drop a columns)) } in
    let same : heard (drop a columns) ≡ reported = ap heard (sym own.aligned) ∙ own.reported in
    record {
      own = own;
      events = reported;
      reported = own.reported;
      back = back;
      few = omega (arith, back_many, cut_many, rest, many, size, few);
      front = front;
      faultless_is = subst (λ (ts : List Event). faultless ts ≡ true) same (front_is_clean (drop a columns) front);
      captured = own_captured columns (subst (λ n. n ≤ COLUMN_LIMIT) (size ∙ sym many) few);
    }

pub comes_back : RelayedAgain → (events : List Event) (runs : List ControlRun) (q : Period) (ps : List Period) (columns : List Column) (o : RunOutcome) (status : ℕ) (old new : Option (List ℕ))
    → relayed events ≡ control runs ∷ (q ∷ ps) → columns_of (relayed events) ≤ COLUMN_LIMIT → Spells (relayed events) columns → o.status ≡ status → Appends old new o.output
    → Relays (tapped_capture columns whole_tap) o → ComesBack runs (q ∷ ps) status old new
comes_back law events runs q ps columns o status old new are few spelled is written does =
    let again = heard_again law events runs q ps columns are few spelled in
    let own = again.own in
    let from = own.from in
    let reported = again.events in
    let back = again.back in
    let clean_columns = again.faultless_is in
    elim (capture_relay reported (blue_of columns) (green_of columns) (red_of columns) own.blue own.green own.red (tapped_capture columns whole_tap) o again.captured own.first again.reported does) [
      | inl long ↦ let passes = long.passes in absurd (omega (arith, passes, again.few))
      | inr sent ↦ grind arith
    ]

-- With none.

pub stays_nowhere : (events : List Event) (runs : List ControlRun) (columns : List Column) (o : RunOutcome) (status : ℕ) (old new : Option (List ℕ))
    → relayed events ≡ control runs ∷ [] → columns_of (relayed events) ≤ COLUMN_LIMIT → Spells (relayed events) columns → o.status ≡ status → Appends old new o.output
    → Relays (tapped_capture columns whole_tap) o → IsRelayedAgain (control runs ∷ []) status old new
stays_nowhere events runs columns o status old new are few spelled is written does =
    let all = control runs ∷ [] in
    let good : IsConforming all = subst (λ (xs : List Period). IsConforming xs) are (relayed_conforms events) in
    let own_spelled : Spells all columns = subst (λ (xs : List Period). Spells xs columns) are spelled in
    let many = spelled_long all columns (free_spelled all columns own_spelled) in
    let size = ap columns_of are in
    let captured = own_captured columns (omega (arith, many, size, few)) in
    let made = nowhere_relay (blue_of columns) (green_of columns) (red_of columns) (tapped_capture columns whole_tap) o captured (own_nowhere runs columns good own_spelled) does in
    (sym is ∙ made.0, keeps_of old new (subst (λ out. Appends old new out) made.1 written))

-- Both.

by_periods : RelayedAgain → (events : List Event) (ps : List Period) (columns : List Column) (o : RunOutcome) (status : ℕ) (old new : Option (List ℕ)) → IsConforming ps
    → relayed events ≡ ps → columns_of (relayed events) ≤ COLUMN_LIMIT → Spells (relayed events) columns → o.status ≡ status → Appends old new o.output
    → Relays (tapped_capture columns whole_tap) o → IsRelayedAgain ps status old new
unfolding conforms
by_periods law events [] columns o status old new good are few spelled is written does = absurd cc
by_periods law events (control runs ∷ []) columns o status old new good are few spelled is written does = stays_nowhere events runs columns o status old new are few spelled is written does
by_periods law events (control runs ∷ (q ∷ ps)) columns o status old new good are few spelled is written does = comes_back law events runs q ps columns o status old new are few spelled is written does
by_periods law events (video bytes ∷ ps) columns o status old new good are few spelled is written does = absurd cc
by_periods law events (island x ∷ ps) columns o status old new good are few spelled is written does = absurd cc

pub relay_again : RelayedAgain → (words : List (List ℕ)) (ending : Ending) (before after : Devices) (status : ℕ) → RunEnds words ending before after → status ≡ status_of ending → IsCommand words Relay
    → (events : List Event) (output : List ℕ) → IsRelayed events output → before.left ≡ Some output → Unless (IsRelayedAgain (relayed events)) status before after
relay_again law words ending before after status ends is named events output sent left =
    run_ended (IsRelayedAgain (relayed events)) Relay words ending before after status ends is named (λ answers.
    let answer = answers output left in
    by_periods law events (relayed events) sent.columns answer.outcome (status_of ending) before.held after.held (relayed_conforms events) refl sent.few sent.spelled answer.status answer.written
    (subst (λ (bytes : List ℕ). Relays bytes answer.outcome) sent.output_is answer.does))
