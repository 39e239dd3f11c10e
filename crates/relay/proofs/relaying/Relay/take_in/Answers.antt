use Rattle.std.proofs.Common.{◌≡◌, None, arith, true, false, refl, ap, subst}
use Rattle.period_grammar.specs.Events.{run, line, cut, open_island, packet, close_island}
use Rattle.period_grammar.specs.Lending.{lent_event}
use Rattle.period_grammar.specs.Faults.{fault_event}
use Rattle.period_grammar.specs.Sizes.{IsSized}
use Rattle.period_grammar.specs.Exact.{faultless}
use Rattle.std.specs.Prelude.{slice_index}
use Rattle.source_end.proofs.Gathered.{on_ok}
use Rattle.relay.specs.declared.relaying.Relay.{Relay}
use Rattle.relay.specs.Laws.{turns_in, begun_in}
use Rattle.relay.specs.Standing.{IsAt}
use Rattle.relay.proofs.Fits.{line_reported}
use Rattle.relay.proofs.Moving.{run_turns, line_turns, close_turns, fault_turns, no_fault, some_fault, run_island, line_island, open_after, packet_after, close_island_after, cut_after, moved, moved_columns, few_at, cause_for_each, if_err, wanting_refuses}
use Rattle.relay.proofs.relaying.Relay.take_in.Goals as goal

pub returns-in-Run-clause-stands : goal.returns-in-Run-clause-stands
returns-in-Run-clause-stands c events s =
    let x = run c.in-Run.value c.in-Run.count in
    let e : lent_event c.args.event ≡ x = ap lent_event c.in-Run.is in
    let sized : IsSized x = subst IsSized e c.requires in
    let b = begun_in events in
    let good = faultless events in
    let steps = c.run.ensures.steps (turns_in events) b good s in
    on_ok c.run.result _ _ (λ at. moved c.run.new.self events (lent_event c.args.event) x _ None good e (run_turns (turns_in events) b c.in-Run.value c.in-Run.count sized.0 sized.1) (run_island b c.in-Run.value c.in-Run.count) (no_fault good x refl) at) steps.0

pub returns-in-Run-clause-refused : goal.returns-in-Run-clause-refused
returns-in-Run-clause-refused c =
    let x = run c.in-Run.value c.in-Run.count in
    let e : lent_event c.args.event ≡ x = ap lent_event c.in-Run.is in
    let sized : IsSized x = subst IsSized e c.requires in
    cause_for_each c.run.result c.args.self.now (lent_event c.args.event)
    (λ events s.
    let b = begun_in events in
    if_err c.run.result _ _ (moved_columns events (lent_event c.args.event) x _ e (run_turns (turns_in events) b c.in-Run.value c.in-Run.count sized.0 sized.1)) (c.run.ensures.steps (turns_in events) b (faultless events) s).1)

pub returns-in-Line-clause-stands : goal.returns-in-Line-clause-stands
returns-in-Line-clause-stands c events s =
    let x = line c.in-Line.pixels.now in
    let e : lent_event c.args.event ≡ x = ap lent_event c.in-Line.is in
    let sized : IsSized x = subst IsSized e c.requires in
    let b = begun_in events in
    let good = faultless events in
    let steps = c.line.ensures.steps (turns_in events) b good s in
    on_ok c.line.result _ _ (λ at. moved c.line.new.self events (lent_event c.args.event) x _ None good e (line_turns (turns_in events) b c.in-Line.pixels.now (line_reported c.in-Line.pixels.now sized)) (line_island b c.in-Line.pixels.now) (no_fault good x refl) at) steps.0

pub returns-in-Line-clause-refused : goal.returns-in-Line-clause-refused
returns-in-Line-clause-refused c =
    let x = line c.in-Line.pixels.now in
    let e : lent_event c.args.event ≡ x = ap lent_event c.in-Line.is in
    let sized : IsSized x = subst IsSized e c.requires in
    cause_for_each c.line.result c.args.self.now (lent_event c.args.event)
    (λ events s.
    let b = begun_in events in
    if_err c.line.result _ _ (moved_columns events (lent_event c.args.event) x _ e (line_turns (turns_in events) b c.in-Line.pixels.now (line_reported c.in-Line.pixels.now sized))) (c.line.ensures.steps (turns_in events) b (faultless events) s).1)

pub returns-in-Close-clause-stands : goal.returns-in-Close-clause-stands
returns-in-Close-clause-stands c events s =
    let x = close_island (slice_index c.in-Close.sync 0) (slice_index c.in-Close.sync 1) in
    let e : lent_event c.args.event ≡ x = ap lent_event c.in-Close.is in
    let sized : IsSized x = subst IsSized e c.requires in
    let b = begun_in events in
    let good = faultless events in
    let steps = c.close.ensures.steps (turns_in events) b good s in
    on_ok c.close.result _ _ (λ at. moved c.close.new.self events (lent_event c.args.event) x _ None good e (close_turns (turns_in events) b (slice_index c.in-Close.sync 0) (slice_index c.in-Close.sync 1)) (close_island_after b (slice_index c.in-Close.sync 0) (slice_index c.in-Close.sync 1)) (no_fault good x refl) at) steps.0

pub returns-in-Close-clause-refused : goal.returns-in-Close-clause-refused
returns-in-Close-clause-refused c =
    let x = close_island (slice_index c.in-Close.sync 0) (slice_index c.in-Close.sync 1) in
    let e : lent_event c.args.event ≡ x = ap lent_event c.in-Close.is in
    let sized : IsSized x = subst IsSized e c.requires in
    cause_for_each c.close.result c.args.self.now (lent_event c.args.event)
    (λ events s.
    let b = begun_in events in
    if_err c.close.result _ _ (moved_columns events (lent_event c.args.event) x _ e (close_turns (turns_in events) b (slice_index c.in-Close.sync 0) (slice_index c.in-Close.sync 1))) (c.close.ensures.steps (turns_in events) b (faultless events) s).1)

pub returns-in-Open-clause-stands : goal.returns-in-Open-clause-stands
returns-in-Open-clause-stands c events s =
    let i = slice_index c.in-Open.sync 0 in
    let j = slice_index c.in-Open.sync 1 in
    let x = open_island i j in
    let both = open_after (turns_in events) (begun_in events) i j in
    let good = faultless events in
    moved c.begin.new.self events (lent_event c.args.event) x _ _ good (ap lent_event c.in-Open.is) both.0 both.1 (no_fault good x refl) (c.begin.ensures.at (turns_in events) (begun_in events) good s)

pub returns-in_ok-packet-in-Packet-clause-stands : goal.returns-in_ok-packet-in-Packet-clause-stands
returns-in_ok-packet-in-Packet-clause-stands c events s =
    let p = c.in-Packet.packet.packet.now in
    let v = c.in-Packet.packet.verdicts.now in
    let x = packet p v c.in-Packet.column in
    let both = packet_after (turns_in events) (begun_in events) p v c.in-Packet.column in
    let good = faultless events in
    moved c.packet.new.self events (lent_event c.args.event) x _ _ good (ap lent_event c.in-Packet.is) both.0 both.1 (no_fault good x refl) (c.in_ok-packet-in-Packet.ensures.at (turns_in events) (begun_in events) good s)

pub returns-in_err-packet-in-Packet-clause-refused : goal.returns-in_err-packet-in-Packet-clause-refused
returns-in_err-packet-in-Packet-clause-refused c =
    let p = c.in-Packet.packet.packet.now in
    let v = c.in-Packet.packet.verdicts.now in
    let x = packet p v c.in-Packet.column in
    wanting_refuses c.from_residual.result c.args.self.now (lent_event c.args.event) c.from_residual.ensures.1
    (λ events s.
    let both = packet_after (turns_in events) (begun_in events) p v c.in-Packet.column in
    let same = moved_columns events (lent_event c.args.event) x (turns_in events) (ap lent_event c.in-Packet.is) both.0 in
    let few = few_at c.args.self.now (turns_in events) (begun_in events) (faultless events) s in
    omega (arith, same, few))

pub returns-in-Fault-clause-stands : goal.returns-in-Fault-clause-stands
returns-in-Fault-clause-stands c events s =
    let x = fault_event c.in-Fault.field-0 in
    let all = fault_turns (turns_in events) (begun_in events) c.in-Fault.field-0 in
    let now : Relay = record { whole = c.args.self.now.whole; period = c.args.self.now.period; period_columns = c.args.self.now.period_columns; columns = c.args.self.now.columns; island = c.args.self.now.island; faulty = true; trouble = c.args.self.now.trouble; faults = c.args.self.now.faults } in
    let at : IsAt now (turns_in events) (begun_in events) false = record { whole = s.whole; period = s.period; period_columns = s.period_columns; columns = s.columns; few = s.few; island = s.island; fits = s.fits; faulty = refl } in
    moved now events (lent_event c.args.event) x _ _ false (ap lent_event c.in-Fault.is) all.0 all.1 (some_fault (faultless events) x all.2) at

pub returns-in-Cut-clause-stands : goal.returns-in-Cut-clause-stands
returns-in-Cut-clause-stands c events s =
    let x = cut c.in-Cut.column in
    let both = cut_after (turns_in events) (begun_in events) c.in-Cut.column in
    let good = faultless events in
    let now : Relay = record { whole = c.args.self.now.whole; period = c.args.self.now.period; period_columns = c.args.self.now.period_columns; columns = c.args.self.now.columns; island = None; faulty = c.args.self.now.faulty; trouble = c.args.self.now.trouble; faults = c.args.self.now.faults } in
    let at : IsAt now (turns_in events) None good = record { whole = s.whole; period = s.period; period_columns = s.period_columns; columns = s.columns; few = s.few; island = refl; fits = tt; faulty = s.faulty } in
    moved now events (lent_event c.args.event) x _ _ good (ap lent_event c.in-Cut.is) both.0 both.1 (no_fault good x refl) at
