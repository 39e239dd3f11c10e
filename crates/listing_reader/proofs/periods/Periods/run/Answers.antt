use Rattle.std.proofs.Common.{◌≡◌, ◌+◌, ◌≤◌, ◌++◌, ◌∷◌, [], List, true, false, ap, sym, ◌∙◌, arith}
use Rattle.std.specs.Prelude.{nat_le}
use Rattle.island_pack.specs.Periods.{ControlRun, Period, control}
use Rattle.island_pack.specs.declared.ranges.TheConstants.{COLUMN_LIMIT}
use Rattle.source_end.specs.Refusals.{is_in_range}
use Rattle.listing_reader.specs.declared.fault.ListCause.TheVariants.{Range, Long}
use Rattle.listing_reader.specs.Drafts.{with_run}
use Rattle.listing_reader.specs.Reported.{with_open}
use Rattle.listing_reader.proofs.FramedOpen.{framed_run}
use Rattle.listing_reader.proofs.OpenPeriods.{in_range_more, run_more, le_from}
use Rattle.listing_reader.proofs.Refused.{stops_here, goes_past, answers_cause, answers_ok}
use Rattle.listing_reader.proofs.periods.Periods.run.Goals as goal

pub returns-then-not-is_run_in_range-clause-cause : goal.returns-then-not-is_run_in_range-clause-cause
returns-then-not-is_run_in_range-clause-cause g c = answers_cause _ _ Range (stops_here _ Range _ (sym c.is_run_in_range.ensures ∙ c.if-not-is_run_in_range.true))

pub returns-then-not-has_room-clause-cause : goal.returns-then-not-has_room-clause-cause
returns-then-not-has_room-clause-cause g c =
    let room : nat_le (g.F.Framing.rules.columns_of c.args.self + c.args.count) COLUMN_LIMIT ≡ false =
    ap (λ n. nat_le (n + c.args.count) COLUMN_LIMIT) (sym c.columns.ensures.value) ∙ sym c.has_room.ensures ∙ c.if-not-has_room.true in
    answers_cause _ _ Long (goes_past _ Range _ (sym c.is_run_in_range.ensures ∙ c.if-not-is_run_in_range.false) ∙ stops_here _ Long _ room)

pub invariant_of-periods : goal.invariant_of-periods
invariant_of-periods g c =
    let r = c.periods.inside in
    let columns_of = g.F.Framing.rules.columns_of in
    let one : ControlRun = record { value = c.args.value; count = c.args.count } in
    let grown : c.push.new.self ≡ r.runs ++ one ∷ [] = c.in_ok-push.ensures.ok in
    let all = framed_run _ _ _ c.lawful.ensures r.items r.runs one in
    let room : c.columns.result + c.args.count ≤ COLUMN_LIMIT = le_from (c.columns.result + c.args.count) COLUMN_LIMIT (sym c.has_room.ensures ∙ c.if-not-has_room.false) in
    let was : c.columns.result ≡ columns_of (with_open r.items r.runs) = c.columns.ensures.value ∙ sym (ap columns_of c.periods.view_is) in
    let now = ap (λ (rs : List ControlRun). columns_of (with_open r.items rs)) grown in
    record {
      few = omega arith;
      turn = c.periods.invariant.turn;
      in_range = ap (λ (rs : List ControlRun). is_in_range (control rs)) grown ∙ in_range_more r.runs one c.periods.invariant.in_range (sym c.is_run_in_range.ensures ∙ c.if-not-is_run_in_range.false);
    }

pub returns-clause-cause : goal.returns-clause-cause
returns-clause-cause g c =
    let room : nat_le (g.F.Framing.rules.columns_of c.args.self + c.args.count) COLUMN_LIMIT ≡ true =
    ap (λ n. nat_le (n + c.args.count) COLUMN_LIMIT) (sym c.columns.ensures.value) ∙ sym c.has_room.ensures ∙ c.if-not-has_room.false in
    answers_ok _ _ (goes_past _ Range _ (sym c.is_run_in_range.ensures ∙ c.if-not-is_run_in_range.false) ∙ goes_past _ Long _ room)

pub returns-clause-ok : goal.returns-clause-ok
returns-clause-ok g c =
    let r = c.periods.inside in
    let one : ControlRun = record { value = c.args.value; count = c.args.count } in
    let grown : c.push.new.self ≡ r.runs ++ one ∷ [] = c.in_ok-push.ensures.ok in
    ap (λ (rs : List ControlRun). with_open r.items rs) grown ∙ sym (run_more r.items r.runs one c.periods.invariant.turn) ∙ ap (λ (ps : List Period). with_run ps one) c.periods.view_is
