use Rattle.std.proofs.Common.{rules, arith, ◌≡◌, ◌≤◌, ◌++◌, ap, sym, subst, List, ℕ, IsTrue, length, take, length-append, length-take-le}
use Rattle.std.proofs.lemmas.Grind.{common_steps}
use Rattle.std.proofs.lemmas.List.{take-append-le}
use Rattle.listing_reader.specs.Held.{is_feedless}
use Rattle.outside_io.proofs.Consumed.{takes_more}
use Rattle.listing_reader.proofs.Given.{too_long}
use Rattle.listing_reader.proofs.lines.LineReader.next.Goals as goal

pub returns-then-searched-eq-TOO_LONG-clause-given : goal.returns-then-searched-eq-TOO_LONG-clause-given
returns-then-searched-eq-TOO_LONG-clause-given g c =
    let m = c.min.result in
    let same = c.pending-pending.ensures in
    let feedless : IsTrue (is_feedless (take m c.pending-pending.result.now)) = c.in_default.ensures in
    too_long _ _ c.args.self.now c.reads.self c.give-then-searched-eq-TOO_LONG.new.self m _ c.reads.invariant.kept
    (ap (λ (xs : List ℕ). length (take m xs)) (sym same)) c.if-searched-eq-TOO_LONG.true
    (subst (λ (xs : List ℕ). IsTrue (is_feedless (take m xs))) same feedless)
    c.give-then-searched-eq-TOO_LONG.ensures.line c.give-then-searched-eq-TOO_LONG.ensures.pending

pub returns-in-Some-clause-taken : goal.returns-in-Some-clause-taken
returns-in-Some-clause-taken g c = c.reads.invariant.taken

pub returns-then-searched-eq-TOO_LONG-clause-taken : goal.returns-then-searched-eq-TOO_LONG-clause-taken
returns-then-searched-eq-TOO_LONG-clause-taken g c = c.reads.invariant.taken

pub returns-in_err-fill-clause-taken : goal.returns-in_err-fill-clause-taken
returns-in_err-fill-clause-taken g c = takes_more _ _ _ c.reads.invariant.taken c.fill.ensures.taken

pub returns-then-branch-eq0-clause-taken : goal.returns-then-branch-eq0-clause-taken
returns-then-branch-eq0-clause-taken g c = takes_more _ _ _ c.reads.invariant.taken c.fill.ensures.taken

-- bytes that were read after them leave the first ones as they were
front_kept : (m : ℕ) (bytes before now more : List ℕ) → bytes ≡ before → now ≡ before ++ more → m ≤ length bytes
    → (length (take m bytes) ≤ length now) × (take (length (take m bytes)) now ≡ take m bytes)
front_kept m bytes before now more same grown within = grind (arith, length-take-le, length-append, take-append-le)

pub reads-preserved : goal.reads-preserved
reads-preserved g c =
    let bytes = c.pending-pending.result.now in
    let more = c.in_ok-fill.ensures.more in
    let within : c.min.result ≤ length bytes = omega (arith, c.min.ensures) in
    let front = front_kept c.min.result bytes c.reads.self.pending c.fill.new.self.pending more.0 c.pending-pending.ensures more.2 within in
    let feedless : IsTrue (is_feedless (take c.min.result bytes)) = c.in_default.ensures in
    record {
      kept = search rules;
      taken = takes_more _ _ _ c.reads.invariant.taken c.fill.ensures.taken;
      passed = front.0;
      short = search rules;
      feedless = subst (λ (xs : List ℕ). IsTrue (is_feedless xs)) (sym front.1) feedless;
      later = search rules;
    }

pub give-requires-then-branch-eq0 : goal.give-requires-then-branch-eq0
give-requires-then-branch-eq0 c = grind (arith, common_steps)

pub reads-smaller : goal.reads-smaller
reads-smaller c = grind (arith, common_steps)

pub returns-in-Some-clause-given : goal.returns-in-Some-clause-given
returns-in-Some-clause-given c = grind (arith, common_steps)

pub returns-then-branch-eq0-clause-given : goal.returns-then-branch-eq0-clause-given
returns-then-branch-eq0-clause-given c = grind (arith, common_steps)
