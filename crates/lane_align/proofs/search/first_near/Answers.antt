use Rattle.std.proofs.Common.{◌≡◌, ◌+◌, ◌-◌, ◌*◌, ◌<◌, ◌≤◌, subst, arith}
use Rattle.std.proofs.lemmas.Bool.{cases_lt}
use Rattle.tmds_word.specs.Bits.{bytes_bits}
use Rattle.lane_align.specs.Lanes.{HasControl}
use Rattle.lane_align.proofs.Marks.{mark_left, mark_was, one_of, lowest_set, none_before, still_marked}
use Rattle.lane_align.proofs.search.first_near.Goals as goal
use Rattle.lane_align.proofs.search.first_near.Goals.{else-place-phase-via-then-place-phase+else-goes_on, else-place-phase-via-else-place-phase}

pub loop-left-init : goal.loop-left-init
loop-left-init c =
    let from = c.args.from in
    let m = c.args.until - from in
    let few : m ≤ 16 = omega (arith, c.requires.few) in
    let room = c.requires.room in
    record {
      all = λ q other.
          let after = other.after in
          let before = other.before in
          let here : q ≡ from + (q - from) = omega arith in
          mark_left c.fours_at.result m (q - from) few (omega arith)
          ((c.fours_at.ensures (q - from) (omega arith) (omega arith)).1 (λ k lt. subst (λ n. HasControl (bytes_bits c.args.bytes.now) (n + 10 * k)) here (other.run k (omega arith))));
      fours = grind (arith, mark_was);
    }

pub goes_on-requires-clause-room : goal.goes_on-requires-clause-room
goes_on-requires-clause-room c =
    let set = lowest_set (bytes_bits c.args.bytes.now) c.args.from c.args.until c.args.phase c.loop-left.left (omega (arith, c.loop-left-test.true)) c.loop-left.auto.left-fits.fits c.loop-left.invariant.all in
    let within = (c.loop-left.invariant.fours _ set).0 in
    omega (arith, within, c.requires.room)

pub goes_on-requires-clause-small : goal.goes_on-requires-clause-small
goes_on-requires-clause-small c =
    let set = lowest_set (bytes_bits c.args.bytes.now) c.args.from c.args.until c.args.phase c.loop-left.left (omega (arith, c.loop-left-test.true)) c.loop-left.auto.left-fits.fits c.loop-left.invariant.all in
    let within = (c.loop-left.invariant.fours _ set).0 in
    omega (arith, within, c.requires.small)

pub returns-then-goes_on : goal.returns-then-goes_on
returns-then-goes_on c =
    let some : 0 < c.loop-left.left = omega (arith, c.loop-left-test.true) in
    let set = lowest_set (bytes_bits c.args.bytes.now) c.args.from c.args.until c.args.phase c.loop-left.left some c.loop-left.auto.left-fits.fits c.loop-left.invariant.all in
    let here = c.loop-left.invariant.fours _ set in
    record {
      other = grind (arith, cases_lt);
      least = none_before (bytes_bits c.args.bytes.now) c.args.from c.args.until c.args.phase c.loop-left.left some c.loop-left.auto.left-fits.fits c.loop-left.invariant.all;
    }

pub loop-left-preserved : goal.loop-left-preserved
loop-left-preserved c = record {
  all = still_marked (bytes_bits c.args.bytes.now) c.args.from c.args.until c.args.phase c.loop-left.left (omega (arith, c.loop-left-test.true)) c.loop-left.auto.left-fits.fits c.loop-left.invariant.all
      (λ other. elim c.else-place-phase.branch [
        | else-place-phase-via-then-place-phase+else-goes_on w ↦ let set = w.goes_on.ensures.1 (λ k more lt. other.run k lt) in let no = w.if-goes_on.false in cc
        | else-place-phase-via-else-place-phase w ↦ other.apart (omega (arith, w.if-place-phase.false))
      ]);
  fours = λ i set. c.loop-left.invariant.fours i (one_of c.loop-left.left (c.loop-left.left - 1) i set);
}
