use Rattle.std.proofs.Common.{◌≡◌, ◌<◌, true, subst, arith, inl, inr}
use Rattle.std.proofs.lemmas.Bool.{cases_lt}
use Rattle.tmds_word.specs.Bits.{bit, bytes_bits}
use Rattle.lane_align.proofs.Quick.{quick_none, none_marked}
use Rattle.lane_align.proofs.search.first_far.Goals as goal

pub loop-p-preserved : goal.loop-p-preserved
loop-p-preserved c =
    let p = c.loop-p.p in
    let at = c.loop-p.at in
    let end = c.min-end.result in
    let test : p < c.args.until = omega (arith, c.loop-p-test.true) in
    let above = c.loop-p.invariant.above in
    let below = c.loop-p.invariant.below test in
    let end_is = c.min-end.ensures in
    let after = c.loop-p.invariant.after in
    record {
      after = omega arith;
      above = omega arith;
      below = λ more. omega (arith, more);
      none = λ q other.
          let before = other.before in
          let from = other.after in
          elim (cases_lt q p) [
            | inl less ↦ c.loop-p.invariant.none q (record { after = from; before = less; apart = other.apart; run = other.run })
            | inr here ↦
                quick_none (bytes_bits c.args.bytes.now) c.eight_from.result at c.args.phase q c.eight_from.ensures
                (λ k few apart one ten twenty. none_marked k (subst (λ m. bit m k ≡ true) c.if-marks-ne0.false (c.marks_of-marks.ensures k few apart one ten twenty))) (omega arith) (omega arith) other.apart other.run
          ];
    }

pub loop-p-init : goal.loop-p-init
loop-p-init c =
    let at = c.div_ceil-at.ensures in
    record {
      above = omega arith;
      after = omega arith;
      below = λ some. omega arith;
      none = λ q other.
          let after = other.after in
          let before = other.before in
          absurd (omega arith);
    }

pub loop-p-smaller : goal.loop-p-smaller
loop-p-smaller c =
    let test = c.loop-p-test.true in
    let above = c.loop-p.invariant.above in
    let end_is = c.min-end.ensures in
    omega arith

pub first_in-requires : goal.first_in-requires
first_in-requires c =
    let test = c.loop-p-test.true in
    let after = c.loop-p.invariant.after in
    let end_is = c.min-end.ensures in
    let room = c.requires.room (omega arith) in
    let small = c.requires.small in
    record { room = λ some. omega arith; small = omega arith }

pub returns-in-Some : goal.returns-in-Some
returns-in-Some c =
    let found = c.in-Some.ensures in
    let other = found.other in
    let from = other.after in
    let before = other.before in
    let after = c.loop-p.invariant.after in
    let end_is = c.min-end.ensures in
    record {
      other = record { after = omega arith; before = omega arith; apart = other.apart; run = other.run };
      least = λ q less here.
          elim (cases_lt q c.loop-p.p) [
            | inl early ↦ c.loop-p.invariant.none q (record { after = here.after; before = early; apart = here.apart; run = here.run })
            | inr late ↦ found.least q less (record { after = late; before = omega arith; apart = here.apart; run = here.run })
          ];
    }

pub returns : goal.returns
returns c =
    let stop = c.loop-p-test.false in
    λ q other.
    let before = other.before in
    c.loop-p.invariant.none q (record { after = other.after; before = omega arith; apart = other.apart; run = other.run })
