use Rattle.std.proofs.Common.{◌≡◌, ◌+◌, ◌*◌, ◌∙◌, ap, arith, take_all}
use Rattle.island_pack.specs.Registers.{crossed_of}
use Rattle.island_pack.proofs.Laid.{crossed-lt}
use Rattle.island_pack.proofs.NibblePairs.{none_yet, pairs_more, has_all, pair_places}
use Rattle.island_pack.proofs.laying.lay_bodies.Goals as goal

pub loop-r-init : goal.loop-r-init
loop-r-init c = record { green_size = c.requires.green; red_size = c.requires.red; green = none_yet c.args.green.now _; red = none_yet c.args.red.now _ }

pub loop-r-preserved : goal.loop-r-preserved
loop-r-preserved c =
    let was = c.loop-r.invariant in
    let bodies = c.args.bodies.now in
    let r = c.loop-r.r in
    let made = c.crossed_pairs.ensures in
    let pair = pair_places bodies in
    record {
      green_size = c.put_pairs.ensures.size ∙ was.green_size;
      red_size = c.put_pairs-in-loop-r.ensures.size ∙ was.red_size;
      green = pairs_more c.loop-r.green c.put_pairs.new.into r (5 * c.from-at.result) _ _ (λ i. crossed_of bodies (2 * i)) c.loop-r-test.true (ap (λ n. 5 * n) c.from-at.ensures) was.green_size (λ k lt. crossed-lt bodies (2 * k))
          (made.first_even ∙ pair (8 * r) (2 * (4 * r)) (2 * (4 * r + 1)) (omega arith) (omega arith))
          (made.second_even ∙ pair (8 * r + 4) (2 * (4 * r + 2)) (2 * (4 * r + 2 + 1)) (omega arith) (omega arith)) c.put_pairs.ensures.bits was.green;
      red = pairs_more c.loop-r.red c.put_pairs-in-loop-r.new.into r (5 * c.from-at.result) _ _ (λ i. crossed_of bodies (2 * i + 1)) c.loop-r-test.true (ap (λ n. 5 * n) c.from-at.ensures) was.red_size (λ k lt. crossed-lt bodies (2 * k + 1))
          (made.first_odd ∙ pair (8 * r + 1) (2 * (4 * r) + 1) (2 * (4 * r + 1) + 1) (omega arith) (omega arith))
          (made.second_odd ∙ pair (8 * r + 5) (2 * (4 * r + 2) + 1) (2 * (4 * r + 2 + 1) + 1) (omega arith) (omega arith)) c.put_pairs-in-loop-r.ensures.bits was.red;
    }

pub returns-clause-green : goal.returns-clause-green
returns-clause-green c =
    let was = c.loop-r.invariant in
    let all : c.loop-r.r ≡ 8 = omega (arith, c.loop-r-test.false, c.loop-r.auto) in
    has_all c.loop-r.green c.loop-r.r _ all (take_all (5 * c.loop-r.r) c.loop-r.green (omega (arith, all, was.green_size))) was.green

pub returns-clause-red : goal.returns-clause-red
returns-clause-red c =
    let was = c.loop-r.invariant in
    let all : c.loop-r.r ≡ 8 = omega (arith, c.loop-r-test.false, c.loop-r.auto) in
    has_all c.loop-r.red c.loop-r.r _ all (take_all (5 * c.loop-r.r) c.loop-r.red (omega (arith, all, was.red_size))) was.red
