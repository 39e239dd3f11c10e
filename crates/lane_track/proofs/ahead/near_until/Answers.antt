use Rattle.std.proofs.Common.{◌≡◌, ◌+◌, ◌%◌, ◌<◌, ℕ, arith}
use Rattle.lane_track.proofs.Sevens.{none_near}
use Rattle.lane_track.proofs.ahead.near_until.Goals as goal

pub loop-p-preserved : goal.loop-p-preserved
loop-p-preserved c =
    let was = c.loop-p.invariant in
    let after = was.after in
    let test : c.loop-p.p < c.args.until = c.loop-p-test.true in
    let whole = was.whole test in
    let same : (k : ℕ) → k < 10 → k ≡ c.phase_from.result → (c.loop-p.p + k) % 10 ≡ c.args.phase = λ k lt e. let there = c.phase_from.ensures.same k lt e in omega (arith, there, whole) in
    record {
      after = omega (arith, c.min-p.ensures, test);
      within = omega (arith, c.min-p.ensures);
      whole = λ lt. omega (arith, c.min-p.ensures, lt, whole);
      none =
          none_near c.args.bytes.now c.eight_bytes.result c.beside-mask.result c.args.from c.loop-p.p c.min-p.result c.args.phase c.eight_bytes.ensures (λ k few. c.has_turns.ensures c.if-has_turns.false k)
          c.phase_from.result c.beside-mask.ensures.masked same (omega (arith, c.min-p.ensures)) was.none;
    }
