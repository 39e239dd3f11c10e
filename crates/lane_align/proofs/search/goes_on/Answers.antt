use Rattle.std.proofs.Common.{◌≡◌, ◌+◌, ◌*◌, true, subst, arith}
use Rattle.tmds_word.specs.Bits.{bytes_bits}
use Rattle.lane_align.specs.Lanes.{HasControl}
use Rattle.lane_align.proofs.search.goes_on.Goals as goal

pub returns-then-not-has_four : goal.returns-then-not-has_four
returns-then-not-has_four c = (
  λ h. cc,
  λ run.
      let xs = bytes_bits c.args.bytes.now in
      let i = c.loop-k.k in
      let end = c.loop-k-test.true in
      let has : c.has_four.result ≡ true =
      c.has_four.ensures.1 (λ k lt. let e : c.args.p + 10 * (4 * i + k) ≡ c.args.p + 40 * i + 10 * k = omega arith in subst (HasControl xs) e (run (4 * i + k) (omega (arith, c.loop-k.auto.k)) (omega (arith, end, c.loop-k.auto.k-end)))) in
      let none = c.if-not-has_four.true in
      cc,
)
