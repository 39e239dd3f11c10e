use Rattle.std.proofs.Common.{◌≡◌, ◌+◌, ◌*◌, ◌/◌, ◌%◌, ◌^◌, ap, ◌∙◌, subst, arith, inl, inr}
use Rattle.std.proofs.lemmas.Bool.{cases_lt}
use Rattle.tmds_word.specs.Bits.{bit, bytes_bits, number}
use Rattle.lane_align.specs.Search.{control_at}
use Rattle.lane_track.specs.Pairless.{HasNoPair}
use Rattle.lane_track.proofs.Sevens.{neither_seen}
use Rattle.lane_track.proofs.ahead.twos_until.Goals as goal

pub loop-at-preserved : goal.loop-at-preserved
loop-at-preserved c =
    let was = c.loop-at.invariant in
    let at = c.loop-at.at in
    let bytes = c.args.bytes.now in
    let mask = c.args.mask in
    let x = number (bytes_bits bytes) / 2 ^ (8 * (10 * at)) % 2 ^ 64 in
    let y = number (bytes_bits bytes) / 2 ^ (8 * (10 * (at + 1))) % 2 ^ 64 in
    let turns = c.has_turns.ensures c.if-not-has_turns.true in
    let both = neither_seen x y mask c.requires.mask (λ k masked one ten.
    turns k (ap (λ t. bit t (k + 1)) (omega (arith, c.requires.mask)) ∙ masked) (ap (λ n. control_at n k) c.two_steps.ensures ∙ one) (ap (λ n. control_at n (k + 10)) c.two_steps.ensures ∙ ten)) in
    record {
      after = omega (arith, was.after);
      within = omega (arith, c.loop-at-test.true);
      pairless = λ j after less.
          elim (cases_lt j at) [
            | inl before ↦ was.pairless j after before
            | inr from ↦ elim (cases_lt j (at + 1)) [
              | inl here ↦ let e : at ≡ j = omega (arith, from, here) in subst (HasNoPair bytes mask) e both.0
              | inr next ↦ let e : at + 1 ≡ j = omega (arith, next, less) in subst (HasNoPair bytes mask) e both.1
            ]
          ];
    }
