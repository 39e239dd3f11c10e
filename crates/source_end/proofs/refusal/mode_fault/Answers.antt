use Rattle.std.proofs.Common.{◌≡◌, ℕ, drop, sym, ap, ◌∙◌, arith}
use Rattle.source_end.specs.RasterRefusals.{numbers_of, bad_mode}
use Rattle.source_end.proofs.RasterFaults.{number_right, number_wrong}
use Rattle.source_end.proofs.refusal.mode_fault.Goals as goal

pub returns-then-not-is_in_range : goal.returns-then-not-is_in_range
returns-then-not-is_in_range c = grind (arith, number_wrong)

pub loop-i-preserved : goal.loop-i-preserved
loop-i-preserved c = grind (arith, number_right)

pub returns : goal.returns
returns c =
    let ns = numbers_of c.args.mode.now in
    let e : c.loop-i.i ≡ 8 = omega arith in
    sym (c.loop-i.invariant ∙ ap (λ (k : ℕ). bad_mode k (drop k ns)) e)
