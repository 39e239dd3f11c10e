use Rattle.std.proofs.Common.{◌≡◌, ℕ, suc, ◌<◌, ◌-◌, length, Some, ◌∙◌, sym, ap, arith}
use Rattle.bch_block.specs.Division.{Remainder, nothing, remainder, kept, power}
use Rattle.bch_block.proofs.Powers.{kept_once}
use Rattle.bch_block.proofs.Verdicts.{clean, mended, lost}
use Rattle.bch_block.proofs.verdict_of.Goals as goal

pub returns-then-left-eq0 : goal.returns-then-left-eq0
returns-then-left-eq0 c = λ x long e. clean x (omega arith) (e ∙ ap kept c.if-left-eq0.true)

-- the bit with `power` bits after it
pub returns-in-Some : goal.returns-in-Some
returns-in-Some c = λ x long e.
    let place = c.args.bits - 1 - c.in-Some.power in
    let after : c.in-Some.power ≡ length x - suc place = omega arith in
    mended x place (omega arith) (omega arith) (omega arith) (e ∙ sym c.in-Some.ensures.some.1 ∙ ap power after)

not_left : (left : ℕ) → left < 256 → (left ≡ 0 → ⊥) → (r : Remainder) → r ≡ kept left → r ≡ nothing → ⊥
not_left left lt other r e none = other (kept_once left 0 lt (omega arith) (sym e ∙ none))

pub returns-in_default : goal.returns-in_default
returns-in_default c = λ x long e.
    lost x (not_left c.args.left c.ranges.left.fits c.if-left-eq0.false (remainder x) e)
    (λ k lk same.
    grind arith)

pub returns-in_default-2 : goal.returns-in_default-2
returns-in_default-2 c = λ x long e.
    lost x (not_left c.args.left c.ranges.left.fits c.if-left-eq0.false (remainder x) e)
    (λ k lk same.
    let found : c.power_of.result ≡ Some k = c.power_of.ensures.only k (omega arith) (sym same ∙ e) in
    cc)
