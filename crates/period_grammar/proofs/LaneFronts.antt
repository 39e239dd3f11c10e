-- A lane after the words of a front.
use Rattle.std.proofs.Common.{◌≡◌, ℕ, ◌+◌, ◌*◌, ◌≤◌, List, ◌++◌, ◌==◌, true, false, length, refl, ap, sym, ◌∙◌, is_some}
use Rattle.std.specs.Prelude.{pos, ◌-ℤ◌, Option, Some, None}
use Rattle.std.specs.Int.Count.{count_trailing_zeros}
use Rattle.tmds_code.specs.Lanes.{disparity_of}
use Rattle.tmds_code.specs.Pasts.{IsJudgeAfter}
use Rattle.tmds_code.specs.Sixteen.{at_step}
use Rattle.period_grammar.specs.Coding.{first_from}
use Rattle.period_grammar.specs.Judged.{IsLaneAfter}
use Rattle.period_grammar.specs.Sixteen.{IsHeard, IsStepOf}
use Rattle.period_grammar.specs.declared.lane.LaneJudge.{LaneJudge}
use Rattle.period_grammar.specs.declared.sixteen.LaneFront.{LaneFront}
use Rattle.period_grammar.proofs.Firsts.{first_none, first_some, not_zero, first_kept, first_comes, none_comes, right_step}

pub balance_by : (step count ones : ℕ) (vs : List ℕ) (lane : LaneFront) → IsHeard step vs lane → length vs ≡ count → ones ≡ lane.ones → disparity_of vs ≡ pos (2 * ones) -ℤ pos (10 * count)
balance_by step count ones vs lane heard long e = heard.balance ∙ (λ i. pos (2 * sym e i) -ℤ pos (10 * long i))

-- the disparity before, where no word was wrong
step_is : (old : LaneJudge) (ws : List ℕ) (step : ℕ) → IsLaneAfter old ws → old.first ≡ None → IsStepOf old.judge.disparity step → disparity_of ws ≡ at_step step
step_is old ws step was none of =
    let has = right_step ws (sym was.first ∙ none) in
    has.is ∙ ap at_step (sym (of has.step has.within (was.judge.disparity ∙ has.is)))

pub lane_right : (old new : LaneJudge) (ws vs : List ℕ) (at step : ℕ) (lane : LaneFront) → IsLaneAfter old ws → at ≡ length ws → length vs ≤ 64 → IsStepOf old.judge.disparity step → IsHeard step vs lane
    → old.first ≡ None → lane.wrong ≡ 0 → new.first ≡ old.first → IsJudgeAfter new.judge (ws ++ vs) → IsLaneAfter new (ws ++ vs)
lane_right old new ws vs at step lane was l few of heard none right first judge =
    let more : first_from (disparity_of ws) 0 vs ≡ None =
    ap (λ z. first_from z 0 vs) (step_is old ws step was none of) ∙ sym (first_none lane.wrong (at_step step) vs few heard.wrong (ap (λ m. m == 0) right)) in
    record { judge = judge; first = first ∙ (none ∙ sym (none_comes ws vs at l (sym was.first ∙ none) more)) }

pub lane_wrong : (old new : LaneJudge) (ws vs : List ℕ) (at step : ℕ) (lane : LaneFront) → IsLaneAfter old ws → at ≡ length ws → length vs ≤ 64 → IsStepOf old.judge.disparity step → IsHeard step vs lane
    → old.first ≡ None → (lane.wrong ≡ 0 → ⊥) → new.first ≡ Some (at + count_trailing_zeros 64 lane.wrong) → IsJudgeAfter new.judge (ws ++ vs) → IsLaneAfter new (ws ++ vs)
lane_wrong old new ws vs at step lane was l few of heard none some first judge =
    let more : first_from (disparity_of ws) 0 vs ≡ Some (count_trailing_zeros 64 lane.wrong) =
    ap (λ z. first_from z 0 vs) (step_is old ws step was none of) ∙ sym (first_some lane.wrong (at_step step) vs few heard.wrong (not_zero lane.wrong some)) in
    record { judge = judge; first = first ∙ sym (first_comes ws vs at (count_trailing_zeros 64 lane.wrong) l (sym was.first ∙ none) more) }

kept_first : (o : Option ℕ) (ws vs : List ℕ) → first_from (pos 0) 0 ws ≡ o → is_some o ≡ true → o ≡ first_from (pos 0) 0 (ws ++ vs)
kept_first None ws vs e some = cc
kept_first (Some i) ws vs e some = sym (first_kept ws vs i e)

pub lane_kept : (old new : LaneJudge) (ws vs : List ℕ) → IsLaneAfter old ws → is_some old.first ≡ true → new.first ≡ old.first → IsJudgeAfter new.judge (ws ++ vs) → IsLaneAfter new (ws ++ vs)
lane_kept old new ws vs was some first judge = record { judge = judge; first = first ∙ kept_first old.first ws vs (sym was.first) some }

pub none_is : (o : Option ℕ) → is_some o ≡ false → o ≡ None
none_is None e = refl
none_is (Some i) e = cc

pub some_is : (a i : ℕ) → Some a ≡ Some i → i ≡ a
some_is a i e = cc
