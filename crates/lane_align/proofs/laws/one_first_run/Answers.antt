use Rattle.std.proofs.Common.{arith, inl, inr}
use Rattle.std.proofs.lemmas.Bool.{cases_lt}
use Rattle.lane_align.proofs.laws.one_first_run.Goals as goal

pub returns : goal.returns
returns c = λ xs from until phase p q first other. elim (cases_lt p q) [
  | inl less ↦ absurd (other.least p less first.other)
  | inr more ↦ elim (cases_lt q p) [
    | inl less ↦ absurd (first.least q less other.other)
    | inr as_well ↦ omega arith
  ]
]
