use Rattle.std.proofs.Common.{◌≡◌, ℕ, Bool, List, Option, None, Some, refl, ap, arith, inl, inr}
use Rattle.std.proofs.lemmas.Bool.{cases_lt}
use Rattle.lane_align.specs.Lanes.{IsNextEdge}
use Rattle.lane_edges.specs.Finders.{IsFound}
use Rattle.lane_edges.proofs.laws.one_found.Goals as goal

one_next : (xs : List Bool) (from d e : ℕ) → IsNextEdge xs from d → IsNextEdge xs from e → d ≡ e
one_next xs from d e a b = elim (cases_lt d e) [
  | inl less ↦ absurd (b.least d a.after less a.edge)
  | inr more ↦ elim (cases_lt e d) [
    | inl less ↦ absurd (a.least e b.after less b.edge)
    | inr as_well ↦ omega arith
  ]
]

one_found : (xs : List Bool) (from next later until : ℕ) (found other : Option ℕ) → IsFound xs from next until found → IsFound xs from later until other → found ≡ other
one_found xs from next later until None None a b = refl
one_found xs from next later until None (Some e) a b = let past = a.0 in let before = b.1 in absurd (a.1 e b.0.after (omega arith) b.0.edge)
one_found xs from next later until (Some d) None a b = let past = b.0 in let before = a.1 in absurd (b.1 d a.0.after (omega arith) a.0.edge)
one_found xs from next later until (Some d) (Some e) a b = ap Some (one_next xs from d e a.0 b.0)

pub returns : goal.returns
returns c = one_found
