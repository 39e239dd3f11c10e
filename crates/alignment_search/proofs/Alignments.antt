-- Two full alignments of the same lanes: which of their edges they can share.
use Rattle.std.proofs.Common.{◌≡◌, ◌↔◌, ℕ, ◌+◌, ◌<◌, ◌≤◌, max, min, Bool, List, arith, inl, inr}
use Rattle.std.proofs.lemmas.Bool.{cases_lt}
use Rattle.lane_align.proofs.Edges.{edges_apart, near_edges}
use Rattle.tmds_word.specs.Taps.{AreNear}
use Rattle.lane_deskew.specs.Candidates.{AreAllNear}
use Rattle.lane_deskew.specs.Triples.{IsTriple, IsAlignment}
use Rattle.alignment_search.specs.Alignments.{IsNextAlignment}

-- an edge of the later alignment lies past the least edge of the earlier one, since two edges of a lane lie 130 bits apart: where
-- the two share the least edge, the later one has an edge on another lane that is not near it
edge_past : (d e f p q r : ℕ) → AreAllNear d e f → AreAllNear p q r → max d (max e f) < max p (max q r)
    → (d < p → d + 130 ≤ p) → (p < d → p + 130 ≤ d) → (e < q → e + 130 ≤ q) → (f < r → f + 130 ≤ r) → min d (min e f) < p
edge_past d e f p q r one other less blue back green red = elim (cases_lt (min d (min e f)) p) [
  | inl past ↦ past
  | inr before ↦
      let a = one.0 in
      let b = one.1 in
      let c = one.2 in
      let x = other.0 in
      let y = other.1 in
      let z = other.2 in
      elim (cases_lt p d) [
        | inl far ↦ let h = back far in absurd (omega arith)
        | inr same ↦ elim (cases_lt e q) [
          | inl later ↦ let h = green later in absurd (omega arith)
          | inr not ↦ elim (cases_lt f r) [
            | inl later ↦ let h = red later in absurd (omega arith)
            | inr nor ↦ absurd (omega arith)
          ]
        ]
      ]
]

module _ (xs ys zs : List Bool) (d e f p q r : ℕ) (t : IsTriple xs ys zs d e f) (u : IsTriple xs ys zs p q r) where
  -- of two alignments the one whose greatest edge is greater has all edges past the least edge of the other
  pub all_past : max d (max e f) < max p (max q r) → (min d (min e f) < p) × (min d (min e f) < q) × (min d (min e f) < r)
  all_past less =
      let x = edges_apart xs d p t.blue u.blue in
      let y = edges_apart ys e q t.green u.green in
      let z = edges_apart zs f r t.red u.red in
      let a = edge_past d e f p q r (t.blue_green, t.green_red, t.blue_red) (u.blue_green, u.green_red, u.blue_red) less x (edges_apart xs p d u.blue t.blue) y z in
      let b = edge_past e d f q p r (swap d e t.blue_green, t.blue_red, t.green_red) (swap p q u.blue_green, u.blue_red, u.green_red) (omega arith) y (edges_apart ys q e u.green t.green) x z in
      let c = edge_past f e d r q p (swap e f t.green_red, swap d e t.blue_green, swap d f t.blue_red) (swap q r u.green_red, swap p q u.blue_green, swap p r u.blue_red) (omega arith) z (edges_apart zs r f u.red t.red) y x in
      (omega arith, omega arith, omega arith)
    where
      swap : (m n : ℕ) → AreNear m n → AreNear n m
      swap m n near = (near.1, near.0)

  -- two alignments with one greatest edge are one
  pub same_greatest : max d (max e f) ≡ max p (max q r) → (d ≡ p) × (e ≡ q) × (f ≡ r)
  same_greatest same =
      let a = t.blue_green in
      let b = t.green_red in
      let c = t.blue_red in
      let x = u.blue_green in
      let y = u.green_red in
      let z = u.blue_red in
      (near_edges xs d p t.blue u.blue (omega arith) (omega arith), near_edges ys e q t.green u.green (omega arith) (omega arith), near_edges zs f r t.red u.red (omega arith) (omega arith))

-- an alignment whose least edge is greater has the greater greatest edge, too
pub later_edges : (xs ys zs : List Bool) (d e f p q r : ℕ) → IsTriple xs ys zs d e f → IsTriple xs ys zs p q r → min d (min e f) < min p (min q r) → max d (max e f) < max p (max q r)
later_edges xs ys zs d e f p q r t u past = elim (cases_lt (max d (max e f)) (max p (max q r))) [
  | inl later ↦ later
  | inr not ↦ elim (cases_lt (max p (max q r)) (max d (max e f))) [
    | inl sooner ↦ let h = all_past xs ys zs p q r d e f u t sooner in absurd (omega arith)
    | inr nor ↦ let h = same_greatest xs ys zs d e f p q r t u (omega arith) in absurd (omega arith)
  ]
]

-- the next alignment from the place 0 on is the first alignment
pub next_is_first : (xs ys zs : List Bool) (edges : List ℕ) → IsNextAlignment xs ys zs 0 edges ↔ IsAlignment xs ys zs edges
next_is_first xs ys zs edges = (
  λ next. record { triple = next.triple; least = λ p q r t. next.least p q r t (omega arith) },
  λ first. record { triple = first.triple; after = omega arith; least = λ d e f t past. first.least d e f t },
)
