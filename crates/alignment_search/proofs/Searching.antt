-- What three lanes show of their next full alignment.
use Rattle.std.proofs.Common.{◌≡◌, ℕ, ◌+◌, ◌-◌, ◌<◌, ◌≤◌, max, min, Bool, List, slice_index, Option, Some, None, ◌∙◌, sym, subst, arith, inl, inr}
use Rattle.std.specs.Prelude.{MatchOption}
use Rattle.std.proofs.lemmas.Bool.{cases_lt}
use Rattle.lane_align.specs.Lanes.{IsRun, IsEdge}
use Rattle.lane_edges.specs.declared.finder.EdgeFinder.{EdgeFinder}
use Rattle.lane_deskew.specs.Triples.{IsTriple}
use Rattle.alignment_search.specs.Alignments.{greatest, least, HasNoAlignment, IsNextAlignment}
use Rattle.alignment_search.specs.Reached.{IsAt, HasLocked, HasReached, IsBound}
use Rattle.alignment_search.specs.Searches.{HaveReached, AreBounds, HasSearched}
use Rattle.alignment_search.specs.declared.lane.LaneEdges.{LaneEdges}
use Rattle.alignment_search.specs.declared.finder.AlignmentFinder.{AlignmentFinder}
use Rattle.alignment_search.proofs.Alignments.{all_past, later_edges}

-- edges that can be an alignment's lie from a later place on, and are known as far as the next edge or the limit
reach_on : (xs : List Bool) (from low places at limit stop d : ℕ) (lane : LaneEdges) → HasReached xs from places limit lane → IsBound xs from limit d → from ≤ low → low ≤ d
    → at ≤ places → stop ≤ limit → (d < limit → d < stop) → (limit ≤ d → limit ≤ stop) → HasReached xs low at stop lane
reach_on xs from low places at limit stop d lane reached bound order far sooner within before all = by_finder lane.finder lane.edge reached
  where
    by_edge : (next : ℕ) (edge : Option ℕ) → IsAt xs from limit next edge → IsAt xs low stop next edge
    by_edge next None at = (
      λ e after before edge. at.0 e (omega arith) before edge,
      elim at.1 [
        | inl past ↦ inl (omega arith)
        | inr short ↦ inr short
      ],
    )
    by_edge next (Some e) at =
        let after = at.0.after in
        let not_before : e < d → ⊥ = λ less. bound.none e after less at.0.edge in
        let past : d ≤ e = elim (cases_lt e d) [ inl less ↦ absurd (not_before less) | inr more ↦ more ] in
        let ends : e < stop = elim (cases_lt d limit) [
          | inl edge ↦ elim (cases_lt d e) [
            | inl less ↦ absurd (at.0.least d (omega arith) less (bound.edge edge))
            | inr more ↦ let h = before edge in omega arith
          ]
          | inr none ↦ let h = all none in let l = at.2 in omega arith
        ] in
        (record { edge = at.0.edge; after = omega arith; least = λ c from_c less edge. at.0.least c (omega arith) less edge }, at.1, ends)

    by_finder : (o : Option EdgeFinder) (edge : Option ℕ)
        → MatchOption o ((p : ℕ) → p < places → IsRun xs p → ⊥) (λ finder. HasLocked xs from limit finder edge)
        → MatchOption o ((p : ℕ) → p < at → IsRun xs p → ⊥) (λ finder. HasLocked xs low stop finder edge)
    by_finder None edge none = λ p less run. none p (omega arith) run
    by_finder (Some finder) edge h = record { lock = h.lock; scanned = h.scanned; found = by_edge finder.next edge h.found }

-- an edge at or after the place from which on a lane was looked at lies at or after its bound
past_bound : (xs : List Bool) (from limit d p : ℕ) → IsBound xs from limit d → from ≤ p → IsEdge xs p → d ≤ p
past_bound xs from limit d p bound after edge = elim (cases_lt p d) [
  | inl less ↦ absurd (bound.none p after less edge)
  | inr more ↦ more
]

module _ (xs ys zs : List Bool) where
  -- as far as its limit
  pub at_limit : (finder : AlignmentFinder) (from limit : ℕ) → finder.limit ≡ limit → HaveReached finder xs ys zs from (limit - 119) limit → HaveReached finder xs ys zs from (finder.limit - 119) finder.limit
  at_limit finder from limit e reached = subst (λ n. HaveReached finder xs ys zs from (n - 119) n) (sym e) reached

  pub bounds_at : (from limit n : ℕ) (edges : List ℕ) → limit ≡ n → AreBounds xs ys zs from limit edges → AreBounds xs ys zs from n edges
  bounds_at from limit n edges e bounds = subst (λ m. AreBounds xs ys zs from m edges) e bounds

  -- no alignment whose greatest edge lies at or after one place has an edge before another: so the search begins
  abbrev pub HasNoneBefore : ℕ → ℕ → Type 0
  HasNoneBefore past from = (d e f : ℕ) → IsTriple xs ys zs d e f → past ≤ max d (max e f) → (from ≤ d) × (from ≤ e) × (from ≤ f)

  pub begins : (finder : AlignmentFinder) → HasSearched finder xs ys zs → HasNoneBefore finder.past (max finder.from (finder.limit - 70))
  begins finder searched d e f t past =
      let late = searched.none d e f t past in
      let a = t.blue_green in
      let b = t.green_red in
      let c = t.blue_red in
      elim searched.answered [
        | inl none ↦ let z = none.0 in (omega arith, omega arith, omega arith)
        | inr last ↦
            let is = last.3 in
            let g = is.past in
            let l = is.from in
            let all = all_past xs ys zs last.0 last.1 last.2 d e f is.triple t (omega arith) in
            let x = all.0 in
            let y = all.1 in
            let z = all.2 in
            (omega arith, omega arith, omega arith)
      ]

  pub from_within : (finder : AlignmentFinder) → HasSearched finder xs ys zs → finder.from ≤ finder.limit
  from_within finder searched = elim searched.answered [
    | inl none ↦ let z = none.0 in omega arith
    | inr last ↦
        let g = last.3.past in
        let l = last.3.from in
        let within = searched.within in
        omega arith
  ]

  -- an alignment that has no edge before the place is past the last one that was answered
  pub lies_past : (finder : AlignmentFinder) → HasSearched finder xs ys zs → (d e f : ℕ) → IsTriple xs ys zs d e f → finder.from ≤ min d (min e f) → finder.past ≤ max d (max e f)
  lies_past finder searched d e f t after = elim searched.answered [
    | inl none ↦ let z = none.1 in omega arith
    | inr last ↦
        let g = last.3.past in
        let l = last.3.from in
        let later = later_edges xs ys zs last.0 last.1 last.2 d e f last.3.triple t (omega arith) in
        omega arith
  ]

  -- so far as none has an edge before a place, none has its greatest edge before the greatest bound
  pub goes_past : (past from limit : ℕ) (edges : List ℕ) → AreBounds xs ys zs from limit edges → HasNoneBefore past from → HasNoAlignment xs ys zs past (greatest edges)
  goes_past past from limit edges bounds none d e f t later =
      let at = none d e f t later in
      let a = past_bound xs from limit (slice_index edges 0) d bounds.blue at.0 t.blue in
      let b = past_bound ys from limit (slice_index edges 1) e bounds.green at.1 t.green in
      let c = past_bound zs from limit (slice_index edges 2) f bounds.red at.2 t.red in
      omega arith

  pub none_before : (past from limit : ℕ) (edges : List ℕ) → AreBounds xs ys zs from limit edges → HasNoneBefore past from → HasNoneBefore past (greatest edges - 70)
  none_before past from limit edges bounds none d e f t later =
      let late = goes_past past from limit edges bounds none d e f t later in
      let a = t.blue_green in
      let b = t.green_red in
      let c = t.blue_red in
      (omega arith, omega arith, omega arith)

  -- near edges are the next alignment
  pub near_triple : (from limit : ℕ) (edges : List ℕ) → AreBounds xs ys zs from limit edges → greatest edges ≤ least edges + 70 → greatest edges < limit
      → IsTriple xs ys zs (slice_index edges 0) (slice_index edges 1) (slice_index edges 2)
  near_triple from limit edges bounds near before =
      record {
        blue = bounds.blue.edge (omega arith);
        green = bounds.green.edge (omega arith);
        red = bounds.red.edge (omega arith);
        blue_green = (omega arith, omega arith);
        green_red = (omega arith, omega arith);
        blue_red = (omega arith, omega arith);
      }

  pub is_next : (was : AlignmentFinder) (from limit : ℕ) (edges : List ℕ) → HasSearched was xs ys zs → AreBounds xs ys zs from limit edges → HasNoneBefore was.past from → was.from ≤ from → from ≤ least edges
      → greatest edges ≤ least edges + 70 → greatest edges < limit → IsNextAlignment xs ys zs was.past edges
  is_next was from limit edges searched bounds none start after near before =
      let triple = near_triple from limit edges bounds near before in
      record {
        triple = triple;
        after = lies_past was searched (slice_index edges 0) (slice_index edges 1) (slice_index edges 2) triple (omega arith);
        least = goes_past was.past from limit edges bounds none;
      }

  -- after it was answered
  pub goes_on : (now : AlignmentFinder) (from limit : ℕ) (edges : List ℕ) → HaveReached now xs ys zs from (limit - 119) limit → AreBounds xs ys zs from limit edges → from ≤ least edges
      → greatest edges ≤ least edges + 70 → greatest edges < limit → now.from ≡ least edges + 1 → now.past ≡ greatest edges + 1 → now.limit ≡ greatest edges + 1 → HasSearched now xs ys zs
  goes_on now from limit edges reached bounds after near before is_from is_past is_limit =
      let places : now.limit - 119 ≤ limit - 119 = omega arith in
      record {
        low = least edges;
        near = omega arith;
        order = omega arith;
        reached = record {
          blue = reach_on xs from (least edges) (limit - 119) (now.limit - 119) limit now.limit (slice_index edges 0) now.blue reached.blue bounds.blue after (omega arith) places (omega arith) (omega arith) (omega arith);
          green = reach_on ys from (least edges) (limit - 119) (now.limit - 119) limit now.limit (slice_index edges 1) now.green reached.green bounds.green after (omega arith) places (omega arith) (omega arith) (omega arith);
          red = reach_on zs from (least edges) (limit - 119) (now.limit - 119) limit now.limit (slice_index edges 2) now.red reached.red bounds.red after (omega arith) places (omega arith) (omega arith) (omega arith);
        };
        answered = inr (slice_index edges 0, slice_index edges 1, slice_index edges 2, record { triple = near_triple from limit edges bounds near before; from = is_from; past = is_past });
        within = omega arith;
        none = λ d e f t later. omega arith;
      }

  -- where the bounds are the limit there is none before it
  pub is_searched : (was now : AlignmentFinder) (from : ℕ) (edges : List ℕ) → HasSearched was xs ys zs → HaveReached now xs ys zs from (now.limit - 119) now.limit → AreBounds xs ys zs from now.limit edges
      → HasNoneBefore was.past from → from ≤ least edges → greatest edges ≤ least edges + 70 → now.limit ≤ greatest edges → was.from ≤ from → from ≤ max was.from (now.limit - 70)
      → now.from ≡ was.from → now.past ≡ was.past → was.limit ≤ now.limit → HasSearched now xs ys zs
  is_searched was now from edges searched reached bounds none after near past start order is_from is_past rises =
      let low = max was.from (now.limit - 70) in
      let within = searched.within in
      record {
        low = low;
        near = omega arith;
        order = omega arith;
        reached = record {
          blue = reach_on xs from low (now.limit - 119) (now.limit - 119) now.limit now.limit (slice_index edges 0) now.blue reached.blue bounds.blue order (omega arith) (omega arith) (omega arith) (omega arith) (omega arith);
          green = reach_on ys from low (now.limit - 119) (now.limit - 119) now.limit now.limit (slice_index edges 1) now.green reached.green bounds.green order (omega arith) (omega arith) (omega arith) (omega arith) (omega arith);
          red = reach_on zs from low (now.limit - 119) (now.limit - 119) now.limit now.limit (slice_index edges 2) now.red reached.red bounds.red order (omega arith) (omega arith) (omega arith) (omega arith) (omega arith);
        };
        answered = elim searched.answered [
          | inl nothing ↦ inl (is_from ∙ nothing.0, is_past ∙ nothing.1)
          | inr last ↦ inr (last.0, last.1, last.2, record { triple = last.3.triple; from = is_from ∙ last.3.from; past = is_past ∙ last.3.past })
        ];
        within = omega arith;
        none = λ d e f t later. let late = goes_past was.past from now.limit edges bounds none d e f t (omega arith) in omega arith;
      }
