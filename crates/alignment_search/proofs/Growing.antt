-- What was found of the full alignments stays so where lanes grow.
use Rattle.std.proofs.Common.{◌≡◌, ◌⊎◌, ℕ, ◌+◌, ◌-◌, ◌<◌, ◌≤◌, max, Bool, List, [], ◌++◌, length, Option, Some, None, ap, ◌∙◌, sym, subst, arith, inl, inr, append-nil}
use Rattle.std.specs.Prelude.{MatchOption}
use Rattle.std.proofs.lemmas.Bool.{cases_lt}
use Rattle.lane_align.specs.Lanes.{IsRun, IsEdge}
use Rattle.lane_align.proofs.Growing.{run_was, edge_stays, edge_was}
use Rattle.lane_edges.specs.declared.finder.EdgeFinder.{EdgeFinder}
use Rattle.lane_edges.proofs.Growing.{scanned_grows, none_grows}
use Rattle.alignment_search.specs.Reached.{IsAt, HasLocked, HasReached}
use Rattle.alignment_search.specs.Searches.{IsAnswered, HasSearched}
use Rattle.alignment_search.specs.declared.lane.LaneEdges.{LaneEdges}
use Rattle.alignment_search.specs.declared.finder.AlignmentFinder.{AlignmentFinder}

-- a lane has grown: all windows before a place were whole, or it has ended
abbrev pub GrowsFrom : ℕ → List Bool → List Bool → Type 0
GrowsFrom limit xs us = (more : List Bool) × (us ≡ xs ++ more) × ((limit + 9 ≤ length xs) ⊎ (more ≡ []))

pub same_of : (xs us more : List Bool) → us ≡ xs ++ more → more ≡ [] → xs ≡ us
same_of xs us more e none = sym (e ∙ ap (λ ys. xs ++ ys) none ∙ append-nil xs)

-- an edge before that place was there
pub edge_was_there : (limit : ℕ) (xs us : List Bool) (e : ℕ) → GrowsFrom limit xs us → e < limit → IsEdge us e → IsEdge xs e
edge_was_there limit xs us e grows before edge = elim grows.2 [
  | inl long ↦ edge_was xs us grows.0 grows.1 e (omega arith) edge
  | inr none ↦ subst (λ ys. IsEdge ys e) (sym (same_of xs us grows.0 grows.1 none)) edge
]

module _ (xs us more : List Bool) (grown : us ≡ xs ++ more) (limit : ℕ) (long : limit + 9 ≤ length xs) where
  at_grows : (lock from : ℕ) (finder : EdgeFinder) (edge : Option ℕ) → HasLocked xs from limit finder edge → IsAt xs from limit finder.next edge → IsAt us from limit finder.next edge
  at_grows lock from finder None h at = (none_grows xs us more h.lock from finder grown h.scanned at.0, inl (by_end at.1))
    where
      by_end : (limit ≤ finder.next) ⊎ (length xs < finder.next + 10) → limit ≤ finder.next
      by_end (inl past) = past
      by_end (inr short) = omega arith
  at_grows lock from finder (Some e) h at =
      let before = at.2 in (
        record {
          edge = edge_stays xs us more grown e at.0.edge;
          after = at.0.after;
          least = λ d after less edge. at.0.least d after less (edge_was xs us more grown d (omega arith) edge);
        },
        at.1,
        at.2,
      )

  lane_grows : (from : ℕ) (lane : LaneEdges) → HasReached xs from (limit - 119) limit lane → HasReached us from (limit - 119) limit lane
  lane_grows from lane reached = by_finder lane.finder lane.edge reached
    where
      by_finder : (o : Option EdgeFinder) (edge : Option ℕ)
          → MatchOption o ((p : ℕ) → p < limit - 119 → IsRun xs p → ⊥) (λ finder. HasLocked xs from limit finder edge)
          → MatchOption o ((p : ℕ) → p < limit - 119 → IsRun us p → ⊥) (λ finder. HasLocked us from limit finder edge)
      by_finder None edge none = λ p lt run. none p lt (run_was xs us more grown p (omega arith) run)
      by_finder (Some finder) edge h =
          record { lock = h.lock; scanned = scanned_grows xs us more h.lock finder grown h.scanned; found = at_grows h.lock from finder edge h h.found }

reached_grows : (xs us : List Bool) (from limit : ℕ) (lane : LaneEdges) → GrowsFrom limit xs us → HasReached xs from (limit - 119) limit lane → HasReached us from (limit - 119) limit lane
reached_grows xs us from limit lane grows reached = elim grows.2 [
  | inl long ↦ lane_grows xs us grows.0 grows.1 limit long from lane reached
  | inr none ↦ subst (λ ys. HasReached ys from (limit - 119) limit lane) (same_of xs us grows.0 grows.1 none) reached
]

edge_is_there : (limit : ℕ) (xs us : List Bool) (e : ℕ) → GrowsFrom limit xs us → IsEdge xs e → IsEdge us e
edge_is_there limit xs us e grows edge = edge_stays xs us grows.0 grows.1 e edge

pub search_grows : (finder : AlignmentFinder) (xs ys zs us vs ws : List Bool) → GrowsFrom finder.limit xs us → GrowsFrom finder.limit ys vs → GrowsFrom finder.limit zs ws
    → HasSearched finder xs ys zs → HasSearched finder us vs ws
search_grows finder xs ys zs us vs ws blue green red was =
    let limit = finder.limit in
    record {
      low = was.low;
      near = was.near;
      order = was.order;
      reached = record {
        blue = reached_grows xs us was.low limit finder.blue blue was.reached.blue;
        green = reached_grows ys vs was.low limit finder.green green was.reached.green;
        red = reached_grows zs ws was.low limit finder.red red was.reached.red;
      };
      answered = elim was.answered [
        | inl nothing ↦ inl nothing
        | inr last ↦ inr (last.0, last.1, last.2, answered last.0 last.1 last.2 last.3)
      ];
      within = was.within;
      none = λ d e f t later. elim (cases_lt (max d (max e f)) limit) [
        | inr past ↦ past
        | inl before ↦ was.none d e f (record {
          blue = edge_was_there limit xs us d blue (omega arith) t.blue;
          green = edge_was_there limit ys vs e green (omega arith) t.green;
          red = edge_was_there limit zs ws f red (omega arith) t.red;
          blue_green = t.blue_green;
          green_red = t.green_red;
          blue_red = t.blue_red;
        }) later
      ];
    }
  where
    answered : (d e f : ℕ) → IsAnswered finder xs ys zs d e f → IsAnswered finder us vs ws d e f
    answered d e f last = record {
      triple = record {
        blue = edge_is_there finder.limit xs us d blue last.triple.blue;
        green = edge_is_there finder.limit ys vs e green last.triple.green;
        red = edge_is_there finder.limit zs ws f red last.triple.red;
        blue_green = last.triple.blue_green;
        green_red = last.triple.green_red;
        blue_red = last.triple.blue_red;
      };
      from = last.from;
      past = last.past;
    }
