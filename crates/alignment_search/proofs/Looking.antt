-- What is known of a lane after it was looked through for its lock and its next edge.
use Rattle.std.proofs.Common.{◌≡◌, ◌⊎◌, ℕ, ◌+◌, ◌-◌, ◌<◌, ◌≤◌, min, Bool, List, length, take, drop, Option, Some, None, is_some, false, ◌∙◌, sym, subst, arith, inl, inr, length-drop}
use Rattle.std.specs.Prelude.{MatchOption, IfSome}
use Rattle.std.proofs.lemmas.Bool.{cases_lt}
use Rattle.std.proofs.lemmas.List.{take_all}
use Rattle.lane_align.specs.Lanes.{IsRun, IsLock, IsEdge}
use Rattle.lane_align.proofs.Edges.{near_edges, edge_within}
use Rattle.lane_align.proofs.Controls.{one_lock}
use Rattle.lane_track.specs.Scouts.{HoldsBits}
use Rattle.lane_edges.specs.Finders.{HasScanned, HasNoEdge, IsFound}
use Rattle.lane_edges.specs.declared.finder.EdgeFinder.{EdgeFinder}
use Rattle.alignment_search.specs.Reached.{IsAt, HasLocked, HasReached, CanLook, CanReach, IsBound}
use Rattle.alignment_search.specs.declared.lane.LaneEdges.{LaneEdges}

-- the bits that are lent are the lane's from a place on
pub lent_holds : (bits xs : List Bool) (count base : ℕ) → take count bits ≡ drop base xs → count ≡ length (drop base xs) → 0 < count → HoldsBits bits xs base count
lent_holds bits xs count base same many some =
    record { within = omega (arith, length-drop base xs); same = same ∙ sym (take_all count (drop base xs) (omega arith)) }

-- no edge follows one that was passed before the next character
none_after : (xs : List Bool) (from e : ℕ) → IsEdge xs e → e < from → HasNoEdge xs from (e + 10)
none_after xs from e edge passed d after before other =
    let same = near_edges xs d e other edge (omega arith) (omega arith) in
    omega arith

none_joined : (xs : List Bool) (from mid to : ℕ) → HasNoEdge xs from mid → HasNoEdge xs mid to → HasNoEdge xs from to
none_joined xs from mid to a b e after before edge = elim (cases_lt e mid) [
  | inl early ↦ a e after early edge
  | inr late ↦ b e late before edge
]

-- an edge that was found before the first that is looked for
pub passed_more : (xs : List Bool) (from was next until e : ℕ) → HasNoEdge xs from was → IsFound xs was next until (Some e) → e < from → HasNoEdge xs from next
passed_more xs from was next until e none found passed =
    subst (HasNoEdge xs from) (sym found.2) (none_after xs from e found.0.edge passed)

-- and one that is at or after it
pub next_found : (xs : List Bool) (from was next until limit e : ℕ) → HasNoEdge xs from was → IsFound xs was next until (Some e) → from ≤ e → until ≤ limit → IsAt xs from limit next (Some e)
next_found xs from was next until limit e none found after order =
    let here = found.0 in
    let before = found.1 in (
      record {
        edge = here.edge;
        after = after;
        least = λ d from_d less edge. elim (cases_lt d was) [
          | inl early ↦ none d from_d early edge
          | inr late ↦ here.least d late less edge
        ];
      },
      found.2,
      omega arith,
    )

-- no edge is left of the bits that are there
pub none_found : (xs : List Bool) (from was next until limit base count : ℕ) → HasNoEdge xs from was → IsFound xs was next until None → base + count ≡ length xs → until ≡ min limit ((base + count) - 9) → IsAt xs from limit next None
none_found xs from was next until limit base count none found all is = (none_joined xs from was next none found.1, by_end (cases_lt next limit))
  where
    by_end : (next < limit) ⊎ (limit ≤ next) → (limit ≤ next) ⊎ (length xs < next + 10)
    by_end (inr past) = inl past
    by_end (inl before) = let done = found.0 in inr (omega arith)

-- where no bit is lent
pub nothing_lent : (xs : List Bool) (from limit base : ℕ) (finder : EdgeFinder) → HasNoEdge xs from finder.next → 0 ≡ length (drop base xs) → CanLook xs base finder → IsAt xs from limit finder.next None
nothing_lent xs from limit base finder none empty (inr short) = (none, inr short)
nothing_lent xs from limit base finder none empty (inl reaches) = (none, inr (omega (arith, length-drop base xs)))

-- the next character is lent, where it is looked at
pub can_seek : (xs : List Bool) (base count until limit next : ℕ) (finder : EdgeFinder) → CanLook xs base finder → finder.next ≤ next → count ≡ length (drop base xs) → 0 < count
    → until ≡ min limit ((base + count) - 9) → next < until → base ≤ next
can_seek xs base count until limit next finder (inl reaches) rises many some is more = omega arith
can_seek xs base count until limit next finder (inr short) rises many some is more = absurd (omega (arith, length-drop base xs))

-- The next edge of a lane.

-- the lock that is found
pub no_run : (xs : List Bool) (low places limit : ℕ) (lane : LaneEdges) → is_some lane.finder ≡ false → HasReached xs low places limit lane → (p : ℕ) → p < places → IsRun xs p → ⊥
no_run xs low places limit lane none reached = by lane.finder none reached
  where
    by : (o : Option EdgeFinder) → is_some o ≡ false → MatchOption o ((p : ℕ) → p < places → IsRun xs p → ⊥) (λ finder. HasLocked xs low limit finder lane.edge) → (p : ℕ) → p < places → IsRun xs p → ⊥
    by None e none = none
    by (Some finder) e locked = absurd cc

pub locked_here : (xs : List Bool) (low limit from lock : ℕ) (finder : EdgeFinder) → IsLock xs lock → from ≤ lock → limit ≤ from + 120 → finder.next ≡ lock + 120 → HasScanned xs lock finder → HasLocked xs low limit finder None
locked_here xs low limit from lock finder is_lock after near at scanned = record {
  lock = lock;
  scanned = scanned;
  found = (
    λ e from_e before edge.
        let past = edge.past in
        let same = one_lock xs edge.lock lock edge.is_lock is_lock in
        omega arith,
    inl (omega arith),
  );
}

pub places_are : (xs : List Bool) (low limit from until p q : ℕ) (before now : LaneEdges) → from ≡ p → until ≡ q → (HasReached xs low from limit before → HasReached xs low until limit now)
    → HasReached xs low p limit before → HasReached xs low q limit now
places_are xs low limit from until p q before now e f step was = subst (λ n. HasReached xs low n limit now) f (step (subst (λ n. HasReached xs low n limit before) (sym e) was))

module _ (xs : List Bool) (low was from limit base : ℕ) (lane : LaneEdges) where
  -- a lane has no lock that could have an edge
  pub not_locked : lane.finder ≡ None → HasReached xs low (limit - 119) was lane → (p : ℕ) → p < limit - 119 → IsRun xs p → ⊥
  not_locked e reached = subst (λ (o : Option EdgeFinder). MatchOption o ((p : ℕ) → p < limit - 119 → IsRun xs p → ⊥) (λ finder. HasLocked xs low was finder lane.edge)) e reached

  pub is_locked : (finder : EdgeFinder) → lane.finder ≡ Some finder → HasReached xs low (limit - 119) was lane → HasLocked xs low was finder lane.edge
  is_locked finder e reached =
      subst (λ (o : Option EdgeFinder). MatchOption o ((p : ℕ) → p < limit - 119 → IsRun xs p → ⊥) (λ f. HasLocked xs low was f lane.edge)) e reached

  pub reach_none : lane.finder ≡ None → HasReached xs low (limit - 119) was lane → HasReached xs from (limit - 119) limit lane × IsBound xs from limit limit
  reach_none e reached =
      let none = not_locked e reached in
      let still : HasReached xs from (limit - 119) limit lane =
      subst (λ (o : Option EdgeFinder). MatchOption o ((p : ℕ) → p < limit - 119 → IsRun xs p → ⊥) (λ f. HasLocked xs from limit f lane.edge)) (sym e) none in
      let no_edge : HasNoEdge xs from limit = λ d after before edge. let past = edge.past in none edge.lock (omega arith) edge.is_lock.run in
      (still, record { none = no_edge; edge = λ lt. absurd (omega arith) })

  -- the edge that was found last is not passed
  pub reach_held : (finder : EdgeFinder) (e : ℕ) → lane.finder ≡ Some finder → lane.edge ≡ Some e → from ≤ e → CanReach base low was from limit → HasReached xs low (limit - 119) was lane
      → HasReached xs from (limit - 119) limit lane × IsBound xs from limit e
  reach_held finder e is at after can reached =
      let locked = is_locked finder is reached in
      let order = can.order in
      let rises = can.rises in
      let found : IsAt xs low was finder.next (Some e) = subst (λ (o : Option ℕ). IsAt xs low was finder.next o) at locked.found in
      let before = found.2 in
      let least : HasNoEdge xs from e = λ d from_d less edge. found.0.least d (omega arith) less edge in
      let here : IsAt xs from limit finder.next (Some e) = (record { edge = found.0.edge; after = after; least = least }, found.1, omega arith) in
      let now : HasLocked xs from limit finder lane.edge =
      record { lock = locked.lock; scanned = locked.scanned; found = subst (λ (o : Option ℕ). IsAt xs from limit finder.next o) (sym at) here } in (
        subst (λ (o : Option EdgeFinder). MatchOption o ((p : ℕ) → p < limit - 119 → IsRun xs p → ⊥) (λ f. HasLocked xs from limit f lane.edge)) (sym is) now,
        record { none = least; edge = λ lt. found.0.edge },
      )

-- no edge that was found last is left
pub passed_by : (xs : List Bool) (low was from base next : ℕ) (edge : Option ℕ) → IsAt xs low was next edge → IfSome edge (λ e. e < from) → low ≤ from → HasNoEdge xs from next
passed_by xs low was from base next None at passed order = λ e after before edge. at.0 e (omega arith) before edge
passed_by xs low was from base next (Some e) at passed order = subst (HasNoEdge xs from) (sym at.1) (none_after xs from e at.0.edge passed)

-- and the next character is lent
pub can_look : (xs : List Bool) (low was from limit base : ℕ) (finder : EdgeFinder) (edge : Option ℕ) → IsAt xs low was finder.next edge → CanReach base low was from limit → CanLook xs base finder
can_look xs low was from limit base finder None at can = elim at.1 [
  | inl past ↦ let lent = can.lent_past in inl (omega arith)
  | inr short ↦ inr short
]
can_look xs low was from limit base finder (Some e) at can =
    let lent = can.lent in
    let after = at.0.after in
    let next = at.1 in
    inl (omega arith)

-- what was found is the bound
pub bound_none : (xs : List Bool) (from limit next : ℕ) → IsAt xs from limit next None → IsBound xs from limit limit
bound_none xs from limit next at =
    record {
      none = λ e after before edge. elim (cases_lt e next) [
        | inl early ↦ at.0 e after early edge
        | inr late ↦ by_end e before late (edge_within xs e edge) at.1
      ];
      edge = λ lt. absurd (omega arith);
    }
  where
    by_end : (e : ℕ) → e < limit → next ≤ e → e + 10 ≤ length xs → (limit ≤ next) ⊎ (length xs < next + 10) → ⊥
    by_end e before late within (inl past) = omega arith
    by_end e before late within (inr short) = omega arith

pub bound_some : (xs : List Bool) (from limit next e : ℕ) → IsAt xs from limit next (Some e) → IsBound xs from limit e
bound_some xs from limit next e at = record { none = at.0.least; edge = λ lt. at.0.edge }

-- characters are looked at as far as they are whole
pub until_whole : (xs : List Bool) (lock base count until limit : ℕ) (finder : EdgeFinder) → HasScanned xs lock finder → count ≡ length (drop base xs) → 0 < count
    → until ≡ min limit ((base + count) - 9) → until + 9 ≤ base + count
until_whole xs lock base count until limit finder scanned many some is =
    let within = scanned.within in
    let past = scanned.past in
    omega (arith, length-drop base xs)

pub all_there : (xs : List Bool) (base count : ℕ) → count ≡ length (drop base xs) → 0 < count → base + count ≡ length xs
all_there xs base count many some = omega (arith, length-drop base xs)
