-- Where control periods begin that end at the edges of an alignment, and of lanes that grow.
use Rattle.std.proofs.Common.{◌≡◌, ℕ, ◌+◌, ◌-◌, ◌<◌, ◌≤◌, Bool, true, false, List, ◌++◌, length, slice_index, Option, Some, None, refl, ◌∙◌, sym, subst, arith, inl, inr}
use Rattle.std.specs.Prelude.{MatchOption, MatchBool}
use Rattle.std.proofs.lemmas.Bool.{cases_lt}
use Rattle.lane_align.specs.Lanes.{IsRun, IsEdge}
use Rattle.lane_align.proofs.Edges.{edge_within}
use Rattle.lane_edges.specs.Begins.{IsBeginOf, IsLastBegin}
use Rattle.lane_edges.specs.declared.finder.EdgeFinder.{EdgeFinder}
use Rattle.lane_edges.proofs.Beginning.{begun_at_edge, begin_of_stays, begin_of_was}
use Rattle.alignment_search.specs.Alignments.{greatest}
use Rattle.alignment_search.specs.Begins.{BeginsSo, HasBegun, HaveBegun}
use Rattle.alignment_search.specs.Reached.{IsAt, HasLocked, HasReached, IsBound}
use Rattle.alignment_search.specs.Searches.{HaveReached, AreBounds, AreWithin}
use Rattle.alignment_search.specs.declared.lane.LaneEdges.{LaneEdges}
use Rattle.alignment_search.specs.declared.finder.AlignmentFinder.{AlignmentFinder}

-- there is one last beginning before an edge
pub one_begin_of : (xs : List Bool) (e p q : ℕ) → IsBeginOf xs e p → IsBeginOf xs e q → p ≡ q
one_begin_of xs e p q a b =
    let x = a.last q b.begins b.before in
    let y = b.last p a.begins a.before in
    omega arith

-- where the next edge of a lane is known, and so is the last beginning before it
begun_at : (xs : List Bool) (from limit d : ℕ) (lane : LaneEdges) → HasReached xs from (limit - 119) limit lane → IsBound xs from limit d → from ≤ d → d < limit → HasBegun xs d lane
begun_at xs from limit d lane reached bound after before = by_finder lane.finder lane.edge reached
  where
    edge : IsEdge xs d
    edge = bound.edge before

    by_edge : (lock : ℕ) (finder : EdgeFinder) (found : Option ℕ) → HasLocked xs from limit finder found → IsAt xs from limit finder.next found → IsLastBegin xs d finder.begun
    by_edge lock finder None locked at =
        let within = edge_within xs d edge in
        elim (cases_lt d finder.next) [
          | inl less ↦ absurd (at.0 d after less edge)
          | inr past ↦ elim at.1 [ inl all ↦ absurd (omega arith) | inr short ↦ absurd (omega arith) ]
        ]
    by_edge lock finder (Some e) locked at =
        let same : d ≡ e = elim (cases_lt e d) [
          | inl less ↦ absurd (bound.none e at.0.after less at.0.edge)
          | inr more ↦ elim (cases_lt d e) [ inl less ↦ absurd (at.0.least d after less edge) | inr as_well ↦ omega arith ]
        ] in
        let next = at.1 in
        begun_at_edge xs locked.lock d finder locked.scanned edge (omega arith)

    by_finder : (o : Option EdgeFinder) (found : Option ℕ)
        → MatchOption o ((p : ℕ) → p < limit - 119 → IsRun xs p → ⊥) (λ finder. HasLocked xs from limit finder found)
        → MatchOption o ⊥ (λ finder. IsLastBegin xs d finder.begun)
    by_finder None found none = let past = edge.past in none edge.lock (omega arith) edge.is_lock.run
    by_finder (Some finder) found h = by_edge h.lock finder found h h.found

pub have_begun : (finder : AlignmentFinder) (xs ys zs : List Bool) (from limit : ℕ) (edges : List ℕ) → HaveReached finder xs ys zs from (limit - 119) limit → AreBounds xs ys zs from limit edges
    → AreWithin from edges limit → greatest edges < limit → HaveBegun finder xs ys zs edges
have_begun finder xs ys zs from limit edges reached bounds within before =
    let after = within.after in
    record {
      blue = begun_at xs from limit (slice_index edges 0) finder.blue reached.blue bounds.blue (omega arith) (omega arith);
      green = begun_at ys from limit (slice_index edges 1) finder.green reached.green bounds.green (omega arith) (omega arith);
      red = begun_at zs from limit (slice_index edges 2) finder.red reached.red bounds.red (omega arith) (omega arith);
    }

-- What the three say together.

-- where one lane has no beginning there is none
abbrev pub HasBits : List Bool → ℕ → Option ℕ → Type 0
HasBits xs e found = MatchOption found ((q : ℕ) → IsBeginOf xs e q → ⊥) (λ bits. (bits ≤ e) × IsBeginOf xs e (e - bits))

-- what a lane that was looked at knows
no_finder : (xs : List Bool) (e : ℕ) (lane : LaneEdges) → lane.finder ≡ None → HasBegun xs e lane → ⊥
no_finder xs e lane is begun = subst (λ (o : Option EdgeFinder). MatchOption o ⊥ (λ finder. IsLastBegin xs e finder.begun)) is begun

pub last_of : (xs : List Bool) (e : ℕ) (lane : LaneEdges) (finder : EdgeFinder) (found : Option ℕ) → lane.finder ≡ Some finder → found ≡ finder.begun → HasBegun xs e lane → IsLastBegin xs e found
last_of xs e lane finder found is same begun =
    subst (IsLastBegin xs e) (sym same) (subst (λ (o : Option EdgeFinder). MatchOption o ⊥ (λ f. IsLastBegin xs e f.begun)) is begun)

pub no_bits : (xs : List Bool) (e : ℕ) (lane : LaneEdges) → lane.finder ≡ None → HasBegun xs e lane → HasBits xs e None
no_bits xs e lane is begun = absurd (no_finder xs e lane is begun)

pub none_begun : (xs : List Bool) (e : ℕ) → IsLastBegin xs e None → HasBits xs e None
none_begun xs e none q is = let past = none q is.begins in let before = is.before in omega arith

pub some_begun : (xs : List Bool) (e q n : ℕ) → n ≡ e - q → IsLastBegin xs e (Some q) → HasBits xs e (Some n)
some_begun xs e q n is begun =
    let before = begun.before in
    let at : q ≡ e - n = omega arith in
    (omega arith, subst (IsBeginOf xs e) at begun)

-- a lane's bits before its edge are as many as all have
bits_are : (xs : List Bool) (e n : ℕ) (found : Option ℕ) → HasBits xs e found → IsBeginOf xs e (e - n) → found ≡ Some n
bits_are xs e n None none is = absurd (none (e - n) is)
bits_are xs e n (Some m) has is =
    let same = one_begin_of xs e (e - m) (e - n) has.1 is in
    let past = is.begins.past in
    let few = has.0 in
    let e : m ≡ n = omega arith in
    subst (λ k. Some m ≡ Some k) e refl

pub begin_alike : (xs ys zs : List Bool) (d e f bits : ℕ) (b c : Option ℕ) (answer : Bool) → HasBits xs d (Some bits) → HasBits ys e b → HasBits zs f c
    → (answer ≡ true → (b ≡ Some bits) × (c ≡ Some bits)) → (b ≡ Some bits → c ≡ Some bits → answer ≡ true)
    → MatchBool answer (BeginsSo xs ys zs d e f) (BeginsSo xs ys zs d e f → ⊥)
begin_alike xs ys zs d e f bits b c true blue green red are is =
    let h = are refl in
    record { bits = bits; blue = blue.1; green = (subst (HasBits ys e) h.0 green).1; red = (subst (HasBits zs f) h.1 red).1 }
begin_alike xs ys zs d e f bits b c false blue green red are is = λ so.
    let a = bits_are xs d so.bits (Some bits) blue so.blue in
    let g = bits_are ys e so.bits b green so.green in
    let h = bits_are zs f so.bits c red so.red in
    let t : false ≡ true = is (g ∙ sym a) (h ∙ sym a) in
    cc

pub begin_apart : (xs ys zs : List Bool) (d e f bits : ℕ) (b : Option ℕ) (answer : Bool) → HasBits xs d (Some bits) → HasBits ys e b → answer ≡ false → (b ≡ Some bits → answer ≡ true)
    → MatchBool answer (BeginsSo xs ys zs d e f) (BeginsSo xs ys zs d e f → ⊥)
begin_apart xs ys zs d e f bits b true blue green not is = absurd cc
begin_apart xs ys zs d e f bits b false blue green not is = λ so.
    let a = bits_are xs d so.bits (Some bits) blue so.blue in
    let t : false ≡ true = is (bits_are ys e so.bits b green so.green ∙ sym a) in
    cc

pub begin_nowhere : (xs ys zs : List Bool) (d e f : ℕ) → HasBits xs d None → BeginsSo xs ys zs d e f → ⊥
begin_nowhere xs ys zs d e f none so = none (d - so.bits) so.blue

-- Of lanes that grow.

module _ (xs ys zs us vs ws us_more vs_more ws_more : List Bool) (blue : us ≡ xs ++ us_more) (green : vs ≡ ys ++ vs_more) (red : ws ≡ zs ++ ws_more) (d e f : ℕ)
    (blue_long : d + 10 ≤ length xs) (green_long : e + 10 ≤ length ys) (red_long : f + 10 ≤ length zs) where
  pub begins_stay : BeginsSo xs ys zs d e f → BeginsSo us vs ws d e f
  begins_stay was = record {
    bits = was.bits;
    blue = begin_of_stays xs us us_more blue d (d - was.bits) blue_long was.blue;
    green = begin_of_stays ys vs vs_more green e (e - was.bits) green_long was.green;
    red = begin_of_stays zs ws ws_more red f (f - was.bits) red_long was.red;
  }

  pub begins_were : BeginsSo us vs ws d e f → BeginsSo xs ys zs d e f
  begins_were is = record {
    bits = is.bits;
    blue = begin_of_was xs us us_more blue d (d - is.bits) blue_long is.blue;
    green = begin_of_was ys vs vs_more green e (e - is.bits) green_long is.green;
    red = begin_of_was zs ws ws_more red f (f - is.bits) red_long is.red;
  }
