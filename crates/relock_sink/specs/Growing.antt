-- Alignments of lanes that grow: they stay, and what is shown by bits that had arrived was so before.
use Rattle.std.proofs.Common.{◌≡◌, ℕ, ◌+◌, ◌*◌, ◌<◌, ◌≤◌, max, Bool, Option, Some, None, refl, sym, subst, arith, inl, inr}
use Rattle.std.proofs.lemmas.Bool.{cases_lt}
use Rattle.tmds_word.specs.Bits.{window}
use Rattle.tmds_word.specs.Column.{Column}
use Rattle.lane_align.specs.Lanes.{IsEdge}
use Rattle.lane_align.proofs.Controls.{window_is}
use Rattle.lane_align.proofs.Edges.{edge_within}
use Rattle.lane_align.proofs.Growing.{window_stays, window_was, edge_stays}
use Rattle.lane_deskew.specs.Triples.{IsTriple, IsFirst}
use Rattle.lane_deskew.specs.Aligned.{column_from, aligned_column, place}
use Rattle.link_sink.specs.Sinks.{Fed}
use Rattle.track_sink.specs.Epochs.{lane_of, most_of}
use Rattle.track_sink.specs.Tracks.{Grows}
use Rattle.alignment_search.proofs.Growing.{GrowsFrom, edge_was_there, same_of}
use Rattle.relock_sink.specs.Bands.{OfThree, AtEdges, FromColumn, IsKept, so_kept}
use Rattle.relock_sink.specs.Relocks.{is_announced, IsFirstSo, IsUnconfirmed, shown_at}

-- a lane that grows has all bits that any had
pub lane_grows_from : (before now : Fed) (limit : ℕ) → Grows before now → limit + 9 ≤ most_of before → (l : ℕ) → l < 3 → GrowsFrom limit (lane_of before l) (lane_of now l)
lane_grows_from before now limit grows long l lt =
    let mine = grows l lt in (
      mine.0,
      mine.1,
      elim mine.2 [
        | inl longest ↦
            let a = longest 0 (omega arith) in
            let b = longest 1 (omega arith) in
            let c = longest 2 (omega arith) in
            inl (omega arith)
        | inr none ↦ inr none
      ],
    )

module _ (before now : Fed) (grows : Grows before now) where
  edge_kept : (l e : ℕ) → l < 3 → IsEdge (lane_of before l) e → IsEdge (lane_of now l) e
  edge_kept l e lt edge = let mine = grows l lt in edge_stays (lane_of before l) (lane_of now l) mine.0 mine.1 e edge

  pub triple_stays : (d e f : ℕ) → IsTriple before.blue before.green before.red d e f → IsTriple now.blue now.green now.red d e f
  triple_stays d e f t = record {
    blue = edge_kept 0 d (omega arith) t.blue;
    green = edge_kept 1 e (omega arith) t.green;
    red = edge_kept 2 f (omega arith) t.red;
    blue_green = t.blue_green;
    green_red = t.green_red;
    blue_red = t.blue_red;
  }

  pub triple_was : (limit d e f : ℕ) → limit + 9 ≤ most_of before → max d (max e f) < limit → IsTriple now.blue now.green now.red d e f → IsTriple before.blue before.green before.red d e f
  triple_was limit d e f long less t = record {
    blue = edge_was_there limit before.blue now.blue d (lane_grows_from before now limit grows long 0 (omega arith)) (omega arith) t.blue;
    green = edge_was_there limit before.green now.green e (lane_grows_from before now limit grows long 1 (omega arith)) (omega arith) t.green;
    red = edge_was_there limit before.red now.red f (lane_grows_from before now limit grows long 2 (omega arith)) (omega arith) t.red;
    blue_green = t.blue_green;
    green_red = t.green_red;
    blue_red = t.blue_red;
  }

  -- the first alignment stays
  pub first_stays : (d e f : ℕ) → IsFirst before.blue before.green before.red d e f → IsFirst now.blue now.green now.red d e f
  first_stays d e f first =
      let t = first.triple in
      let a = edge_within before.blue d t.blue in
      let b = edge_within before.green e t.green in
      let c = edge_within before.red f t.red in
      let limit = max d (max e f) in
      record {
        triple = triple_stays d e f t;
        least = λ p q r other. elim (cases_lt (max p (max q r)) limit) [
          | inl less ↦ first.least p q r (triple_was limit p q r (omega arith) less other)
          | inr more ↦ more
        ];
      }

  -- and was the first before, where its bits had arrived
  pub first_was : (d e f : ℕ) → max d (max e f) + 10 ≤ most_of before → IsFirst now.blue now.green now.red d e f → IsFirst before.blue before.green before.red d e f
  first_was d e f long first = record {
    triple = triple_was (max d (max e f) + 1) d e f (omega arith) (omega arith) first.triple;
    least = λ p q r other. first.least p q r (triple_stays p q r other);
  }

  -- the window at a place
  window_kept : (l p w : ℕ) → l < 3 → window (lane_of before l) p ≡ Some w → window (lane_of now l) p ≡ Some w
  window_kept l p w lt here = let mine = grows l lt in window_stays (lane_of before l) (lane_of now l) mine.0 mine.1 p w here

  window_had : (l p w : ℕ) → l < 3 → p + 10 ≤ most_of before → window (lane_of now l) p ≡ Some w → window (lane_of before l) p ≡ Some w
  window_had l p w lt long here =
      let g = lane_grows_from before now (p + 1) grows (omega arith) l lt in
      elim g.2 [
        | inl whole ↦ window_was (lane_of before l) (lane_of now l) g.0 g.1 p w (omega arith) here
        | inr none ↦ subst (λ ys. window ys p ≡ Some w) (sym (same_of (lane_of before l) (lane_of now l) g.0 g.1 none)) here
      ]

whole : (a b r u v w : Option ℕ) (c : Column) → ((n : ℕ) → a ≡ Some n → u ≡ Some n) → ((n : ℕ) → b ≡ Some n → v ≡ Some n) → ((n : ℕ) → r ≡ Some n → w ≡ Some n)
    → column_from a b r ≡ Some c → column_from u v w ≡ Some c
whole a b r u v w c h k l m = grind arith

module _ (before now : Fed) (grows : Grows before now) (d e f j : ℕ) (c : Column) where
  pub column_kept : aligned_column before.blue before.green before.red d e f j ≡ Some c → aligned_column now.blue now.green now.red d e f j ≡ Some c
  unfolding aligned_column
  column_kept h =
      whole _ _ _ _ _ _ c (λ n. window_kept before now grows 0 (place d j) n (omega arith)) (λ n. window_kept before now grows 1 (place e j) n (omega arith))
      (λ n. window_kept before now grows 2 (place f j) n (omega arith)) h

  pub column_had : place (max d (max e f)) j + 10 ≤ most_of before → aligned_column now.blue now.green now.red d e f j ≡ Some c → aligned_column before.blue before.green before.red d e f j ≡ Some c
  unfolding aligned_column
  column_had long h =
      whole _ _ _ _ _ _ c (λ n. window_had before now grows 0 (place d j) n (omega arith) (omega arith)) (λ n. window_had before now grows 1 (place e j) n (omega arith) (omega arith))
      (λ n. window_had before now grows 2 (place f j) n (omega arith) (omega arith)) h

module _ (before now : Fed) (grows : Grows before now) (d e f : ℕ) where
  pub edges_stay : (test : Column → Column → Bool) (answer : Bool) → AtEdges test answer before d e f → AtEdges test answer now d e f
  edges_stay test answer was = so_kept _ _ _ _ test answer (column_kept before now grows d e f 12) (column_kept before now grows d e f 13) was

  pub edges_were : (test : Column → Column → Bool) (answer : Bool) → 120 ≤ d → max d (max e f) + 20 ≤ most_of before → AtEdges test answer now d e f → AtEdges test answer before d e f
  edges_were test answer past shown is =
      so_kept _ _ _ _ test answer (λ c. column_had before now grows d e f 12 c (omega arith)) (λ c. column_had before now grows d e f 13 c (omega arith)) is

  pub columns_stay : (P : OfThree) → IsKept P → (j : ℕ) → FromColumn P before d e f j → FromColumn P now d e f j
  columns_stay P kept j was =
      kept _ _ _ _ _ _ (column_kept before now grows d e f j) (column_kept before now grows d e f (j + 1)) (column_kept before now grows d e f (j + 2)) was

  pub columns_were : (P : OfThree) → IsKept P → (j : ℕ) → 120 ≤ d → max d (max e f) + 10 * j ≤ most_of before + 90
      → FromColumn P now d e f j → FromColumn P before d e f j
  columns_were P kept j past shown is =
      kept _ _ _ _ _ _ (λ c. column_had before now grows d e f j c (omega arith)) (λ c. column_had before now grows d e f (j + 1) c (omega arith))
      (λ c. column_had before now grows d e f (j + 2) c (omega arith)) is

  -- whether a period opens at the first alignment stays so
  pub first_so_stays : (opens : Bool) → IsFirstSo opens before d e f → IsFirstSo opens now d e f
  first_so_stays opens was = record { first = first_stays before now grows d e f was.first; columns = edges_stay is_announced opens was.columns }

  -- and was so, where the bits that show it had arrived
  pub first_so_was : (opens : Bool) → shown_at d e f ≤ most_of before → IsFirstSo opens now d e f → IsFirstSo opens before d e f
  first_so_was opens shown is =
      let past = is.first.triple.blue.past in
      record { first = first_was before now grows d e f (omega arith) is.first; columns = edges_were is_announced opens (omega arith) shown is.columns }

-- all bits that show it are there
pub shown_within : (fed : Fed) (d e f : ℕ) → IsUnconfirmed fed d e f → shown_at d e f ≤ most_of fed
unfolding aligned_column
shown_within fed d e f is =
    let past = is.first.triple.blue.past in
    let past2 = is.first.triple.green.past in
    let past3 = is.first.triple.red.past in
    let at = columns (window fed.blue (place d 13)) (window fed.green (place e 13)) (window fed.red (place f 13)) is.columns.next is.columns.is_next in
    let a = (window_is fed.blue (place d 13) at.0 at.3).0 in
    let b = (window_is fed.green (place e 13) at.1 at.4).0 in
    let c = (window_is fed.red (place f 13) at.2 at.5).0 in
    omega arith
  where
    columns : (a b r : Option ℕ) (c : Column) → column_from a b r ≡ Some c → (x y z : ℕ) × (a ≡ Some x) × (b ≡ Some y) × (r ≡ Some z)
    columns (Some x) (Some y) (Some z) c e = (x, y, z, refl, refl, refl)
    columns None b r c e = absurd cc
    columns (Some x) None r c e = absurd cc
    columns (Some x) (Some y) None c e = absurd cc
