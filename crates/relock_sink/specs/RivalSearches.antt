-- How far edges were looked for, for which the alignment of an epoch is let go.
use Rattle.std.specs.Prelude.{◌≡◌, ◌⊎◌, ℕ, ◌+◌, ◌<◌, ◌≤◌, max, min, true, List, slice_index}
use Rattle.lane_deskew.specs.Triples.{IsAlignment}
use Rattle.alignment_search.specs.Alignments.{greatest}
use Rattle.alignment_search.specs.Begins.{HaveBegun}
use Rattle.alignment_search.specs.Searches.{HasSearched}
use Rattle.alignment_search.specs.declared.finder.AlignmentFinder.{AlignmentFinder}
use Rattle.link_sink.specs.Sinks.{Fed}
use Rattle.track_sink.specs.Epochs.{most_of}
use Rattle.track_sink.specs.Tracks.{Grows}
use Rattle.relock_sink.specs.Doubts.{IsLetGo}
use Rattle.relock_sink.specs.Judges.{IsOwn, AreEdges}
use Rattle.relock_sink.specs.Watches.{IsNever}
use Rattle.relock_sink.specs.RefutedDecided.{IsFirstRefuted}
use Rattle.relock_sink.specs.declared.rivals.Own.{Own}
use Rattle.relock_sink.specs.declared.rivals.Own.TheVariants.{Sought, Confirmed, Other}
use Rattle.relock_sink.specs.declared.rivals.RivalSearch.{RivalSearch}

-- what is known of an epoch's first alignment, where something is said of lanes where it is sought still
abbrev pub KnowsOwn : Own → Type 0 → Fed → Type 0
KnowsOwn Sought sought fed = sought
KnowsOwn (Confirmed own) sought fed = IsOwn fed own
KnowsOwn Other sought fed = IsNever true fed

-- the epoch's alignment is known once one was found, and it is not let go for edges before the limit
pub record HasSoughtRivals (w : RivalSearch) (fed : Fed) : Type 0 where
  pub searched : (later : Fed) → Grows fed later → HasSearched w.alignments later.blue later.green later.red
  pub own : KnowsOwn w.own (w.alignments.past ≡ 0) fed
  pub none : (p q r d e f : ℕ) → IsLetGo fed p q r d e f → w.alignments.limit ≤ max d (max e f)
  pub decided : (w.alignments.limit ≡ 0) ⊎ (w.alignments.limit + 89 ≤ most_of fed)

-- the alignment is let go for these edges
abbrev pub LetGoFor : Fed → List ℕ → Type 0
LetGoFor fed edges = (p q r : ℕ) × IsLetGo fed p q r (slice_index edges 0) (slice_index edges 1) (slice_index edges 2)

-- what is known before edges, where all bits have arrived that show what they say of the alignment
pub record IsKnownBefore (first : Own) (finder : AlignmentFinder) (fed : Fed) (edges : List ℕ) : Type 0 where
  pub triple : AreEdges fed edges
  pub own : KnowsOwn first (IsAlignment fed.blue fed.green fed.red edges) fed
  pub begun : HaveBegun finder fed.blue fed.green fed.red edges
  pub shown : greatest edges + 90 ≤ most_of fed

-- and after them, where it is not let go for them
pub record IsKnownAfter (first : Own) (fed : Fed) (edges : List ℕ) : Type 0 where
  pub own : KnowsOwn first ⊥ fed
  pub stands : LetGoFor fed edges → ⊥

-- edges before a limit are the first for which the alignment is let go, and the epoch is left at a place
pub record IsRefutedBefore (fed : Fed) (limit place : ℕ) : Type 0 where
  pub own_blue : ℕ
  pub own_green : ℕ
  pub own_red : ℕ
  pub blue : ℕ
  pub green : ℕ
  pub red : ℕ
  pub first : IsFirstRefuted fed own_blue own_green own_red blue green red
  pub before : max blue (max green red) < limit
  pub begins : place + 120 ≡ min blue (min green red)
