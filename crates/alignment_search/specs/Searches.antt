-- How far the full alignments of three lanes were looked for.
use Rattle.std.specs.Prelude.{◌≡◌, ◌⊎◌, ℕ, ◌+◌, ◌-◌, ◌≤◌, max, min, Bool, List, slice_index}
use Rattle.lane_deskew.specs.Triples.{IsTriple}
use Rattle.alignment_search.specs.Alignments.{greatest, least, HasNoAlignment}
use Rattle.alignment_search.specs.Reached.{HasReached, IsBound}
use Rattle.alignment_search.specs.declared.finder.AlignmentFinder.{AlignmentFinder}

-- all of three places lie from a place on, and none past a limit
pub record AreWithin (from : ℕ) (places : List ℕ) (limit : ℕ) : Type 0 where
  pub after : from ≤ least places
  pub before : greatest places ≤ limit

-- of three lanes the edges from a place on are known as far as a limit
pub record HaveReached (finder : AlignmentFinder) (xs ys zs : List Bool) (from places limit : ℕ) : Type 0 where
  pub blue : HasReached xs from places limit finder.blue
  pub green : HasReached ys from places limit finder.green
  pub red : HasReached zs from places limit finder.red

pub record AreBounds (xs ys zs : List Bool) (from limit : ℕ) (places : List ℕ) : Type 0 where
  pub blue : IsBound xs from limit (slice_index places 0)
  pub green : IsBound ys from limit (slice_index places 1)
  pub red : IsBound zs from limit (slice_index places 2)

-- the last alignment that was answered
pub record IsAnswered (finder : AlignmentFinder) (xs ys zs : List Bool) (blue green red : ℕ) : Type 0 where
  pub triple : IsTriple xs ys zs blue green red
  pub from : finder.from ≡ min blue (min green red) + 1
  pub past : finder.past ≡ max blue (max green red) + 1

-- no alignment past the last one that was answered has all edges before the limit: those at which one can have its edges are
-- known that far
pub record HasSearched (finder : AlignmentFinder) (blue green red : List Bool) : Type 0 where
  pub low : ℕ
  pub near : finder.limit ≤ low + 71
  pub order : low ≤ max finder.from (finder.limit - 70)
  pub reached : HaveReached finder blue green red low (finder.limit - 119) finder.limit
  pub answered : ((finder.from ≡ 0) × (finder.past ≡ 0)) ⊎ ((d e f : ℕ) × IsAnswered finder blue green red d e f)
  pub within : finder.past ≤ finder.limit
  pub none : HasNoAlignment blue green red finder.past finder.limit
