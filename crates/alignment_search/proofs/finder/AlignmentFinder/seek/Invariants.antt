use Rattle.std.proofs.Common.{◌≡◌, ◌-◌, ◌≤◌, max, Bool, List}
use Rattle.alignment_search.specs.Parts.{ArePartsOf}
use Rattle.alignment_search.specs.Searches.{HasSearched, HaveReached, AreWithin, AreBounds}
use Rattle.alignment_search.proofs.Searching.{HasNoneBefore}
use Rattle.alignment_search.proofs.finder.AlignmentFinder.seek.Given as goal

abbrev pub invariant-apart : goal.invariant-apart
invariant-apart l = record {
  limit : l.self.limit ≡ l.limit;
  from : l.self.from ≡ l.fn.self.from;
  past : l.self.past ≡ l.fn.self.past;
  start : l.fn.self.from ≤ l.from;
  low : l.from ≤ max l.fn.self.from (l.limit - 70);
  base : l.parts.base ≤ l.from;
  within : AreWithin l.from l.edges l.limit;
  reached :
      (xs ys zs : List Bool) → ArePartsOf l.parts xs ys zs → HasSearched l.fn.self xs ys zs
      → HaveReached l.self xs ys zs l.from (l.limit - 119) l.limit × AreBounds xs ys zs l.from l.limit l.edges × HasNoneBefore xs ys zs l.fn.self.past l.from;
}

abbrev pub decreases-apart : goal.decreases-apart
decreases-apart l = l.limit - l.from
