use Rattle.std.proofs.Common.{◌≡◌, ◌-◌, Bool, List}
use Rattle.alignment_search.specs.Parts.{ArePartsOf}
use Rattle.alignment_search.specs.Searches.{HasSearched}
use Rattle.lane_tests.proofs.tests.alignments.expect.Given as goal

abbrev pub invariant-parts : goal.invariant-parts
invariant-parts g l = record {
  limit : l.finder.limit ≡ l.limit;
  searched : (xs ys zs : List Bool) → ArePartsOf l.parts xs ys zs → HasSearched l.finder xs ys zs;
}

abbrev pub decreases-parts : goal.decreases-parts
decreases-parts g l = l.all - l.limit
