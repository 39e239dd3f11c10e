use Rattle.std.proofs.Common.{◌-◌, ◌≤◌, Bool, List}
use Rattle.alignment_search.specs.Parts.{ArePartsOf}
use Rattle.alignment_search.specs.Searches.{HasSearched}
use Rattle.lane_tests.proofs.tests.alignments.expect_before.Given as goal

abbrev pub invariant-answers : goal.invariant-answers
invariant-answers g l = record {
  rises : l.finder.limit ≤ l.limit;
  searched : (xs ys zs : List Bool) → ArePartsOf l.parts xs ys zs → HasSearched l.fn.finder xs ys zs → HasSearched l.finder xs ys zs;
}

abbrev pub decreases-answers : goal.decreases-answers
decreases-answers g l = l.limit - l.finder.limit
