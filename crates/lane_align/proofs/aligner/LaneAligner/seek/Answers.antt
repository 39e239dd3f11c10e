use Rattle.std.proofs.Common.{List, Bool, ℕ, Option, None, Some, MatchOption, length, take, ◌++◌, ◌+◌, ◌<◌, ◌≤◌}
use Rattle.tmds_word.specs.Bits.{bytes_bits}
use Rattle.lane_align.specs.Lanes.{IsRun}
use Rattle.lane_align.specs.Words.{AreWords}
use Rattle.lane_align.specs.Aligners.{EndsFirst}
use Rattle.lane_align.proofs.Parts.{after_ends, after_none}
use Rattle.lane_align.proofs.aligner.LaneAligner.seek.Goals as goal

by_found : (xs ys : List Bool) (bits : ℕ) (words : List ℕ) (found : Option ℕ) → ((p : ℕ) → p < length xs → IsRun (xs ++ ys) p → ⊥)
    → MatchOption found ((p : ℕ) → IsRun ys p → ⊥) (λ used. (used ≤ bits) × (120 ≤ used) × AreWords words × EndsFirst ys used words)
    → MatchOption found ((p : ℕ) → IsRun (xs ++ ys) p → ⊥) (λ used. EndsFirst (xs ++ ys) (length xs + used) words)
by_found xs ys bits words None before none = after_none xs ys before none
by_found xs ys bits words (Some used) before has = after_ends xs ys used words before has.3

pub returns-in-None-clause-found : goal.returns-in-None-clause-found
returns-in-None-clause-found c xs stands =
    by_found xs (take c.args.bits (bytes_bits c.args.bytes.now)) c.args.bits _ c.whole_run.result (c.in-None.ensures.found xs stands) c.whole_run.ensures.found
