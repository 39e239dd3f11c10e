use Rattle.std.proofs.Common.{◌-◌, arith}
use Rattle.std.proofs.lemmas.List.{take_rest}
use Rattle.lane_align.proofs.Begun.{part_more, rest_more}
use Rattle.lane_align.proofs.aligner.LaneAligner.cut_from.Goals as goal

pub returns-then-next-bits-clause-stands : goal.returns-then-next-bits-clause-stands
returns-then-next-bits-clause-stands c xs stands = grind (arith, part_more)

pub returns-then-next-bits-clause-words : goal.returns-then-next-bits-clause-words
returns-then-next-bits-clause-words c xs ws stands all = grind (arith, part_more)

pub returns-clause-stands : goal.returns-clause-stands
returns-clause-stands c xs stands = grind (arith, part_more, rest_more, take_rest)

pub returns-clause-words : goal.returns-clause-words
returns-clause-words c xs ws stands all = grind (arith, part_more, rest_more, take_rest)
