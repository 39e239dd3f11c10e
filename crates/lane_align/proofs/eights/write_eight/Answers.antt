use Rattle.std.proofs.Common.{arith, ◌-◌}
use Rattle.std.proofs.lemmas.Simd.{put_chunk_whole}
use Rattle.lane_align.proofs.TwoGroups.{part_long, part_put, eight_long}
use Rattle.lane_align.proofs.eights.write_eight.Goals as goal

pub returns-clause-row : goal.returns-clause-row
returns-clause-row c = grind (arith, eight_long, part_put, put_chunk_whole, part_long)
