use Rattle.std.proofs.Common.{arith, ◌≡◌, ℕ, ◌-◌, ◌*◌, ◌/◌, ◌%◌}
use Rattle.capture_file.proofs.Columns.{count_of_columns}
use Rattle.capture_file.proofs.lanes.LaneRows.length.Goals as goal

-- what the rows have past the offset and a lag
left_is : (len n offset lag first left : ℕ) → len % 10 ≡ 0 → n ≡ len / 10 → first ≡ len - offset → left ≡ first - lag → left ≡ 10 * n - offset - lag
left_is len n offset lag first left whole count a b = omega arith

pub returns-in-Some : goal.returns-in-Some
returns-in-Some c = grind (arith, count_of_columns, left_is)

pub returns-in-None : goal.returns-in-None
returns-in-None c = grind (arith, count_of_columns, left_is)
