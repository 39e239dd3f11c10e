use Rattle.std.proofs.Common.{rules}
use Rattle.relock_sink.proofs.Places.{unopened_by}
use Rattle.relock_sink.proofs.rival.is_unopened.Goals as goal

pub returns-then-not-is_control_column : goal.returns-then-not-is_control_column
returns-then-not-is_control_column c = search (rules, unopened_by)
