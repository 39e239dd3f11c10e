-- The numbers of what a call answers.
use Rattle.std.specs.Prelude.{ℤ, pos}
use Rattle.column_rows.specs.declared.laid.RowStatus.{RowStatus}
use Rattle.column_rows.specs.declared.laid.RowStatus.TheVariants.{Done, Full, Misuse}

abbrev pub code_of : RowStatus → ℤ
code_of Done = pos 0
code_of Full = pos 1
code_of Misuse = pos 2
