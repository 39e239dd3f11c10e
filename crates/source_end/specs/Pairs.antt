-- The sync values of two guard columns, from two numbers.
use Rattle.std.specs.Prelude.{ℕ, List, slice_index}
use Rattle.island_pack.specs.Periods.{SyncPair}

abbrev pub pair_of : List ℕ → SyncPair
pair_of values = record { first = slice_index values 0; second = slice_index values 1 }
