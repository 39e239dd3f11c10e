-- How many columns what is relayed takes.
use Rattle.std.proofs.Common.{◌≡◌, ℕ, ◌+◌, ◌≤◌, List, [], ◌∷◌, ◌++◌, length, map, replicate, ap, arith}
use Rattle.std.specs.List.{fold}
use Rattle.std.proofs.lemmas.List.{length-append}
use Rattle.island_pack.specs.Periods.{control, period_columns, columns_of}
use Rattle.island_pack.specs.Runs.{longest}
use Rattle.island_pack.proofs.Runs.{values_longest}
use Rattle.relay.specs.Relayed.{RelayedPart, some_columns, some_line, some_island, data_of, Data, a_line, an_island, Turn, Alternation, ended, joined, on_turn, filled, lengthened, announced_turn, period_of, periods_in, settled}
use Rattle.relay.specs.Laws.{ColumnsGrow}
use Rattle.relay.specs.Sizes.{room, size_in, size}
use Rattle.relay.proofs.Conforming.{length-lengthened, length-announcing}
use Rattle.relay.proofs.Gaining.{gained}

control_columns : (vs : List ℕ) → period_columns (control (longest vs)) ≡ length vs
unfolding period_columns
control_columns vs = ap length (values_longest vs)

columns_in : (xs : List Turn) (last : List ℕ)
    → columns_of (periods_in (map announced_turn (map (on_turn lengthened) (map (on_turn filled) xs))) (lengthened (filled last))) ≡ size_in xs + room last
unfolding columns_of
columns_in [] last = let a = control_columns (lengthened (filled last)) in let b = length-lengthened last in omega arith
columns_in (x ∷ xs) last = grind (arith, control_columns, length-announcing, length-lengthened, columns_in xs last)

pub columns_settled : (t : Alternation) → columns_of (settled t) ≡ size t
unfolding settled
columns_settled t = columns_in t.turns t.last

pub size_both : (xs ys : List Turn) → size_in (xs ++ ys) ≡ size_in xs + size_in ys
size_both [] ys = omega arith
size_both (x ∷ xs) ys = let ih = size_both xs ys in omega arith

pub size_ended : (t : Alternation) (d : Data) → size (ended t d) ≡ size t + (period_columns (period_of d) + 12)
size_ended t d = let a = size_both t.turns (record { values = t.last; inner = d } ∷ []) in omega arith

size_grows : (t : Alternation) (k : RelayedPart) → size t ≤ size (joined t k)
size_grows t (some_columns r) = let a = length-append t.last (replicate r.count r.value) in omega arith
size_grows t (some_line bytes) = let a = size_ended t (a_line bytes) in omega arith
size_grows t (some_island x) = let a = size_ended t (an_island (data_of x)) in omega arith

size_fold : (ks : List RelayedPart) (t : Alternation) → size t ≤ size (fold joined t ks)
size_fold [] t = omega arith
size_fold (k ∷ ks) t = let a = size_grows t k in let b = size_fold ks (joined t k) in omega arith

pub columns_grow : ColumnsGrow
columns_grow reported more =
    let g = gained reported more in
    let h = gained (reported ++ more) [] in
    grind (arith, columns_settled, size_fold)
