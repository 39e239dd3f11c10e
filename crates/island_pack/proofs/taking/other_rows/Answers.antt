use Rattle.std.proofs.Common.{List, ℕ, ◌*◌, ◌∷◌}
use Rattle.std.specs.Prelude.{slice_index_or, []}
use Rattle.island_pack.specs.Registers.{HasCodes, other_code}
use Rattle.island_pack.proofs.Rows.{each_eight}
use Rattle.island_pack.proofs.taking.other_rows.Goals as goal

pub returns : goal.returns
returns c = λ r lt.
    let rows : List (List ℕ) =
    c.other_row.result ∷ c.other_row-2.result ∷ c.other_row-3.result ∷ c.other_row-4.result ∷ c.other_row-5.result ∷ c.other_row-6.result ∷ c.other_row-7.result ∷ c.other_row-8.result ∷ [] in
    each_eight (λ j. HasCodes (slice_index_or rows j []) (other_code c.args.columns.now (4 * j)))
    c.other_row.ensures c.other_row-2.ensures c.other_row-3.ensures c.other_row-4.ensures c.other_row-5.ensures c.other_row-6.ensures c.other_row-7.ensures c.other_row-8.ensures r lt
