use Rattle.std.proofs.Common.{◌≡◌, ℕ, ◌+◌, ◌*◌, ◌<◌, List, [], ◌∷◌, ◌++◌, get_or, arith, slice_index}
use Rattle.std.specs.Prelude.{slice_index_or}
use Rattle.island_pack.specs.Registers.{sync_in}
use Rattle.island_pack.proofs.Parts.{each_body}
use Rattle.island_pack.proofs.Rows.{each_eight}
use Rattle.island_pack.proofs.taking.sync_of.Goals as goal

eight_of : List ℕ → List ℕ
eight_of xs = get_or xs 0 0 ∷ get_or xs 1 0 ∷ get_or xs 2 0 ∷ get_or xs 3 0 ∷ get_or xs 4 0 ∷ get_or xs 5 0 ∷ get_or xs 6 0 ∷ get_or xs 7 0 ∷ []

pub returns : goal.returns
unfolding eight_of
returns c =
    let blue = c.args.blue.now in
    let sync : List ℕ = eight_of c.sync_row.result ++ eight_of c.sync_row-2.result ++ eight_of c.sync_row-3.result ++ eight_of c.sync_row-4.result in
    let in_row : ℕ → ℕ → Type 0 = λ r k. slice_index sync (8 * r + k) ≡ sync_in (slice_index_or blue r []) k in
    λ r k lr lk.
    each_body (λ j. (i : ℕ) → i < 8 → in_row j i)
    (each_eight (in_row 0) (c.sync_row.ensures 0 (omega arith)) (c.sync_row.ensures 1 (omega arith)) (c.sync_row.ensures 2 (omega arith)) (c.sync_row.ensures 3 (omega arith)) (c.sync_row.ensures 4 (omega arith)) (c.sync_row.ensures 5 (omega arith)) (c.sync_row.ensures 6 (omega arith)) (c.sync_row.ensures 7 (omega arith)))
    (each_eight (in_row 1) (c.sync_row-2.ensures 0 (omega arith)) (c.sync_row-2.ensures 1 (omega arith)) (c.sync_row-2.ensures 2 (omega arith)) (c.sync_row-2.ensures 3 (omega arith)) (c.sync_row-2.ensures 4 (omega arith)) (c.sync_row-2.ensures 5 (omega arith)) (c.sync_row-2.ensures 6 (omega arith)) (c.sync_row-2.ensures 7 (omega arith)))
    (each_eight (in_row 2) (c.sync_row-3.ensures 0 (omega arith)) (c.sync_row-3.ensures 1 (omega arith)) (c.sync_row-3.ensures 2 (omega arith)) (c.sync_row-3.ensures 3 (omega arith)) (c.sync_row-3.ensures 4 (omega arith)) (c.sync_row-3.ensures 5 (omega arith)) (c.sync_row-3.ensures 6 (omega arith)) (c.sync_row-3.ensures 7 (omega arith)))
    (each_eight (in_row 3) (c.sync_row-4.ensures 0 (omega arith)) (c.sync_row-4.ensures 1 (omega arith)) (c.sync_row-4.ensures 2 (omega arith)) (c.sync_row-4.ensures 3 (omega arith)) (c.sync_row-4.ensures 4 (omega arith)) (c.sync_row-4.ensures 5 (omega arith)) (c.sync_row-4.ensures 6 (omega arith)) (c.sync_row-4.ensures 7 (omega arith)))
    r lr k lk
