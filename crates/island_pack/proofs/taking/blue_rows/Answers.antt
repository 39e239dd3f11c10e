use Rattle.std.proofs.Common.{◌+◌, ◌*◌, ◌∷◌}
use Rattle.std.specs.Prelude.{slice_index_or, []}
use Rattle.island_pack.specs.Registers.{HasCodes, blue_code}
use Rattle.island_pack.proofs.Parts.{each_body}
use Rattle.island_pack.proofs.taking.blue_rows.Goals as goal

pub returns-clause-rows : goal.returns-clause-rows
returns-clause-rows c = λ r lt.
    each_body (λ j. HasCodes (slice_index_or (c.blue_row.result ∷ c.blue_row-2.result ∷ c.blue_row-3.result ∷ c.blue_row-4.result ∷ []) j []) (λ k. blue_code c.args.columns.now (8 * j + k)))
    c.blue_row.ensures.codes c.blue_row-2.ensures.codes c.blue_row-3.ensures.codes c.blue_row-4.ensures.codes r lt
