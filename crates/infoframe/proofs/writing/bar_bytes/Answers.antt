use Rattle.std.proofs.Common.{ℕ, [], ◌∷◌, List, get_or, ap, ◌∙◌}
use Rattle.infoframe.specs.Bytes.{bar_bytes}
use Rattle.infoframe.proofs.Lists.{all_items}
use Rattle.infoframe.proofs.writing.bar_bytes.Goals as goal

pub returns-clause-bytes : goal.returns-clause-bytes
returns-clause-bytes c =
    let first : List ℕ → ℕ = λ xs. get_or xs 0 0 in
    let second : List ℕ → ℕ = λ xs. get_or xs 1 0 in
    let e0 = c.to_le_bytes.ensures in
    let e1 = c.to_le_bytes-2.ensures in
    let e2 = c.to_le_bytes-3.ensures in
    let e3 = c.to_le_bytes-4.ensures in
    (λ i. first (e0 i) ∷ second (e0 i) ∷ first (e1 i) ∷ second (e1 i) ∷ first (e2 i) ∷ second (e2 i) ∷ first (e3 i) ∷ second (e3 i) ∷ [])
    ∙ ap bar_bytes (all_items c.args.bars.now 4 c.told-bars)

pub returns-clause-below : goal.returns-clause-below
returns-clause-below c = c.fits-bars
