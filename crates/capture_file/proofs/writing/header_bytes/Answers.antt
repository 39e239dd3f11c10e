use Rattle.std.proofs.Common.{◌∷◌, [], get_or, ap}
use Rattle.capture_file.specs.Layout.{header, high_first}
use Rattle.capture_file.proofs.writing.header_bytes.Goals as goal

pub returns : goal.returns
unfolding header high_first
returns c = ap (λ bs. 84 ∷ 77 ∷ 67 ∷ 49 ∷ get_or bs 0 0 ∷ get_or bs 1 0 ∷ get_or bs 2 0 ∷ get_or bs 3 0 ∷ []) c.to_be_bytes.ensures
