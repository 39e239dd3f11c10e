use Rattle.std.proofs.Common.{◌∷◌, [], List, ℕ, get_or, ap, ap₂, ◌∙◌, ◌++◌, ◌≡◌}
use Rattle.std.specs.Prelude.{slice_index}
use Rattle.std.specs.Int.{w32, to_be_bytes}
use Rattle.capture_file.specs.Layout.{high_first}
use Rattle.capture_file.specs.Captures.{header_two}
use Rattle.capture_file.proofs.writing.wide_header_bytes.Goals as goal

abbrev four : List ℕ → List ℕ
four bs = get_or bs 0 0 ∷ get_or bs 1 0 ∷ get_or bs 2 0 ∷ get_or bs 3 0 ∷ []

twelve : (bits a b d : List ℕ) → a ≡ to_be_bytes w32 (slice_index bits 0) → b ≡ to_be_bytes w32 (slice_index bits 1) → d ≡ to_be_bytes w32 (slice_index bits 2)
    → (84 ∷ 77 ∷ 67 ∷ 50 ∷ []) ++ four a ++ four b ++ four d ≡ header_two bits
unfolding header_two high_first
twelve bits a b d ea eb ed =
    ap (λ xs. (84 ∷ 77 ∷ 67 ∷ 50 ∷ []) ++ four xs ++ four b ++ four d) ea
    ∙ ap₂ (λ ys zs. (84 ∷ 77 ∷ 67 ∷ 50 ∷ []) ++ four (to_be_bytes w32 (slice_index bits 0)) ++ four ys ++ four zs) eb ed

pub returns : goal.returns
returns c = twelve c.args.bits c.to_be_bytes.result c.to_be_bytes-2.result c.to_be_bytes-3.result c.to_be_bytes.ensures c.to_be_bytes-2.ensures c.to_be_bytes-3.ensures
