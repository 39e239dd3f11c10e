-- What a read that gives nothing says of the bytes not yet read, where they are known.
use Rattle.std.specs.Prelude.{◌≡◌, ◌↔◌, ℕ, List, [], Option, Some, None}

-- a read with room gives nothing exactly where no byte is left
abbrev pub EndsExactly : Option (List ℕ) → ℕ → Type 0
EndsExactly None count = Unit {0}
EndsExactly (Some bytes) count = (count ≡ 0) ↔ (bytes ≡ [])
