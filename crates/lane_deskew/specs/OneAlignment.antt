-- Three lanes have one first full alignment.
use Rattle.std.specs.Prelude.{◌≡◌, ℕ, Bool, List}
use Rattle.lane_deskew.specs.Triples.{IsFirst}

abbrev pub OneAlignment : Type 0
OneAlignment = (xs ys zs : List Bool) (d e f p q r : ℕ) → IsFirst xs ys zs d e f → IsFirst xs ys zs p q r → (d ≡ p) × (e ≡ q) × (f ≡ r)
