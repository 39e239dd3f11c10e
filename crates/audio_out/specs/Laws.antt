-- What holds of subframes, over their definition alone.
use Rattle.std.specs.Prelude.{◌≡◌, ◌↔◌, ℕ, ◌<◌, List, All}
use Rattle.audio_out.specs.Subframes.{IsSound, IsSubframe, subframe_bytes}
use Rattle.audio_out.specs.declared.subframe.Subframe.{Subframe}

-- a subframe has one spelling
abbrev pub OneSpelling : Type 0
OneSpelling =
    (sub : Subframe) (bytes : List ℕ) → IsSound sub → All (λ b. b < 256) bytes → IsSubframe sub bytes ↔ (bytes ≡ subframe_bytes sub)

-- bytes are one subframe at most
abbrev pub OneReading : Type 0
OneReading = (a b : Subframe) (bytes : List ℕ) → IsSubframe a bytes → IsSubframe b bytes → a ≡ b
