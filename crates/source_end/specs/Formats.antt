-- Video formats: the modes of the video identification codes (CTA-861, detailed timings) that this project knows.
use Rattle.std.specs.Prelude.{ℕ, ◌==◌, true, false, cond, List, [], ◌∷◌, Option, Some, None}
use Rattle.source_end.specs.declared.mode.Mode.{Mode}

pub record Format : Type 0 where
  pub code : ℕ
  pub mode : Mode

-- active, front porch, sync, back porch
abbrev pub format : ℕ → List ℕ → List ℕ → Format
format code across down = record { code = code; mode = record { across = across; down = down; positive = false } }

abbrev pub positive_format : ℕ → List ℕ → List ℕ → Format
positive_format code across down = record { code = code; mode = record { across = across; down = down; positive = true } }

abbrev pub formats : List Format
formats =
    format 1 (640 ∷ 16 ∷ 96 ∷ 48 ∷ []) (480 ∷ 10 ∷ 2 ∷ 33 ∷ [])
    ∷ format 2 (720 ∷ 16 ∷ 62 ∷ 60 ∷ []) (480 ∷ 9 ∷ 6 ∷ 30 ∷ [])
    ∷ format 3 (720 ∷ 16 ∷ 62 ∷ 60 ∷ []) (480 ∷ 9 ∷ 6 ∷ 30 ∷ [])
    ∷ positive_format 4 (1280 ∷ 110 ∷ 40 ∷ 220 ∷ []) (720 ∷ 5 ∷ 5 ∷ 20 ∷ [])
    ∷ positive_format 16 (1920 ∷ 88 ∷ 44 ∷ 148 ∷ []) (1080 ∷ 4 ∷ 5 ∷ 36 ∷ [])
    ∷ format 17 (720 ∷ 12 ∷ 64 ∷ 68 ∷ []) (576 ∷ 5 ∷ 5 ∷ 39 ∷ [])
    ∷ format 18 (720 ∷ 12 ∷ 64 ∷ 68 ∷ []) (576 ∷ 5 ∷ 5 ∷ 39 ∷ [])
    ∷ positive_format 19 (1280 ∷ 440 ∷ 40 ∷ 220 ∷ []) (720 ∷ 5 ∷ 5 ∷ 20 ∷ [])
    ∷ []

-- the mode of a code
abbrev pub mode_in : List Format → ℕ → Option Mode
mode_in [] code = None
mode_in (f ∷ fs) code = cond (code == f.code) (Some f.mode) (mode_in fs code)
