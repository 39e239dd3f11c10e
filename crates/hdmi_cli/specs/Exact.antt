-- What `check` says of a capture whose lanes have a first full alignment: whether some conforming sender could have sent
-- the aligned columns before the cut (HDMI 1.4, section 5.1.2), but for bit 3 of lane 0 in packet columns, which is free.
use Rattle.std.specs.Prelude.{◌≡◌, ◌⊎◌, ℕ, Bool, List, ◌++◌, codes, Option}
use Rattle.std.specs.Io.KnownBytes.{Appends}
use Rattle.tmds_word.specs.Column.{Column}
use Rattle.capture_file.specs.Captures.{IsCaptureOf}
use Rattle.lane_deskew.specs.Triples.{IsFirst}
use Rattle.period_grammar.specs.Heard.{heard}
use Rattle.period_grammar.specs.Exact.{IsFront, whole_part}
use Rattle.listing_writer.specs.Checks.{check_lines}

-- bytes are the capture of three lanes whose first full alignment is at three edges
pub record IsAlignedCapture (blue green red : List Bool) (d e f : ℕ) (bytes : List ℕ) : Type 0 where
  pub captured : IsCaptureOf blue green red bytes
  pub first : IsFirst blue green red d e f

-- of columns either some sender could have sent those before the cut, the status is 0 and the output ends with `clean`, or
-- none could, the status is 1 and the output ends with `faulty`; the lines of the faults and of the cut stand before that
abbrev pub IsJudged : List Column → ℕ → Option (List ℕ) → Option (List ℕ) → Type 0
IsJudged cs status old new =
    (IsFront (whole_part cs) × (status ≡ 0) × Appends old new (check_lines (heard cs) ++ codes "clean\n"))
    ⊎ ((IsFront (whole_part cs) → ⊥) × (status ≡ 1) × Appends old new (check_lines (heard cs) ++ codes "faulty\n"))
