-- What the last line of a check says of columns.
use Rattle.std.specs.Prelude.{◌≡◌, ◌↔◌, List, ◌++◌, codes}
use Rattle.tmds_word.specs.Column.{Column}
use Rattle.period_grammar.specs.Heard.{heard}
use Rattle.period_grammar.specs.Exact.{IsFront, whole_part}
use Rattle.listing_writer.specs.Texts.{fault_lines}
use Rattle.listing_writer.specs.Checks.{check_lines, check_text}

-- the check of columns ends with `clean`
abbrev pub EndsClean : List Column → Type 0
EndsClean cs = check_text (heard cs) ≡ check_lines (heard cs) ++ codes "clean\n"

-- it ends with `faulty`
abbrev pub EndsFaulty : List Column → Type 0
EndsFaulty cs = check_text (heard cs) ≡ check_lines (heard cs) ++ codes "faulty\n"

-- no fault is counted exactly where some conforming sender could have sent the columns before the cut
abbrev pub CountIsExact : Type 0
CountIsExact = (cs : List Column) → (fault_lines (heard cs) ≡ 0) ↔ IsFront (whole_part cs)

-- a check ends with `clean` exactly there, and with `faulty` exactly where none could
abbrev pub VerdictIsExact : Type 0
VerdictIsExact =
    (cs : List Column) → (EndsClean cs ↔ IsFront (whole_part cs)) × (EndsFaulty cs ↔ (IsFront (whole_part cs) → ⊥))
