-- Rows that were worked out by hand: listings that `make link` refuses, and the note of each.
use Rattle.std.specs.Prelude.{◌≡◌, ℕ, List, [], ◌++◌, codes}
use Rattle.capture_commands.specs.Notes.{listing_note}
use Rattle.listing_reader.specs.Reading.{reads_as}
use Rattle.listing_reader.specs.LineSteps.{refuses}
use Rattle.listing_reader.specs.declared.fault.ListCause.{ListCause}
use Rattle.listing_reader.specs.declared.fault.ListCause.TheVariants.{Fault, Range, Control, Preamble, Unended, After}

-- a text is refused at a line, and the note says why
pub record IsRefusedFor (text : List ℕ) (line : ℕ) (cause : ListCause) (note : List ℕ) : Type 0 where
  pub refused : reads_as text ≡ refuses line cause
  pub said : listing_note line cause ≡ note

unfoldable pub short_control : List ℕ
short_control = codes "c 00 3\nc 04 8\nv ff0000\nc 00 12\nend\n"

unfoldable pub no_preamble : List ℕ
no_preamble = codes "c 00 12\nv ff0000\n"

unfoldable pub great_value : List ℕ
great_value = codes "c 40 12\n"

unfoldable pub more_after : List ℕ
more_after = codes "c 00 4\nc 04 8\nv ff0000\nc 00 12\nend\nx\n"

unfoldable pub fault_line : List ℕ
fault_line = codes "c 00 12\n! noise 3\n"

pub record AreRefused : Type 0 where
  -- eleven control columns before a line
  pub control : IsRefusedFor short_control 3 Control (codes "input: line 3 control\n")
  pub preamble : IsRefusedFor no_preamble 2 Preamble (codes "input: line 2 preamble\n")
  pub range : IsRefusedFor great_value 1 Range (codes "input: line 1 range\n")
  pub unended : IsRefusedFor [] 1 Unended (codes "input: line 1 unended\n")
  pub after : IsRefusedFor more_after 6 After (codes "input: line 6 after\n")
  pub fault : IsRefusedFor fault_line 2 Fault (codes "input: line 2 fault\n")
