-- What it says of columns that no fault is reported of them. The columns before the one that is reported as cut, or all
-- of them where nothing is, are a prefix of the columns that spell some conforming periods: HDMI 1.4, section 5.1.2
-- (the order of the periods), 5.2.1 (control periods), 5.2.2 (video data periods) and 5.2.3 (data islands). Bit 3 of
-- lane 0 in packet columns is free: a sink does not judge it.
use Rattle.std.specs.Prelude.{◌≡◌, ℕ, Bool, true, false, not, List, [], ◌∷◌, ◌++◌, length, take}
use Rattle.std.specs.List.{list_all}
use Rattle.tmds_word.specs.Column.{Column}
use Rattle.island_pack.specs.Periods.{Period}
use Rattle.island_pack.specs.Conforming.{IsConforming}
use Rattle.island_pack.specs.Spelling.{SpellsBy, freely}
use Rattle.period_grammar.specs.Events.{Event, run, line, open_island, packet, close_island, cut}
use Rattle.period_grammar.specs.Heard.{heard}

-- whether an event is a fault; a cut is none, since columns may end anywhere
abbrev pub is_fault_event : Event → Bool
is_fault_event (run value count) = false
is_fault_event (line bytes) = false
is_fault_event (open_island a b) = false
is_fault_event (packet p verdicts column) = false
is_fault_event (close_island a b) = false
is_fault_event (cut column) = false
is_fault_event _ = true

abbrev pub faultless : List Event → Bool
faultless events = list_all (λ t. not (is_fault_event t)) events

-- no fault is reported of columns
abbrev pub IsClean : List Column → Type 0
IsClean cs = faultless (heard cs) ≡ true

-- the column of an event that reports a cut, else a number
abbrev pub cut_or : ℕ → Event → ℕ
cut_or n (cut c) = c
cut_or n _ = n

-- the first column that is reported as cut, else a number
abbrev pub cut_column : ℕ → List Event → ℕ
cut_column n [] = n
cut_column n (t ∷ ts) = cut_or (cut_column n ts) t

-- the columns before the one that is reported as cut; all of them where nothing is
unfoldable pub whole_part : List Column → List Column
whole_part cs = take (cut_column (length cs) (heard cs)) cs

-- columns with which those begin that spell some conforming periods
pub record IsFront (cs : List Column) : Type 0 where
  pub periods : List Period
  pub spelled : List Column
  pub conforming : IsConforming periods
  pub spells : SpellsBy freely periods spelled
  pub rest : List Column
  pub front : spelled ≡ cs ++ rest
