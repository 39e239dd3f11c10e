-- What columns in a row are by an alignment: the guard band of a period, or the end of a control period and the two columns after it.
use Rattle.std.specs.Prelude.{◌≡◌, ℕ, ◌+◌, Bool, true, false, Option, Some}
use Rattle.tmds_word.specs.Column.{Column}
use Rattle.terc4.specs.Columns.{is_control_column}
use Rattle.period_grammar.specs.Heard.{neither, opened}
use Rattle.lane_deskew.specs.Aligned.{aligned_column}
use Rattle.link_sink.specs.Sinks.{Fed}

-- two columns are there, and a test of both has an answer
pub record AreSo (a b : Option Column) (test : Column → Column → Bool) (answer : Bool) : Type 0 where
  pub here : Column
  pub next : Column
  pub is_here : a ≡ Some here
  pub is_next : b ≡ Some next
  pub so : test here next ≡ answer

-- three are there, and a control period ends with the first
pub record AreEnding (a b c : Option Column) : Type 0 where
  pub last : Column
  pub first : Column
  pub second : Column
  pub is_last : a ≡ Some last
  pub is_first : b ≡ Some first
  pub is_second : c ≡ Some second
  pub control : is_control_column last ≡ true
  pub ends : is_control_column first ≡ false

-- and no period opens after it
pub record AreUnopened (a b c : Option Column) : Type 0 where
  pub ending : AreEnding a b c
  pub nothing : opened ending.first ending.second ≡ neither

-- something that is said of three columns
abbrev pub OfThree : Type 1
OfThree = Option Column → Option Column → Option Column → Type 0

-- By the alignment at three edges.

-- the two columns from the edges on are so
abbrev pub AtEdges : (Column → Column → Bool) → Bool → Fed → (d e f : ℕ) → Type 0
AtEdges test answer fed d e f = AreSo (aligned_column fed.blue fed.green fed.red d e f 12) (aligned_column fed.blue fed.green fed.red d e f 13) test answer

-- something is so of the three from a column on
abbrev pub FromColumn : OfThree → Fed → (d e f j : ℕ) → Type 0
FromColumn P fed d e f j =
    P (aligned_column fed.blue fed.green fed.red d e f j) (aligned_column fed.blue fed.green fed.red d e f (j + 1)) (aligned_column fed.blue fed.green fed.red d e f (j + 2))

-- a control period ends with a column, and two columns follow it
abbrev pub EndsPeriod : Fed → (d e f j : ℕ) → Type 0
EndsPeriod fed d e f j = FromColumn AreEnding fed d e f j

-- and these open no period
abbrev pub OpensNothing : Fed → (d e f j : ℕ) → Type 0
OpensNothing fed d e f j = FromColumn AreUnopened fed d e f j

-- What is so of columns is so of those that they are.

-- one that is there is another
abbrev pub Becomes : Option Column → Option Column → Type 0
Becomes a u = (c : Column) → a ≡ Some c → u ≡ Some c

pub so_kept : (a b u v : Option Column) (test : Column → Column → Bool) (answer : Bool) → Becomes a u → Becomes b v → AreSo a b test answer → AreSo u v test answer
so_kept a b u v test answer here next is = record { here = is.here; next = is.next; is_here = here is.here is.is_here; is_next = next is.next is.is_next; so = is.so }

abbrev pub IsKept : OfThree → Type 0
IsKept P = (a b c u v w : Option Column) → Becomes a u → Becomes b v → Becomes c w → P a b c → P u v w

pub ending_kept : IsKept AreEnding
ending_kept a b c u v w last first second is = record {
  last = is.last;
  first = is.first;
  second = is.second;
  is_last = last is.last is.is_last;
  is_first = first is.first is.is_first;
  is_second = second is.second is.is_second;
  control = is.control;
  ends = is.ends;
}

pub unopened_kept : IsKept AreUnopened
unfolding ending_kept
unopened_kept a b c u v w last first second is = record { ending = ending_kept a b c u v w last first second is.ending; nothing = is.nothing }
