-- How the periods of a stream are framed: by guard bands, preambles and data islands (HDMI 1.4 chapter 5.2), or by control
-- periods alone (DVI 1.0 chapter 3).
use Rattle.std.specs.Prelude.{◌≡◌, ℕ, ◌+◌, Bool, true, not, List, [], ◌∷◌, ◌++◌, length, Option, None}
use Rattle.std.specs.List.{list_all}
use Rattle.tmds_word.specs.Column.{Column}
use Rattle.island_pack.specs.Periods.{ControlRun, Period, control, video, values_of, period_columns, columns_of}
use Rattle.island_pack.specs.Conforming.{conforms}
use Rattle.island_pack.specs.Ranges.{has_room}
use Rattle.source_end.specs.DviPeriods.{dvi_columns, dvi_columns_of, dvi_conforms, is_island}
use Rattle.source_end.specs.Kept.{has_pixels, is_sendable, is_dvi_sendable, conforms_so_far, dvi_conforms_so_far}
use Rattle.source_end.specs.Refusals.{last_period, is_announced, first_fault, push_fault, dvi_push_fault, close_fault}
use Rattle.source_end.specs.declared.items.ItemFault.{ItemFault}

pub record Rules : Type 0 where
  -- which periods there are
  pub is_carried : Period → Bool
  -- how many columns a period takes, and periods
  pub columns : Period → ℕ
  pub columns_of : List Period → ℕ
  -- whether what has to stand before a period is there
  pub is_announced : Option Period → Period → Bool
  -- why a period is refused after others
  pub push_fault : List Period → Period → Option ItemFault
  -- whether periods can be the first ones of a stream, and all of one
  pub conforms_so_far : List Period → Bool
  pub conforms : List Period → Bool
  -- whether the columns of a period can be made
  pub is_sendable : Period → Bool

-- with guard bands
abbrev pub link_rules : Rules
link_rules = record {
  is_carried = λ p. true;
  columns = period_columns;
  columns_of = columns_of;
  is_announced = is_announced;
  push_fault = push_fault;
  conforms_so_far = conforms_so_far;
  conforms = conforms;
  is_sendable = is_sendable;
}

-- without them nothing has to be announced, and there are no data islands
abbrev pub dvi_rules : Rules
dvi_rules = record {
  is_carried = λ p. not (is_island p);
  columns = dvi_columns;
  columns_of = dvi_columns_of;
  is_announced = λ before p. true;
  push_fault = dvi_push_fault;
  conforms_so_far = dvi_conforms_so_far;
  conforms = dvi_conforms;
  is_sendable = is_dvi_sendable;
}

-- What a list of items relies on: of rules, of the columns that spell a period, and of those that spell periods.
pub record IsFraming (rules : Rules) (Own : Period → List Column → Type 0) (Whole : List Period → List Column → Type 0) : Type 0 where
  pub carries_control : (runs : List ControlRun) → rules.is_carried (control runs) ≡ true
  pub carries_video : (bytes : List ℕ) → rules.is_carried (video bytes) ≡ true
  -- a control period needs nothing before it, and takes its columns
  pub announces_control : (before : Option Period) (runs : List ControlRun) → rules.is_announced before (control runs) ≡ true
  pub control_columns : (runs : List ControlRun) → rules.columns (control runs) ≡ length (values_of runs)
  -- columns
  pub no_columns : rules.columns_of [] ≡ 0
  pub more_columns : (p : Period) (ps : List Period) → rules.columns_of (p ∷ ps) ≡ rules.columns p + rules.columns_of ps
  -- faults, and the lists that have none
  pub fault : (ps : List Period) (p : Period)
      → rules.push_fault ps p ≡ first_fault ps p (rules.is_announced (last_period ps) p) (has_room (rules.columns_of ps) (rules.columns p))
  pub nothing : rules.conforms_so_far [] ≡ true
  pub more : (ps : List Period) (p : Period) → rules.conforms_so_far ps ≡ true → rules.is_carried p ≡ true → has_pixels p ≡ true → rules.push_fault ps p ≡ None
      → rules.conforms_so_far (ps ++ p ∷ []) ≡ true
  pub ended : (ps : List Period) → rules.conforms_so_far ps ≡ true → close_fault ps ≡ None → rules.conforms ps ≡ true
  pub sendable : (ps : List Period) → rules.conforms ps ≡ true → list_all rules.is_sendable ps ≡ true
  -- the columns that spell a period, as many as it takes, and those that spell periods, one after another
  pub spelled : (p : Period) → rules.is_sendable p ≡ true → (columns : List Column) × Own p columns
  pub as_many : (p : Period) (columns : List Column) → Own p columns → length columns ≡ rules.columns p
  pub none_spelled : Whole [] []
  pub of_none : (columns : List Column) → Whole [] columns → columns ≡ []
  pub first_spelled : (p : Period) (ps : List Period) (own rest : List Column) → Own p own → Whole ps rest → Whole (p ∷ ps) (own ++ rest)
  pub of_first : (p : Period) (ps : List Period) (columns : List Column) → Whole (p ∷ ps) columns
      → (own rest : List Column) × (columns ≡ own ++ rest) × Own p own × Whole ps rest
