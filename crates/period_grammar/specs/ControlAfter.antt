-- What the numbers kept of control columns stand for.
use Rattle.std.specs.Prelude.{◌≡◌, ◌≤◌, ℕ, zero, suc, Bool, ◌==◌, List, [], ◌∷◌, reverse, length}
use Rattle.std.specs.List.{prefix_len}
use Rattle.tmds_word.specs.Column.{Column}
use Rattle.island_pack.specs.Periods.{ctl}
use Rattle.period_grammar.specs.Column.{value_of}
use Rattle.period_grammar.specs.Events.{Event, run}
use Rattle.period_grammar.specs.Cut.{runs}
use Rattle.period_grammar.specs.Heard.{last_run}
use Rattle.period_grammar.specs.declared.control.ControlState.{ControlState}

abbrev pub kept_run : ℕ → ℕ → List Event
kept_run v zero = []
kept_run v (suc n) = run v (suc n) ∷ []

abbrev pub has_ctl : ℕ → Column → Bool
has_ctl bits c = ctl (value_of c) == bits

-- the value of the last column, which is the first of these
abbrev pub IsLast : ℕ → List Column → Type 0
IsLast v [] = Unit {0}
IsLast v (c ∷ cs) = value_of c ≡ v

pub record IsControlAfter (kept : ControlState) (control : List Column) : Type 0 where
  pub columns : kept.columns ≡ length control
  pub run : last_run (runs control) ≡ kept_run kept.value kept.run
  pub last : IsLast kept.value (reverse control)
  pub ctl_run : kept.ctl_run ≡ prefix_len (has_ctl (ctl kept.value)) (reverse control)

pub record IsCounted (kept : ControlState) : Type 0 where
  pub run : kept.run ≤ kept.columns
  pub ctl_run : kept.ctl_run ≤ kept.columns
