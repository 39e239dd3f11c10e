-- Columns that conforming periods spell to their last one.
use Rattle.std.specs.Prelude.{◌≡◌, ℕ, Bool, true, false, List, [], ◌∷◌, length, nat_le}
use Rattle.tmds_word.specs.Column.{Column}
use Rattle.island_pack.specs.Periods.{ControlRun, Period, control}
use Rattle.island_pack.specs.Conforming.{IsConforming}
use Rattle.island_pack.specs.Spelling.{SpellsBy, freely}
use Rattle.period_grammar.specs.Cut.{Stretch as Cut, stretch, stretches}
use Rattle.period_grammar.specs.Heard.{heard}
use Rattle.period_grammar.specs.Exact.{IsClean}
use Rattle.link_laws.specs.Account.{account}

pub record IsSpelledWhole (cs : List Column) : Type 0 where
  pub runs : List ControlRun
  pub periods : List Period
  pub conforming : IsConforming (control runs ∷ periods)
  pub spells : SpellsBy freely (control runs ∷ periods) cs

-- whether the last stretch is a control period of at least twelve columns
abbrev pub ends_long : List Cut → Bool
ends_long [] = false
ends_long (stretch cs [] ∷ []) = nat_le 12 (length cs)
ends_long (stretch cs (g ∷ gap) ∷ []) = false
ends_long (x ∷ (y ∷ ys)) = ends_long (y ∷ ys)

-- clean columns that end in one are spelled whole
abbrev pub CleanIsWhole : Type 0
CleanIsWhole = (cs : List Column) → IsClean cs → ends_long (stretches cs) ≡ true → IsSpelledWhole cs

-- and what is heard of columns that are spelled whole is their account
abbrev pub WholeHeard : Type 0
WholeHeard = (cs : List Column) (w : IsSpelledWhole cs) → heard cs ≡ account (control w.runs ∷ w.periods) cs cs 0 (length cs)
