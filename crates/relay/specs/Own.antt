-- What a relay makes of columns that conforming periods spell, whatever bit 3 of lane 0 is: those periods again.
use Rattle.std.specs.Prelude.{◌≡◌, ◌≤◌, ℕ, ◌+◌, List, [], ◌∷◌, length, drop}
use Rattle.tmds_word.specs.Column.{Column}
use Rattle.island_pack.specs.Periods.{ControlRun, Period, control, video, island, values_of}
use Rattle.island_pack.specs.Conforming.{IsConforming}
use Rattle.island_pack.specs.Spelling.{SpellsBy, freely, Spells}
use Rattle.island_pack.specs.Runs.{longest}
use Rattle.period_grammar.specs.Events.{Event}
use Rattle.period_grammar.specs.Heard.{heard}
use Rattle.link_laws.specs.Account.{account}
use Rattle.link_laws.specs.Whole.{IsSpelledWhole}
use Rattle.relay.specs.Relayed.{conformed, relayed}
use Rattle.relay.specs.Received.{reception}

-- the same periods, each control period in longest runs
unfoldable pub normal : List Period → List Period
normal [] = []
normal (control runs ∷ ps) = control (longest (values_of runs)) ∷ normal ps
normal (video bytes ∷ ps) = video bytes ∷ normal ps
normal (island x ∷ ps) = island x ∷ normal ps

-- without the first a columns of the first control period
unfoldable pub cut_first : ℕ → List Period → List Period
cut_first a (control runs ∷ ps) = control (longest (drop a (values_of runs))) ∷ ps
cut_first a ps = ps

-- columns that conforming periods spell, from a column on that leaves twelve of the first control period at least
abbrev pub OwnRelayed : Type 0
OwnRelayed =
    (runs : List ControlRun) (ps : List Period) (cs : List Column) → IsConforming (control runs ∷ ps) → SpellsBy freely (control runs ∷ ps) cs
    → (a m : ℕ) → a + 12 ≤ length (values_of runs) → length cs ≤ a + m
    → conformed (reception (control runs ∷ ps) cs cs a m) ≡ normal (cut_first a (control runs ∷ ps))

-- what was relayed, relayed again: from the last twelve columns of its first control period on it is preserved
abbrev pub RelayedAgain : Type 0
RelayedAgain =
    (reported : List Event) (runs : List ControlRun) (ps : List Period) → relayed reported ≡ control runs ∷ ps
    → (cs : List Column) → Spells (relayed reported) cs → (a m : ℕ) → a + 12 ≡ length (values_of runs) → length cs ≤ a + m
    → relayed (account (relayed reported) cs cs a m) ≡ cut_first a (relayed reported)

-- what is relayed of what is heard of them is spelled by the same columns
abbrev pub WholeRelayed : Type 0
WholeRelayed =
    (cs : List Column) (w : IsSpelledWhole cs) → heard cs ≡ account (control w.runs ∷ w.periods) cs cs 0 (length cs)
    → SpellsBy freely (relayed (heard cs)) cs
