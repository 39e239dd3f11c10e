-- What is reported of lanes grows with them: when more bits arrive, nothing that was reported is taken back.
use Rattle.std.specs.Prelude.{◌≡◌, ℕ, List, ◌++◌}
use Rattle.lane_deskew.specs.Growing.{HasGrown}
use Rattle.period_grammar.specs.Events.{Event}
use Rattle.link_sink.specs.Alignment.{IsAlignedBy}
use Rattle.link_sink.specs.Grammar.{Grammar, link_grammar}
use Rattle.link_sink.specs.Hearings.{IsGrammar}
use Rattle.link_sink.specs.Sinks.{Fed, IsReportedBy}

-- each of three lanes has any bits more, one as many as another or not
pub record AreGrown (before now : Fed) : Type 0 where
  pub blue : HasGrown before.blue now.blue
  pub green : HasGrown before.green now.green
  pub red : HasGrown before.red now.red

-- events stand in front of others
abbrev pub Begins : List Event → List Event → Type 0
Begins us vs = (more : List Event) × (vs ≡ us ++ more)

-- what is reported so far of three lanes begins what is reported so far when each has any bits more
abbrev pub ReportedGrows : Type 0
ReportedGrows =
    (g : Grammar) → IsGrammar g → (before now : Fed) (us vs : List Event) → AreGrown before now
    → IsReportedBy g before us → IsReportedBy g now vs → Begins us vs

-- and it begins all that is reported of those lanes to their end
abbrev pub WholeGrows : Type 0
WholeGrows =
    (g : Grammar) → IsGrammar g → (before now : Fed) (columns : ℕ) (us vs : List Event) → AreGrown before now
    → IsReportedBy g before us → IsAlignedBy g now.blue now.green now.red columns vs → Begins us vs

-- what is reported of a link is such a grammar
abbrev pub LinkIsGrammar : Type 0
LinkIsGrammar = IsGrammar link_grammar
