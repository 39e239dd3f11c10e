-- The kinds that a page recovers: the number of each, its grammar, and how a recovery by number ends.
use Rattle.std.specs.Prelude.{◌≡◌, ◌⊎◌, ℕ, List, Option}
use Rattle.period_grammar.specs.Events.{EventAt}
use Rattle.link_sink.specs.Grammar.{Grammar, link_grammar}
use Rattle.dvi_hearing.specs.DviGrammar.{dvi_grammar}
use Rattle.page.specs.Endings.{status_of}
use Rattle.page.specs.Heard.{Said, ends_as}
use Rattle.page.specs.declared.ending.Ending.{Ending}
use Rattle.page.specs.declared.kind.PageKind.{PageKind}
use Rattle.page.specs.declared.kind.PageKind.TheVariants.{Link, Dvi}

abbrev pub number_of : PageKind → ℕ
number_of Link = 0
number_of Dvi = 1

-- no kind has this number
abbrev pub IsNoKind : ℕ → Type 0
IsNoKind number = (kind : PageKind) → number ≡ number_of kind → ⊥

abbrev pub grammar_of : PageKind → Grammar
grammar_of Link = link_grammar
grammar_of Dvi = dvi_grammar

-- a kind has the number, and the status is that of an ending which the grammar of this kind has
pub record EndsByKind {T : Type 0} (told : T → T → List EventAt → Type 0) (number : ℕ) (from left : Option (List ℕ)) (reads reading : ℕ) (first now : Said T) (status : ℕ) : Type 0 where
  pub kind : PageKind
  pub named : number ≡ number_of kind
  pub ending : Ending
  pub status_is : status ≡ status_of ending
  pub ends : ends_as (grammar_of kind) told from left reads reading first now ending

-- no kind has it: the status is 2, and nothing was read, written or told
pub record IsUnknown {T : Type 0} (number : ℕ) (from left : Option (List ℕ)) (reads reading : ℕ) (first now : Said T) (status : ℕ) : Type 0 where
  pub no_kind : IsNoKind number
  pub status_is : status ≡ 2
  pub unread : left ≡ from
  pub no_read_fault : reading ≡ reads
  pub unsaid : now ≡ first

abbrev pub EndsByNumber : {T : Type 0} → (T → T → List EventAt → Type 0) → ℕ → Option (List ℕ) → Option (List ℕ) → ℕ → ℕ → Said T → Said T → ℕ → Type 0
EndsByNumber told number from left reads reading first now status =
    EndsByKind told number from left reads reading first now status ⊎ IsUnknown number from left reads reading first now status
