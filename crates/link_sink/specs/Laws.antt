-- What a sink of three lanes answers is decided by the bits that it is fed: two answers that meet its contract are equal.
use Rattle.std.specs.Prelude.{◌≡◌, ℕ, List, slice_index}
use Rattle.period_grammar.specs.Events.{Event, EventAt}
use Rattle.lane_deskew.specs.Triples.{IsTriple, IsAlignment}
use Rattle.link_sink.specs.Grammar.{Grammar}
use Rattle.link_sink.specs.Sinks.{Fed, IsGainBy, IsGainAt, IsLastBy}
use Rattle.link_sink.specs.declared.hear.Outcome.{Outcome}

-- what is reported in addition when lanes have more bits
abbrev pub OneGain : Type 0
OneGain = (g : Grammar) (before after : Fed) (us vs : List Event) → IsGainBy g before after us → IsGainBy g before after vs → us ≡ vs

-- the same with the column of each event
abbrev pub OneGainAt : Type 0
OneGainAt = (g : Grammar) (before after : Fed) (us vs : List EventAt) → IsGainAt g before after us → IsGainAt g before after vs → us ≡ vs

-- what is reported at the end, whether the lanes are aligned, and how many columns they have
abbrev pub OneLast : Type 0
OneLast =
    (g : Grammar) (fed : Fed) (o p : Outcome) (us vs : List Event) → IsLastBy g fed o us → IsLastBy g fed p vs
    → (o.aligned ≡ p.aligned) × (o.columns ≡ p.columns) × (us ≡ vs)

-- where lanes are aligned: at these edges alone, and then they are not aligned nowhere
abbrev pub OneAlignment : Type 0
OneAlignment =
    (fed : Fed) (here : List ℕ) → IsAlignment fed.blue fed.green fed.red here
    → (((d e f : ℕ) → IsTriple fed.blue fed.green fed.red d e f → ⊥) → ⊥)
    × ((there : List ℕ) → IsAlignment fed.blue fed.green fed.red there
    → (slice_index here 0 ≡ slice_index there 0) × (slice_index here 1 ≡ slice_index there 1) × (slice_index here 2 ≡ slice_index there 2))
