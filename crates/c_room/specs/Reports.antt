-- What a receiver of each kind reports: a link's events, and of lanes that may lose bits slips and alignments that were let go between them.
use Rattle.std.specs.Prelude.{◌≡◌, ℕ, List, ◌++◌, cond}
use Rattle.period_grammar.specs.Events.{Event, EventAt, all_at}
use Rattle.link_sink.specs.Grammar.{Grammar, link_grammar}
use Rattle.link_sink.specs.Sinks.{Fed, IsGainAt, IsLastBy}
use Rattle.link_sink.specs.declared.hear.Outcome.{Outcome}
use Rattle.dvi_hearing.specs.DviGrammar.{dvi_grammar}
use Rattle.track_sink.specs.Epochs.{EpochRule, stray_rule, IsTrackAt}
use Rattle.track_sink.specs.TrackEvents.{TrackEventAt, track_events_of}
use Rattle.track_sink.specs.Tracks.{HasTrackedAt}
use Rattle.relock_sink.specs.Refuting.{refuting_rule}
use Rattle.c_room.specs.declared.ended.EndCounts.{EndCounts}
use Rattle.c_room.specs.declared.kind.Kind.{Kind}
use Rattle.c_room.specs.declared.kind.Kind.TheVariants.{Link, Dvi, Track, Relock}

abbrev pub counted : ℕ → ℕ → EndCounts
counted columns aligned = record { columns = columns; aligned = aligned }

-- By a grammar: exactly these events of columns.

-- of more bits these events are reported in addition
pub record IsColumnGain (g : Grammar) (before now : Fed) (told : List TrackEventAt) : Type 0 where
  pub events : List EventAt
  pub gain : IsGainAt g before now events
  pub told_are : told ≡ track_events_of events

-- of all bits these are left, at the number of the columns, and so it is said whether the lanes are aligned
pub record IsColumnEnd (g : Grammar) (fed : Fed) (counts : EndCounts) (told : List TrackEventAt) : Type 0 where
  pub outcome : Outcome
  pub events : List Event
  pub last : IsLastBy g fed outcome events
  pub told_are : told ≡ track_events_of (all_at outcome.columns events)
  pub columns_are : counts.columns ≡ outcome.columns
  pub aligned_is : counts.aligned ≡ cond outcome.aligned 1 0

-- By a rule of epochs: after the one list that is reported so far, each event at its column of its epoch.

abbrev pub IsEpochGain : EpochRule → Fed → Fed → List TrackEventAt → Type 0
IsEpochGain r before now told = (reported : List TrackEventAt) → HasTrackedAt r before reported → HasTrackedAt r now (reported ++ told)

-- the numbers are those of the epochs, and of the aligned ones
abbrev pub IsEpochEnd : EpochRule → Fed → EndCounts → List TrackEventAt → Type 0
IsEpochEnd r fed counts told = (reported : List TrackEventAt) → HasTrackedAt r fed reported → IsTrackAt r fed counts.columns counts.aligned (reported ++ told)

-- By a kind.

abbrev pub IsGainOfKind : Kind → Fed → Fed → List TrackEventAt → Type 0
IsGainOfKind Link before now told = IsColumnGain link_grammar before now told
IsGainOfKind Dvi before now told = IsColumnGain dvi_grammar before now told
IsGainOfKind Track before now told = IsEpochGain stray_rule before now told
IsGainOfKind Relock before now told = IsEpochGain refuting_rule before now told

abbrev pub IsEndOfKind : Kind → Fed → EndCounts → List TrackEventAt → Type 0
IsEndOfKind Link fed counts told = IsColumnEnd link_grammar fed counts told
IsEndOfKind Dvi fed counts told = IsColumnEnd dvi_grammar fed counts told
IsEndOfKind Track fed counts told = IsEpochEnd stray_rule fed counts told
IsEndOfKind Relock fed counts told = IsEpochEnd refuting_rule fed counts told
