-- How far an epoch was looked through for its end.
use Rattle.std.specs.Prelude.{◌≡◌, ◌⊎◌, ℕ, ◌+◌, ◌-◌, ◌<◌, ◌≤◌, max, min, Bool, false, MatchBool}
use Rattle.link_sink.specs.Sinks.{Fed}
use Rattle.lane_deskew.specs.Triples.{IsFirst}
use Rattle.alignment_search.specs.Searches.{HasSearched}
use Rattle.track_sink.specs.Epochs.{most_of}
use Rattle.track_sink.specs.Tracks.{Grows}
use Rattle.track_sink.specs.Seeking.{IsSought}
use Rattle.relock_sink.specs.Relocks.{IsFirstSo, IsUnconfirmed, shown_at}
use Rattle.relock_sink.specs.declared.relock.Relock.{Relock}

-- an epoch is aligned, and all bits have arrived that could show that a period opens there, or that none does: they do not show that
pub record IsNever (opens : Bool) (fed : Fed) : Type 0 where
  pub blue : ℕ
  pub green : ℕ
  pub red : ℕ
  pub first : IsFirst fed.blue fed.green fed.red blue green red
  pub shown : shown_at blue green red ≤ most_of fed
  pub never : IsFirstSo opens fed blue green red → ⊥

-- the alignment stands
abbrev pub IsJudged : Fed → Type 0
IsJudged fed = IsNever false fed

-- none was answered, and whatever follows, no alignment has all edges before the limit of the search
abbrev pub HasNoneWhatever : Relock → Fed → Type 0
HasNoneWhatever w fed = (w.alignment.past ≡ 0) × ((later : Fed) → Grows fed later → HasSearched w.alignment later.blue later.green later.red)

-- it is looked for as far as strays are
pub record IsSeeking (w : Relock) (fed : Fed) : Type 0 where
  pub searched : HasNoneWhatever w fed
  pub far : ((w.strays.seen ≡ 0) × (w.alignment.limit ≡ 0)) ⊎ (w.alignment.limit ≡ w.strays.seen + 100)

-- the epoch has no stray so far, and its alignment is not unconfirmed
pub record HasWatched (w : Relock) (fed : Fed) : Type 0 where
  pub sought : IsSought w.strays fed
  pub judged : MatchBool w.is_judged (IsJudged fed) (IsSeeking w fed)

-- no end of an epoch lies before it
abbrev pub passed_of : Relock → ℕ
passed_of w = w.strays.seen - 90

-- an unconfirmed alignment has all edges before a limit, and would end the epoch at a place
pub record IsDoubt (fed : Fed) (limit place : ℕ) : Type 0 where
  pub blue : ℕ
  pub green : ℕ
  pub red : ℕ
  pub unconfirmed : IsUnconfirmed fed blue green red
  pub before : max blue (max green red) < limit
  pub forgets : place + 119 ≡ min blue (min green red)

-- none has
pub record HasNoDoubt (w : Relock) (fed : Fed) (limit : ℕ) : Type 0 where
  pub none : (d e f : ℕ) → IsUnconfirmed fed d e f → limit ≤ max d (max e f)
  pub known : MatchBool w.is_judged (IsJudged fed) (HasNoneWhatever w fed × (w.alignment.limit ≡ limit))
