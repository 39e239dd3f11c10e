-- How far the lanes of an epoch were looked through, and the least stray that was found.
use Rattle.std.specs.Prelude.{◌≡◌, ◌⊎◌, ℕ, ◌+◌, ◌≤◌, Option, Some, None}
use Rattle.link_sink.specs.Sinks.{Fed}
use Rattle.lane_track.specs.Scouts.{HasSought}
use Rattle.track_sink.specs.Epochs.{most_of, stray_ends}
use Rattle.track_sink.specs.declared.strays.Strays.{Strays}
use Rattle.track_sink.specs.declared.watch.Cause.TheVariants.{Slip}
use Rattle.track_sink.specs.declared.watch.End.{End}

-- the places of an epoch before one were looked at
pub record AreSought (w : Strays) (seen : ℕ) (fed : Fed) : Type 0 where
  pub blue : HasSought fed.blue seen w.blue.lock
  pub green : HasSought fed.green seen w.green.lock
  pub red : HasSought fed.red seen w.red.lock

-- those before the place that was seen, and the bits decide them
pub record IsSought (w : Strays) (fed : Fed) : Type 0 where
  pub sought : AreSought w w.seen fed
  pub decided : (w.seen ≡ 0) ⊎ (w.seen + 119 ≤ most_of fed)

-- an epoch ends at a stray
abbrev pub StrayAt : Fed → End → Type 0
StrayAt fed end = stray_ends fed end.cause end.place

-- the place of the last lane that has one, as a stray of it
abbrev pub last_stray : Option ℕ → Option ℕ → Option ℕ → Option End
last_stray blue green (Some p) = Some (record { cause = Slip 2; place = p })
last_stray blue (Some p) None = Some (record { cause = Slip 1; place = p })
last_stray (Some p) None None = Some (record { cause = Slip 0; place = p })
last_stray None None None = None
