-- Room for what so many bits of lanes that may lose some can report.
use Rattle.std.specs.Prelude.{◌⊎◌, ℕ, ◌+◌, ◌<◌, ◌≤◌, length}
use Rattle.c_room.specs.declared.room.EventRoom.{EventRoom}

-- there is room for all that so many bits of each lane can report, with the 287 that a tracker may hold back: an event and a byte a
-- bit, what comes with the columns of the first of them, and the pixels of a line that was open
pub record FitsTrack (room : EventRoom) (bits : ℕ) : Type 0 where
  pub events : room.count + bits + 392 ≤ length room.records.now
  pub bytes : room.used + bits + 12614 ≤ length room.bytes.now

-- there is not even room for a byte of each lane
abbrev pub IsTrackFull : EventRoom → Type 0
IsTrackFull room = (length room.records.now < room.count + 400) ⊎ (length room.bytes.now < room.used + 12622)
