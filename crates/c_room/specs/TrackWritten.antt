-- Events of lanes that may lose bits as C sees them: a record of each, of each slip and of each alignment that was let go.
use Rattle.std.specs.Prelude.{◌≡◌, ℕ, List, [], length, take}
use Rattle.track_sink.specs.TrackEvents.{TrackEvent, TrackEventAt, event, slip, relock, track_event_of}
use Rattle.c_room.specs.declared.record.Record.{Record}
use Rattle.c_room.specs.Written.{says, event_bytes, event_row, row, Writing, bytes_at, AreWritten}

-- a slip and an alignment that was let go have no bytes
abbrev pub track_event_bytes : TrackEvent → List ℕ
track_event_bytes (event t) = event_bytes t
track_event_bytes (slip lane place) = []
track_event_bytes (relock place) = []

-- the record of an event whose bytes begin at an offset; a slip names its place and its lane, an alignment that was let go its place
abbrev pub track_row : ℕ → TrackEventAt → Record
track_row offset (event t) = event_row offset t
track_row offset (slip lane place) = row 0 offset 0 (says 19 place 0 lane 0)
track_row offset (relock place) = row 0 offset 0 (says 20 place 0 0 0)

-- how they are written
abbrev pub track_writing : Writing TrackEventAt TrackEvent
track_writing = record { plain = track_event_of; bytes = track_event_bytes; row = track_row }

-- these events were written: the first records are theirs, and the first bytes
abbrev pub AreTold : List TrackEventAt → ℕ → List Record → ℕ → List ℕ → Type 0
AreTold told n records m bytes = AreWritten track_writing told (take n records) (take m bytes) × (n ≡ length told) × (m ≡ length (bytes_at track_writing told))
