-- Events of lanes that may lose bits that are alone are those of a link.
use Rattle.std.proofs.Common.{◌≡◌, ◌↔◌, ℕ, ◌+◌, List, [], ◌∷◌, ◌++◌, length, map, take, refl, ap, sym, ◌∙◌, subst, arith}
use Rattle.period_grammar.specs.Events.{Event, EventAt, event_of}
use Rattle.track_sink.specs.Columns.{told_events}
use Rattle.track_sink.specs.TrackEvents.{track_events_of}
use Rattle.c_room.specs.declared.record.Record.{Record}
use Rattle.c_room.specs.declared.room.EventRoom.{EventRoom}
use Rattle.c_room.specs.Written.{event_bytes, event_row, link_writing, all_bytes, bytes_at, rows_from, Wrote, HasTaken, HasFilled, AreWritten}
use Rattle.c_room.specs.TrackWritten.{track_writing, AreTold}

pub many_told : {T : Type 0} (h : List T) → length (track_events_of h) ≡ length h
many_told [] = refl
many_told (t ∷ ts) = let e = many_told ts in omega (arith, e)

pub bytes_of_events : (h : List Event) → all_bytes track_writing (track_events_of h) ≡ all_bytes link_writing h
unfolding all_bytes
bytes_of_events [] = refl
bytes_of_events (t ∷ ts) = ap (λ bs. event_bytes t ++ bs) (bytes_of_events ts)

pub rows_of_events : (o : ℕ) (h : List EventAt) → rows_from track_writing o (track_events_of h) ≡ rows_from link_writing o h
unfolding rows_from
rows_of_events o [] = refl
rows_of_events o (t ∷ ts) = ap (λ rows. event_row o t ∷ rows) (rows_of_events (o + length (event_bytes (event_of t))) ts)

bytes_of_events_at : (h : List EventAt) → bytes_at track_writing (track_events_of h) ≡ bytes_at link_writing h
bytes_of_events_at h = told_events (λ es. all_bytes track_writing es ≡ bytes_at link_writing h) h (bytes_of_events (map event_of h))

pub told_by_events : (x y : EventRoom) (h : List EventAt) → HasTaken link_writing x y h → HasTaken track_writing x y (track_events_of h)
told_by_events x y h w =
    subst (λ rows. Wrote x y rows (bytes_at track_writing (track_events_of h))) (sym (rows_of_events x.used h))
    (subst (λ bs. Wrote x y (rows_from link_writing x.used h) bs) (sym (bytes_of_events_at h)) w)

pub filled_events : (x y : EventRoom) (h : List Event) → HasFilled link_writing x y h ↔ HasFilled track_writing x y (track_events_of h)
filled_events x y h = (
  λ f. record { records_long = f.records_long; bytes_long = f.bytes_long; count_is = omega (arith, f.count_is, many_told h); used_is = omega (arith, f.used_is, ap length (bytes_of_events h)) },
  λ f. record { records_long = f.records_long; bytes_long = f.bytes_long; count_is = omega (arith, f.count_is, many_told h); used_is = omega (arith, f.used_is, ap length (bytes_of_events h)) },
)

-- so are those that were written
pub events_are_written : (events : List EventAt) (n : ℕ) (records : List Record) (m : ℕ) (bytes : List ℕ) → AreTold (track_events_of events) n records m bytes
    → AreWritten link_writing events (take n records) (take m bytes)
events_are_written events n records m bytes t = (t.0.0 ∙ rows_of_events 0 events, t.0.1 ∙ bytes_of_events_at events)
