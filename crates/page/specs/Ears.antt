-- What an ear takes that lists each event and keeps a record of it.
use Rattle.std.proofs.Common.{◌≡◌, ◌≤◌, ◌<◌, ◌⊎◌, ℕ, List, [], ◌∷◌, ◌++◌, Option, length, take, arith}
use Rattle.std.specs.Io.KnownBytes.{Appends}
use Rattle.outside_io.specs.Causes.{Rose}
use Rattle.period_grammar.specs.Events.{Event}
use Rattle.listing_writer.specs.Growing.{counted_none, counted_both, appends_none, appends_both}
use Rattle.listing_writer.specs.Texts.{lines_of, fault_lines, counted}
use Rattle.c_room.specs.Written.{link_writing, HasFilled, HasNoRoom}
use Rattle.c_room.specs.WrittenLaws.{filled_none, filled_both}
use Rattle.c_room.specs.declared.room.EventRoom.{EventRoom}
use Rattle.page.specs.declared.ear.PageEar.{PageEar}

-- what its sink holds, and how often that failed; how many fault lines were written; its room
pub record EarSeen : Type 0 where
  pub held : Option (List ℕ)
  pub write_faults : ℕ
  pub faults : ℕ
  pub room : EventRoom

-- the same of an ear whose sink holds and has failed so
abbrev pub seen : {K : Type 0} → (K → Option (List ℕ)) → (K → ℕ) → PageEar K → EarSeen
seen held failed ear = record { held = held ear.lister.sink.now; write_faults = failed ear.lister.sink.now; faults = ear.lister.faults; room = ear.room }

-- from the first to the second these events were listed, and have taken their room
pub record HasListed (x y : EarSeen) (events : List Event) : Type 0 where
  pub written : Appends x.held y.held (lines_of events)
  pub counted_are : y.faults ≡ counted x.faults (fault_lines events)
  pub later : x.write_faults ≤ y.write_faults
  pub filled : HasFilled link_writing x.room y.room events

-- from the first to the second it stopped at an event: the sink failed in the midst of the event's line, or the line was written
-- and there was no room for the event
abbrev pub StopsAt : EarSeen → EarSeen → Event → Type 0
StopsAt x y t =
    (Rose x.write_faults y.write_faults × ((n : ℕ) × (n < length (lines_of (t ∷ []))) × Appends x.held y.held (take n (lines_of (t ∷ [])))))
    ⊎ (HasNoRoom link_writing x.room t × Appends x.held y.held (lines_of (t ∷ [])))

-- to list nothing changes nothing, and to list some events and then others is to list the ones and the others

pub listed_none : (x : EarSeen) → HasListed x x []
listed_none x = record { written = appends_none x.held; counted_are = counted_none x.faults; later = omega arith; filled = filled_none link_writing x.room }

pub listed_both : (x y z : EarSeen) (h k : List Event) → HasListed x y h → HasListed y z k → HasListed x z (h ++ k)
listed_both x y z h k first then = record {
  written = appends_both x.held y.held z.held h k first.written then.written;
  counted_are = counted_both x.faults y.faults z.faults h k first.counted_are then.counted_are;
  later = omega (arith, first.later, then.later);
  filled = filled_both link_writing x.room y.room z.room h k first.filled then.filled;
}
