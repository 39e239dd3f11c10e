use Rattle.std.proofs.Common.{[], ◌∷◌, refl, subst}
use Rattle.std.specs.Prelude.{OnOk}
use Rattle.track_sink.specs.TrackEvents.{relock}
use Rattle.c_room.specs.Written.{row, Wrote}
use Rattle.c_room.specs.TrackWritten.{track_writing}
use Rattle.c_room.specs.WrittenLaws.{taken_end, filled_end}
use Rattle.c_room.specs.declared.record.Said.{Said}
use Rattle.c_room.proofs.track_room.EventRoomTrackEar.relock.Goals as goal

pub returns-clause-ok_at : goal.returns-clause-ok_at
returns-clause-ok_at c =
    let x = c.args.self.now in
    let y = c.put_end.new.self in
    taken_end track_writing c.put_end.result x y (relock c.args.place) refl
    (subst (λ (s : Said). OnOk c.put_end.result (Wrote x y (row 0 x.used 0 s ∷ []) [])) c.new.ensures c.put_end.ensures.put)

pub returns-clause-ok : goal.returns-clause-ok
returns-clause-ok c = filled_end track_writing c.put_end.result c.args.self.now c.put_end.new.self (relock c.args.place) (returns-clause-ok_at c)
