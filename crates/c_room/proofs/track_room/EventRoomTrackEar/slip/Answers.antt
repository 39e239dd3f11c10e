use Rattle.std.proofs.Common.{ℕ, [], ◌∷◌, refl, ap, ◌∙◌, subst}
use Rattle.std.specs.Prelude.{OnOk}
use Rattle.track_sink.specs.TrackEvents.{slip}
use Rattle.c_room.specs.Written.{says, row, Wrote}
use Rattle.c_room.specs.TrackWritten.{track_writing}
use Rattle.c_room.specs.WrittenLaws.{taken_end, filled_end}
use Rattle.c_room.specs.declared.record.Said.{Said}
use Rattle.c_room.proofs.track_room.EventRoomTrackEar.slip.Goals as goal

pub returns-clause-ok_at : goal.returns-clause-ok_at
returns-clause-ok_at c =
    let x = c.args.self.now in
    let y = c.put_end.new.self in
    taken_end track_writing c.put_end.result x y (slip c.args.lane c.args.place) refl
    (subst (λ (s : Said). OnOk c.put_end.result (Wrote x y (row 0 x.used 0 s ∷ []) [])) (c.new.ensures ∙ ap (λ (v : ℕ). says 19 c.args.place 0 v 0) c.from.ensures) c.put_end.ensures.put)

pub returns-clause-ok : goal.returns-clause-ok
returns-clause-ok c = filled_end track_writing c.put_end.result c.args.self.now c.put_end.new.self (slip c.args.lane c.args.place) (returns-clause-ok_at c)
