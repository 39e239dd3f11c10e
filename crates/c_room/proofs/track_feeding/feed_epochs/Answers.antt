use Rattle.std.proofs.Common.{◌≡◌, ◌+◌, ◌-◌, ◌≤◌, [], ◌++◌, List, refl, sym, subst, arith, inr, append_assoc, append-nil}
use Rattle.link_sink.specs.Sinks.{Fed}
use Rattle.track_sink.specs.TrackEvents.{TrackEventAt}
use Rattle.track_sink.specs.TrackSinks.{EpochSinkTells, bits_fed}
use Rattle.c_room.specs.Takes.{most_of, counts_to, grown_to}
use Rattle.c_room.specs.TrackWritten.{track_writing}
use Rattle.c_room.specs.WrittenLaws.{taken_none, taken_both}
use Rattle.c_room.proofs.Pieces.{none_fed, none_grown, part_or_all, even_then}
use Rattle.c_room.proofs.track_feeding.feed_epochs.Goals as goal

pub loop-size-init : goal.loop-size-init
loop-size-init g c =
    let sink = c.args.sink.now in
    let lanes = c.args.lanes in
    let e = c.next_track_bits-size.ensures in
    let most = c.most-most.ensures in
    let none : (fed : Fed) → grown_to (counts_to 0 lanes.bits) fed lanes ≡ fed =
    λ fed. none_grown fed lanes (counts_to 0 lanes.bits) (omega arith) (omega arith) (omega arith) in
    let within = e.within in
    let Tells : Fed → List TrackEventAt → Type 0 = λ f us. EpochSinkTells g.W.Watch.rule g.W.Watch.looked g.W.Watch.passed sink f us in
    record {
      goes_on = c.requires.open;
      within = omega (arith, within, most);
      small = e.most;
      whole = inr refl;
      next = part_or_all 0 c.next_track_bits-size.result c.most-most.result (most_of lanes.bits) (omega (arith, most)) within e.whole;
      fits = e.fits;
      full = λ a b. e.full a (omega (arith, most, b));
      taken = λ fed are. none_fed (bits_fed sink) fed lanes.bits are;
      reported = λ fed reported h. (
        [],
        subst (λ (f : Fed). Tells f (reported ++ [])) (sym (none fed)) (subst (λ (us : List TrackEventAt). Tells fed us) (sym (append-nil reported)) h),
        taken_none track_writing c.args.room.now,
      );
    }

pub feed_epoch_piece-requires-clause-tells : goal.feed_epoch_piece-requires-clause-tells
feed_epoch_piece-requires-clause-tells g c =
    let s = c.requires.tells in
    let now = c.loop-size.invariant.reported s.0 s.1 s.2 in
    (_, _, now.1)

pub feed_epoch_piece-requires-clause-lanes : goal.feed_epoch_piece-requires-clause-lanes
feed_epoch_piece-requires-clause-lanes g c =
    let l = c.requires.lanes in
    (l.0, c.loop-size.invariant.taken l.0 l.1, l.2, l.3)

pub loop-size-preserved : goal.loop-size-preserved
loop-size-preserved g c =
    let i = c.loop-size.invariant in
    let at = c.loop-size.at in
    let size = c.loop-size.size in
    let lanes = c.args.lanes in
    let f = c.feed_epoch_piece.ensures in
    let e = c.next_track_bits-size-in-loop-size.ensures in
    let most = c.most-most.ensures in
    let within = i.within in
    let some = c.loop-size-test.true in
    let room = c.feed_epoch_piece.new.room in
    let sink = c.feed_epoch_piece.new.sink in
    let first = i.whole in
    let last = i.next in
    let next = c.next_track_bits-size-in-loop-size.result in
    let rest : next ≤ c.most-most.result - (at + size) = e.within in
    record {
      goes_on = f.open;
      within = omega (arith, within, most, rest);
      small = e.most;
      whole = even_then at size (most_of lanes.bits) first last some within;
      next = part_or_all (at + size) next (c.most-most.result - (at + size)) (most_of lanes.bits) (omega (arith, most, within)) rest e.whole;
      fits = e.fits;
      full = λ a b. e.full a (omega (arith, most, b));
      taken = λ fed are. f.taken fed (i.taken fed are);
      reported = λ fed reported h.
          let one = i.reported fed reported h in
          let two = f.reported fed (reported ++ one.0) one.1 in
          let P : List TrackEventAt → Type 0 = λ us. EpochSinkTells g.W.Watch.rule g.W.Watch.looked g.W.Watch.passed sink (grown_to (counts_to (at + size) lanes.bits) fed lanes) us in (
            one.0 ++ two.0,
            subst P (append_assoc reported one.0 two.0) two.1,
            taken_both track_writing c.args.room.now c.loop-size.room room one.0 two.0 one.2 two.2,
          );
    }

pub returns-clause-full : goal.returns-clause-full
returns-clause-full g c = λ less.
    let none = c.loop-size-test.false in
    c.loop-size.invariant.full (omega (arith, none)) less
