-- Where all bits that are lent were looked through.
use Rattle.std.proofs.Common.{◌≡◌, suc, zero, ◌+◌, ◌≤◌, max, arith, length-drop}
use Rattle.lane_align.proofs.Controls.{run_within}
use Rattle.link_sink.specs.Sinks.{Fed}
use Rattle.track_sink.specs.Epochs.{most_of, HasNoEnd}
use Rattle.track_sink.specs.Lents.{AreLent}
use Rattle.track_sink.specs.Seeking.{IsSought}
use Rattle.track_sink.specs.declared.strays.Strays.{Strays}
use Rattle.track_sink.specs.declared.watch.LentLanes.{LentLanes}

-- bits that are lent reach to the end of the longest lane
pub lent_most : (lanes : LentLanes) (fed : Fed) → AreLent lanes fed → max lanes.blue.count (max lanes.green.count lanes.red.count) + lanes.base ≡ most_of fed
lent_most lanes fed lent =
    let a = lent.blue.many in
    let b = lent.green.many in
    let c = lent.red.many in
    let within = lent.within in
    omega (arith, length-drop lanes.base fed.blue, length-drop lanes.base fed.green, length-drop lanes.base fed.red)

-- where all was looked at, there is no stray
pub none_left : (w : Strays) (fed : Fed) → IsSought w fed → most_of fed ≤ w.seen + 119 → HasNoEnd fed
none_left w fed looked all zero lt p stray = looked.sought.blue.none p (let within = run_within fed.blue p stray.run in omega arith) stray
none_left w fed looked all (suc zero) lt p stray = looked.sought.green.none p (let within = run_within fed.green p stray.run in omega arith) stray
none_left w fed looked all (suc (suc l)) lt p stray = looked.sought.red.none p (let within = run_within fed.red p stray.run in omega arith) stray
