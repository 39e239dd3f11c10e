use Rattle.std.proofs.Common.{◌∙◌, ap}
use Rattle.c_room.specs.Takes.{plus}
use Rattle.c_room.proofs.Keeping.{stands_after}
use Rattle.c_room.proofs.kept.Kept.feed_open.Goals as goal

pub returns-clause-stands : goal.returns-clause-stands
returns-clause-stands c = λ fed h.
    let e = c.feed-at.ensures in
    let old = c.args.self.now in
    stands_after old (record { sink = c.feed-at.new.self; fed = c.plus-self.result }) fed c.args.lanes c.feed-at.result c.requires.open
    (c.plus-self.ensures ∙ ap (plus old.fed) c.first.ensures) c.requires.few e.taken e.stands h
