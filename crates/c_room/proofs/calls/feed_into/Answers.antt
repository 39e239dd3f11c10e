use Rattle.std.proofs.Common.{rules, ◌∙◌}
use Rattle.c_room.proofs.Calling.{feeds_by, refused_by}
use Rattle.c_room.proofs.Told.{told_count, told_used}
use Rattle.c_room.proofs.calls.feed_into.Goals as goal

pub returns-clause-reported : goal.returns-clause-reported
returns-clause-reported c = λ fed h.
    let e = c.feed-taken.ensures.reported fed h in
    let o = c.open-room in (
      e.0,
      e.1,
      ((search rules, search rules), c.count.ensures ∙ told_count o.result c.feed-taken.new.room e.0 e.2 o.ensures.count, c.used.ensures ∙ told_used o.result c.feed-taken.new.room e.0 e.2 o.ensures.used),
    )

pub returns-clause-does : goal.returns-clause-does
returns-clause-does c =
    let e = c.feed-taken.ensures in
    let r = c.feed-taken.result in
    let o = c.open-room in
    feeds_by c.args.lanes c.args.kept.now c.feed-taken.new.self c.args.records.now _ c.args.bytes.now _ r.status _ _ r.bits e.kinds e.ready e.done e.part (search rules) e.goes_on e.misuse e.many (λ is.
    let n = e.refused is in
    refused_by c.args.kept.now c.feed-taken.new.self c.args.records.now c.args.bytes.now o.result c.feed-taken.new.room c.count.result c.used.result r.bits (search rules) (search rules) c.count.ensures c.used.ensures
    o.ensures.records.1 o.ensures.bytes.1 o.ensures.count o.ensures.used n.0 n.2 n.1)
