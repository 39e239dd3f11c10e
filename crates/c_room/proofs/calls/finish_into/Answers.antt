use Rattle.std.proofs.Common.{rules, refl}
use Rattle.c_room.specs.Sinks.{kind_of}
use Rattle.c_room.proofs.Calling.{finishes_by, is_short, is_wide, refused_by}
use Rattle.c_room.proofs.calls.finish_into.Goals as goal

pub returns-clause-does : goal.returns-clause-does
returns-clause-does c =
    let e = c.finish-ended.ensures in
    let r = c.finish-ended.result in
    let o = c.open-room in
    let kind = kind_of c.args.kept.now.sink in
    let records = c.args.records.now in
    let bytes = c.args.bytes.now in
    finishes_by c.args.kept.now c.finish-ended.new.self records _ bytes _ r.status _ _ r.counts e.kinds
    (λ is.
    let d = e.done is in
    (d.0, is_wide kind o.result records bytes o.ensures.records.1 o.ensures.bytes.1 o.ensures.count o.ensures.used d.1, d.2))
    (λ is.
    let f = e.full is in
    (f.0, is_short kind o.result records bytes o.ensures.records.1 o.ensures.bytes.1 o.ensures.count o.ensures.used f.1))
    e.misuse (λ is.
    let n = e.refused is in (
      refused_by c.args.kept.now c.finish-ended.new.self records bytes o.result c.finish-ended.new.room c.count.result c.used.result _ (search rules) (search rules) c.count.ensures c.used.ensures
          o.ensures.records.1 o.ensures.bytes.1 o.ensures.count o.ensures.used n.0 n.1 refl,
      n.2,
    ))
