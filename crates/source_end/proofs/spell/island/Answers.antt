use Rattle.std.proofs.Common.{ap, ◌∙◌, arith, length-append, length}
use Rattle.std.proofs.lemmas.Grind.{common_steps}
use Rattle.std.specs.List.{list_all}
use Rattle.island_pack.specs.Conforming.{is_sync_pair, is_packet}
use Rattle.island_pack.specs.Spelling.{guard_columns}
use Rattle.source_end.specs.Pairs.{pair_of}
use Rattle.source_end.proofs.Packets.{opening_in_range, closing_in_range, packets_in_range, packets_length}
use Rattle.source_end.proofs.Fronts.{on_err, err_map}
use Rattle.source_end.proofs.ItemFronts.{opening_front, inner_front, closing_front, pair_front}
use Rattle.source_end.proofs.spell.island.Goals as goal

pub guards-requires-clause-range : goal.guards-requires-clause-range
guards-requires-clause-range g c = ap is_sync_pair c.opening.ensures ∙ opening_in_range c.args.island.now c.requires.range

pub packets-requires-clause-range : goal.packets-requires-clause-range
packets-requires-clause-range g c = ap (list_all is_packet) c.as_slice.ensures ∙ packets_in_range c.args.island.now c.requires.range

pub guards-requires-2-clause-range : goal.guards-requires-2-clause-range
guards-requires-2-clause-range g c = ap is_sync_pair c.closing.ensures ∙ closing_in_range c.args.island.now c.requires.range

pub guards-requires-2-clause-room : goal.guards-requires-2-clause-room
guards-requires-2-clause-room g c = grind (arith, length-append, packets_length)

pub returns-in_err-guards-clause-part : goal.returns-in_err-guards-clause-part
returns-in_err-guards-clause-part g c =
    on_err c.from_residual.result
    (opening_front c.args.island.now (g.C.ColumnSink.taken c.args.out.now) (g.C.ColumnSink.taken c.guards.new.out) (guard_columns (pair_of c.opening.result)) c.requires.range (ap guard_columns c.opening.ensures)
    (pair_front (pair_of c.opening.result) (g.C.ColumnSink.taken c.args.out.now) (g.C.ColumnSink.taken c.guards.new.out) c.in_err-guards.ensures.part))

pub returns-in_err-packets-clause-part : goal.returns-in_err-packets-clause-part
returns-in_err-packets-clause-part g c =
    on_err c.from_residual-in_err-packets.result
    (inner_front c.args.island.now c.as_slice.result.now (g.C.ColumnSink.taken c.args.out.now) (g.C.ColumnSink.taken c.guards.new.out) (g.C.ColumnSink.taken c.packets.new.out) (guard_columns (pair_of c.opening.result))
    (ap guard_columns c.opening.ensures) c.as_slice.ensures c.in_ok-guards.ensures.ok c.in_err-packets.ensures.part)

pub returns-clause-part : goal.returns-clause-part
returns-clause-part g c =
    let more = c.in_ok-packets.ensures.ok in
    err_map c.guards-2.result
    (λ cut.
    closing_front c.args.island.now c.as_slice.result.now (g.C.ColumnSink.taken c.args.out.now) (g.C.ColumnSink.taken c.guards.new.out) (g.C.ColumnSink.taken c.packets.new.out) (g.C.ColumnSink.taken c.guards-2.new.out)
    (guard_columns (pair_of c.opening.result)) more.0 (guard_columns (pair_of c.closing.result)) (ap guard_columns c.opening.ensures) c.as_slice.ensures (ap guard_columns c.closing.ensures) c.in_ok-guards.ensures.ok more.1 more.2
    (pair_front (pair_of c.closing.result) (g.C.ColumnSink.taken c.packets.new.out) (g.C.ColumnSink.taken c.guards-2.new.out) cut))
    c.guards-2.ensures.part

pub guards-requires-clause-room : goal.guards-requires-clause-room
guards-requires-clause-room g c = omega (arith, c.requires.room)

pub packets-requires-clause-room : goal.packets-requires-clause-room
packets-requires-clause-room g c =
    let opened = ap length c.in_ok-guards.ensures.ok ∙ length-append (g.C.ColumnSink.taken c.args.out.now) (guard_columns (pair_of c.opening.result)) in
    let same = ap length c.as_slice.ensures in
    omega (arith, opened, same, c.requires.room)

pub returns-clause-ok : goal.returns-clause-ok
returns-clause-ok c = grind (arith, common_steps)
