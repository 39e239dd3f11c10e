use Rattle.std.proofs.Common.{◌≡◌, ◌≤◌, ◌<◌, ◌+◌, ◌-◌, ◌*◌, ◌++◌, List, ℕ, [], true, length, take, drop, min, ap, sym, subst, refl, ◌∙◌, arith, append-nil, take_all, length-append, length-take, length-drop}
use Rattle.island_pack.specs.Spelling.{SpellsPackets}
use Rattle.island_pack.specs.declared.packet.Packet.{Packet}
use Rattle.source_end.proofs.Spellings.{joined}
use Rattle.source_end.proofs.Packets.{packets_length, packets_more, first_from, not_first}
use Rattle.source_end.proofs.Fronts.{on_err}
use Rattle.source_end.proofs.ItemFronts.{packets_front, part_range}
use Rattle.source_end.proofs.spell.packets.Goals as goal

pub loop-i-init : goal.loop-i-init
loop-i-init g c = record { columns = []; taken = sym (append-nil (g.C.ColumnSink.taken c.args.out.now)); spelled = subst (λ k. SpellsPackets true (take k c.args.packets.now) []) (sym (none (length c.args.packets.now))) refl; first = refl; later = omega arith }
  where
    none : (n : ℕ) → min n (8 * 0) ≡ 0
    none n = omega arith

pub few_packets-requires-clause-range : goal.few_packets-requires-clause-range
few_packets-requires-clause-range g c = part_range c.args.packets.now (8 * c.loop-i.i) (c.min-upto.result - 8 * c.loop-i.i) c.requires.range

pub few_packets-requires-clause-few : goal.few_packets-requires-clause-few
few_packets-requires-clause-few g c =
    let packets = c.args.packets.now in
    let from = 8 * c.loop-i.i in
    omega (arith, length-take (c.min-upto.result - from) (drop from packets), c.min-upto.ensures)

pub few_packets-requires-clause-room : goal.few_packets-requires-clause-room
few_packets-requires-clause-room g c =
    let packets = c.args.packets.now in
    let was = c.loop-i.invariant in
    let from = 8 * c.loop-i.i in
    let begun : from < length packets = omega (arith, c.div_ceil-i-end.ensures, c.loop-i-test.true) in
    omega (
      arith,
      ap length was.taken,
      length-append (g.C.ColumnSink.taken c.args.out.now) was.columns,
      packets_length true (take (min (length packets) from) packets) was.columns was.spelled,
      length-take (min (length packets) from) packets,
      length-take (c.min-upto.result - from) (drop from packets),
      length-drop from packets,
      c.min-upto.ensures,
      c.requires.room,
    )

pub loop-i-preserved : goal.loop-i-preserved
loop-i-preserved g c =
    let packets = c.args.packets.now in
    let was = c.loop-i.invariant in
    let i = c.loop-i.i in
    let from = 8 * i in
    let upto = c.min-upto.result in
    let own = c.in_ok-few_packets.ensures.ok in
    let begun : from < length packets = omega (arith, c.div_ceil-i-end.ensures, c.loop-i-test.true) in
    let le : from ≤ upto = omega (arith, c.min-upto.ensures, begun) in
    let here : min (length packets) from ≡ from = omega (arith, begun) in
    let next : upto ≡ min (length packets) (8 * (i + 1)) = omega (arith, c.min-upto.ensures) in
    record {
      columns = was.columns ++ own.0;
      taken = joined (g.C.ColumnSink.taken c.args.out.now) (g.C.ColumnSink.taken c.loop-i.out) (g.C.ColumnSink.taken c.few_packets.new.out) was.columns own.0 was.taken own.1;
      spelled = packets_more packets from upto _ _ c.loop-i.first was.columns own.0 le here next (was.first ∙ first_from packets i (omega (arith, begun))) was.spelled own.2;
      first = not_first true i;
      later = omega (arith, was.later, c.in_ok-few_packets.ensures.cause.later);
    }

pub returns-in_err-few_packets-clause-part : goal.returns-in_err-few_packets-clause-part
returns-in_err-few_packets-clause-part g c =
    let packets = c.args.packets.now in
    let was = c.loop-i.invariant in
    let i = c.loop-i.i in
    let from = 8 * i in
    let begun : from < length packets = omega (arith, c.div_ceil-i-end.ensures, c.loop-i-test.true) in
    let here : min (length packets) from ≡ from = omega (arith, begun) in
    on_err c.from_residual.result
    (packets_front packets from (c.min-upto.result - from) c.loop-i.first (g.C.ColumnSink.taken c.args.out.now) (g.C.ColumnSink.taken c.loop-i.out) (g.C.ColumnSink.taken c.few_packets.new.out) was.columns c.requires.range
    (was.first ∙ first_from packets i (omega (arith, begun))) (subst (λ k. SpellsPackets true (take k packets) was.columns) here was.spelled) was.taken c.in_err-few_packets.ensures.part)

pub returns-clause-ok : goal.returns-clause-ok
returns-clause-ok g c =
    let packets = c.args.packets.now in
    let was = c.loop-i.invariant in
    let all : length packets ≤ min (length packets) (8 * c.loop-i.i) = omega (arith, c.div_ceil-i-end.ensures, c.loop-i-test.false) in
    (was.columns, was.taken, subst (λ (ps : List Packet). SpellsPackets true ps was.columns) (take_all (min (length packets) (8 * c.loop-i.i)) packets all) was.spelled)
