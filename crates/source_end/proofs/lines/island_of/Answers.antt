use Rattle.std.proofs.Common.{◌≡◌, ◌+◌, ◌*◌, ℕ, List, ◌++◌, ◌∷◌, [], length, get_or, take, take_all, map, sym, ap, ap₂, ◌∙◌, arith}
use Rattle.std.proofs.lemmas.List.{take_more, length-take}
use Rattle.island_pack.specs.declared.packet.Packet.{Packet}
use Rattle.source_end.specs.Raster.{blank, sync_at, up_from, packets_at}
use Rattle.source_end.proofs.RasterRuns.{packets_more}
use Rattle.source_end.proofs.lines.island_of.Goals as goal

pub loop-packet-preserved : goal.loop-packet-preserved
loop-packet-preserved c =
    let line = blank c.args.vsync in
    let mode = c.args.mode.now in
    let f = sync_at mode line in
    let i = c.loop-packet.packet-index in
    let ps = c.args.packets.now in
    let none : Packet = record { header = []; bodies = []; sync = [] } in
    let p = get_or ps i none in
    let place : c.loop-packet.x ≡ 14 + 32 * length (take i ps) = omega (arith, c.loop-packet.invariant.x_is, length-take i ps, c.loop-packet-test.true) in
    record {
      x_is = omega arith;
      placed = c.in_ok-push.ensures.items
          ∙ ap₂ (λ (qs : List Packet) (s : List ℕ). qs ++ record { header = p.header; bodies = p.bodies; sync = s } ∷ []) c.loop-packet.invariant.placed (c.packet_sync-sync.ensures ∙ ap (λ (k : ℕ). map f (up_from k 32)) place)
          ∙ sym (packets_more mode line 14 (take i ps) p)
          ∙ sym (ap (packets_at mode line 14) (take_more ps i none c.loop-packet-test.true));
    }

pub returns : goal.returns
returns c =
    let line = blank c.args.vsync in
    let mode = c.args.mode.now in
    let ps = c.args.packets.now in
    let i = c.loop-packet.packet-index in
    let all : take i ps ≡ ps = take_all i ps (omega (arith, c.loop-packet-test.false)) in
    let last : c.loop-packet.x ≡ 14 + 32 * length ps = omega (arith, c.loop-packet.invariant.x_is, c.loop-packet-test.false) in
    let packets = c.loop-packet.invariant.placed ∙ ap (packets_at mode line 14) all in
    let first = c.sync_at-3.ensures.value ∙ ap (sync_at mode line) last in
    let second = c.sync_at-4.ensures.value ∙ ap (λ (k : ℕ). sync_at mode line (k + 1)) last in
    c.from_packets.ensures ∙ (λ j. record {
      opening = record { first = c.sync_at.ensures.value j; second = c.sync_at-2.ensures.value j };
      packets = packets j;
      closing = record { first = first j; second = second j };
    })
