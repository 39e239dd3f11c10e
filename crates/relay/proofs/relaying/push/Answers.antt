use Rattle.std.proofs.Common.{◌∷◌, [], List, ap, sym, arith}
use Rattle.std.proofs.lemmas.List.{take_at}
use Rattle.island_pack.specs.declared.packet.Packet.{Packet}
use Rattle.relay.proofs.relaying.push.Goals as goal

pub returns-then-len-ge18 : goal.returns-then-len-ge18
returns-then-len-ge18 c few =
    let x = c.args.island.now in
    let n = c.len.ensures in
    let m = c.if-len-ge18.true in
    ap (λ (ps : List Packet). record { opening = x.opening; packets = ps; closing = x.closing }) (sym (take_at x.packets (c.args.packet ∷ []) 18 (omega arith)))
