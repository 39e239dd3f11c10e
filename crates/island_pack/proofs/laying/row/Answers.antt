use Rattle.std.proofs.Common.{◌+◌, ◌*◌}
use Rattle.island_pack.proofs.Apart.{row_is}
use Rattle.island_pack.proofs.laying.row.Goals as goal

pub returns : goal.returns
returns c = λ i lt.
    row_is c.args.blocks.now c.to_le_bytes.result c.args.r i c.byte.result c.byte-2.result c.byte-3.result c.byte-4.result _ c.byte.ensures c.byte-2.ensures c.byte-3.ensures c.byte-4.ensures
    (λ j. c.apart.ensures.value j + 2 * c.apart-2.ensures.value j + 4 * c.apart-3.ensures.value j + 8 * c.apart-4.ensures.value j) c.to_le_bytes.ensures lt
