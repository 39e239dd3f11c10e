use Rattle.std.proofs.Common.{◌+◌, ◌-◌, length, arith}
use Rattle.std.proofs.lemmas.Slice.{drop-put_mid}
use Rattle.island_pack.proofs.packet_columns.put_words.Goals as goal

pub returns-clause-behind : goal.returns-clause-behind
returns-clause-behind c =
    let m = c.args.at + length c.args.words.now in
    drop-put_mid c.args.at (m - c.args.at) c.args.lane.now c.copy_from_slice.new.self m (omega arith) (omega (arith, c.requires.room, c.told-lane)) (omega (arith, c.copy_from_slice.ensures.len))
