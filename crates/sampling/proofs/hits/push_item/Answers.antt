use Rattle.std.proofs.Common.{◌≡◌, ◌+◌, ◌*◌, length, ap, append-nil, arith}
use Rattle.island_pack.specs.Periods.{period_columns}
use Rattle.source_end.specs.ItemPeriods.{period_of}
use Rattle.source_end.specs.declared.item.Item.{Item}
use Rattle.sampling.proofs.Struck.{struck_none, island_strikes}
use Rattle.sampling.proofs.hits.push_item.Goals as goal

pub overflow_cast-len : goal.overflow_cast-len
unfolding period_columns
overflow_cast-len c =
    let e : period_columns (period_of c.args.item.now) ≡ 4 + 32 * length c.in-Island.island.packets = ap (λ (x : Item). period_columns (period_of x)) c.in-Island.is in
    omega (arith, e, c.len.ensures, c.requires.few, c.requires.within)

pub push_packets-requires-clause-within : goal.push_packets-requires-clause-within
unfolding period_columns
push_packets-requires-clause-within c =
    let e : period_columns (period_of c.args.item.now) ≡ 4 + 32 * length c.in-Island.island.packets = ap (λ (x : Item). period_columns (period_of x)) c.in-Island.is in
    omega (arith, e, c.len.ensures, c.requires.within)

pub returns-in-Control : goal.returns-in-Control
returns-in-Control c = grind (arith, append-nil, struck_none)

pub returns-in-Island : goal.returns-in-Island
returns-in-Island c = grind (arith, island_strikes)
