use Rattle.std.proofs.Common.{◌<◌, map, replicate}
use Rattle.std.proofs.lemmas.List.Elements.{All-replicate}
use Rattle.tmds_word.specs.Words.{columns_of}
use Rattle.island_pack.specs.Spelling.{column_words}
use Rattle.island_pack.proofs.packet_columns.PacketColumns.new.Goals as goal

pub invariant_of-result : goal.invariant_of-result
invariant_of-result c = (
  All-replicate (λ w. w < 1024) 32 c.value.result c.value.ensures.below,
  (All-replicate (λ w. w < 1024) 32 c.value-2.result c.value-2.ensures.below, All-replicate (λ w. w < 1024) 32 c.value-3.result c.value-3.ensures.below),
)

pub returns : goal.returns
unfolding columns_of
returns c = λ i. map column_words (columns_of (replicate 32 (c.value.ensures.value i)) (replicate 32 (c.value-2.ensures.value i)) (replicate 32 (c.value-3.ensures.value i)))
