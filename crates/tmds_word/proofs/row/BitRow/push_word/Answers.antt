use Rattle.tmds_word.specs.Bits.{word_bits}
use Rattle.tmds_word.proofs.row.BitRow.push_word.Goals as goal

pub returns-clause-ok : goal.returns-clause-ok
unfolding word_bits
returns-clause-ok c = rw c.value.ensures.value at c.put.ensures.ok
