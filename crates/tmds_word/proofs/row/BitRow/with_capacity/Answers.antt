use Rattle.std.proofs.Common.{ap, ◌++◌}
use Rattle.tmds_word.specs.Bits.{bits_of, bytes_bits}
use Rattle.tmds_word.proofs.row.BitRow.with_capacity.Goals as goal

pub returns : goal.returns
unfolding bits_of bytes_bits
returns c = ap (λ bs. bytes_bits bs ++ bits_of 0 0) c.in_ok-with_capacity.ensures.items
