-- What of the crates below the lemmas here rest on (`facts`): of the value of a column, of the byte of a character, and of
-- packets that are taken.
use Rattle.std.proofs.Common.{ℕ, ◌<◌}
use Rattle.tmds_word.specs.Column.{Column}
use Rattle.tmds_code.specs.Coding.{decoded_byte}
use Rattle.island_pack.specs.Taken.{CarriedIsTaken}
use Rattle.island_pack.specs.Repaired.{RepairedIsTaken}
use Rattle.island_pack.proofs.Law.{carried_is_taken}
use Rattle.island_pack.proofs.RepairedBlocks.{repaired_is_taken}
use Rattle.period_grammar.specs.Column.{value_of}
use Rattle.period_grammar.proofs.Bytes.{decoded_below}
use Rattle.period_grammar.proofs.Sizes.{value_of_below}

pub record Facts : Type 0 where
  pub value : (c : Column) → value_of c < 64
  pub decoded : (w : ℕ) → decoded_byte w < 256
  pub taken : RepairedIsTaken
  pub clean : CarriedIsTaken

pub facts : Facts
facts = record { value = value_of_below; decoded = decoded_below; taken = repaired_is_taken; clean = carried_is_taken }
