use Rattle.std.proofs.Common.{◌∙◌, ap}
use Rattle.tmds_code.specs.Coding.{decoded_byte}
use Rattle.tmds_code.proofs.TableWords.{table_byte}
use Rattle.tmds_code.proofs.coding.decode.Goals as goal

pub returns : goal.returns
returns c = c.decoded.ensures ∙ table_byte c.value.result c.value.ensures.below ∙ ap decoded_byte c.value.ensures.value
