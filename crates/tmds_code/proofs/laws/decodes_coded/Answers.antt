use Rattle.std.proofs.Common.{◌∙◌, ap}
use Rattle.tmds_code.specs.Coding.{sign_of, decoded_byte}
use Rattle.tmds_code.proofs.TableWords.{decoded_coded}
use Rattle.tmds_code.proofs.laws.decodes_coded.Goals as goal

pub returns : goal.returns
returns c = λ disparity byte w lt coded. ap decoded_byte coded ∙ decoded_coded (sign_of disparity) byte lt
