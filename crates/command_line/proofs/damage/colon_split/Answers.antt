use Rattle.std.proofs.Common.{arith}
use Rattle.std.proofs.lemmas.Str.Pattern.{split_once_first}
use Rattle.command_line.proofs.Triples.{split_reported}
use Rattle.command_line.proofs.damage.colon_split.Goals as goal

pub returns : goal.returns
returns c = split_reported 58 c.args.text.now c.split_once.result (split_once_first 58 c.args.text.now c.split_once.result c.split_once.ensures.cases (omega arith))
