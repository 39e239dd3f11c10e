use Rattle.clap.specs.Words.{found_of}
use Rattle.command_line.proofs.Judging.{texts_found}
use Rattle.command_line.proofs.forms.operand_texts.Goals as goal

pub returns : goal.returns
returns c = texts_found (found_of c.args.matches.now) c.get_raw.result c.get_raw.ensures
