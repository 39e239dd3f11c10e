use Rattle.std.specs.Prelude.{Some}
use Rattle.command_line.specs.declared.command.Command.TheVariants.{Check}
use Rattle.c_capture.proofs.Said.{said_of}
use Rattle.c_capture.proofs.calls.read_faults.Goals as goal

pub returns : goal.returns
returns c =
    said_of Check c.check.result c.args.capture.now c.check.new.output.bytes.items _ _ (Some c.check.new.input.rest.now) c.args.text.now.faults 0 c.check.new.output.faults c.of.result
    c.check.ensures.ends c.new-source.ensures c.requires c.of.ensures
