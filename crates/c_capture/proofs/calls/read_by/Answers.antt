use Rattle.std.specs.Prelude.{Some}
use Rattle.c_capture.specs.Readers.{command_of}
use Rattle.c_capture.proofs.Said.{said_of}
use Rattle.c_capture.proofs.calls.read_by.Goals as goal

pub returns : goal.returns
returns c =
    said_of (command_of c.args.reader) c.list_by.result c.args.capture.now c.list_by.new.text.bytes.items _ _ (Some c.list_by.new.source.rest.now) c.args.text.now.faults 0 c.list_by.new.text.faults c.of.result
    c.list_by.ensures c.new.ensures c.requires c.of.ensures
