use Rattle.std.proofs.Common.{Some, ap}
use Rattle.capture_file.proofs.OneCapture.{no_fault}
use Rattle.capture_commands.proofs.Samples.{stands}
use Rattle.capture_commands.proofs.commands.sample.hear_bytes.Goals as goal

pub returns-in-Ok-clause-heard : goal.returns-in-Ok-clause-heard
returns-in-Ok-clause-heard g c =
    let h = c.in-Ok.ensures.heard in
    (h.0.blue, h.0.green, h.0.red, h.4 c.args.bytes.now (ap Some c.new.ensures), (h.1, h.2, h.3))

pub unreachable-requires : goal.unreachable-requires
unreachable-requires g c =
    let fault = c.in-Err-Bad.field-0-0 in
    no_fault c.args.bytes.now fault c.requires.capture (c.in-Err-Bad.ensures.bad c.args.bytes.now fault (ap Some c.new.ensures) c.in-Err-Bad.field-0-is).0

pub unreachable-requires-in-Err-Read : goal.unreachable-requires-in-Err-Read
unreachable-requires-in-Err-Read g c = stands (c.in-Err-Read.ensures.read c.in-Err-Read.field-0-is).0
