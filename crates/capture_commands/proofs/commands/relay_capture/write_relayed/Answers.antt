use Rattle.std.proofs.Common.{arith}
use Rattle.capture_commands.proofs.Relaying.{marked_ends}
use Rattle.capture_commands.proofs.commands.relay_capture.write_relayed.Goals as goal

pub returns-clause-ends : goal.returns-clause-ends
returns-clause-ends g c = λ events stands.
    let old = g.K.Sink.held c.args.output.now in
    grind (arith, marked_ends)
