use Rattle.std.proofs.Common.{◌∙◌, []}
use Rattle.capture_commands.specs.Listers.{counted_first}
use Rattle.capture_commands.proofs.lister.ContentListerLister.fault_lines.Goals as goal

pub returns : goal.returns
returns g c = λ first events fresh took.
    c.faults.ensures ∙ counted_first first.past c.args.self.now.past events first.faults c.args.self.now.faults (g.K.Sink.held first.sink.now) (g.K.Sink.held c.args.self.now.sink.now) (took.1 [] fresh.0) fresh.1
