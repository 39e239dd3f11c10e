use Rattle.std.proofs.Common.{arith, rules, ◌≡◌, ◌∙◌, false, [], ap, sym, subst}
use Rattle.capture_file.specs.declared.fault.CaptureFault.{CaptureFault}
use Rattle.command_line.specs.declared.command.Command.TheVariants.{Relay}
use Rattle.capture_commands.specs.Endings.{Ends, relay_ending, seen}
use Rattle.capture_commands.specs.declared.ending.Ending.{Ending}
use Rattle.capture_commands.specs.declared.ending.Ending.TheVariants.{Capture}
use Rattle.capture_commands.proofs.Answered.{keeps_itself}
use Rattle.capture_commands.proofs.Relaying.{heard_sent, nowhere_sent, refused_sent, broken_sent}
use Rattle.capture_commands.specs.Taken.{RelayStops}
use Rattle.capture_commands.proofs.Taken.{broken_stops, heard_stops, refused_stops}
use Rattle.capture_commands.proofs.commands.relay_capture.relay_lanes.Goals as goal

pub write_relayed-requires : goal.write_relayed-requires
write_relayed-requires g c = (c.in-Ok.ensures.heard.1, c.in-Ok.ensures.heard.3.0 [] c.open-relay.ensures.stands)

pub returns-in-Ok-clause-ends : goal.returns-in-Ok-clause-ends
returns-in-Ok-clause-ends g c = grind (arith, heard_sent)

pub returns-in-Ok-2-clause-ends : goal.returns-in-Ok-2-clause-ends
returns-in-Ok-2-clause-ends g c =
    let before = seen (g.S.Source.left c.args.input.now) (g.S.Source.faults c.args.input.now) (g.K.Sink.held c.args.output.now) (g.K.Sink.faults c.args.output.now) in
    let after = seen (g.S.Source.left c.hear_capture.new.input) (g.S.Source.faults c.hear_capture.new.input) (g.K.Sink.held c.args.output.now) (g.K.Sink.faults c.args.output.now) in
    let heard = c.in-Ok-2.ensures.heard in
    let not : c.in-Ok-2.field-0.aligned ≡ false = search rules in
    nowhere_sent heard.0 c.in-Ok-2.field-0 heard.1 before after heard.2 not heard.4 (search rules) (keeps_itself (g.K.Sink.held c.args.output.now))

pub returns-in-Err-Bad-clause-ends : goal.returns-in-Err-Bad-clause-ends
returns-in-Err-Bad-clause-ends g c =
    let before = seen (g.S.Source.left c.args.input.now) (g.S.Source.faults c.args.input.now) (g.K.Sink.held c.args.output.now) (g.K.Sink.faults c.args.output.now) in
    let after = seen (g.S.Source.left c.hear_capture.new.input) (g.S.Source.faults c.hear_capture.new.input) (g.K.Sink.held c.args.output.now) (g.K.Sink.faults c.args.output.now) in
    subst (λ (f : CaptureFault). Ends Relay (Capture f) before after) (sym c.in-Err-Bad.fault-is)
    (refused_sent c.in-Err-Bad.fault c.open-relay.result c.hear_capture.new.ear before after c.open-relay.ensures.stands (keeps_itself (g.K.Sink.held c.args.output.now))
    (λ bytes reported. c.in-Err-Bad.ensures.bad bytes c.in-Err-Bad.fault reported c.in-Err-Bad.field-0-is))

pub returns-in-Err-Read-clause-ends : goal.returns-in-Err-Read-clause-ends
returns-in-Err-Read-clause-ends g c =
    let r = c.in-Err-Read.ensures.read c.in-Err-Read.field-0-is in
    (r.0, (keeps_itself (g.K.Sink.held c.args.output.now), (r.1.1, r.1.2, r.1.3.0)))

pub returns-clause-ends : goal.returns-clause-ends
returns-clause-ends g c =
    let before = seen (g.S.Source.left c.args.input.now) (g.S.Source.faults c.args.input.now) (g.K.Sink.held c.args.output.now) (g.K.Sink.faults c.args.output.now) in
    let after = seen (g.S.Source.left c.hear_capture.new.input) (g.S.Source.faults c.hear_capture.new.input) (g.K.Sink.held c.args.output.now) (g.K.Sink.faults c.args.output.now) in
    let b = c.in-Err-Ear.ensures.broken c.in-Err-Ear.field-0-is in
    subst (λ (e : Ending). Ends Relay e before after) (sym (c.untaken.ensures ∙ ap relay_ending c.trouble.ensures))
    (broken_sent before after c.open-relay.result c.hear_capture.new.ear b.1 b.2 b.3 b.4 c.open-relay.ensures.stands c.open-relay.ensures.trouble (keeps_itself (g.K.Sink.held c.args.output.now)) b.5 b.6)

pub returns-in-Ok-clause-stops : goal.returns-in-Ok-clause-stops
returns-in-Ok-clause-stops g c =
    let before = seen (g.S.Source.left c.args.input.now) (g.S.Source.faults c.args.input.now) (g.K.Sink.held c.args.output.now) (g.K.Sink.faults c.args.output.now) in
    let after = seen (g.S.Source.left c.hear_capture.new.input) (g.S.Source.faults c.hear_capture.new.input) (g.K.Sink.held c.write_relayed.new.output) (g.K.Sink.faults c.write_relayed.new.output) in
    let heard = c.in-Ok.ensures.heard in
    let stands = heard.3.0 [] c.open-relay.ensures.stands in
    heard_stops heard.0 c.in-Ok.heard heard.1 c.hear_capture.new.ear c.write_relayed.result before after heard.2 c.if-heard.true heard.4 (search rules) stands (c.write_relayed.ensures.ends heard.1 stands)

pub returns-in-Err-Bad-clause-stops : goal.returns-in-Err-Bad-clause-stops
returns-in-Err-Bad-clause-stops g c =
    let from = g.S.Source.left c.args.input.now in
    let left = g.S.Source.left c.hear_capture.new.input in
    subst (λ (f : CaptureFault). RelayStops (Capture f) from left) (sym c.in-Err-Bad.fault-is)
    (refused_stops c.in-Err-Bad.fault c.open-relay.result c.hear_capture.new.ear from left c.open-relay.ensures.stands
    (λ bytes reported. c.in-Err-Bad.ensures.bad bytes c.in-Err-Bad.fault reported c.in-Err-Bad.field-0-is))

pub returns-clause-stops : goal.returns-clause-stops
returns-clause-stops g c =
    let from = g.S.Source.left c.args.input.now in
    let left = g.S.Source.left c.hear_capture.new.input in
    let b = c.in-Err-Ear.ensures.broken c.in-Err-Ear.field-0-is in
    subst (λ (e : Ending). RelayStops e from left) (sym (c.untaken.ensures ∙ ap relay_ending c.trouble.ensures))
    (broken_stops from left c.open-relay.result c.hear_capture.new.ear b.1 b.2 b.3 b.4 c.open-relay.ensures.stands c.open-relay.ensures.trouble b.5 b.6)

pub returns-in-Ok-clause-taken : goal.returns-in-Ok-clause-taken
returns-in-Ok-clause-taken g c = c.hear_capture.ensures.taken

pub returns-in-Ok-2-clause-taken : goal.returns-in-Ok-2-clause-taken
returns-in-Ok-2-clause-taken g c = c.hear_capture.ensures.taken

pub returns-in-Err-Bad-clause-taken : goal.returns-in-Err-Bad-clause-taken
returns-in-Err-Bad-clause-taken g c = c.hear_capture.ensures.taken

pub returns-clause-taken : goal.returns-clause-taken
returns-clause-taken g c = c.hear_capture.ensures.taken
