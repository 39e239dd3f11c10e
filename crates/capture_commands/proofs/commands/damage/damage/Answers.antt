use Rattle.std.proofs.Common.{arith, sym, subst, ◌∙◌, ◌<◌, List}
use Rattle.std.specs.List.{All}
use Rattle.capture_file.specs.declared.damaging.Hit.{Hit}
use Rattle.capture_commands.specs.Endings.{Devices, Ends}
use Rattle.command_line.specs.declared.command.Command.TheVariants.{Damage}
use Rattle.capture_commands.specs.declared.ending.Ending.{Ending}
use Rattle.capture_commands.proofs.Answered.{Damaged, damaged, lanes_of_hits}
use Rattle.capture_commands.proofs.commands.damage.damage.Goals as goal

pub damage-requires-clause-lanes : goal.damage-requires-clause-lanes
damage-requires-clause-lanes g c =
    subst (λ (hits : List Hit). All (λ (h : Hit). h.lane < 3) hits) (sym c.as_slice.ensures.value) (subst (λ (hits : List Hit). All (λ (h : Hit). h.lane < 3) hits) (sym c.in-Ok.ensures.hits) (lanes_of_hits c.args.words.now c.requires))

pub returns-in-Ok-clause-ends : goal.returns-in-Ok-clause-ends
returns-in-Ok-clause-ends g c =
    let before : Devices = record { left = g.S.Source.left c.args.input.now; input_faults = g.S.Source.faults c.args.input.now; held = g.K.Sink.held c.args.output.now; output_faults = g.K.Sink.faults c.args.output.now } in
    let after : Devices = record { left = g.S.Source.left c.damage.new.source; input_faults = g.S.Source.faults c.damage.new.source; held = g.K.Sink.held c.damage.new.out; output_faults = g.K.Sink.faults c.damage.new.out } in
    let reported : Damaged c.as_slice.result.now before after c.damage.result = grind arith in
    subst (λ (e : Ending). Ends (Damage c.args.words.now) e before after) (sym c.damaged.ensures)
    (damaged c.args.words.now c.damage.result before after
    (subst (λ (hits : List Hit). Damaged hits before after c.damage.result) (c.as_slice.ensures.value ∙ c.in-Ok.ensures.hits) reported))

pub returns-in-Ok-clause-taken : goal.returns-in-Ok-clause-taken
returns-in-Ok-clause-taken g c = c.damage.ensures.taken
