use Rattle.std.proofs.Common.{arith, subst}
use Rattle.command_line.specs.Commands.{IsCommand as IsLine}
use Rattle.command_line.specs.declared.command.Command.{Command}
use Rattle.capture_commands.specs.Endings.{Devices}
use Rattle.hdmi_cli.proofs.Ends.{line_of, none_named_ends}
use Rattle.capture_commands.proofs.Answered.{frames_of_line, lanes_of_line, version_of_line, pair_of_line, version_of_content, version_of_dvi}
use Rattle.hdmi_cli.proofs.run.carry_out.Goals as goal

pub returns-in-Ok-None-clause-ends : goal.returns-in-Ok-None-clause-ends
returns-in-Ok-None-clause-ends g c =
    let devices : Devices = record { left = g.S.Source.left c.args.input.now; input_faults = g.S.Source.faults c.args.input.now; held = g.K.Sink.held c.args.output.now; output_faults = g.K.Sink.faults c.args.output.now } in
    none_named_ends c.args.words.now devices c.command.result c.in-Ok-None.field-0 c.command.ensures c.in-Ok-None.is c.in-Ok-None.field-0-is

pub damage-requires : goal.damage-requires
damage-requires g c = grind (arith, lanes_of_line, line_of)

pub make_link-requires : goal.make_link-requires
make_link-requires g c = grind (arith, version_of_line, line_of)

pub make_dvi-requires : goal.make_dvi-requires
make_dvi-requires g c = grind (arith, version_of_dvi, line_of)

pub make_content-requires : goal.make_content-requires
make_content-requires g c = grind (arith, version_of_content, line_of)

pub count_sample-requires : goal.count_sample-requires
count_sample-requires g c = grind (arith, frames_of_line, line_of)

pub recover_biphase-requires : goal.recover_biphase-requires
recover_biphase-requires g c = record {
  few = pair_of_line c.args.words.now c.in-RecoverBiphase.pair (subst (λ (d : Command). IsLine c.args.words.now d) c.in-RecoverBiphase.is
      (line_of c.args.words.now c.command.result c.in-Ok-Some.field-0 c.in-Ok-Some.command c.command.ensures c.in-Ok-Some.is c.in-Ok-Some.field-0-is));
}

pub slip-requires : goal.slip-requires
slip-requires g c = grind (arith, line_of)
