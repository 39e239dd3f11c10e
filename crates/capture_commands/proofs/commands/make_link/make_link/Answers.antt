use Rattle.island_pack.specs.Spelling.{Spells}
use Rattle.listing_reader.specs.Reading.{reads_as}
use Rattle.command_line.specs.declared.command.Command.TheVariants.{MakeLink}
use Rattle.capture_commands.specs.Endings.{Devices}
use Rattle.capture_commands.proofs.Answered.{listing_ends}
use Rattle.capture_commands.proofs.commands.make_link.make_link.Goals as goal

pub returns-clause-ends : goal.returns-clause-ends
returns-clause-ends g c =
    let before : Devices = record { left = g.S.Source.left c.args.input.now; input_faults = g.S.Source.faults c.args.input.now; held = g.K.Sink.held c.args.output.now; output_faults = g.K.Sink.faults c.args.output.now } in
    let after : Devices = record { left = g.S.Source.left c.read_link.new.source; input_faults = g.S.Source.faults c.read_link.new.source; held = g.K.Sink.held c.write_listing.new.output; output_faults = g.K.Sink.faults c.write_listing.new.output } in
    listing_ends Spells (MakeLink c.args.words.now) reads_as c.args.words.now c.read_link.result c.write_listing.result before after
    (λ text o made. made) (λ parts. parts) (λ kept. kept) (λ reads. reads) c.read_link.ensures.answers c.read_link.ensures.ended c.read_link.ensures.caused c.write_listing.ensures.ends

pub returns-clause-taken : goal.returns-clause-taken
returns-clause-taken g c = c.read_link.ensures.taken
