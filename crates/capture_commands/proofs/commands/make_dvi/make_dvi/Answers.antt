use Rattle.source_end.specs.DviPeriods.{DviSpells}
use Rattle.listing_reader.specs.DviReading.{dvi_reads_as}
use Rattle.command_line.specs.declared.command.Command.TheVariants.{MakeDvi}
use Rattle.capture_commands.specs.Endings.{Devices}
use Rattle.capture_commands.proofs.Answered.{listing_ends}
use Rattle.capture_commands.proofs.commands.make_dvi.make_dvi.Goals as goal

pub returns-clause-ends : goal.returns-clause-ends
returns-clause-ends g c =
    let before : Devices = record { left = g.S.Source.left c.args.input.now; input_faults = g.S.Source.faults c.args.input.now; held = g.K.Sink.held c.args.output.now; output_faults = g.K.Sink.faults c.args.output.now } in
    let after : Devices = record { left = g.S.Source.left c.read_dvi.new.source; input_faults = g.S.Source.faults c.read_dvi.new.source; held = g.K.Sink.held c.write_listing.new.output; output_faults = g.K.Sink.faults c.write_listing.new.output } in
    listing_ends DviSpells (MakeDvi c.args.words.now) dvi_reads_as c.args.words.now c.read_dvi.result c.write_listing.result before after
    (λ text o made. made) (λ parts. parts) (λ kept. kept) (λ reads. reads) c.read_dvi.ensures.answers c.read_dvi.ensures.ended c.read_dvi.ensures.caused c.write_listing.ensures.ends

pub returns-clause-taken : goal.returns-clause-taken
returns-clause-taken g c = c.read_dvi.ensures.taken
