use Rattle.std.proofs.Common.{arith, rules, ◌≡◌, ◌∙◌, ℕ, List, Some, ap, subst}
use Rattle.std.specs.Prelude.{Ok}
use Rattle.island_pack.specs.Spelling.{Spells}
use Rattle.capture_commands.specs.Commands.{tap_asked}
use Rattle.capture_file.specs.declared.writing.Tap.{Tap}
use Rattle.capture_commands.specs.Endings.{Devices, StreamEnds}
use Rattle.command_line.specs.declared.command.Command.TheVariants.{MakeContent}
use Rattle.source_end.specs.Raster.{raster_of}
use Rattle.listing_reader.specs.LineSteps.{accepts}
use Rattle.listing_reader.specs.ContentReading.{content_reads_as}
use Rattle.capture_commands.proofs.Answered.{bad_listing, read_contents, read_fault, line_refused, made_fault, content_refused, raster_ends, stream_ends, makes_content}
use Rattle.capture_commands.proofs.commands.make_content.make_content.Goals as goal

pub returns-in-Err-Bad-clause-ends : goal.returns-in-Err-Bad-clause-ends
returns-in-Err-Bad-clause-ends g c = grind (arith, content_refused, line_refused, bad_listing)

pub returns-in-Ok-Err-clause-ends : goal.returns-in-Ok-Err-clause-ends
returns-in-Ok-Err-clause-ends g c = grind (arith, raster_ends, read_fault)

pub returns-in-Ok-clause-ends : goal.returns-in-Ok-clause-ends
returns-in-Ok-clause-ends g c =
    let before : Devices = record { left = g.S.Source.left c.args.input.now; input_faults = g.S.Source.faults c.args.input.now; held = g.K.Sink.held c.args.output.now; output_faults = g.K.Sink.faults c.args.output.now } in
    let after : Devices = record { left = g.S.Source.left c.read_content.new.source; input_faults = g.S.Source.faults c.read_content.new.source; held = g.K.Sink.held c.write_raster.new.output; output_faults = g.K.Sink.faults c.write_raster.new.output } in
    let mode = c.in-Ok-Ok.read.0 in
    let frames = c.in-Ok-Ok.read.1 in
    let accepts : (text : List ℕ) → before.left ≡ Some text → content_reads_as text ≡ accepts c.in-Ok-Ok.read =
    λ text reported. read_contents _ c.read_content.result c.in-Ok-Ok.read (c.read_content.ensures.answers text reported) (c.in-Ok-Ok.is ∙ ap Ok c.in-Ok-Ok.field-0-is) in
    stream_ends Spells (MakeContent c.args.words.now) (tap_asked c.args.words.now) (raster_of mode frames) c.in-Ok.ending before after
    (λ text o reported made. makes_content c.args.words.now mode frames c.write_raster.result c.in-Ok.ending text o (accepts text reported) c.write_raster.ensures.fault c.in-Ok.is made)
    (λ parts. parts) (λ reads. reads) (search rules) (subst (λ (t : Tap). StreamEnds Spells t (raster_of mode frames) c.in-Ok.ending (g.K.Sink.held c.args.output.now) (g.K.Sink.held c.write_raster.new.output) (g.K.Sink.faults c.args.output.now) (g.K.Sink.faults c.write_raster.new.output)) c.tap_of.ensures c.in-Ok.ensures.ends)

pub returns-in-Err-clause-ends : goal.returns-in-Err-clause-ends
returns-in-Err-clause-ends g c = grind (arith, read_contents, raster_ends, made_fault)

pub returns-in-Ok-Err-clause-taken : goal.returns-in-Ok-Err-clause-taken
returns-in-Ok-Err-clause-taken g c = c.read_content.ensures.taken

pub returns-in-Ok-clause-taken : goal.returns-in-Ok-clause-taken
returns-in-Ok-clause-taken g c = c.read_content.ensures.taken

pub returns-in-Err-Bad-clause-taken : goal.returns-in-Err-Bad-clause-taken
returns-in-Err-Bad-clause-taken g c = c.read_content.ensures.taken

pub returns-in-Err-clause-taken : goal.returns-in-Err-clause-taken
returns-in-Err-clause-taken g c = c.read_content.ensures.taken
