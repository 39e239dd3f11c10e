use Rattle.std.proofs.Common.{rules, ◌≡◌, [], ◌++◌, List}
use Rattle.tmds_word.specs.Column.{Column}
use Rattle.capture_commands.proofs.Answered.{spelled_ends}
use Rattle.capture_commands.proofs.writing.write_stream.Goals as goal

pub returns-in-Ok-spell-clause-ends : goal.returns-in-Ok-spell-clause-ends
returns-in-Ok-spell-clause-ends g c =
    let spells = g.F.Framing.spells in
    let spelled : (columns : List Column) × (c.spell.new.out.columns ≡ [] ++ columns) × spells c.args.stream.now columns = search rules in
    spelled_ends spells c.args.tap.now c.args.stream.now c.spell.new.out.columns c.write_lanes.result (g.K.Sink.held c.args.output.now) (g.K.Sink.held c.write_lanes.new.output) (g.K.Sink.faults c.args.output.now) (g.K.Sink.faults c.write_lanes.new.output) spelled c.write_lanes.ensures.ends
