use Rattle.audio_packets.specs.Samples.{samples_of}
use Rattle.listing_writer.proofs.ContentNotes.{Added}
use Rattle.listing_writer.proofs.content_lines.Lines.add_samples.Given as goal

abbrev pub invariant-loop-note : goal.invariant-loop-note
invariant-loop-note l = record {
  next : (goal.iterator-loop-note).can_next l.note-iterator;
  finite : (goal.iterator-loop-note).is_finite l.note-iterator;
  added : Added (samples_of l.packet.packet.now l.packet.verdicts.now) l.column l.initial.self l.self l.note-iterator;
}
