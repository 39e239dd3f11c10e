use Rattle.std.proofs.Common.{arith, List, refl, sym, ap, subst, ◌∙◌}
use Rattle.std.specs.Prelude.{Err}
use Rattle.audio_packets.specs.Samples.{samples_of}
use Rattle.audio_packets.specs.declared.sample.SampleNote.{SampleNote}
use Rattle.listing_writer.specs.ContentText.{sample_lines}
use Rattle.listing_writer.proofs.ContentAdding.{adds_as, adds_none}
use Rattle.listing_writer.proofs.ContentNotes.{Added, samples_short, added_none, added_more, all_added, room_for_one}
use Rattle.listing_writer.proofs.content_lines.Lines.add_samples.Goals as goal

pub add_note-requires : goal.add_note-requires
add_note-requires c = room_for_one _ c.args.column c.args.self.now c.loop-note.self c.in-Some.note c.next.new.self
    (subst (λ (notes : List SampleNote). Added (samples_of c.args.packet.packet.now c.args.packet.verdicts.now) c.args.column c.args.self.now c.loop-note.self notes)
    c.in-Some.ensures.steps c.loop-note.invariant.added)

pub loop-note-init : goal.loop-note-init
loop-note-init c = grind (arith, Added, added_none, samples_short, adds_none)

pub loop-note-preserved : goal.loop-note-preserved
loop-note-preserved c = grind (arith, added_more, Added)

pub returns-in-None : goal.returns-in-None
unfolding sample_lines
returns-in-None c =
    all_added _ c.args.column c.args.self.now c.loop-note.self
    (subst (λ (notes : List SampleNote). Added (samples_of c.args.packet.packet.now c.args.packet.verdicts.now) c.args.column c.args.self.now c.loop-note.self notes)
    c.in-None.ensures.steps.0 c.loop-note.invariant.added)

pub returns-in-Err-Layout : goal.returns-in-Err-Layout
unfolding sample_lines
returns-in-Err-Layout c =
    adds_as (sample_lines c.args.column) _ _ _ _ (sym (ap Err c.in-Err-Layout.field-0-is) ∙ c.in-Err-Layout.ensures) (c.add_fault.ensures.added _ c.long_line.ensures refl)

pub returns-in-Err-Lost : goal.returns-in-Err-Lost
unfolding sample_lines
returns-in-Err-Lost c =
    adds_as (sample_lines c.args.column) _ _ _ _ (sym (ap Err c.in-Err-Lost.field-0-is) ∙ c.in-Err-Lost.ensures) (adds_none c.args.self.now)
