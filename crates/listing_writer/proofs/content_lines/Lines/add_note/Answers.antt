use Rattle.std.proofs.Common.{refl}
use Rattle.listing_writer.specs.ContentText.{note_lines, sample_words}
use Rattle.listing_writer.proofs.ContentAdding.{adds_both}
use Rattle.listing_writer.proofs.content_lines.Lines.add_note.Goals as goal

pub returns-clause-added : goal.returns-clause-added
unfolding note_lines sample_words
returns-clause-added c =
    adds_both c.args.self.now c.add.new.self c.add_side-2.new.self _ _ (c.add.ensures.added _ c.sample_line.ensures.items refl)
    (adds_both c.add.new.self c.add_side.new.self c.add_side-2.new.self _ _ c.add_side.ensures.added c.add_side-2.ensures.added)
