use Rattle.std.proofs.Common.{Bool, true, false, [], ◌∷◌, ◌++◌, refl, sym}
use Rattle.std.specs.Prelude.{if◌then◌else◌, codes}
use Rattle.hex.specs.Hex.{encode_lower}
use Rattle.listing_writer.specs.Fields.{with_fields}
use Rattle.listing_writer.specs.ContentText.{row_lines}
use Rattle.listing_writer.proofs.ContentAdding.{adds_as, adds_both, adds_none, adds_first}
use Rattle.listing_writer.proofs.content_lines.Lines.add_row.Goals as goal

pub returns-then-note-2 : goal.returns-then-note-2
unfolding row_lines
returns-then-note-2 c =
    let row = codes "row " ++ encode_lower c.args.pixels.now in
    let ragged = with_fields (codes "! ragged") (c.args.note.row ∷ []) ∷ [] in
    adds_as (λ (counts : Bool). if counts then row ∷ (if c.args.note.ragged then ragged else []) else []) _ _ true _ (sym c.if-note.true)
    (adds_both c.args.self.now c.add_pixels.new.self c.add_fault.new.self (row ∷ []) _
    (adds_first c.args.self.now c.add_pixels.new.self row c.requires.empty c.add_pixels.ensures.text c.add_pixels.ensures.faults refl)
    (adds_as (λ (is : Bool). if is then ragged else []) _ _ true _ (sym c.if-note-2.true) (c.add_fault.ensures.added _ c.fields_line.ensures refl)))

pub returns-else-note-2 : goal.returns-else-note-2
unfolding row_lines
returns-else-note-2 c =
    let row = codes "row " ++ encode_lower c.args.pixels.now in
    let ragged = with_fields (codes "! ragged") (c.args.note.row ∷ []) ∷ [] in
    adds_as (λ (counts : Bool). if counts then row ∷ (if c.args.note.ragged then ragged else []) else []) _ _ true _ (sym c.if-note.true)
    (adds_both c.args.self.now c.add_pixels.new.self c.add_pixels.new.self (row ∷ []) _
    (adds_first c.args.self.now c.add_pixels.new.self row c.requires.empty c.add_pixels.ensures.text c.add_pixels.ensures.faults refl)
    (adds_as (λ (is : Bool). if is then ragged else []) _ _ false _ (sym c.if-note-2.false) (adds_none c.add_pixels.new.self)))

pub returns-else-note : goal.returns-else-note
unfolding row_lines
returns-else-note c =
    let row = codes "row " ++ encode_lower c.args.pixels.now in
    let ragged = with_fields (codes "! ragged") (c.args.note.row ∷ []) ∷ [] in
    adds_as (λ (counts : Bool). if counts then row ∷ (if c.args.note.ragged then ragged else []) else []) _ _ false _ (sym c.if-note.false) (adds_none c.args.self.now)
