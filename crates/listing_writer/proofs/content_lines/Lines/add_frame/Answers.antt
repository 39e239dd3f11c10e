use Rattle.std.proofs.Common.{arith, Bool, true, ℕ, [], ◌∷◌, ◌++◌, Option, refl, sym, ap, ◌∙◌}
use Rattle.std.specs.Prelude.{if◌then◌else◌, codes, Some, None}
use Rattle.listing_writer.specs.Fields.{with_fields}
use Rattle.listing_writer.specs.ContentText.{frame_lines, vic_lines}
use Rattle.listing_writer.proofs.ContentAdding.{adds_as, adds_both, adds_none}
use Rattle.listing_writer.proofs.ContentCases.{no_some}
use Rattle.listing_writer.proofs.content_lines.Lines.add_frame.Goals as goal

pub returns-then-has_other_size : goal.returns-then-has_other_size
unfolding frame_lines vic_lines
returns-then-has_other_size c =
    adds_as (λ (vic : Option ℕ). frame_lines vic (Some c.args.frame)) _ _ (Some c.in-Some.code) _ (sym c.in-Some.is)
    (adds_both c.args.self.now c.add.new.self c.add_fault.new.self _ _ (c.add.ensures.added _ c.fields_line.ensures refl)
    (adds_as (λ (other : Bool). if other then with_fields (codes "! vic") (c.in-Some.code ∷ []) ∷ [] else []) _ _ true _
    (sym c.if-has_other_size.true ∙ c.has_other_size.ensures) (c.add_fault.ensures.added _ (c.fields_line-then-has_other_size.ensures ∙ ap (λ (n : ℕ). with_fields (codes "! vic") (n ∷ []) ++ codes "\n") c.from.ensures) refl)))

pub returns-else-has_other_size : goal.returns-else-has_other_size
unfolding frame_lines vic_lines
returns-else-has_other_size c = grind (arith, adds_as, adds_both, adds_none)

pub returns-in_default : goal.returns-in_default
unfolding frame_lines vic_lines
returns-in_default c =
    adds_as (λ (vic : Option ℕ). frame_lines vic (Some c.args.frame)) _ _ None _ (sym (no_some c.args.vic c.in_default.not-Some))
    (c.add.ensures.added _ c.fields_line.ensures refl)
