use Rattle.std.proofs.Common.{Bool, true, false, [], ◌∷◌, refl, sym, ◌∙◌}
use Rattle.std.specs.Prelude.{if◌then◌else◌, codes}
use Rattle.listing_writer.specs.Fields.{with_fields}
use Rattle.listing_writer.specs.ContentText.{depth_lines}
use Rattle.listing_writer.proofs.ContentAdding.{adds_as, adds_none}
use Rattle.listing_writer.proofs.content_lines.Lines.add_depth.Goals as goal

pub returns-then-not-is_usual : goal.returns-then-not-is_usual
unfolding depth_lines
returns-then-not-is_usual c =
    adds_as (λ (b : Bool). if b then [] else with_fields (codes "! depth") (c.args.column ∷ c.args.depth ∷ []) ∷ []) _ _ false _
    (sym c.if-not-is_usual.true ∙ c.is_usual.ensures) (c.add_fault.ensures.added _ c.long_line.ensures refl)

pub returns-else-not-is_usual : goal.returns-else-not-is_usual
unfolding depth_lines
returns-else-not-is_usual c =
    adds_as (λ (b : Bool). if b then [] else with_fields (codes "! depth") (c.args.column ∷ c.args.depth ∷ []) ∷ []) _ _ true _
    (sym c.if-not-is_usual.false ∙ c.is_usual.ensures) (adds_none c.args.self.now)
