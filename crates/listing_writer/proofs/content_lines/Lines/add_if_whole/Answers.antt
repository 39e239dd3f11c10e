use Rattle.std.proofs.Common.{ℕ, List, refl, sym, ap, ◌∙◌, arith}
use Rattle.std.specs.Prelude.{is_some, slice_index}
use Rattle.listing_writer.specs.ContentText.{carried_lines, control_lines, other_words}
use Rattle.listing_writer.proofs.ContentAdding.{adds_as, adds_none}
use Rattle.listing_writer.proofs.ContentKinds.{adds_carried, adds_lost, carried_other}
use Rattle.listing_writer.proofs.content_lines.Lines.add_if_whole.Goals as goal

pub returns-then-is_some : goal.returns-then-is_some
returns-then-is_some c = adds_lost c.args.self.now c.args.packet.packet.now c.args.packet.verdicts.now c.args.column (sym (c.is_some.ensures ∙ ap is_some c.first_lost.ensures) ∙ c.if-is_some.true)

pub returns-in-0 : goal.returns-in-0
unfolding carried_lines
returns-in-0 c =
    adds_carried _ _ c.args.packet.packet.now c.args.packet.verdicts.now c.args.column (sym (c.is_some.ensures ∙ ap is_some c.first_lost.ensures) ∙ c.if-is_some.false)
    (adds_as (λ (t : ℕ). carried_lines t c.args.packet.packet.now c.args.packet.verdicts.now c.args.column) _ _ 0 _
    (sym c.in-0.is ∙ ap (λ (h : List ℕ). slice_index h 0) c.header.ensures) (adds_none c.args.self.now))

pub returns-in-3 : goal.returns-in-3
unfolding carried_lines
returns-in-3 c =
    adds_carried _ _ c.args.packet.packet.now c.args.packet.verdicts.now c.args.column (sym (c.is_some.ensures ∙ ap is_some c.first_lost.ensures) ∙ c.if-is_some.false)
    (adds_as (λ (t : ℕ). carried_lines t c.args.packet.packet.now c.args.packet.verdicts.now c.args.column) _ _ 3 _
    (sym c.in-3.is ∙ ap (λ (h : List ℕ). slice_index h 0) c.header.ensures)
    (adds_as (control_lines c.args.column) _ _ _ _ c.bodies.ensures c.add_control.ensures))

pub returns-in_default : goal.returns-in_default
unfolding other_words
returns-in_default c =
    adds_carried _ _ c.args.packet.packet.now c.args.packet.verdicts.now c.args.column (sym (c.is_some.ensures ∙ ap is_some c.first_lost.ensures) ∙ c.if-is_some.false)
    (adds_as (λ (lines : List (List ℕ)). lines) _ _ _ _ (carried_other _ c.args.packet.packet.now c.args.packet.verdicts.now c.args.column
    (omega (arith, ap (λ (h : List ℕ). slice_index h 0) c.header.ensures)) (omega (arith, ap (λ (h : List ℕ). slice_index h 0) c.header.ensures))) (c.add.ensures.added _ c.other_line.ensures refl))
