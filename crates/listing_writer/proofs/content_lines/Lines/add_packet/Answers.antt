use Rattle.std.proofs.Common.{ℕ, List, refl, sym, ap, ◌∙◌, arith}
use Rattle.std.specs.Prelude.{slice_index}
use Rattle.listing_writer.proofs.ContentAdding.{adds_as}
use Rattle.listing_writer.proofs.ContentCases.{avi_low}
use Rattle.listing_writer.proofs.ContentKinds.{clock_packet, samples_packet, info_packet}
use Rattle.listing_writer.proofs.content_lines.Lines.add_packet.Goals as goal

pub returns-in-1-clause-added : goal.returns-in-1-clause-added
returns-in-1-clause-added c =
    adds_as (λ (lines : List (List ℕ)). lines) _ _ _ _ (clock_packet 1 c.args.packet.packet.now c.args.packet.verdicts.now c.args.column refl (sym c.in-1.is ∙ ap (λ (h : List ℕ). slice_index h 0) c.header.ensures)) c.add_clock.ensures

pub returns-in-2-clause-added : goal.returns-in-2-clause-added
returns-in-2-clause-added c =
    adds_as (λ (lines : List (List ℕ)). lines) _ _ _ _ (samples_packet 2 c.args.packet.packet.now c.args.packet.verdicts.now c.args.column refl (sym c.in-2.is ∙ ap (λ (h : List ℕ). slice_index h 0) c.header.ensures)) c.add_samples.ensures

pub returns-in-128-to-255-clause-added : goal.returns-in-128-to-255-clause-added
returns-in-128-to-255-clause-added c =
    adds_as (λ (lines : List (List ℕ)). lines) _ _ _ _ (info_packet _ c.args.packet.packet.now c.args.packet.verdicts.now c.args.column (omega (arith, ap (λ (h : List ℕ). slice_index h 0) c.header.ensures)) refl) c.add_info.ensures.added

pub returns-in-1-clause-avi : goal.returns-in-1-clause-avi
returns-in-1-clause-avi c = sym (avi_low c.args.packet.packet.now c.args.packet.verdicts.now (omega (arith, c.in-1.is, ap (λ (h : List ℕ). slice_index h 0) c.header.ensures)))

pub returns-in-2-clause-avi : goal.returns-in-2-clause-avi
returns-in-2-clause-avi c = sym (avi_low c.args.packet.packet.now c.args.packet.verdicts.now (omega (arith, c.in-2.is, ap (λ (h : List ℕ). slice_index h 0) c.header.ensures)))

pub returns-in_default-clause-avi : goal.returns-in_default-clause-avi
returns-in_default-clause-avi c = sym (avi_low c.args.packet.packet.now c.args.packet.verdicts.now (omega (arith, ap (λ (h : List ℕ). slice_index h 0) c.header.ensures)))

pub returns-in-128-to-255-clause-avi : goal.returns-in-128-to-255-clause-avi
returns-in-128-to-255-clause-avi c = c.add_info.ensures.avi
