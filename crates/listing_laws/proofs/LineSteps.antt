-- What the reader does at each line that is written.
use Rattle.std.proofs.Common.{◌≡◌, ℕ, ◌+◌, ◌≤◌, Bool, true, List, [], ◌∷◌, ◌++◌, length, refl, ap, ap₂, ◌∙◌}
use Rattle.std.specs.Prelude.{None}
use Rattle.island_pack.specs.Periods.{Period}
use Rattle.listing_reader.specs.Causes.{line_cause}
use Rattle.listing_reader.specs.Drafts.{Draft}
use Rattle.listing_reader.specs.Forms.{LineForm, end_line, form_of}
use Rattle.listing_reader.specs.Held.{is_feedless}
use Rattle.listing_reader.specs.Lines.{pieces_of}
use Rattle.listing_reader.specs.LineSteps.{accepts, LineStep, tells, closes, within_text, steps_on, read_lines}
use Rattle.listing_reader.specs.Reading.{link_step_by, link_step}
use Rattle.listing_reader.proofs.LineReads.{fits, by_line}
use Rattle.listing_reader.proofs.Pieces.{pieces_line, pieces_some}

-- a line with no cause
step_reported : (draft : Draft) (line : List ℕ) (form : LineForm) → form_of line ≡ form → line_cause draft form ≡ None → link_step draft line ≡ link_step_by None form draft
unfolding link_step
step_reported draft line form seen none = rw (seen, none) refl

-- what a line does to the lines after it, which are some
does_step : (n at : ℕ) (draft : Draft) (line first : List ℕ) (more pieces : List (List ℕ)) (does : LineStep Draft (List Period)) → pieces ≡ first ∷ more → link_step draft line ≡ does → at + length line + 1 ≤ 4294967295
    → read_lines link_step n at draft (line ∷ pieces) ≡ steps_on n pieces (λ reported. read_lines link_step (n + 1) (at + length line + 1) reported pieces) does
does_step n at draft line first more pieces does some is short =
    by_line link_step n at draft line first more pieces some
    ∙ ap₂ (λ (fit : Bool) (d : LineStep Draft (List Period)). steps_on n pieces (λ reported. read_lines link_step (n + 1) (at + length line + 1) reported pieces) (within_text fit d)) (fits (at + length line + 1) short) is

-- a line that goes on
pub read_more : (n at : ℕ) (draft reported : Draft) (line rest : List ℕ) (form : LineForm) → is_feedless line ≡ true → form_of line ≡ form → line_cause draft form ≡ None
    → link_step_by None form draft ≡ tells reported → at + length line + 1 ≤ 4294967295
    → read_lines link_step n at draft (pieces_of (line ++ 10 ∷ rest)) ≡ read_lines link_step (n + 1) (at + length line + 1) reported (pieces_of rest)
read_more n at draft reported line rest form feedless seen none does short =
    let some = pieces_some rest in
    ap (read_lines link_step n at draft) (pieces_line line rest feedless)
    ∙ does_step n at draft line some.0 some.1 (pieces_of rest) (tells reported) some.2 (step_reported draft line form seen none ∙ does) short

end_pieces : pieces_of [] ≡ [] ∷ []
unfolding pieces_of
end_pieces = refl

-- the last line
pub read_end : (n at : ℕ) (draft : Draft) (line : List ℕ) → is_feedless line ≡ true → form_of line ≡ end_line → line_cause draft end_line ≡ None
    → at + length line + 1 ≤ 4294967295 → read_lines link_step n at draft (pieces_of (line ++ 10 ∷ [])) ≡ accepts draft.periods
read_end n at draft line feedless seen none short =
    ap (read_lines link_step n at draft) (pieces_line line [] feedless ∙ ap (λ (more : List (List ℕ)). line ∷ more) end_pieces)
    ∙ does_step n at draft line [] [] ([] ∷ []) (closes draft.periods) refl (step_reported draft line end_line seen none) short
