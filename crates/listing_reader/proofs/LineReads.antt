-- What a line does to what the bytes ahead read as, whatever a line does.
use Rattle.std.proofs.Common.{◌≡◌, ℕ, ◌+◌, ◌≤◌, Bool, true, false, ◌==◌, List, [], ◌∷◌, ◌++◌, length, refl, ap, sym, subst, ◌∙◌, arith, length-append}
use Rattle.std.specs.Prelude.{Some, nat_le}
use Rattle.std.proofs.lemmas.Bool.{le-leb}
use Rattle.listing_reader.specs.declared.fault.ListCause.{ListCause}
use Rattle.listing_reader.specs.declared.fault.ListCause.TheVariants.{After}
use Rattle.listing_reader.specs.declared.lines.Piece.{Piece}
use Rattle.listing_reader.specs.declared.lines.Piece.TheVariants.{Line, Last, Long as Long_piece}
use Rattle.listing_reader.specs.Lines.{before_pieces, pieces_of}
use Rattle.listing_reader.specs.LineSteps.{Read, accepts, refuses, LineStep, wrong, within_text, cut_short, ended_by, steps_on, read_lines}
use Rattle.listing_reader.specs.Held.{Held, IsEnded, IsRest, IsTooLong, IsNext}
use Rattle.listing_reader.proofs.Pieces.{pieces_some, pieces_ended, pieces_rest, pieces_too_long}

-- ---- the end of a text

pub fits : (upto : ℕ) → upto ≤ 4294967295 → nat_le upto 4294967295 ≡ true
fits upto h = le-leb upto 4294967295 h

within_wrong : {D T : Type 0} (fit : Bool) (cause : ListCause) → within_text {D = D} {T = T} fit (wrong cause) ≡ wrong cause
within_wrong true cause = refl
within_wrong false cause = refl

cut_wrong : (D : Type 0) {T : Type 0} (n : ℕ) (line : List ℕ) (cause : ListCause) → 1 ≤ length line → cut_short {D = D} {T = T} n line (wrong cause) ≡ refuses n cause
cut_wrong D n [] cause some = absurd (omega arith)
cut_wrong D n (c ∷ line) cause some = refl

module _ {D T : Type 0} (step : D → List ℕ → LineStep D T) where
  -- what the bytes ahead read as, from line n on
  abbrev pub reads : ℕ → ℕ → D → Held → List ℕ → Read T
  reads n at reported held left = read_lines step n at reported (pieces_of (held.pending ++ left))

  pub by_line : (n at : ℕ) (reported : D) (line first : List ℕ) (more pieces : List (List ℕ)) → pieces ≡ first ∷ more
      → read_lines step n at reported (line ∷ pieces) ≡ steps_on n pieces (λ now. read_lines step (n + 1) (at + length line + 1) now pieces) (within_text (nat_le (at + length line + 1) 4294967295) (step reported line))
  unfolding read_lines
  by_line n at reported line first more pieces e =
      subst (λ (p : List (List ℕ)). read_lines step n at reported (line ∷ p) ≡ steps_on n p (λ now. read_lines step (n + 1) (at + length line + 1) now p) (within_text (nat_le (at + length line + 1) 4294967295) (step reported line)))
      (sym e) refl

  by_last : (n at : ℕ) (reported : D) (line : List ℕ) → read_lines step n at reported (line ∷ []) ≡ cut_short n line (within_text (nat_le (at + length line) 4294967295) (step reported line))
  unfolding read_lines
  by_last n at reported line = refl

  -- a line that its line feed ends
  pub line_does : (n at : ℕ) (reported : D) (left rest : List ℕ) (before now : Held) → IsEnded (Some left) (Some rest) before now
      → reads n at reported before left
      ≡ steps_on n (pieces_of (now.pending ++ rest)) (λ more. read_lines step (n + 1) (at + length now.line + 1) more (pieces_of (now.pending ++ rest))) (within_text (nat_le (at + length now.line + 1) 4294967295) (step reported now.line))
  line_does n at reported left rest before now is =
      let some = pieces_some (now.pending ++ rest) in
      ap (read_lines step n at reported) (pieces_ended left rest before now is) ∙ by_line n at reported now.line some.0 some.1 (pieces_of (now.pending ++ rest)) some.2

  -- the line that the input ends in
  pub last_does : (n at : ℕ) (reported : D) (left rest : List ℕ) (before now : Held) → IsRest (Some left) (Some rest) before now
      → reads n at reported before left ≡ cut_short n now.line (within_text (nat_le (at + length now.line) 4294967295) (step reported now.line))
  last_does n at reported left rest before now is = ap (read_lines step n at reported) (pieces_rest left rest before now is) ∙ by_last n at reported now.line

  -- a line that is wrong whether a line feed ends it or not
  wrong_line : (n at : ℕ) (reported : D) (line : List ℕ) (pieces : List (List ℕ)) (cause : ListCause) → 1 ≤ length line → step reported line ≡ wrong cause
      → read_lines step n at reported (line ∷ pieces) ≡ refuses n cause
  wrong_line n at reported line [] cause some is =
      by_last n at reported line ∙ ap (λ (d : LineStep D T). cut_short n line (within_text (nat_le (at + length line) 4294967295) d)) is
      ∙ ap (cut_short n line) (within_wrong _ cause) ∙ cut_wrong D n line cause some
  wrong_line n at reported line (first ∷ more) cause some is =
      by_line n at reported line first more (first ∷ more) refl
      ∙ ap (λ (d : LineStep D T). steps_on n (first ∷ more) (λ now. read_lines step (n + 1) (at + length line + 1) now (first ∷ more)) (within_text (nat_le (at + length line + 1) 4294967295) d)) is
      ∙ ap (steps_on n (first ∷ more) (λ now. read_lines step (n + 1) (at + length line + 1) now (first ∷ more))) (within_wrong _ cause)

  -- too long a line that is wrong
  pub long_does : (n at : ℕ) (reported : D) (left rest : List ℕ) (before now : Held) (cause : ListCause) → IsTooLong (Some left) (Some rest) before now
      → ((more : List ℕ) → step reported (now.line ++ more) ≡ wrong cause) → reads n at reported before left ≡ refuses n cause
  long_does n at reported left rest before now cause is found =
      let some = pieces_some (now.pending ++ rest) in
      let within : 1 ≤ length (now.line ++ some.0) = omega (arith, is.long, length-append now.line some.0) in
      ap (read_lines step n at reported) (pieces_too_long left rest some.0 some.1 before now is some.2) ∙ wrong_line n at reported (now.line ++ some.0) some.1 cause within (found some.0)

-- ---- what follows the line `end`

module _ {T : Type 0} (n : ℕ) (reported : T) where
  after_some : (line : List ℕ) (more : List (List ℕ)) → 1 ≤ length line → ended_by n reported (line ∷ more) ≡ refuses n After
  after_some [] more some = absurd (omega arith)
  after_some (c ∷ line) [] some = refl
  after_some (c ∷ line) (next ∷ more) some = refl

  after_more : (line next : List ℕ) (more : List (List ℕ)) → ended_by n reported (line ∷ (next ∷ more)) ≡ refuses n After
  after_more [] next more = refl
  after_more (c ∷ line) next more = refl

  -- nothing follows
  pub nothing_after : (left rest : List ℕ) (before now : Held) → IsRest (Some left) (Some rest) before now → now.line ≡ [] → ended_by n reported (pieces_of (before.pending ++ left)) ≡ accepts reported
  nothing_after left rest before now is empty = ap (ended_by n reported) (pieces_rest left rest before now is ∙ ap (λ (l : List ℕ). l ∷ []) empty)

  -- something follows
  pub something_after : (left rest : List ℕ) (before now : Held) (piece : Piece) → IsNext (Some left) (Some rest) before now piece → (piece ≡ Last → 1 ≤ length now.line)
      → ended_by n reported (pieces_of (before.pending ++ left)) ≡ refuses n After
  something_after left rest before now Line is some =
      let ahead = pieces_some (now.pending ++ rest) in
      ap (ended_by n reported) (pieces_ended left rest before now is ∙ ap (λ (p : List (List ℕ)). now.line ∷ p) ahead.2) ∙ after_more now.line ahead.0 ahead.1
  something_after left rest before now Last is some = ap (ended_by n reported) (pieces_rest left rest before now is) ∙ after_some now.line [] (some refl)
  something_after left rest before now Long_piece is some =
      let ahead = pieces_some (now.pending ++ rest) in
      let within : 1 ≤ length (now.line ++ ahead.0) = omega (arith, length-append now.line ahead.0, is.long) in
      ap (ended_by n reported) (pieces_too_long left rest ahead.0 ahead.1 before now is ahead.2) ∙ after_some (now.line ++ ahead.0) ahead.1 within

  by_mark : (mark : Bool) (c : ℕ) (piece : List ℕ) (pieces : List (List ℕ)) → ended_by n reported (before_pieces mark c (piece ∷ pieces)) ≡ refuses n After
  by_mark true c piece pieces = refl
  by_mark false c piece pieces = refl

  -- a byte that was read and not yet given follows
  pub pending_after : (pending left : List ℕ) → 1 ≤ length pending → ended_by n reported (pieces_of (pending ++ left)) ≡ refuses n After
  unfolding pieces_of
  pending_after [] left some = absurd (omega arith)
  pending_after (c ∷ cs) left some =
      let ahead = pieces_some (cs ++ left) in
      ap (λ (p : List (List ℕ)). ended_by n reported (before_pieces (c == 10) c p)) ahead.2 ∙ by_mark (c == 10) c ahead.0 ahead.1
