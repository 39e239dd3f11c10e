-- The pieces of a text whose first bytes are known, and what the reader of lines says of them.
use Rattle.std.proofs.Common.{arith, ◌≡◌, ℕ, Bool, true, false, ◌==◌, List, [], ◌∷◌, ◌++◌, refl, ap, sym, ◌∙◌, append_assoc, append-nil}
use Rattle.std.specs.Prelude.{Some}
use Rattle.listing_reader.specs.Lines.{pieces_of, before_pieces}
use Rattle.listing_reader.specs.Held.{Held, is_feedless, IsEnded, IsRest, IsTooLong}
use Rattle.listing_reader.proofs.Feeds.{and-left, and-right, not-is}

-- bytes with no line feed begin the first piece
pub pieces_before : (line rest first : List ℕ) (more : List (List ℕ)) → is_feedless line ≡ true → pieces_of rest ≡ first ∷ more → pieces_of (line ++ rest) ≡ (line ++ first) ∷ more
unfolding pieces_of
pieces_before [] rest first more feedless pieces = pieces
pieces_before (c ∷ line) rest first more feedless pieces = grind (arith, not-is, and-left, and-right, pieces_before line rest first more)

pieces_none : pieces_of [] ≡ [] ∷ []
unfolding pieces_of
pieces_none = refl

pieces_feed : (rest : List ℕ) → pieces_of (10 ∷ rest) ≡ [] ∷ pieces_of rest
unfolding pieces_of
pieces_feed rest = refl

-- a line, its line feed, and the rest
pub pieces_line : (line rest : List ℕ) → is_feedless line ≡ true → pieces_of (line ++ 10 ∷ rest) ≡ line ∷ pieces_of rest
pieces_line line rest feedless =
    pieces_before line (10 ∷ rest) [] (pieces_of rest) feedless (pieces_feed rest) ∙ ap (λ (l : List ℕ). l ∷ pieces_of rest) (append-nil line)

-- no line feed
pub pieces_last : (line : List ℕ) → is_feedless line ≡ true → pieces_of line ≡ line ∷ []
pieces_last line feedless =
    ap pieces_of (sym (append-nil line)) ∙ pieces_before line [] [] [] feedless pieces_none ∙ ap (λ (l : List ℕ). l ∷ []) (append-nil line)

some_before : (b : Bool) (c : ℕ) (pieces : List (List ℕ)) → (first : List ℕ) × (more : List (List ℕ)) × (before_pieces b c pieces ≡ first ∷ more)
some_before true c pieces = ([], pieces, refl)
some_before false c [] = (c ∷ [], [], refl)
some_before false c (piece ∷ pieces) = (c ∷ piece, pieces, refl)

-- a text has a first piece
pub pieces_some : (text : List ℕ) → (first : List ℕ) × (more : List (List ℕ)) × (pieces_of text ≡ first ∷ more)
unfolding pieces_of
pieces_some [] = ([], [], refl)
pieces_some (c ∷ text) = some_before (c == 10) c (pieces_of text)

-- the reader gave a line: it is the first piece of the bytes ahead
pub pieces_ended : (left rest : List ℕ) (before now : Held) → IsEnded (Some left) (Some rest) before now → pieces_of (before.pending ++ left) ≡ now.line ∷ pieces_of (now.pending ++ rest)
pieces_ended left rest before now is =
    ap pieces_of (is.given ∙ append_assoc now.line (10 ∷ []) (now.pending ++ rest)) ∙ pieces_line now.line (now.pending ++ rest) is.feedless

-- the reader gave what stands after the last line feed: it is the last piece
pub pieces_rest : (left rest : List ℕ) (before now : Held) → IsRest (Some left) (Some rest) before now → pieces_of (before.pending ++ left) ≡ now.line ∷ []
pieces_rest left rest before now is =
    let none : now.pending ++ rest ≡ [] = rw (is.empty, is.ended) refl in
    ap pieces_of (is.given ∙ ap (λ (l : List ℕ). now.line ++ l) none ∙ append-nil now.line) ∙ pieces_last now.line is.feedless

-- the reader gave the beginning of too long a line: it begins the first piece
pub pieces_too_long : (left rest first : List ℕ) (more : List (List ℕ)) (before now : Held) → IsTooLong (Some left) (Some rest) before now → pieces_of (now.pending ++ rest) ≡ first ∷ more
    → pieces_of (before.pending ++ left) ≡ (now.line ++ first) ∷ more
pieces_too_long left rest first more before now is pieces =
    ap pieces_of is.given ∙ pieces_before now.line (now.pending ++ rest) first more is.feedless pieces
