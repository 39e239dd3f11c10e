-- The lines of a text.
use Rattle.std.specs.Prelude.{ℕ, Bool, true, false, ◌==◌, List, [], ◌∷◌}

-- a byte before pieces: a line feed ends a piece, any other byte begins the first one
abbrev pub before_pieces : Bool → ℕ → List (List ℕ) → List (List ℕ)
before_pieces true c pieces = [] ∷ pieces
before_pieces false c [] = (c ∷ []) ∷ []
before_pieces false c (piece ∷ pieces) = (c ∷ piece) ∷ pieces

-- a text cut at its line feeds: each line without its line feed, and last what stands after the last line feed
unfoldable pub pieces_of : List ℕ → List (List ℕ)
pieces_of [] = [] ∷ []
pieces_of (c ∷ text) = before_pieces (c == 10) c (pieces_of text)
