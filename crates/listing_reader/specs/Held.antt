-- What is seen of a reader of lines, and what it gives of its source's bytes.
use Rattle.std.specs.Prelude.{◌≡◌, ℕ, ◌+◌, ◌<◌, ◌≤◌, Bool, not, ◌==◌, IsTrue, List, [], ◌∷◌, ◌++◌, length, take, slice_index, Option}
use Rattle.std.specs.List.{list_all}
use Rattle.std.specs.Io.KnownBytes.{Consumes, IsAtEnd, Keeps, prepend_known}
use Rattle.listing_reader.specs.declared.lines.Piece.{Piece}
use Rattle.listing_reader.specs.declared.lines.Piece.TheVariants.{Line, Last, Long}
use Rattle.listing_reader.specs.declared.lines.TheConstants.{LINE_LIMIT}

-- the last line, without its line feed, and the bytes that were read and not yet given
pub record Held : Type 0 where
  pub line : List ℕ
  pub pending : List ℕ

-- all bytes that are not yet given: the pending ones, and then those that the source has left
abbrev pub ahead : Held → Option (List ℕ) → Option (List ℕ)
ahead held left = prepend_known held.pending left

-- no byte is a line feed
abbrev pub is_feedless : List ℕ → Bool
is_feedless bytes = list_all (λ b. not (b == 10)) bytes

-- the first line feed is at place k
pub record IsFeedAt (bytes : List ℕ) (k : ℕ) : Type 0 where
  pub within : k < length bytes
  pub here : slice_index bytes k ≡ 10
  pub before : IsTrue (is_feedless (take k bytes))

-- a line of at most 32,768 bytes, which its line feed ends
pub record IsEnded (left rest : Option (List ℕ)) (before now : Held) : Type 0 where
  pub given : Consumes (ahead before left) (ahead now rest) (now.line ++ 10 ∷ [])
  pub feedless : IsTrue (is_feedless now.line)
  pub short : length now.line ≤ LINE_LIMIT

-- the at most 32,768 bytes after the last line feed, perhaps none
pub record IsRest (left rest : Option (List ℕ)) (before now : Held) : Type 0 where
  pub given : Consumes (ahead before left) (ahead now rest) now.line
  pub feedless : IsTrue (is_feedless now.line)
  pub short : length now.line ≤ LINE_LIMIT
  pub ended : IsAtEnd rest
  pub empty : now.pending ≡ []

-- the first 32,769 bytes of a longer line
pub record IsTooLong (left rest : Option (List ℕ)) (before now : Held) : Type 0 where
  pub given : Consumes (ahead before left) (ahead now rest) now.line
  pub feedless : IsTrue (is_feedless now.line)
  pub long : length now.line ≡ LINE_LIMIT + 1

-- what is given of the bytes ahead; `left` and `rest` are the bytes of the source, as far as they are known,
-- before and after
abbrev pub IsNext : Option (List ℕ) → Option (List ℕ) → Held → Held → Piece → Type 0
IsNext left rest before now Line = IsEnded left rest before now
IsNext left rest before now Last = IsRest left rest before now
IsNext left rest before now Long = IsTooLong left rest before now

-- nothing is given
pub record IsUngiven (left rest : Option (List ℕ)) (before now : Held) : Type 0 where
  pub kept : Keeps (ahead before left) (ahead now rest)
  pub line : now.line ≡ []
