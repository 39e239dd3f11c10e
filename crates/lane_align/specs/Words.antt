-- The characters that are cut from the bits of a lane from a place on, and its edges among them: where a receiver
-- keeps the characters from the lock on, it needs only the bits past the last whole one.
use Rattle.std.specs.Prelude.{◌≡◌, ◌↔◌, ℕ, ◌+◌, ◌-◌, ◌*◌, ◌/◌, ◌%◌, ◌<◌, ◌≤◌, Bool, true, false, List, [], ◌∷◌, length, drop, slice_index, slice_get, Option, Some, None, All}
use Rattle.std.proofs.Common.{suc, zero}
use Rattle.tmds_word.specs.Bits.{window}
use Rattle.tmds_word.specs.Words.{words_of}
use Rattle.terc4.specs.Tables.{is_control}
use Rattle.lane_align.specs.Lanes.{IsLock, IsEdge}

-- all whole characters of a lane from a place on
unfoldable pub words_from : List Bool → ℕ → List ℕ
words_from xs p = words_of ((length xs - p) / 10) (drop p xs)

-- character j of them is the window at p + 10 * j, and there are no others
abbrev pub WordsAreWindows : Type 0
WordsAreWindows = (xs : List Bool) (p j : ℕ) → slice_get (words_from xs p) j ≡ window xs (p + 10 * j)

-- the characters that a number's bits say, the lowest first, as many as are asked for
unfoldable pub words_in : ℕ → ℕ → List ℕ
words_in zero v = []
words_in (suc n) v = v % 1024 ∷ words_in n (v / 1024)

-- the characters of a lane with this lock: none where it has no lock
unfoldable pub lane_words : Option ℕ → List Bool → List ℕ
lane_words None xs = []
lane_words (Some p) xs = words_from xs p

-- characters are numbers of ten bits
abbrev pub AreWords : List ℕ → Type 0
AreWords = All (λ w. w < 1024)

-- a character that is no control word, after twelve that are
pub record EndsRun (words : List ℕ) (i : ℕ) : Type 0 where
  pub within : i < length words
  pub past : 12 ≤ i
  pub run : (k : ℕ) → k < 12 → is_control (slice_index words (i - 12 + k)) ≡ true
  pub no_control : is_control (slice_index words i) ≡ false

-- such a character as a place of the lane, where the first character begins at a place
pub record IsWordEdge (lock : ℕ) (words : List ℕ) (e : ℕ) : Type 0 where
  pub index : ℕ
  pub at : e ≡ lock + 10 * index
  pub ends : EndsRun words index

-- the least such character from one on
pub record IsNextEnd (words : List ℕ) (from : ℕ) (i : ℕ) : Type 0 where
  pub ends : EndsRun words i
  pub after : from ≤ i
  pub least : (j : ℕ) → from ≤ j → j < i → EndsRun words j → ⊥

-- the edges of a lane are those of its characters from the lock on
abbrev pub WordEdges : Type 0
WordEdges = (xs : List Bool) (p e : ℕ) → IsLock xs p → IsEdge xs e ↔ IsWordEdge p (words_from xs p) e

-- the characters from an edge's run on are the last of those from the lock on
abbrev pub EdgeWords : Type 0
EdgeWords = (xs : List Bool) (p e : ℕ) → IsLock xs p → IsEdge xs e → drop ((e - 120 - p) / 10) (words_from xs p) ≡ words_from xs (e - 120)
