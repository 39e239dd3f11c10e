-- Characters that are cut from the bits of a lane, ten bits each, and columns of the characters of three lanes.
-- DVI 1.0, sections 3.1 and 3.2.3.
use Rattle.std.specs.Prelude.{ℕ, ◌/◌, Bool, List, [], ◌∷◌, length, take, drop}
use Rattle.std.proofs.Common.{suc, zero}
use Rattle.tmds_word.specs.Bits.{number, bytes_bits}
use Rattle.tmds_word.specs.Column.{Column}

-- characters, one after another, as many as are asked for
unfoldable pub words_of : ℕ → List Bool → List ℕ
words_of zero xs = []
words_of (suc n) xs = number (take 10 xs) ∷ words_of n (drop 10 xs)

-- all whole characters
unfoldable pub all_words : List Bool → List ℕ
all_words xs = words_of (length xs / 10) xs

-- the columns of the characters of three lanes, as many as all three have
unfoldable pub columns_of : List ℕ → List ℕ → List ℕ → List Column
columns_of (b ∷ bs) (g ∷ gs) (r ∷ rs) = record { blue = b; green = g; red = r } ∷ columns_of bs gs rs
columns_of _ _ _ = []

-- the columns of three lanes' bits, which are packed into bytes
abbrev pub packed_columns : List ℕ → List ℕ → List ℕ → List Column
packed_columns blue green red = columns_of (all_words (bytes_bits blue)) (all_words (bytes_bits green)) (all_words (bytes_bits red))
