-- What the columns of a data island carry, lane by lane: a TERC4 word carries four bits (HDMI 1.4, section 5.4.3).
-- A column is here the list of its three words, lane 0 first. The places of the bits (HDMI 1.4, section 5.2.3) are
-- this project's own profile.
use Rattle.std.specs.Prelude.{ℕ, ◌+◌, ◌%◌, Bool, not, List, [], ◌∷◌, map, count_by, slice_index, unwrap_or}
use Rattle.terc4.specs.Tables.{terc_words, value_in, is_terc}
use Rattle.bch_block.specs.Bits.{bit}

-- the four bits that a word carries; 0 where it is no TERC4 word
unfoldable pub nibble_of : ℕ → ℕ
nibble_of word = unwrap_or (value_in terc_words word) 0

-- the nibbles of a lane, column after column
unfoldable pub nibbles_of : List (List ℕ) → ℕ → List ℕ
nibbles_of columns lane = map (λ words. nibble_of (slice_index words lane)) columns

-- HSYNC plus twice VSYNC in each column: bits 0 and 1 of lane 0
unfoldable pub sync_values : List (List ℕ) → List ℕ
sync_values columns = map (λ n. n % 4) (nibbles_of columns 0)

-- the header's bits: bit 2 of lane 0
unfoldable pub header_bits : List (List ℕ) → List Bool
header_bits columns = map (λ n. bit n 2) (nibbles_of columns 0)

-- bit b of the nibbles of two lanes by turns
unfoldable pub by_turns : ℕ → List ℕ → List ℕ → List Bool
by_turns b [] reds = []
by_turns b (green ∷ greens) [] = []
by_turns b (green ∷ greens) (red ∷ reds) = bit green b ∷ bit red b ∷ by_turns b greens reds

-- body b's bits: bit 2i is bit b of lane 1 in column i, bit 2i + 1 that of lane 2
unfoldable pub body_bits : List (List ℕ) → ℕ → List Bool
body_bits columns b = by_turns b (nibbles_of columns 1) (nibbles_of columns 2)

-- whether a column's word on a lane is no TERC4 word
unfoldable pub is_foreign : ℕ → List ℕ → Bool
is_foreign lane words = not (is_terc (slice_index words lane))

-- how many words of a lane are no TERC4 words
unfoldable pub foreign_on : List (List ℕ) → ℕ → ℕ
foreign_on columns lane = count_by (is_foreign lane) columns

-- how many words of the three lanes are no TERC4 words
unfoldable pub foreign_words : List (List ℕ) → ℕ
foreign_words columns = foreign_on columns 0 + foreign_on columns 1 + foreign_on columns 2
