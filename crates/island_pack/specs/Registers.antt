-- Numbers in which the code moves the bits of several nibbles at once. Only the contracts of private functions cite them.
use Rattle.std.specs.Prelude.{◌≡◌, ℕ, ◌+◌, ◌*◌, ◌/◌, ◌%◌, ◌<◌, Bool, not, ◌&&◌, ◌==◌, List, [], ◌∷◌, map, slice_index, slice_index_or, unwrap_or}
use Rattle.std.specs.Int.{bit_at}
use Rattle.tmds_word.specs.Bits.{bytes_bits}
use Rattle.tmds_word.specs.Words.{all_words}
use Rattle.terc4.specs.Tables.{terc_words, value_in}
use Rattle.terc4.specs.Columns.{one_if}

-- the four bits that a word carries; 16 where it is no TERC4 word
unfoldable pub code_of : ℕ → ℕ
code_of word = unwrap_or (value_in terc_words word) 16

-- bit b of a code in byte b
unfoldable pub spread_of : ℕ → ℕ
spread_of n = bit_at n 0 + 256 * bit_at n 1 + 65536 * bit_at n 2 + 16777216 * bit_at n 3 + 4294967296 * bit_at n 4

-- a row of eight codes, bit by bit: byte b of it has bit b of each
abbrev pub HasCodes : List ℕ → (ℕ → ℕ) → Type 0
HasCodes row code = (b k : ℕ) → b < 5 → k < 8 → bit_at (slice_index row b) k ≡ bit_at (code k) b

-- the code of column k's word on lane 0
abbrev pub blue_code : List (List ℕ) → ℕ → ℕ
blue_code columns k = code_of (slice_index (slice_index_or columns k []) 0)

-- the codes on lanes 1 and 2 by turns, from column n on
abbrev pub other_code : List (List ℕ) → ℕ → ℕ → ℕ
other_code columns n k = code_of (slice_index (slice_index_or columns (n + k / 2) []) (1 + k % 2))

-- each eight columns' codes of lane 0
abbrev pub AreBlueRows : List (List ℕ) → List (List ℕ) → Type 0
AreBlueRows columns rows = (r : ℕ) → r < 4 → HasCodes (slice_index_or rows r []) (λ k. blue_code columns (8 * r + k))

-- each four columns' codes of lanes 1 and 2
abbrev pub AreOtherRows : List (List ℕ) → List (List ℕ) → Type 0
AreOtherRows columns rows = (r : ℕ) → r < 8 → HasCodes (slice_index_or rows r []) (other_code columns (4 * r))

-- how many of a byte's bits are 1
unfoldable pub bits_set : ℕ → ℕ
bits_set n = bit_at n 0 + bit_at n 1 + bit_at n 2 + bit_at n 3 + bit_at n 4 + bit_at n 5 + bit_at n 6 + bit_at n 7

-- the byte of a row that says which of its words are no TERC4 words
abbrev pub mark_of : List ℕ → ℕ
mark_of row = slice_index row 4

-- how many words of a row are no TERC4 words
abbrev pub foreign_of : List ℕ → ℕ
foreign_of row = bits_set (slice_index row 4)

-- the sync value of a row's word
abbrev pub sync_in : List ℕ → ℕ → ℕ
sync_in row k = bit_at (slice_index row 0) k + 2 * bit_at (slice_index row 1) k

-- the bits of four numbers at one place, the first number's lowest
unfoldable pub crossed_of : List ℕ → ℕ → ℕ
crossed_of blocks place =
    bit_at (slice_index blocks 0) place + 2 * bit_at (slice_index blocks 1) place
    + 4 * bit_at (slice_index blocks 2) place + 8 * bit_at (slice_index blocks 3) place

-- bit i of a byte in byte i
unfoldable pub apart_of : ℕ → ℕ
apart_of n =
    bit_at n 0 + 256 * bit_at n 1 + 65536 * bit_at n 2 + 16777216 * bit_at n 3
    + 4294967296 * bit_at n 4 + 1099511627776 * bit_at n 5 + 281474976710656 * bit_at n 6 + 72057594037927936 * bit_at n 7

-- the nibble of lane 0 in column i
abbrev pub blue_of : ℕ → ℕ → Bool → ℕ → ℕ
blue_of header sync first i = sync + 4 * bit_at header i + 8 * one_if (not (first && (i == 0)))

-- the nibbles of column i, from the blocks of the header and of the four bodies
unfoldable pub laid_nibbles : ℕ → List ℕ → ℕ → Bool → ℕ → List ℕ
laid_nibbles header bodies sync first i =
    blue_of header sync first i ∷ crossed_of bodies (2 * i) ∷ crossed_of bodies (2 * i + 1) ∷ []

-- the TERC4 words of nibbles
unfoldable pub register_words : List ℕ → List ℕ
register_words ns = map (λ n. slice_index terc_words n) ns

-- Nibbles of a lane two at a time, in a byte: the first one lowest.

-- the bits of four numbers at a place and two after it
abbrev pub crossed_pair : List ℕ → ℕ → ℕ
crossed_pair blocks place = crossed_of blocks place + 16 * crossed_of blocks (place + 2)

-- the nibbles of lane 0 in two columns
abbrev pub blue_pair : ℕ → List ℕ → Bool → ℕ → ℕ
blue_pair header sync first i = blue_of header (slice_index sync i) first i + 16 * blue_of header (slice_index sync (i + 1)) first (i + 1)

-- the bits of a byte: in byte 0 bits 0 and 2, in byte 1 bits 1 and 3, in byte 2 bits 4 and 6, in byte 3 bits 5 and 7
unfoldable pub parted_of : ℕ → ℕ
parted_of n =
    bit_at n 0 + 16 * bit_at n 2 + 256 * (bit_at n 1 + 16 * bit_at n 3)
    + 65536 * (bit_at n 4 + 16 * bit_at n 6) + 16777216 * (bit_at n 5 + 16 * bit_at n 7)

-- the TERC4 words of four nibbles
unfoldable pub pairs_words : ℕ → ℕ → List ℕ
pairs_words low high = register_words (low % 16 ∷ low / 16 ∷ high % 16 ∷ high / 16 ∷ [])

-- the bits of 32 words on a lane, of which each has its nibble
abbrev pub HasNibbles : List ℕ → (ℕ → ℕ) → Type 0
HasNibbles bytes nibble = (k : ℕ) → k < 32 → slice_index (all_words (bytes_bits bytes)) k ≡ slice_index terc_words (nibble k)
