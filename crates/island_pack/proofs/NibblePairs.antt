-- Nibbles two at a time: the bits of four numbers, and the TERC4 words of a lane.
use Rattle.std.proofs.Common.{arith, ◌≡◌, ℕ, suc, zero, ◌+◌, ◌*◌, ◌/◌, ◌%◌, ◌^◌, ◌<◌, ◌≤◌, Bool, true, List, [], ◌∷◌, ◌++◌, length, take, get_or, refl, ap, ◌∙◌, sym, subst, ◌==◌, eqb-true, ◌&&◌, not, slice_index, length-take-le, All}
use Rattle.std.specs.Prelude.{nat_lt}
use Rattle.std.specs.Int.{bit_at}
use Rattle.std.proofs.lemmas.Bool.{ltb-true}
use Rattle.std.proofs.lemmas.Nat.Bits.{bit_at-lt}
use Rattle.tmds_word.specs.Bits.{bits_of, row_bits, bytes_bits}
use Rattle.tmds_word.specs.Words.{all_words}
use Rattle.tmds_word.proofs.Below.{passes_below, passes_at}
use Rattle.tmds_word.proofs.Characters.{words_of-more}
use Rattle.tmds_word.proofs.Eights.{count_in_bytes}
use Rattle.tmds_word.proofs.Fives.{four_of}
use Rattle.tmds_word.proofs.Lists.{length-bytes_bits}
use Rattle.terc4.specs.Tables.{terc_words}
use Rattle.island_pack.specs.Registers.{blue_of, crossed_of, parted_of, register_words, pairs_words}
use Rattle.island_pack.specs.declared.pairs.TheConstants.{PARTED, PAIRS}
use Rattle.island_pack.proofs.Apart.{bit_of_byte}
use Rattle.island_pack.proofs.Parities.{one_if-lt}

-- The tables.

is_parted : ℕ → Bool
is_parted n = slice_index PARTED n == parted_of n

all_parted : passes_below 256 is_parted ≡ true
unfolding passes_below is_parted parted_of
all_parted = refl

pub parted_at : (n : ℕ) → n < 256 → slice_index PARTED n ≡ parted_of n
unfolding is_parted
parted_at n lt = eqb-true _ _ (passes_at 256 is_parted n all_parted lt)

eight_ones : (x0 x1 x2 x3 x4 x5 x6 x7 : ℕ) → x0 < 2 → x1 < 2 → x2 < 2 → x3 < 2 → x4 < 2 → x5 < 2 → x6 < 2 → x7 < 2
    → x0 + 16 * x2 + 256 * (x1 + 16 * x3) + 65536 * (x4 + 16 * x6) + 16777216 * (x5 + 16 * x7) ≤ 286331153
eight_ones x0 x1 x2 x3 x4 x5 x6 x7 l0 l1 l2 l3 l4 l5 l6 l7 = omega arith

pub parted_below : (n : ℕ) → parted_of n ≤ 286331153
unfolding parted_of
parted_below n =
    eight_ones _ _ _ _ _ _ _ _ (bit_at-lt n 0) (bit_at-lt n 1) (bit_at-lt n 2) (bit_at-lt n 3) (bit_at-lt n 4) (bit_at-lt n 5) (bit_at-lt n 6) (bit_at-lt n 7)

is_pair : ℕ → Bool
is_pair n = slice_index PAIRS n == slice_index terc_words (n % 16) + 1024 * slice_index terc_words (n / 16)

all_pairs : passes_below 256 is_pair ≡ true
unfolding passes_below is_pair terc_words
all_pairs = refl

pub pair_at : (n : ℕ) → n < 256 → slice_index PAIRS n ≡ slice_index terc_words (n % 16) + 1024 * slice_index terc_words (n / 16)
unfolding is_pair
pair_at n lt = eqb-true _ _ (passes_at 256 is_pair n all_pairs lt)

is_word : ℕ → Bool
is_word n = nat_lt (slice_index terc_words n) 1024

all_words_below : passes_below 16 is_word ≡ true
unfolding passes_below is_word terc_words
all_words_below = refl

terc_below : (n : ℕ) → n < 16 → slice_index terc_words n < 1024
unfolding is_word
terc_below n lt = ltb-true _ _ (passes_at 16 is_word n all_words_below lt)

-- The bits of four characters are those of two entries.
pub characters_of : (low high n : ℕ) → low < 256 → high < 256 → n ≡ slice_index PAIRS low + 1048576 * slice_index PAIRS high
    → bits_of 40 n ≡ row_bits (pairs_words low high)
unfolding pairs_words register_words
characters_of low high n ll lh e =
    let a = slice_index terc_words (low % 16) in
    let b = slice_index terc_words (low / 16) in
    let c = slice_index terc_words (high % 16) in
    let d = slice_index terc_words (high / 16) in
    let sum : n ≡ a + 1024 * (b + 1024 * (c + 1024 * d)) = omega (arith, e, pair_at low ll, pair_at high lh) in
    ap (bits_of 40) sum
    ∙ four_of (a ∷ b ∷ c ∷ d ∷ []) 0 a b c d 0 0 0 0 (omega arith) (terc_below (low % 16) (omega arith)) (terc_below (low / 16) (omega arith)) (terc_below (high % 16) (omega arith)) refl refl refl refl

-- Four words more of a lane.

four_at : (words : List ℕ) (a b c d : ℕ) (f : ℕ → ℕ) → ((k : ℕ) → k < length words → get_or words k 0 ≡ f k)
    → a ≡ f (length words) → b ≡ f (suc (length words)) → c ≡ f (suc (suc (length words))) → d ≡ f (suc (suc (suc (length words))))
    → (k : ℕ) → k < suc (suc (suc (suc (length words)))) → get_or (words ++ a ∷ b ∷ c ∷ d ∷ []) k 0 ≡ f k
four_at [] a b c d f was ea eb ec ed zero lt = ea
four_at [] a b c d f was ea eb ec ed (suc zero) lt = eb
four_at [] a b c d f was ea eb ec ed (suc (suc zero)) lt = ec
four_at [] a b c d f was ea eb ec ed (suc (suc (suc zero))) lt = ed
four_at [] a b c d f was ea eb ec ed (suc (suc (suc (suc k)))) lt = absurd (omega arith)
four_at (w ∷ words) a b c d f was ea eb ec ed zero lt = was zero (omega arith)
four_at (w ∷ words) a b c d f was ea eb ec ed (suc k) lt =
    four_at words a b c d (λ i. f (suc i)) (λ i h. was (suc i) (omega arith)) ea eb ec ed k (omega arith)

-- the words of packed bytes, of which the first have their nibbles
abbrev pub HasFirst : ℕ → List ℕ → (ℕ → ℕ) → Type 0
HasFirst n bytes nibble = (k : ℕ) → k < n → slice_index (all_words (bytes_bits bytes)) k ≡ slice_index terc_words (nibble k)

parts : (x y n : ℕ) → n ≡ x + 16 * y → x < 16 → (n % 16 ≡ x) × (n / 16 ≡ y)
parts x y n e lt = (omega arith, omega arith)

pub pairs_more : (into now : List ℕ) (i at low high : ℕ) (f : ℕ → ℕ) → i < 8 → at ≡ 5 * i → length into ≡ 40 → ((k : ℕ) → k < 32 → f k < 16)
    → low ≡ f (4 * i) + 16 * f (4 * i + 1) → high ≡ f (4 * i + 2) + 16 * f (4 * i + 2 + 1)
    → bytes_bits (take (at + 5) now) ≡ bytes_bits (take at into) ++ row_bits (pairs_words low high)
    → HasFirst (4 * i) (take (5 * i) into) f → HasFirst (4 * (i + 1)) (take (5 * (i + 1)) now) f
unfolding pairs_words register_words
pairs_more into now i at low high f few place_is size small el eh bits was k lt =
    let front = take (5 * i) into in
    let before = all_words (bytes_bits front) in
    let n = 4 * i in
    let w : ℕ → ℕ = λ m. slice_index terc_words (f m) in
    let room : length front ≡ 5 * i = length-take-le (5 * i) into (omega arith) in
    let count : length before ≡ n = omega (arith, count_in_bytes front, room) in
    let fn : f n < 16 = small n (omega arith) in
    let gn : f (n + 1) < 16 = small (n + 1) (omega arith) in
    let hn : f (n + 2) < 16 = small (n + 2) (omega arith) in
    let jn : f (n + 2 + 1) < 16 = small (n + 2 + 1) (omega arith) in
    let l = parts (f n) (f (n + 1)) low el fn in
    let h = parts (f (n + 2)) (f (n + 2 + 1)) high eh hn in
    let a = slice_index terc_words (low % 16) in
    let b = slice_index terc_words (low / 16) in
    let c = slice_index terc_words (high % 16) in
    let d = slice_index terc_words (high / 16) in
    let place : (m j : ℕ) → m ≡ j → w m ≡ w j = λ m j e. ap w e in
    let five : 5 * (i + 1) ≡ 5 * i + 5 = omega arith in
    let words : all_words (bytes_bits (take (5 * (i + 1)) now)) ≡ before ++ a ∷ b ∷ c ∷ d ∷ [] =
    ap (λ m. all_words (bytes_bits (take m now))) five ∙ ap all_words (subst (λ m. bytes_bits (take (m + 5) now) ≡ bytes_bits (take m into) ++ row_bits (a ∷ b ∷ c ∷ d ∷ [])) place_is bits)
    ∙ words_of-more (bytes_bits front) (a ∷ b ∷ c ∷ d ∷ []) (omega (arith, length-bytes_bits front, room))
    (four_below a b c d (terc_below _ (omega arith)) (terc_below _ (omega (arith, l.1, gn))) (terc_below _ (omega arith)) (terc_below _ (omega (arith, h.1, jn)))) in
    ap (λ (ws : List ℕ). slice_index ws k) words
    ∙ four_at before a b c d w (λ j less. was j (omega (arith, count, less)))
    (ap (slice_index terc_words) l.0 ∙ place n (length before) (sym count))
    (ap (slice_index terc_words) l.1 ∙ place (n + 1) (suc (length before)) (omega (arith, count)))
    (ap (slice_index terc_words) h.0 ∙ place (n + 2) (suc (suc (length before))) (omega (arith, count)))
    (ap (slice_index terc_words) h.1 ∙ place (n + 2 + 1) (suc (suc (suc (length before)))) (omega (arith, count)))
    k (omega (arith, count, lt))
  where
    four_below : (a b c d : ℕ) → a < 1024 → b < 1024 → c < 1024 → d < 1024 → (i e : ℕ) → i < 4 → get_or (a ∷ b ∷ c ∷ d ∷ []) i e < 1024
    four_below a b c d la lb lc ld i e lt = grind arith

pub none_yet : (bytes : List ℕ) (f : ℕ → ℕ) → HasFirst (4 * 0) (take (5 * 0) bytes) f
none_yet bytes f k lt = absurd (omega arith)

-- all words
pub has_all : (bytes : List ℕ) (i : ℕ) (f : ℕ → ℕ) → i ≡ 8 → take (5 * i) bytes ≡ bytes → HasFirst (4 * i) (take (5 * i) bytes) f → HasFirst 32 bytes f
has_all bytes i f e whole was k lt = ap (λ (bs : List ℕ). slice_index (all_words (bytes_bits bs)) k) (sym whole) ∙ was k (omega (arith, e, lt))

-- a nibble of lane 0
pub blue_below : (header : ℕ) (sync : List ℕ) (first : Bool) → All (λ v. v < 4) sync → (k : ℕ) → k < 32 → blue_of header (slice_index sync k) first k < 16
blue_below header sync first small k lt =
    omega (arith, below sync k small, bit_at-lt header k, one_if-lt (not (first && (k == 0))))
  where
    below : (xs : List ℕ) (k : ℕ) → All (λ v. v < 4) xs → slice_index xs k < 4
    below [] k h = omega arith
    below (x ∷ xs) zero h = h zero 0 (omega arith)
    below (x ∷ xs) (suc k) h = below xs k (λ i d lt. h (suc i) d (omega arith))

-- nibbles at other names of their places
pub pair_places : (blocks : List ℕ) (n x y : ℕ) → n ≡ x → n + 2 ≡ y → crossed_of blocks n + 16 * crossed_of blocks (n + 2) ≡ crossed_of blocks x + 16 * crossed_of blocks y
pair_places blocks n x y e f = λ j. crossed_of blocks (e j) + 16 * crossed_of blocks (f j)

-- The bits of four numbers, two places a byte.

nibble_at : ℕ → ℕ → ℕ → ℕ → ℕ → ℕ
nibble_at a b c d i = bit_at a i + 2 * bit_at b i + 4 * bit_at c i + 8 * bit_at d i

nibble_at-below : (a b c d i : ℕ) → nibble_at a b c d i < 16
unfolding nibble_at
nibble_at-below a b c d i = omega (arith, bit_at-lt a i, bit_at-lt b i, bit_at-lt c i, bit_at-lt d i)

sum_parted : (a b c d : ℕ) → parted_of a + 2 * parted_of b + 4 * parted_of c + 8 * parted_of d
    ≡ (nibble_at a b c d 0 + 16 * nibble_at a b c d 2) + 256 * (nibble_at a b c d 1 + 16 * nibble_at a b c d 3)
    + 65536 * (nibble_at a b c d 4 + 16 * nibble_at a b c d 6) + 16777216 * (nibble_at a b c d 5 + 16 * nibble_at a b c d 7)
unfolding parted_of nibble_at
sum_parted a b c d = omega arith

four_bytes : (p q r s n : ℕ) → p < 256 → q < 256 → r < 256 → s < 256 → n ≡ p + 256 * q + 65536 * r + 16777216 * s
    → (n % 256 ≡ p) × (n / 256 % 256 ≡ q) × (n / 65536 % 256 ≡ r) × (n / 16777216 % 256 ≡ s)
four_bytes p q r s n lp lq lr ls e = (omega arith, omega arith, omega arith, omega arith)

crossed_at : (blocks : List ℕ) (r i a b c d : ℕ) → a ≡ slice_index blocks 0 / 2 ^ (8 * r) % 256 → b ≡ slice_index blocks 1 / 2 ^ (8 * r) % 256
    → c ≡ slice_index blocks 2 / 2 ^ (8 * r) % 256 → d ≡ slice_index blocks 3 / 2 ^ (8 * r) % 256 → i < 8 → nibble_at a b c d i ≡ crossed_of blocks (8 * r + i)
unfolding crossed_of nibble_at
crossed_at blocks r i a b c d ea eb ec ed lt =
    λ j. bit_of_byte _ r i a ea lt j + 2 * bit_of_byte _ r i b eb lt j + 4 * bit_of_byte _ r i c ec lt j + 8 * bit_of_byte _ r i d ed lt j

pub crossed_parts : (blocks : List ℕ) (r a b c d n : ℕ) → a ≡ slice_index blocks 0 / 2 ^ (8 * r) % 256 → b ≡ slice_index blocks 1 / 2 ^ (8 * r) % 256
    → c ≡ slice_index blocks 2 / 2 ^ (8 * r) % 256 → d ≡ slice_index blocks 3 / 2 ^ (8 * r) % 256
    → n ≡ parted_of a + 2 * parted_of b + 4 * parted_of c + 8 * parted_of d
    → (n % 256 ≡ crossed_of blocks (8 * r) + 16 * crossed_of blocks (8 * r + 2))
    × (n / 256 % 256 ≡ crossed_of blocks (8 * r + 1) + 16 * crossed_of blocks (8 * r + 1 + 2))
    × (n / 65536 % 256 ≡ crossed_of blocks (8 * r + 4) + 16 * crossed_of blocks (8 * r + 4 + 2))
    × (n / 16777216 % 256 ≡ crossed_of blocks (8 * r + 5) + 16 * crossed_of blocks (8 * r + 5 + 2))
crossed_parts blocks r a b c d n ea eb ec ed en =
    let m : ℕ → ℕ = nibble_at a b c d in
    let below : (i : ℕ) → m i < 16 = nibble_at-below a b c d in
    let at : (i j : ℕ) → i < 8 → 8 * r + i ≡ j → m i ≡ crossed_of blocks j = λ i j lt e. crossed_at blocks r i a b c d ea eb ec ed lt ∙ ap (crossed_of blocks) e in
    let two : (i j : ℕ) → m i + 16 * m j < 256 = λ i j. omega (arith, below i, below j) in
    let each = four_bytes (m 0 + 16 * m 2) (m 1 + 16 * m 3) (m 4 + 16 * m 6) (m 5 + 16 * m 7) n (two 0 2) (two 1 3) (two 4 6) (two 5 7) (en ∙ sum_parted a b c d) in
    let both : (i j x y : ℕ) → i < 8 → j < 8 → 8 * r + i ≡ x → 8 * r + j ≡ y → m i + 16 * m j ≡ crossed_of blocks x + 16 * crossed_of blocks y =
    λ i j x y li lj ei ej. λ t. at i x li ei t + 16 * at j y lj ej t in (
      each.0 ∙ both 0 2 _ _ (omega arith) (omega arith) (omega arith) (omega arith),
      each.1 ∙ both 1 3 _ _ (omega arith) (omega arith) (omega arith) (omega arith),
      each.2 ∙ both 4 6 _ _ (omega arith) (omega arith) (omega arith) (omega arith),
      each.3 ∙ both 5 7 _ _ (omega arith) (omega arith) (omega arith) (omega arith),
    )
