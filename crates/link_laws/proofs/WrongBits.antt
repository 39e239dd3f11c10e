-- How many bits of a packet's blocks are wrong where few of its words were received unlike.
use Rattle.std.proofs.Common.{◌≡◌, ℕ, suc, ◌+◌, ◌<◌, ◌≤◌, Bool, true, false, not, ◌==◌, List, [], ◌∷◌, map, length, refl, ap, arith, inl, inr, ◌⊎◌}
use Rattle.std.proofs.lemmas.Bool.{eqb-true}
use Rattle.tmds_word.specs.Column.{Column, blues, greens, reds}
use Rattle.terc4.specs.Columns.{one_if}
use Rattle.bch_block.specs.Bits.{bit, flipped}
use Rattle.island_pack.specs.Nibbles.{nibble_of, nibbles_of, by_turns, header_bits, body_bits}
use Rattle.island_pack.specs.Spelling.{column_words}
use Rattle.island_pack.specs.Sparse.{unlike_words}
use Rattle.link_laws.specs.Account.{damage}
use Rattle.link_laws.specs.Laws.{wrong_bits, OneWrongBit}
use Rattle.link_laws.specs.Noticed.{FewOnLanes}

like_bit_more : (x : Bool) (xs ys : List Bool) → wrong_bits (x ∷ xs) (x ∷ ys) ≡ wrong_bits xs ys
unfolding wrong_bits one_if
like_bit_more x xs ys = grind arith

none_wrong : (xs : List Bool) → wrong_bits xs [] ≡ 0
unfolding wrong_bits
none_wrong [] = refl
none_wrong (true ∷ xs) = refl
none_wrong (false ∷ xs) = refl

-- a bit of a word is wrong only where the word is unlike
bit_of_word : (f : ℕ → Bool) (s r : ℕ) (xs ys : List Bool) (same : Bool) → (s == r) ≡ same → wrong_bits (f s ∷ xs) (f r ∷ ys) ≤ one_if (not same) + wrong_bits xs ys
unfolding one_if wrong_bits
bit_of_word f s r xs ys same h = grind (arith, eqb-true, like_bit_more)

-- lane by lane
pub header_wrong_on : (ss rs : List Column) → wrong_bits (header_bits (map column_words ss)) (header_bits (map column_words rs)) ≤ unlike_words (blues ss) (blues rs)
unfolding unlike_words header_bits nibbles_of wrong_bits
header_wrong_on [] rs = omega arith
header_wrong_on (s ∷ ss) [] = omega (arith, none_wrong (header_bits (map column_words (s ∷ ss))))
header_wrong_on (s ∷ ss) (r ∷ rs) =
    let rest = header_wrong_on ss rs in
    let first = bit_of_word (λ w. bit (nibble_of w) 2) s.blue r.blue (header_bits (map column_words ss)) (header_bits (map column_words rs)) (s.blue == r.blue) refl in
    omega arith

pub body_wrong_on : (b : ℕ) (ss rs : List Column) → wrong_bits (body_bits (map column_words ss) b) (body_bits (map column_words rs) b) ≤ unlike_words (greens ss) (greens rs) + unlike_words (reds ss) (reds rs)
unfolding unlike_words body_bits nibbles_of by_turns wrong_bits
body_wrong_on b [] rs = omega arith
body_wrong_on b (s ∷ ss) [] = omega (arith, none_wrong (body_bits (map column_words (s ∷ ss)) b))
body_wrong_on b (s ∷ ss) (r ∷ rs) =
    let rest = body_wrong_on b ss rs in
    let xs = body_bits (map column_words ss) b in
    let ys = body_bits (map column_words rs) b in
    let second = bit_of_word (λ w. bit (nibble_of w) b) s.red r.red xs ys (s.red == r.red) refl in
    let first = bit_of_word (λ w. bit (nibble_of w) b) s.green r.green (bit (nibble_of s.red) b ∷ xs) (bit (nibble_of r.red) b ∷ ys) (s.green == r.green) refl in
    omega arith

pub few_on_lanes : FewOnLanes
unfolding damage unlike_words
few_on_lanes [] rs = refl
few_on_lanes (s ∷ ss) [] = refl
few_on_lanes (s ∷ ss) (r ∷ rs) = let ih = few_on_lanes ss rs in omega arith

-- of all words
pub header_wrong : (ss rs : List Column) → wrong_bits (header_bits (map column_words ss)) (header_bits (map column_words rs)) ≤ damage ss rs
header_wrong ss rs = let few = header_wrong_on ss rs in let all = few_on_lanes ss rs in omega arith

pub body_wrong : (b : ℕ) (ss rs : List Column) → wrong_bits (body_bits (map column_words ss) b) (body_bits (map column_words rs) b) ≤ damage ss rs
body_wrong b ss rs = let few = body_wrong_on b ss rs in let all = few_on_lanes ss rs in omega arith

pub one_wrong_bit : OneWrongBit
one_wrong_bit p first ss rs carries long few = grind (arith, header_wrong, body_wrong)

-- Bits of which none is wrong, or one.
same_bits : (s x : List Bool) → length x ≡ length s → wrong_bits s x ≡ 0 → x ≡ s
unfolding wrong_bits one_if
same_bits [] [] l w = refl
same_bits [] (x ∷ xs) l w = absurd (omega arith)
same_bits (s ∷ ss) [] l w = absurd (omega arith)
same_bits (true ∷ ss) (true ∷ xs) l w = ap (λ ys. true ∷ ys) (same_bits ss xs (omega arith) (omega arith))
same_bits (true ∷ ss) (false ∷ xs) l w = absurd (omega arith)
same_bits (false ∷ ss) (true ∷ xs) l w = absurd (omega arith)
same_bits (false ∷ ss) (false ∷ xs) l w = ap (λ ys. false ∷ ys) (same_bits ss xs (omega arith) (omega arith))

-- bits in which one is turned over
pub record IsFlipped (s x : List Bool) : Type 0 where
  pub place : ℕ
  pub within : place < length s
  pub is : x ≡ flipped s place

later : (b : Bool) (s x : List Bool) → (x ≡ s) ⊎ IsFlipped s x → ((b ∷ x) ≡ (b ∷ s)) ⊎ IsFlipped (b ∷ s) (b ∷ x)
later b s x (inl e) = inl (ap (λ ys. b ∷ ys) e)
later b s x (inr f) = inr (record { place = suc f.place; within = omega (arith, f.within); is = ap (λ ys. b ∷ ys) f.is })

pub same_or_flipped : (s x : List Bool) → length x ≡ length s → wrong_bits s x ≤ 1 → (x ≡ s) ⊎ IsFlipped s x
unfolding wrong_bits one_if
same_or_flipped [] [] l w = inl refl
same_or_flipped [] (x ∷ xs) l w = absurd (omega arith)
same_or_flipped (s ∷ ss) [] l w = absurd (omega arith)
same_or_flipped (true ∷ ss) (true ∷ xs) l w = later true ss xs (same_or_flipped ss xs (omega arith) (omega arith))
same_or_flipped (false ∷ ss) (false ∷ xs) l w = later false ss xs (same_or_flipped ss xs (omega arith) (omega arith))
same_or_flipped (true ∷ ss) (false ∷ xs) l w =
    inr (record { place = 0; within = omega arith; is = ap (λ ys. false ∷ ys) (same_bits ss xs (omega arith) (omega arith)) })
same_or_flipped (false ∷ ss) (true ∷ xs) l w =
    inr (record { place = 0; within = omega arith; is = ap (λ ys. true ∷ ys) (same_bits ss xs (omega arith) (omega arith)) })
