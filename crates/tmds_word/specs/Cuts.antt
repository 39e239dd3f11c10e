-- Lists of bits that are cut into parts, and how many transitions they have.
use Rattle.std.specs.Prelude.{◌≡◌, ℕ, ◌+◌, ◌-◌, ◌<◌, ◌≤◌, min, Bool, List, [], ◌∷◌, ◌++◌, length, take, drop, slice_index_or}
use Rattle.tmds_word.specs.Bits.{turns, word_bits}

-- parts, one after another
unfoldable pub joined : List (List Bool) → List Bool
joined [] = []
joined (x ∷ xs) = x ++ joined xs

-- the turns within the parts
unfoldable pub inner_turns : List (List Bool) → ℕ
inner_turns [] = 0
inner_turns (x ∷ xs) = turns x + inner_turns xs

-- the lesser of 6 and the length of each part, summed
unfoldable pub part_costs : List (List Bool) → ℕ
part_costs [] = 0
part_costs (x ∷ xs) = min 6 (length x) + part_costs xs

-- what is cut has at least the turns of its parts
abbrev pub PartsBelow : Type 0
PartsBelow = (parts : List (List Bool)) → inner_turns parts ≤ turns (joined parts)

-- and at most one more at each cut
abbrev pub CutAbove : Type 0
CutAbove = (parts : List (List Bool)) → 0 < length parts → turns (joined parts) ≤ inner_turns parts + (length parts - 1)

-- a piece of a list has at most the list's turns
abbrev pub PieceBelow : Type 0
PieceBelow = (xs : List Bool) (i n : ℕ) → turns (take n (drop i xs)) ≤ turns xs

-- a part of n bits in a character of at most five turns
abbrev pub PartOfWord : Type 0
PartOfWord = (w i n : ℕ) → turns (word_bits w) ≤ 5 → 0 < n → i + n ≤ 10 → turns (take n (drop i (word_bits w))) ≤ min 5 (n - 1)

-- a part that is not empty, with at most five turns
pub record IsCalmPart (x : List Bool) : Type 0 where
  pub some : 0 < length x
  pub few : turns x ≤ 5

-- one less than the costs of calm parts
abbrev pub CalmBelow : Type 0
CalmBelow =
    (parts : List (List Bool)) → 0 < length parts → ((k : ℕ) → k < length parts → IsCalmPart (slice_index_or parts k []))
    → turns (joined parts) + 1 ≤ part_costs parts

-- what meets the premises of all of these: calm parts, two at least, and a character of five turns
pub record IsExample (parts : List (List Bool)) (w : ℕ) : Type 0 where
  pub several : 2 ≤ length parts
  pub calm : (k : ℕ) → k < length parts → IsCalmPart (slice_index_or parts k [])
  pub five : turns (word_bits w) ≡ 5

-- there are such parts
abbrev pub HasExample : Type 0
HasExample = (parts : List (List Bool)) × (w : ℕ) × IsExample parts w
