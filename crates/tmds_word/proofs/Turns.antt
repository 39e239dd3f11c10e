-- How many turns a list of bits has, and the lists it is made of.
use Rattle.std.proofs.Common.{◌≡◌, ℕ, suc, zero, ◌+◌, ◌-◌, ◌<◌, ◌≤◌, min, Bool, List, [], ◌∷◌, ◌++◌, length, take, drop, ap, arith, length-take, get_or}
use Rattle.std.proofs.lemmas.List.{take-append-drop, append-nil}
use Rattle.tmds_word.specs.Bits.{turns, unlike, word_bits}
use Rattle.tmds_word.specs.Cuts.{joined, inner_turns, part_costs, IsCalmPart}

one_at_most : (x y : Bool) → unlike x y ≤ 1
unfolding unlike
one_at_most x y = grind arith

-- a border between two lists adds one turn or none
pub turns_both : (xs ys : List Bool) → turns xs + turns ys ≤ turns (xs ++ ys)
unfolding turns
turns_both [] ys = omega arith
turns_both (x ∷ []) [] = omega arith
turns_both (x ∷ []) (y ∷ ys) = omega arith
turns_both (x ∷ (y ∷ zs)) ys = let ih = turns_both (y ∷ zs) ys in omega arith

pub turns_join : (xs ys : List Bool) → turns (xs ++ ys) ≤ turns xs + turns ys + 1
unfolding turns
turns_join [] ys = omega arith
turns_join (x ∷ []) [] = omega arith
turns_join (x ∷ []) (y ∷ ys) = omega (arith, one_at_most x y)
turns_join (x ∷ (y ∷ zs)) ys = let ih = turns_join (y ∷ zs) ys in omega arith

pub turns_within : (x : Bool) (xs : List Bool) → turns (x ∷ xs) ≤ length xs
unfolding turns
turns_within x [] = omega arith
turns_within x (y ∷ ys) = let ih = turns_within y ys in omega (arith, one_at_most x y)

-- fewer turns than bits
pub turns_length : (xs : List Bool) → turns xs ≤ length xs - 1
unfolding turns
turns_length [] = omega arith
turns_length (x ∷ xs) = let h = turns_within x xs in omega arith

pub turns_take : (n : ℕ) (xs : List Bool) → turns (take n xs) ≤ turns xs
turns_take n xs =
    let h = turns_both (take n xs) (drop n xs) in
    let e : turns (take n xs ++ drop n xs) ≡ turns xs = ap turns (take-append-drop n xs) in
    omega arith

pub turns_drop : (n : ℕ) (xs : List Bool) → turns (drop n xs) ≤ turns xs
turns_drop n xs =
    let h = turns_both (take n xs) (drop n xs) in
    let e : turns (take n xs ++ drop n xs) ≡ turns xs = ap turns (take-append-drop n xs) in
    omega arith

pub turns_piece : (xs : List Bool) (i n : ℕ) → turns (take n (drop i xs)) ≤ turns xs
turns_piece xs i n = let a = turns_take n (drop i xs) in let b = turns_drop i xs in omega arith

pub parts_at_least : (parts : List (List Bool)) → inner_turns parts ≤ turns (joined parts)
unfolding joined inner_turns
parts_at_least [] = omega arith
parts_at_least (x ∷ xs) = let ih = parts_at_least xs in let h = turns_both x (joined xs) in omega arith

more_than_parts : (x : List Bool) (xs : List (List Bool)) → turns (joined (x ∷ xs)) ≤ inner_turns (x ∷ xs) + length xs
unfolding joined inner_turns
more_than_parts x [] = let e : turns (x ++ []) ≡ turns x = ap turns (append-nil x) in omega arith
more_than_parts x (y ∷ ys) = let ih = more_than_parts y ys in let h = turns_join x (joined (y ∷ ys)) in omega arith

pub parts_at_most : (parts : List (List Bool)) → 0 < length parts → turns (joined parts) ≤ inner_turns parts + (length parts - 1)
parts_at_most [] h = absurd (omega arith)
parts_at_most (x ∷ xs) h = let g = more_than_parts x xs in omega arith

-- a part of n bits has fewer than n turns, and no more than the list that it lies in
pub turns_part : (xs : List Bool) (i n most : ℕ) → turns xs ≤ most → turns (take n (drop i xs)) ≤ min most (n - 1)
turns_part xs i n most few = grind (arith, turns_piece, turns_length, length-take)

pub part_of_word : (w i n : ℕ) → turns (word_bits w) ≤ 5 → 0 < n → i + n ≤ 10 → turns (take n (drop i (word_bits w))) ≤ min 5 (n - 1)
part_of_word w i n few some within = turns_part (word_bits w) i n 5 few

-- one more than the turns of a part: at most the lesser of 6 and its length
part_cost : (x : List Bool) → 0 < length x → turns x ≤ 5 → turns x + 1 ≤ min 6 (length x)
part_cost x some few = let h = turns_length x in omega arith

pub parts_cost : (parts : List (List Bool)) → ((k : ℕ) → k < length parts → IsCalmPart (get_or parts k [])) → inner_turns parts + length parts ≤ part_costs parts
unfolding inner_turns part_costs
parts_cost [] each = omega arith
parts_cost (x ∷ xs) each =
    let first = each zero (omega arith) in
    let h = part_cost x first.some first.few in
    let ih = parts_cost xs (λ k lt. each (suc k) (omega arith)) in
    omega arith

pub calm_cut : (parts : List (List Bool)) → 0 < length parts → ((k : ℕ) → k < length parts → IsCalmPart (get_or parts k [])) → turns (joined parts) + 1 ≤ part_costs parts
calm_cut parts some each = grind (arith, parts_at_most, parts_cost)
