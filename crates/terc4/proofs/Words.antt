-- The turns of the words of the tables, that they are apart, and how control words begin and end.
use Rattle.std.proofs.Common.{◌≡◌, ℕ, ◌-◌, ◌≤◌, Bool, true, false, not, List, [], ◌∷◌, length, take, drop, refl, ap, ◌∙◌, sym, subst, arith, ◌⊎◌, inl, inr, ◌==◌, ◌||◌, eqb-true, nat_le, slice_index, None}
use Rattle.std.specs.List.{position_or_len}
use Rattle.std.proofs.lemmas.Bool.{leb-true}
use Rattle.tmds_word.specs.Bits.{bits_of, word_bits, turns, unlike}
use Rattle.tmds_word.proofs.Below.{passes_below, passes_at}
use Rattle.terc4.specs.Tables.{control_words, terc_words, video_guard, island_guard, value_in, is_control, is_terc, is_guard}
use Rattle.terc4.specs.Laws.{AreDistinct, IsAlternating}
use Rattle.terc4.proofs.Members.{passes_all, passes_in, by_control}

pub control_turns : (w : ℕ) → is_control w ≡ true → (turns (word_bits w) ≡ 7) ⊎ (turns (word_bits w) ≡ 8)
unfolding turns unlike word_bits bits_of
control_turns = by_control (λ w. (turns (word_bits w) ≡ 7) ⊎ (turns (word_bits w) ≡ 8)) (inl refl) (inl refl) (inr refl) (inr refl)

-- at most five turns, as a test
is_calm : ℕ → Bool
is_calm w = nat_le (turns (word_bits w)) 5

terc_calm : passes_all is_calm terc_words ≡ true
unfolding passes_all is_calm turns unlike word_bits bits_of terc_words
terc_calm = refl

guard_calm : passes_all is_calm (island_guard ∷ video_guard) ≡ true
unfolding passes_all is_calm turns unlike word_bits bits_of island_guard video_guard
guard_calm = refl

pub terc_turns : (w : ℕ) → is_terc w ≡ true → turns (word_bits w) ≤ 5
unfolding is_terc is_calm
terc_turns w h = leb-true _ _ (passes_in is_calm terc_words w terc_calm h)

pub guard_turns : (w : ℕ) → is_guard w ≡ true → turns (word_bits w) ≤ 5
unfolding is_guard is_calm
guard_turns w h = leb-true _ _ (passes_in is_calm (island_guard ∷ video_guard) w guard_calm h)

false_from : (b : Bool) → (b ≡ true → ⊥) → b ≡ false
false_from b h = grind arith

many_turns : (n : ℕ) → (n ≡ 7) ⊎ (n ≡ 8) → 6 ≤ n
many_turns n h = grind arith

pub few_turns : (w : ℕ) → turns (word_bits w) ≤ 5 → is_control w ≡ false
few_turns w few = false_from (is_control w) (λ h. let many = many_turns _ (control_turns w h) in omega arith)

pub terc_apart : (w : ℕ) → is_terc w ≡ true → is_control w ≡ false
terc_apart w h = few_turns w (terc_turns w h)

pub guard_apart : (w : ℕ) → is_guard w ≡ true → is_control w ≡ false
guard_apart w h = few_turns w (guard_turns w h)

pub island_guard_apart : value_in terc_words island_guard ≡ None
unfolding value_in terc_words island_guard
island_guard_apart = refl

-- whether the word at a place has that place as its least
stands_first : List ℕ → ℕ → Bool
stands_first words i = position_or_len (λ x. x == slice_index words i) words == i

distinct : (words : List ℕ) → passes_below (length words) (stands_first words) ≡ true → AreDistinct words
unfolding stands_first
distinct words all i j li lj e =
    let place : ℕ → ℕ = λ w. position_or_len (λ x. x == w) words in
    sym (eqb-true _ _ (passes_at (length words) (stands_first words) i all li))
    ∙ ap place e
    ∙ eqb-true _ _ (passes_at (length words) (stands_first words) j all lj)

pub control_distinct : AreDistinct control_words
unfolding control_words passes_below stands_first
control_distinct = distinct control_words refl

pub terc_distinct : AreDistinct terc_words
unfolding terc_words passes_below stands_first
terc_distinct = distinct terc_words refl

pub control_shape : (w : ℕ) → is_control w ≡ true → IsAlternating (word_bits w)
unfolding word_bits bits_of
control_shape =
    by_control (λ w. IsAlternating (word_bits w))
    (record { x = false; y = true; order = refl })
    (record { x = true; y = false; order = refl })
    (record { x = false; y = false; order = refl })
    (record { x = true; y = true; order = refl })

same_bits : List Bool → List Bool → Bool
same_bits [] [] = true
same_bits (true ∷ xs) (true ∷ ys) = same_bits xs ys
same_bits (false ∷ xs) (false ∷ ys) = same_bits xs ys
same_bits xs ys = false

same_itself : (xs : List Bool) → same_bits xs xs ≡ true
unfolding same_bits
same_itself [] = refl
same_itself (true ∷ xs) = same_itself xs
same_itself (false ∷ xs) = same_itself xs

-- whether the last k bits of one word are the first k bits of another only for these k
joins_rarely : ℕ → ℕ → ℕ → Bool
joins_rarely v w k = not (same_bits (drop (10 - k) (word_bits v)) (take k (word_bits w))) || (nat_le k 2 || (k == 10))

all_join_rarely : (v : ℕ) → is_control v ≡ true → (w : ℕ) → is_control w ≡ true → passes_below 11 (joins_rarely v w) ≡ true
unfolding passes_below joins_rarely same_bits word_bits bits_of
all_join_rarely =
    by_control (λ v. (w : ℕ) → is_control w ≡ true → passes_below 11 (joins_rarely v w) ≡ true)
    (by_control (λ w. passes_below 11 (joins_rarely 852 w) ≡ true) refl refl refl refl)
    (by_control (λ w. passes_below 11 (joins_rarely 171 w) ≡ true) refl refl refl refl)
    (by_control (λ w. passes_below 11 (joins_rarely 340 w) ≡ true) refl refl refl refl)
    (by_control (λ w. passes_below 11 (joins_rarely 683 w) ≡ true) refl refl refl refl)

few_or_all : (k : ℕ) (same few all : Bool) → same ≡ true → (few ≡ true → k ≤ 2) → (all ≡ true → k ≡ 10) → (not same || (few || all)) ≡ true → (k ≤ 2) ⊎ (k ≡ 10)
few_or_all k same few all h l m p = grind arith

pub control_overlap :
    (v w k : ℕ) → is_control v ≡ true → is_control w ≡ true → k ≤ 10
    → drop (10 - k) (word_bits v) ≡ take k (word_bits w) → (k ≤ 2) ⊎ (k ≡ 10)
unfolding joins_rarely
control_overlap v w k hv hw le e =
    few_or_all k (same_bits (drop (10 - k) (word_bits v)) (take k (word_bits w))) (nat_le k 2) (k == 10)
    (subst (λ xs. same_bits (drop (10 - k) (word_bits v)) xs ≡ true) e (same_itself _))
    (leb-true k 2)
    (eqb-true k 10)
    (passes_at 11 (joins_rarely v w) k (all_join_rarely v hv w hw) (omega arith))
