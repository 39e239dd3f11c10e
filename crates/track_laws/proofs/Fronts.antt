-- Lanes that have the same bits up to a place carry the same columns up to there.
use Rattle.std.proofs.Common.{◌≡◌, ℕ, suc, zero, ◌+◌, ◌-◌, ◌*◌, ◌/◌, ◌≤◌, Bool, List, [], ◌∷◌, length, take, drop, refl, ap, ap₂, ◌∙◌, sym, arith, length-take}
use Rattle.std.proofs.lemmas.List.{drop-take, take-take, length-take-le}
use Rattle.tmds_word.specs.Bits.{number}
use Rattle.tmds_word.specs.Column.{Column}
use Rattle.tmds_word.specs.Words.{words_of, columns_of}
use Rattle.lane_align.specs.Words.{words_from}
use Rattle.lane_align.proofs.Parts.{take_piece}
use Rattle.lane_deskew.specs.Aligned.{aligned_columns}
use Rattle.lane_track.specs.Slips.{slipped}
use Rattle.lane_track.proofs.Cutting.{front_piece}

take_words : (m n : ℕ) (xs : List Bool) → m ≤ n → take m (words_of n xs) ≡ words_of m xs
unfolding words_of
take_words zero n xs le = refl
take_words (suc m) zero xs le = absurd (omega arith)
take_words (suc m) (suc n) xs le = ap (λ (ws : List ℕ). number (take 10 xs) ∷ ws) (take_words m n (drop 10 xs) (omega arith))

words_front : (m : ℕ) (xs : List Bool) → words_of m (take (10 * m) xs) ≡ words_of m xs
unfolding words_of
words_front zero xs = refl
words_front (suc m) xs =
    let e : 10 * suc m ≡ 10 + 10 * m = omega arith in
    ap₂ (λ (w : ℕ) (ws : List ℕ). w ∷ ws) (ap number (take-take 10 (10 * suc m) xs (omega arith)))
    (ap (words_of m) (ap (λ k. drop 10 (take k xs)) e ∙ drop-take 10 (10 * m) xs) ∙ words_front m (drop 10 xs))

-- the first characters from a place on are those of the bits that they take
pub same_words : (xs ys : List Bool) (p m : ℕ) → p + 10 * m ≤ length xs → p + 10 * m ≤ length ys → take (10 * m) (drop p xs) ≡ take (10 * m) (drop p ys)
    → take m (words_from xs p) ≡ take m (words_from ys p)
unfolding words_from
same_words xs ys p m long_x long_y same =
    take_words m ((length xs - p) / 10) (drop p xs) (omega arith) ∙ sym (words_front m (drop p xs)) ∙ ap (words_of m) same
    ∙ words_front m (drop p ys) ∙ sym (take_words m ((length ys - p) / 10) (drop p ys) (omega arith))

take_columns : (m : ℕ) (us vs ws : List ℕ) → take m (columns_of us vs ws) ≡ columns_of (take m us) (take m vs) (take m ws)
unfolding columns_of
take_columns zero us vs ws = refl
take_columns (suc m) [] vs ws = refl
take_columns (suc m) (u ∷ us) [] ws = refl
take_columns (suc m) (u ∷ us) (v ∷ vs) [] = refl
take_columns (suc m) (u ∷ us) (v ∷ vs) (w ∷ ws) = ap (λ (cs : List Column). record { blue = u; green = v; red = w } ∷ cs) (take_columns m us vs ws)

-- so many columns of lanes whose first characters are the same
pub same_columns : (xs ys zs us vs ws : List Bool) (d e f m : ℕ)
    → take m (words_from xs (d - 120)) ≡ take m (words_from us (d - 120))
    → take m (words_from ys (e - 120)) ≡ take m (words_from vs (e - 120))
    → take m (words_from zs (f - 120)) ≡ take m (words_from ws (f - 120))
    → m ≤ length (aligned_columns xs ys zs d e f)
    → (m ≤ length (aligned_columns us vs ws d e f)) × (take m (aligned_columns xs ys zs d e f) ≡ take m (aligned_columns us vs ws d e f))
unfolding aligned_columns
same_columns xs ys zs us vs ws d e f m blue green red long =
    let a = columns_of (words_from xs (d - 120)) (words_from ys (e - 120)) (words_from zs (f - 120)) in
    let b = columns_of (words_from us (d - 120)) (words_from vs (e - 120)) (words_from ws (f - 120)) in
    let same : take m a ≡ take m b =
    take_columns m (words_from xs (d - 120)) (words_from ys (e - 120)) (words_from zs (f - 120))
    ∙ (λ i. columns_of (blue i) (green i) (red i))
    ∙ sym (take_columns m (words_from us (d - 120)) (words_from vs (e - 120)) (words_from ws (f - 120))) in
    let size = ap length same in
    (omega (arith, length-take m a, length-take m b), same)

-- a lane that slipped and was cut after the slip, and the lane cut before it
pub slipped_words : (xs ys : List Bool) (place dropped start p m : ℕ) → ys ≡ slipped xs place dropped → place + dropped ≤ length xs → place ≤ start → place ≤ length ys → p + 10 * m ≤ place
    → take m (words_from (take start ys) p) ≡ take m (words_from (take place xs) p)
slipped_words xs ys place dropped start p m are long after long_y early = grind (arith, length-take-le, same_words, length-take, take_piece, front_piece)
