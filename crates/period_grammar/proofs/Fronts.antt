-- The first of sixteen columns: their bytes, which of their words are wrong, and their balances.
use Rattle.std.proofs.Common.{◌≡◌, ℕ, zero, suc, ◌+◌, ◌-◌, ◌*◌, ◌%◌, ◌^◌, ◌<◌, ◌≤◌, List, [], ◌∷◌, ◌++◌, Bool, not, cond, length, take, drop, get_or, map, refl, subst, ap, sym, ◌∙◌, arith, bit_and, eqb}
use Rattle.std.specs.Prelude.{ℤ, pos, ◌-ℤ◌, ◌+ℤ◌}
use Rattle.std.specs.List.{prefix_len}
use Rattle.std.specs.Simd.Lanes.{mask_l}
use Rattle.std.specs.Int.Count.{count_trailing_zeros}
use Rattle.std.proofs.Math.Seq.{take-append-add, take-nil}
use Rattle.std.proofs.Math.Nat.{pow-suc, mul_assoc}
use Rattle.std.proofs.lemmas.Int.{ints}
use Rattle.std.proofs.lemmas.List.Sums.{prefix_len-le-length}
use Rattle.std.proofs.lemmas.List.{take-take, take_all, length-take-le, length-map}
use Rattle.std.proofs.lemmas.Nat.{and_mask, mod-mul-add}
use Rattle.std.proofs.lemmas.Simd.{first_set_mask_l, mask_l-lt}
use Rattle.tmds_word.specs.Bits.{word_bits, balance}
use Rattle.tmds_word.specs.Column.{Column, blues, greens, reds}
use Rattle.tmds_word.specs.Words.{columns_of}
use Rattle.tmds_word.proofs.Words.{ten_bits}
use Rattle.tmds_code.specs.Coding.{is_coded, decoded_byte}
use Rattle.tmds_code.specs.Lanes.{disparity_of}
use Rattle.tmds_code.specs.Sixteen.{wrongs, at_step, all_ones}
use Rattle.terc4.specs.Columns.{is_control_column}
use Rattle.period_grammar.specs.Heard.{line_bytes}
use Rattle.period_grammar.specs.Pixels.{is_pixel}
use Rattle.period_grammar.specs.Sixteen.{AreControls, IsHeard, pixels}
use Rattle.period_grammar.specs.declared.sixteen.LaneFront.{LaneFront}
use Rattle.period_grammar.proofs.Firsts.{length_wrongs, not_zero}

balance_to : (n : ℕ) (ws : List ℕ) → ((k : ℕ) → k < length ws → get_or ws k 0 < 1024) → disparity_of (take n ws) ≡ pos (2 * all_ones (take n ws)) -ℤ pos (10 * length (take n ws))
unfolding disparity_of balance
balance_to zero ws small = refl
balance_to (suc n) [] small = refl
balance_to (suc n) (w ∷ ws) small =
    let t = ten_bits w (small 0 (omega arith)) in
    let r = balance_to n ws (λ k l. small (suc k) (omega arith)) in
    omega (arith, ints, t, r)

-- the mask of the first words

linear : (c m dp t dq : ℕ) → m ≡ dp + t → dq ≡ dp * 2 → c + 2 * m ≡ dq + (c + 2 * t)
linear c m dp t dq e f = omega arith

no_bits : (p : ℕ) → 0 ≡ 0 * p + 0
no_bits p = omega arith

all_bits : (m : ℕ) → m ≡ m * 1 + 0
all_bits m = omega arith

mask_split : (n : ℕ) (bs : List Bool) → mask_l bs ≡ mask_l (drop n bs) * 2 ^ n + mask_l (take n bs)
mask_split zero bs = all_bits (mask_l bs)
mask_split (suc n) [] = no_bits (2 ^ suc n)
mask_split (suc n) (b ∷ bs) =
    linear (cond b 1 0) (mask_l bs) (mask_l (drop n bs) * 2 ^ n) (mask_l (take n bs)) (mask_l (drop n bs) * 2 ^ suc n) (mask_split n bs)
    (ap (λ p. mask_l (drop n bs) * p) (pow-suc 2 n) ∙ sym (mul_assoc (mask_l (drop n bs)) (2 ^ n) 2))

mask_to : (n : ℕ) (bs : List Bool) → n ≤ length bs → mask_l bs % 2 ^ n ≡ mask_l (take n bs)
mask_to n bs le =
    ap (λ m. m % 2 ^ n) (mask_split n bs)
    ∙ mod-mul-add (mask_l (drop n bs)) (2 ^ n) (mask_l (take n bs)) (subst (λ k. mask_l (take n bs) < 2 ^ k) (length-take-le n bs le) (mask_l-lt (take n bs)))

wrongs_to : (n : ℕ) (d : ℤ) (ws : List ℕ) → take n (wrongs d ws) ≡ wrongs d (take n ws)
wrongs_to zero d ws = refl
wrongs_to (suc n) d [] = refl
wrongs_to (suc n) d (w ∷ ws) = ap (λ bs. not (is_coded d w) ∷ bs) (wrongs_to n (d +ℤ balance (word_bits w)) ws)

wrong_to : (n : ℕ) (d : ℤ) (ws : List ℕ) (wrong : ℕ) → n ≤ length ws → wrong ≡ mask_l (wrongs d ws) → bit_and wrong (2 ^ n - 1) ≡ mask_l (wrongs d (take n ws))
wrong_to n d ws wrong le e =
    let long = length_wrongs d ws in
    ap (λ m. bit_and m (2 ^ n - 1)) e ∙ (and_mask (mask_l (wrongs d ws)) n ∙ (mask_to n (wrongs d ws) (omega (arith, long)) ∙ ap mask_l (wrongs_to n d ws)))

small_to : (n : ℕ) (ws : List ℕ) → ((k : ℕ) → k < length ws → get_or ws k 0 < 1024) → (k : ℕ) → k < length (take n ws) → get_or (take n ws) k 0 < 1024
small_to zero ws small k l = absurd (omega arith)
small_to (suc n) [] small k l = absurd (omega arith)
small_to (suc n) (w ∷ ws) small zero l = small 0 (omega arith)
small_to (suc n) (w ∷ ws) small (suc k) l = small_to n ws (λ j m. small (suc j) (omega arith)) k (omega arith)

few_in : (ws : List ℕ) → ((k : ℕ) → k < length ws → get_or ws k 0 < 1024) → all_ones ws ≤ 10 * length ws
few_in [] small = omega arith
few_in (w ∷ ws) small =
    let t = ten_bits w (small 0 (omega arith)) in
    let r = few_in ws (λ k l. small (suc k) (omega arith)) in
    omega (arith, t, r)

pub heard_to : (n step : ℕ) (ws vs : List ℕ) (wrong : ℕ) (lane : LaneFront) → n ≤ 16 → length ws ≡ 16 → ((k : ℕ) → k < 16 → get_or ws k 0 < 1024) → ws ≡ vs
    → wrong ≡ mask_l (wrongs (at_step step) ws) → lane.wrong ≡ bit_and wrong (2 ^ n - 1) → lane.ones ≡ all_ones (take n ws) → IsHeard step (take n vs) lane
heard_to n step ws vs wrong lane few long small same e f g =
    subst (λ (us : List ℕ). IsHeard step (take n us) lane) same (record {
      wrong = f ∙ wrong_to n (at_step step) ws wrong (omega (arith, long)) e;
      balance = balance_to n ws (λ k l. small k (omega (arith, long))) ∙ ap (λ m. pos (2 * m) -ℤ pos (10 * length (take n ws))) (sym g);
      few = subst (λ t. t ≤ 10 * length (take n ws)) (sym g) (few_in (take n ws) (small_to n ws (λ k l. small k (omega (arith, long)))));
    })

-- the pixels

three : (n : ℕ) → 3 * suc n ≡ suc (suc (suc (3 * n)))
three n = omega arith

pub bytes_to : (n : ℕ) (bs gs rs : List ℕ) → take (3 * n) (pixels (map decoded_byte rs) (map decoded_byte gs) (map decoded_byte bs)) ≡ line_bytes (take n (columns_of bs gs rs))
unfolding columns_of line_bytes
bytes_to zero bs gs rs = refl
bytes_to (suc n) [] [] [] = take-nil (3 * suc n)
bytes_to (suc n) [] [] (r ∷ rs) = take-nil (3 * suc n)
bytes_to (suc n) [] (g ∷ gs) [] = take-nil (3 * suc n)
bytes_to (suc n) [] (g ∷ gs) (r ∷ rs) = take-nil (3 * suc n)
bytes_to (suc n) (b ∷ bs) [] [] = take-nil (3 * suc n)
bytes_to (suc n) (b ∷ bs) [] (r ∷ rs) = take-nil (3 * suc n)
bytes_to (suc n) (b ∷ bs) (g ∷ gs) [] = take-nil (3 * suc n)
bytes_to (suc n) (b ∷ bs) (g ∷ gs) (r ∷ rs) =
    ap (λ m. take m (decoded_byte r ∷ (decoded_byte g ∷ (decoded_byte b ∷ pixels (map decoded_byte rs) (map decoded_byte gs) (map decoded_byte bs))))) (three n)
    ∙ ap (λ xs. decoded_byte r ∷ (decoded_byte g ∷ (decoded_byte b ∷ xs))) (bytes_to n bs gs rs)

pub put_to : (n place : ℕ) (old new bs gs rs : List ℕ) → n ≤ 16 → place ≤ length old
    → take (place + 48) new ≡ take place old ++ pixels (map decoded_byte rs) (map decoded_byte gs) (map decoded_byte bs)
    → take (place + 3 * n) new ≡ take place old ++ line_bytes (take n (columns_of bs gs rs))
put_to n place old new bs gs rs le room put =
    let own : length (take place old) ≡ place = length-take-le place old room in
    sym (take-take (place + 3 * n) (place + 48) new (omega arith))
    ∙ (ap (take (place + 3 * n)) put
    ∙ (ap (λ p. take (p + 3 * n) (take place old ++ pixels (map decoded_byte rs) (map decoded_byte gs) (map decoded_byte bs))) (sym own)
    ∙ (take-append-add (take place old) (pixels (map decoded_byte rs) (map decoded_byte gs) (map decoded_byte bs)) (3 * n)
    ∙ ap (λ xs. take place old ++ xs) (bytes_to n bs gs rs))))

-- the columns of three lanes

pub joined_lanes : (cs : List Column) → columns_of (blues cs) (greens cs) (reds cs) ≡ cs
unfolding columns_of
joined_lanes [] = refl
joined_lanes (c ∷ cs) = ap (λ ds. c ∷ ds) (joined_lanes cs)

pub columns_are : (cs : List Column) (bs gs rs : List ℕ) → bs ≡ blues cs → gs ≡ greens cs → rs ≡ reds cs → columns_of bs gs rs ≡ cs
columns_are cs bs gs rs eb eg er = (λ i. columns_of (eb i) (eg i) (er i)) ∙ joined_lanes cs

front_is : (m : ℕ) (cs : List Column) → length cs ≡ 16 → m ≡ mask_l (map is_control_column cs) → cond (eqb m 0) 16 (count_trailing_zeros 64 m) ≡ prefix_len is_pixel cs
unfolding is_pixel
front_is m cs long e = ap (λ k. cond (eqb k 0) 16 (count_trailing_zeros 64 k)) e ∙ first_set_mask_l is_control_column cs 16 long (omega arith)

pub all_pixels : (m : ℕ) (cs : List Column) → length cs ≡ 16 → m ≡ mask_l (map is_control_column cs) → m ≡ 0 → 16 ≡ prefix_len is_pixel cs
all_pixels m cs long e z = ap (λ k. cond (eqb k 0) 16 (count_trailing_zeros 64 k)) (sym z) ∙ front_is m cs long e

pub some_pixels : (m : ℕ) (cs : List Column) → length cs ≡ 16 → m ≡ mask_l (map is_control_column cs) → (m ≡ 0 → ⊥) → count_trailing_zeros 64 m ≡ prefix_len is_pixel cs
some_pixels m cs long e z = ap (λ p. cond p 16 (count_trailing_zeros 64 m)) (sym (not_zero m z)) ∙ front_is m cs long e

pub ones_at : (n : ℕ) (sums ws : List ℕ) → (n ≡ 0 → ⊥) → n ≤ 16 → ((k : ℕ) → k < 16 → get_or sums k 0 ≡ all_ones (take (k + 1) ws)) → get_or sums (n - 1) 0 ≡ all_ones (take n ws)
ones_at n sums ws some le each =
    let l : n - 1 < 16 = omega (arith, some) in
    let e : (n - 1) + 1 ≡ n = omega (arith, some) in
    each (n - 1) l ∙ ap (λ k. all_ones (take k ws)) e

pub ones_none : (n : ℕ) (ws : List ℕ) → n ≡ 0 → 0 ≡ all_ones (take n ws)
ones_none n ws e = ap (λ k. all_ones (take k ws)) (sym e)

pub few_pixels : (n : ℕ) (cs : List Column) → length cs ≡ 16 → n ≡ prefix_len is_pixel cs → n ≤ 16
few_pixels n cs long e =
    let le = prefix_len-le-length is_pixel cs in
    omega (arith, long, le, e)

pub count_is : (n m : ℕ) (cs : List Column) (bs gs rs bv gv rv : List ℕ) → length cs ≡ 16 → bs ≡ blues cs → gs ≡ greens cs → rs ≡ reds cs → AreControls bv bs → AreControls gv gs → AreControls rv rs
    → ((xs ys zs : List ℕ) → AreControls bv xs → AreControls gv ys → AreControls rv zs → m ≡ mask_l (map is_control_column (columns_of xs ys zs)))
    → ((ds : List Column) → length ds ≡ 16 → m ≡ mask_l (map is_control_column ds) → n ≡ prefix_len is_pixel ds) → n ≡ prefix_len is_pixel cs
count_is n m cs bs gs rs bv gv rv long eb eg er blue green red mask count =
    count cs long (mask bs gs rs blue green red ∙ ap (λ ds. mask_l (map is_control_column ds)) (columns_are cs bs gs rs eb eg er))

-- of how many words a lane is told
pub front_long : (n : ℕ) (f : Column → ℕ) (cs : List Column) → length cs ≡ 16 → n ≤ 16 → length (take n (map f cs)) ≡ n
front_long n f cs long le = length-take-le n (map f cs) (omega (arith, length-map cs f, long, le))

pub wrong_below : (n step : ℕ) (ws : List ℕ) (lane : LaneFront) → length ws ≡ n → IsHeard step ws lane → lane.wrong < 2 ^ n
wrong_below n step ws lane long heard =
    let below = mask_l-lt (wrongs (at_step step) ws) in
    let same : length (wrongs (at_step step) ws) ≡ n = length_wrongs (at_step step) ws ∙ long in
    subst (λ m. m < 2 ^ n) (sym heard.wrong) (subst (λ k. mask_l (wrongs (at_step step) ws) < 2 ^ k) same below)

pub long_lane : (f : Column → ℕ) (ws : List ℕ) (cs : List Column) → ws ≡ map f cs → length cs ≡ 16 → length ws ≡ 16
long_lane f ws cs e long = ap (λ (us : List ℕ). length us) e ∙ (length-map cs f ∙ long)

pub whole_lane : (f : Column → ℕ) (ws : List ℕ) (cs : List Column) (n : ℕ) → ws ≡ map f cs → length cs ≡ n → take n ws ≡ map f cs
whole_lane f ws cs n e long = ap (take n) e ∙ take_all n (map f cs) (omega (arith, length-map cs f, long))
