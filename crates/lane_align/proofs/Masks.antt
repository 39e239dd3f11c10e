-- The quick test: at which places of a number control words begin.
use Rattle.std.proofs.Common.{◌≡◌, ℕ, ◌+◌, ◌-◌, ◌/◌, ◌%◌, ◌^◌, ◌<◌, min, Bool, true, cond, refl, ap, ap₂, ◌∙◌, sym, arith, ◌==◌, bit_and, bit_xor, eqb-true}
use Rattle.std.specs.Int.{bit_at}
use Rattle.std.proofs.lemmas.Nat.{field_of, shr-shr}
use Rattle.std.proofs.lemmas.Nat.Bits.{bit_at_and, bit_at_xor}
use Rattle.std.proofs.Math.Pow.{mod-mod-pow}
use Rattle.tmds_word.specs.Bits.{bit}
use Rattle.tmds_word.proofs.Below.{passes_below, passes_at}
use Rattle.terc4.specs.Tables.{is_control, is_in, control_words}
use Rattle.lane_align.specs.Search.{control_at}

-- what the code computes of nine bits
unfoldable turn : (ℕ → ℕ) → ℕ → ℕ
turn f i = (f i + f (i + 1)) % 2

unfoldable two : (ℕ → ℕ) → ℕ → ℕ
two f i = min (turn f i) (turn f (i + 1))

unfoldable four : (ℕ → ℕ) → ℕ → ℕ
four f i = min (two f i) (two f (i + 2))

unfoldable seven : (ℕ → ℕ) → ℕ → ℕ
seven f i = min (four f i) (four f (i + 3))

unfoldable begins : (ℕ → ℕ) → ℕ
begins f = min (seven f 1) ((seven f 1 + turn f 0) % 2)

-- bit i of a number shifted
shifted : (n s i : ℕ) → bit_at (n / 2 ^ s) i ≡ bit_at n (s + i)
shifted n s i = ap (λ m. m % 2) (shr-shr n s i)

-- the steps of the code
unfoldable pub places : ℕ → ℕ
places n =
    let t = bit_xor n (n / 2 ^ 1) in
    let a = bit_and t (t / 2 ^ 1) in
    let b = bit_and a (a / 2 ^ 2) in
    let e = bit_and b (b / 2 ^ 3) in
    let s = e / 2 ^ 1 in
    bit_and s (bit_xor s t)

turn_at : (n i : ℕ) (f : ℕ → ℕ) (j : ℕ) → ((k : ℕ) → bit_at n (i + k) ≡ f k) → bit_at (bit_xor n (n / 2 ^ 1)) (i + j) ≡ turn f j
unfolding turn
turn_at n i f j h =
    let e : 1 + (i + j) ≡ i + (j + 1) = omega arith in
    bit_at_xor n (n / 2 ^ 1) (i + j) ∙ ap₂ (λ a b. (a + b) % 2) (h j) (shifted n 1 (i + j) ∙ ap (bit_at n) e ∙ h (j + 1))

and_at : (t s i : ℕ) (g : ℕ → ℕ) (j : ℕ) → ((k : ℕ) → bit_at t (i + k) ≡ g k) → bit_at (bit_and t (t / 2 ^ s)) (i + j) ≡ min (g j) (g (j + s))
and_at t s i g j h =
    let e : s + (i + j) ≡ i + (j + s) = omega arith in
    bit_at_and t (t / 2 ^ s) (i + j) ∙ ap₂ min (h j) (shifted t s (i + j) ∙ ap (bit_at t) e ∙ h (j + s))

places_at : (n i : ℕ) (f : ℕ → ℕ) → ((k : ℕ) → bit_at n (i + k) ≡ f k) → bit_at (places n) i ≡ begins f
unfolding places begins two four seven
places_at n i f h =
    let t = bit_xor n (n / 2 ^ 1) in
    let a = bit_and t (t / 2 ^ 1) in
    let b = bit_and a (a / 2 ^ 2) in
    let e = bit_and b (b / 2 ^ 3) in
    let s = e / 2 ^ 1 in
    let ht : (k : ℕ) → bit_at t (i + k) ≡ turn f k = λ k. turn_at n i f k h in
    let ha : (k : ℕ) → bit_at a (i + k) ≡ two f k = λ k. and_at t 1 i (turn f) k ht in
    let hb : (k : ℕ) → bit_at b (i + k) ≡ four f k = λ k. and_at a 2 i (two f) k ha in
    let he : (k : ℕ) → bit_at e (i + k) ≡ seven f k = λ k. and_at b 3 i (four f) k hb in
    let one : 1 + i ≡ i + 1 = omega arith in
    let none : i + 0 ≡ i = omega arith in
    let hs : bit_at s i ≡ seven f 1 = shifted e 1 i ∙ ap (bit_at e) one ∙ he 1 in
    let h0 : bit_at t i ≡ turn f 0 = ap (bit_at t) (sym none) ∙ ht 0 in
    bit_at_and s (bit_xor s t) i ∙ ap₂ min hs (bit_at_xor s t i ∙ ap₂ (λ x y. (x + y) % 2) hs h0)

-- nine bits decide
begins_same : (f g : ℕ → ℕ) → ((k : ℕ) → k < 9 → f k ≡ g k) → begins f ≡ begins g
unfolding begins seven four two turn
begins_same f g h =
    rw (h 0 (omega arith)) (rw (h 1 (omega arith)) (rw (h 2 (omega arith)) (rw (h 3 (omega arith)) (rw (h 4 (omega arith)) (rw (h 5 (omega arith)) (rw (h 6 (omega arith)) (rw (h 7 (omega arith)) (rw (h 8 (omega arith)) refl))))))))

-- of the bits of a word: 1 exactly where it is a control word
unfoldable test : ℕ → Bool
test w = begins (λ i. w / 2 ^ i % 2) == cond (is_control w) 1 0

all_words : passes_below 1024 test ≡ true
unfolding passes_below test begins seven four two turn is_control is_in control_words
all_words = refl

word_begins : (w : ℕ) → w < 1024 → begins (λ i. w / 2 ^ i % 2) ≡ cond (is_control w) 1 0
unfolding test
word_begins w lt = eqb-true _ _ (passes_at 1024 test w all_words lt)

-- a bit of the ten bits from bit k on
bit_within : (n k i : ℕ) → i < 9 → bit_at n (k + i) ≡ n / 2 ^ k % 1024 / 2 ^ i % 2
bit_within n k i lt =
    let m = n / 2 ^ k in
    let j = 9 - i in
    let sum : (j + 1) + i ≡ 10 = omega arith in
    let a : m % 2 ^ ((j + 1) + i) / 2 ^ i ≡ m / 2 ^ i % 2 ^ (j + 1) = field_of m (j + 1) i in
    let b : m / 2 ^ i % 2 ^ (j + 1) % 2 ^ 1 ≡ m / 2 ^ i % 2 ^ 1 = mod-mod-pow (m / 2 ^ i) j 1 in
    sym (shifted n k i) ∙ sym (ap (λ e. m % 2 ^ e / 2 ^ i % 2) (sym sum) ∙ ap (λ x. x % 2) a ∙ b)

one_is : (b : Bool) → (cond b 1 0 == 1) ≡ b
one_is b = grind arith

pub places_are : (n k : ℕ) → bit (places n) k ≡ control_at n k
places_are n k =
    let w = n / 2 ^ k % 1024 in
    let lt : w < 1024 = omega arith in
    let e : bit_at (places n) k ≡ cond (is_control w) 1 0 =
    places_at n k (λ i. bit_at n (k + i)) (λ i. refl)
    ∙ begins_same (λ i. bit_at n (k + i)) (λ i. w / 2 ^ i % 2) (λ i few. bit_within n k i few)
    ∙ word_begins w lt in
    ap (λ m. m == 1) e ∙ one_is (is_control w)
