-- A list is a block exactly where the division leaves nothing.
use Rattle.std.proofs.Common.{◌≡◌, ℕ, suc, zero, ◌<◌, ◌≤◌, Bool, false, List, [], ◌∷◌, length, refl, ap, ◌∙◌, sym, arith}
use Rattle.bch_block.specs.Bits.{xor}
use Rattle.bch_block.specs.Block.{at, back, IsMultiple, IsBlock}
use Rattle.bch_block.specs.Division.{Remainder, nothing, step, remainder_from, remainder}

pub xor_twice : (a b : Bool) → xor (xor a b) b ≡ a
xor_twice a b = grind arith

-- a remainder's bits, and then the rest
abbrev pub listed : Remainder → List Bool → List Bool
listed r xs = r.x7 ∷ r.x6 ∷ r.x5 ∷ r.x4 ∷ r.x3 ∷ r.x2 ∷ r.x1 ∷ r.x0 ∷ xs

-- a product with the polynomial: its first eight bits, and the rest
pub record Product : Type 0 where
  pub front : Remainder
  pub rest : List Bool

abbrev pub no_product : Product
no_product = record { front = nothing; rest = [] }

-- one more bit of the quotient, before the others
abbrev pub before : Bool → Product → Product
before b p = record {
  front = record { x7 = b; x6 = xor p.front.x7 b; x5 = xor p.front.x6 b; x4 = p.front.x5; x3 = p.front.x4; x2 = p.front.x3; x1 = p.front.x2; x0 = p.front.x1 };
  rest = xor p.front.x0 b ∷ p.rest;
}

pub product : List Bool → Product
product [] = no_product
product (b ∷ q) = before b (product q)

length-product : (q : List Bool) → length (product q).rest ≡ length q
unfolding product
length-product [] = refl
length-product (b ∷ q) = omega (arith, length-product q)

-- the division takes the bit out again
step-before : (b : Bool) (p : Product) → step (before b p).front (xor p.front.x0 b) ≡ p.front
step-before b p = λ i. record { x7 = xor_twice p.front.x7 b i; x6 = xor_twice p.front.x6 b i; x5 = p.front.x5; x4 = p.front.x4; x3 = p.front.x3; x2 = p.front.x2; x1 = p.front.x1; x0 = xor_twice p.front.x0 b i }

product_leaves_nothing : (q : List Bool) → remainder_from (product q).front (product q).rest ≡ nothing
unfolding product
product_leaves_nothing [] = refl
product_leaves_nothing (b ∷ q) = ap (λ r. remainder_from r (product q).rest) (step-before b (product q)) ∙ product_leaves_nothing q

-- the bits that the division drops
quotient : Remainder → List Bool → List Bool
quotient r [] = []
quotient r (x ∷ xs) = r.x7 ∷ quotient (step r x) xs

length-quotient : (r : Remainder) (xs : List Bool) → length (quotient r xs) ≡ length xs
unfolding quotient
length-quotient r [] = refl
length-quotient r (x ∷ xs) = omega (arith, length-quotient (step r x) xs)

before-step : (r : Remainder) (x : Bool) (xs : List Bool) → before r.x7 (record { front = step r x; rest = xs }) ≡ record { front = r; rest = x ∷ xs }
before-step r x xs = grind (arith, xor_twice)

product-quotient : (r : Remainder) (xs : List Bool) → remainder_from r xs ≡ nothing → product (quotient r xs) ≡ record { front = r; rest = xs }
unfolding product quotient
product-quotient r [] h = λ i. record { front = sym h i; rest = [] }
product-quotient r (x ∷ xs) h = ap (λ (p : Product). before r.x7 p) (product-quotient (step r x) xs h) ∙ before-step r x xs

-- the product's bits by their places

at_third : (s x y b : Bool) → s ≡ xor x y → xor s b ≡ xor x (xor y b)
at_third s x y b h = grind arith

at_ninth : (s x y z b : Bool) → s ≡ xor x (xor y z) → xor s b ≡ xor x (xor y (xor z b))
at_ninth s x y z b h = grind arith

none_back : (k i : ℕ) → back [] k i ≡ false
none_back zero i = refl
none_back (suc k) zero = refl
none_back (suc k) (suc i) = none_back k i

falses : (i : ℕ) → at (listed nothing []) i ≡ false
falses i = grind arith

-- a place of the product, by the quotient's places
abbrev sum_at : List Bool → ℕ → Bool
sum_at q i = xor (at q i) (xor (back q 1 i) (xor (back q 2 i) (back q 8 i)))

at-product : (q : List Bool) (i : ℕ) → at (listed (product q).front (product q).rest) i ≡ sum_at q i
unfolding product
at-product [] i = grind (arith, falses, none_back)
at-product (b ∷ q) zero = refl
at-product (b ∷ q) (suc zero) = ap (λ v. xor v b) (at-product q 0)
at-product (b ∷ q) (suc (suc zero)) = at_third _ (at q 1) (at q 0) b (at-product q 1)
at-product (b ∷ q) (suc (suc (suc zero))) = at-product q 2
at-product (b ∷ q) (suc (suc (suc (suc zero)))) = at-product q 3
at-product (b ∷ q) (suc (suc (suc (suc (suc zero))))) = at-product q 4
at-product (b ∷ q) (suc (suc (suc (suc (suc (suc zero)))))) = at-product q 5
at-product (b ∷ q) (suc (suc (suc (suc (suc (suc (suc zero))))))) = at-product q 6
at-product (b ∷ q) (suc (suc (suc (suc (suc (suc (suc (suc zero)))))))) = at_ninth _ (at q 7) (at q 6) (at q 5) b (at-product q 7)
at-product (b ∷ q) (suc (suc (suc (suc (suc (suc (suc (suc (suc i))))))))) = at-product q (suc (suc (suc (suc (suc (suc (suc (suc i))))))))

-- two lists of one length with the same bits are one
same_lists : (xs ys : List Bool) → length xs ≡ length ys → ((i : ℕ) → i < length xs → at xs i ≡ at ys i) → xs ≡ ys
same_lists [] [] e h = refl
same_lists [] (y ∷ ys) e h = absurd (omega arith)
same_lists (x ∷ xs) [] e h = absurd (omega arith)
same_lists (x ∷ xs) (y ∷ ys) e h =
    ap (λ z. z ∷ xs) (h 0 (omega arith)) ∙ ap (λ zs. y ∷ zs) (same_lists xs ys (omega arith) (λ i lt. h (suc i) (omega arith)))

is_product : (r : Remainder) (xs q : List Bool) → IsMultiple (listed r xs) q → listed r xs ≡ listed (product q).front (product q).rest
is_product r xs q m =
    same_lists (listed r xs) (listed (product q).front (product q).rest) (omega (arith, m.shorter, length-product q)) (λ i lt. m.bits i lt ∙ sym (at-product q i))

-- the remainder of a list of eight bits or more, by its first eight bits and the rest
abbrev left_of : List Bool → Remainder
left_of (a ∷ b ∷ c ∷ d ∷ e ∷ f ∷ g ∷ h ∷ xs) = remainder_from (record { x7 = a; x6 = b; x5 = c; x4 = d; x3 = e; x2 = f; x1 = g; x0 = h }) xs
left_of _ = nothing

listed_leaves_nothing : (r : Remainder) (xs : List Bool) → IsBlock (listed r xs) → remainder_from r xs ≡ nothing
listed_leaves_nothing r xs m = ap left_of (is_product r xs m.0 m.1) ∙ product_leaves_nothing m.0

is_block_listed : (r : Remainder) (xs : List Bool) → remainder_from r xs ≡ nothing → IsBlock (listed r xs)
is_block_listed r xs h =
    let q = quotient r xs in
    let e = product-quotient r xs h in (
      q,
      record {
        shorter = omega (arith, length-quotient r xs);
        bits = λ i lt. ap (λ (p : Product). at (listed p.front p.rest) i) (sym e) ∙ at-product q i;
      },
    )

-- what a block leaves, and which lists leave nothing
pub remainder_of_block : (x : List Bool) → IsBlock x → remainder x ≡ nothing
remainder_of_block (a ∷ b ∷ c ∷ d ∷ e ∷ f ∷ g ∷ h ∷ xs) m =
    listed_leaves_nothing (record { x7 = a; x6 = b; x5 = c; x4 = d; x3 = e; x2 = f; x1 = g; x0 = h }) xs m
remainder_of_block _ m = absurd (omega (arith, m.1.shorter))

pub is_block : (x : List Bool) → 8 ≤ length x → remainder x ≡ nothing → IsBlock x
is_block (a ∷ b ∷ c ∷ d ∷ e ∷ f ∷ g ∷ h ∷ xs) long none =
    is_block_listed (record { x7 = a; x6 = b; x5 = c; x4 = d; x3 = e; x2 = f; x1 = g; x0 = h }) xs none
is_block _ long none = absurd (omega arith)
