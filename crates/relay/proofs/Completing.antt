-- A block is determined by all its bits but the last eight.
use Rattle.std.proofs.Common.{◌≡◌, ℕ, suc, zero, ◌+◌, ◌*◌, Bool, List, [], ◌∷◌, length, take, refl, ap, sym, ◌∙◌, arith}
use Rattle.bch_block.specs.Bits.{xor}
use Rattle.bch_block.specs.Division.{Remainder, nothing, remainder_from, times_power}
use Rattle.bch_block.proofs.Quotient.{remainder_of_block}
use Rattle.bch_block.proofs.Sums.{plus, nothing-plus, remainder_from-plus}
use Rattle.island_pack.specs.Packets.{BeginsWith}

same_term : (a b s : Bool) → xor a s ≡ xor b s → a ≡ b
same_term a b s h = grind arith

same_terms : (r s t : Remainder) → plus r t ≡ plus s t → r ≡ s
same_terms r s t h =
    let ex7 = same_term r.x7 s.x7 t.x7 (ap (λ (u : Remainder). u.x7) h) in
    let ex6 = same_term r.x6 s.x6 t.x6 (ap (λ (u : Remainder). u.x6) h) in
    let ex5 = same_term r.x5 s.x5 t.x5 (ap (λ (u : Remainder). u.x5) h) in
    let ex4 = same_term r.x4 s.x4 t.x4 (ap (λ (u : Remainder). u.x4) h) in
    grind (arith, same_term)

listed : Remainder → List Bool
listed r = r.x7 ∷ (r.x6 ∷ (r.x5 ∷ (r.x4 ∷ (r.x3 ∷ (r.x2 ∷ (r.x1 ∷ (r.x0 ∷ [])))))))

-- eight bits are their own remainder
eight_back : (xs : List Bool) → length xs ≡ 8 → listed (remainder_from nothing xs) ≡ xs
unfolding listed
eight_back (a ∷ (b ∷ (c ∷ (d ∷ (e ∷ (f ∷ (g ∷ (h ∷ [])))))))) long = refl
eight_back _ long = absurd (omega arith)

eight_from : (r : Remainder) (xs : List Bool) → length xs ≡ 8 → remainder_from r xs ≡ plus (remainder_from nothing xs) (times_power r 8)
eight_from r xs long =
    ap (λ (s : Remainder). remainder_from s xs) (sym (nothing-plus r)) ∙ remainder_from-plus xs nothing r ∙ ap (λ n. plus (remainder_from nothing xs) (times_power r n)) long

last_eight : (r : Remainder) (xs ys : List Bool) → length xs ≡ 8 → length ys ≡ 8 → remainder_from r xs ≡ remainder_from r ys → xs ≡ ys
last_eight r xs ys lx ly e =
    let same = same_terms (remainder_from nothing xs) (remainder_from nothing ys) (times_power r 8) (sym (eight_from r xs lx) ∙ e ∙ eight_from r ys ly) in
    sym (eight_back xs lx) ∙ ap listed same ∙ eight_back ys ly

begin_alike : (n : ℕ) (r : Remainder) (xs ys : List Bool) → length xs ≡ n + 8 → length ys ≡ n + 8 → take n xs ≡ take n ys → remainder_from r xs ≡ remainder_from r ys → xs ≡ ys
begin_alike zero r xs ys lx ly t e = last_eight r xs ys (omega arith) (omega arith) e
begin_alike (suc n) r [] ys lx ly t e = absurd (omega arith)
begin_alike (suc n) r (x ∷ xs) [] lx ly t e = absurd (omega arith)
begin_alike (suc n) r (x ∷ xs) (y ∷ ys) lx ly t e = grind (arith, begin_alike n)

-- blocks that begin with the bits of the same bytes are the same
pub one_block : (x y : List Bool) (bytes : List ℕ) → BeginsWith x bytes → BeginsWith y bytes → x ≡ y
one_block x y bytes h k =
    begin_alike (8 * length bytes) nothing x y h.bits k.bits (h.begins ∙ sym k.begins) (remainder_of_block x h.block ∙ sym (remainder_of_block y k.block))
