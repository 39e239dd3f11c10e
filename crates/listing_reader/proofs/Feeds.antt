-- Where the first line feed stands, and parts with none.
use Rattle.std.proofs.Common.{◌≡◌, ℕ, zero, suc, ◌+◌, ◌-◌, ◌<◌, ◌≤◌, Bool, true, false, not, ◌&&◌, ◌==◌, IsTrue, List, [], ◌∷◌, length, take, drop, refl, sym, inl, inr, ◌∙◌, arith, take_all, length-drop}
use Rattle.std.specs.Prelude.{slice_index, Some, None}
use Rattle.std.proofs.lemmas.Bool.{cases_lt, eqb-true}
use Rattle.std.proofs.lemmas.List.{get_or-drop}
use Rattle.memchr.specs.Find.{IsFirstByte, Nowhere, Passes, is_byte}
use Rattle.listing_reader.specs.Held.{is_feedless, IsFeedAt}

pub and-left : (a b : Bool) → (a && b) ≡ true → a ≡ true
and-left a b h = grind arith

pub and-right : (a b : Bool) → (a && b) ≡ true → b ≡ true
and-right a b h = grind arith

pub both : (a b : Bool) → a ≡ true → b ≡ true → (a && b) ≡ true
both a b h k = grind arith

pub not-is : (b : Bool) → not b ≡ true → b ≡ false
not-is b h = grind arith

not-of : (b : Bool) → ¬ (b ≡ true) → not b ≡ true
not-of b h = grind arith

pub feedless_here : (xs : List ℕ) (n : ℕ) → ((i : ℕ) → i < n → i < length xs → ¬ ((slice_index xs i == 10) ≡ true)) → is_feedless (take n xs) ≡ true
feedless_here [] zero h = refl
feedless_here [] (suc n) h = refl
feedless_here (x ∷ xs) zero h = refl
feedless_here (x ∷ xs) (suc n) h =
    both _ _ (not-of (x == 10) (h 0 (omega arith) (omega arith)))
    (feedless_here xs n (λ i less within. h (suc i) (omega arith) (omega arith)))

pub feedless_at : (xs : List ℕ) (n i : ℕ) → is_feedless (take n xs) ≡ true → i < n → i < length xs → ¬ ((slice_index xs i == 10) ≡ true)
feedless_at [] n i h less within here = omega arith
feedless_at (x ∷ xs) zero i h less within here = omega arith
feedless_at (x ∷ xs) (suc n) zero h less within here = cc (sym here ∙ not-is (x == 10) (and-left _ _ h))
feedless_at (x ∷ xs) (suc n) (suc i) h less within here =
    feedless_at xs n i (and-right (not (x == 10)) _ h) (omega arith) (omega arith) here

slice_index-drop : (xs : List ℕ) (s i : ℕ) → slice_index (drop s xs) i ≡ slice_index xs (s + i)
slice_index-drop xs s i = get_or-drop s xs i 0

-- a part with no line feed, and after it none up to k
feedless_on : (xs : List ℕ) (s k : ℕ) → is_feedless (take s xs) ≡ true → Nowhere (Passes (is_byte 10) (drop s xs)) 0 k → is_feedless (take (s + k) xs) ≡ true
feedless_on xs s k h none = feedless_here xs (s + k) (λ i less within here.
    elim (cases_lt i s) [
      | inl before ↦ feedless_at xs s i h before within here
      | inr after ↦
          let e : s + (i - s) ≡ i = omega arith in
          none (i - s) (omega arith) (omega arith) (rw (slice_index-drop xs s (i - s), e) here)
    ])

pub found_none : (xs : List ℕ) (s : ℕ) → s ≤ length xs → is_feedless (take s xs) ≡ true → IsFirstByte (is_byte 10) (drop s xs) None → IsTrue (is_feedless xs)
found_none xs s within h none =
    let e : s + length (drop s xs) ≡ length xs = omega (arith, length-drop s xs) in
    let all : take (s + length (drop s xs)) xs ≡ xs = take_all _ xs (omega arith) in
    rw all at (feedless_on xs s (length (drop s xs)) h none)

pub found_at : (xs : List ℕ) (s k : ℕ) → s ≤ length xs → is_feedless (take s xs) ≡ true → IsFirstByte (is_byte 10) (drop s xs) (Some k) → IsFeedAt xs (s + k)
found_at xs s k within h first = grind (arith, length-drop, slice_index-drop, eqb-true, feedless_on)
