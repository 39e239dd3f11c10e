-- The bytes of a source where they are known, and four bytes as a count.
use Rattle.std.proofs.Common.{◌≡◌, ℕ, suc, zero, ◌+◌, ◌*◌, ◌/◌, ◌%◌, ◌^◌, ◌<◌, Bool, true, false, List, [], ◌∷◌, ◌++◌, length, take, drop, get_or, refl, arith}
use Rattle.std.specs.Prelude.{Option, Some}
use Rattle.std.specs.Io.KnownBytes.{Consumes}
use Rattle.capture_file.specs.Layout.{high_first}
use Rattle.capture_file.specs.Captures.{AreBytes}

pub consumed : (old new : Option (List ℕ)) (bytes xs : List ℕ) → old ≡ Some bytes → Consumes old new xs → (rest : List ℕ) × (bytes ≡ xs ++ rest) × (new ≡ Some rest)
consumed old new bytes xs e h = grind arith

pub take_bytes : (n : ℕ) (xs : List ℕ) → AreBytes xs → AreBytes (take n xs)
take_bytes zero xs h i = omega arith
take_bytes (suc n) [] h i = omega arith
take_bytes (suc n) (x ∷ xs) h zero = h 0
take_bytes (suc n) (x ∷ xs) h (suc i) = take_bytes n xs (λ k. h (suc k)) i

-- four bytes are some count
pub high_first-of : (a b c d : ℕ) → a < 256 → b < 256 → c < 256 → d < 256 → (bits : ℕ) × (bits < 2 ^ 32) × (high_first bits ≡ a ∷ b ∷ c ∷ d ∷ [])
unfolding high_first
high_first-of a b c d la lb lc ld =
    let n = a * 16777216 + b * 65536 + c * 256 + d in
    let e0 : n / 2 ^ 24 % 256 ≡ a = omega arith in
    grind arith

pub four_of : (xs : List ℕ) → length xs ≡ 4 → xs ≡ get_or xs 0 0 ∷ get_or xs 1 0 ∷ get_or xs 2 0 ∷ get_or xs 3 0 ∷ []
four_of [] len = absurd (omega arith)
four_of (a ∷ []) len = absurd (omega arith)
four_of (a ∷ (b ∷ [])) len = absurd (omega arith)
four_of (a ∷ (b ∷ (c ∷ []))) len = absurd (omega arith)
four_of (a ∷ (b ∷ (c ∷ (d ∷ [])))) len = refl
four_of (a ∷ (b ∷ (c ∷ (d ∷ (e ∷ xs))))) len = absurd (omega arith)

pub get_drop : (n i : ℕ) (xs : List ℕ) → AreBytes xs → get_or (drop n xs) i 0 < 256
get_drop zero i xs h = h i
get_drop (suc n) i [] h = h 0
get_drop (suc n) i (x ∷ xs) h = get_drop n i xs (λ k. h (suc k))

pub four_bytes : (a b c d : ℕ) → a < 256 → b < 256 → c < 256 → d < 256 → AreBytes (a ∷ b ∷ c ∷ d ∷ [])
four_bytes a b c d h k l m p = grind arith

pub clash : (b : Bool) → b ≡ true → b ≡ false → ⊥
clash b h k = grind arith
