-- The bits of a subframe, four in each byte: a number of these bytes.
use Rattle.std.proofs.Common.{◌≡◌, ℕ, ◌+◌, ◌*◌, ◌/◌, ◌%◌, ◌^◌, ◌<◌, refl, arith}
use Rattle.std.specs.Int.{w64, swap_bytes}
use Rattle.std.proofs.lemmas.Nat.{le_bytes_8}
use Rattle.audio_out.specs.declared.subframe.Subframe.{Subframe}
use Rattle.audio_out.proofs.FoursRead.{AreFours}
use Rattle.biphase_listing.specs.Fours.{HasFours, six_bytes, turned}

eight_bytes : (n a b c d e f g : ℕ) → n < 2 ^ 64 → n / 256 % 256 ≡ a → n / 65536 % 256 ≡ b → n / 16777216 % 256 ≡ c → n / 4294967296 % 256 ≡ d → n / 1099511627776 % 256 ≡ e → n / 281474976710656 % 256 ≡ f → n / 72057594037927936 % 256 ≡ g
    → n ≡ n % 256 + 256 * (a + 256 * b + 65536 * c + 16777216 * d + 4294967296 * e + 1099511627776 * f) + 72057594037927936 * g
eight_bytes n a b c d e f g lt ea eb ec ed ee ef eg = omega arith

pub has_fours : (sub : Subframe) (n : ℕ) → n < 2 ^ 64 → AreFours sub n → HasFours sub n
has_fours sub n lt are = grind (arith, eight_bytes)

-- the six bytes of the value, in turned order
swapped_is : (n a b c d e f g h : ℕ) → a < 256 → b < 256 → c < 256 → d < 256 → e < 256 → f < 256 → g < 256 → h < 256
    → n ≡ a + 256 * b + 65536 * c + 16777216 * d + 4294967296 * e + 1099511627776 * f + 281474976710656 * g + 72057594037927936 * h
    → swap_bytes w64 n ≡ h + 256 * g + 65536 * f + 16777216 * e + 4294967296 * d + 1099511627776 * c + 281474976710656 * b + 72057594037927936 * a
swapped_is n a b c d e f g h la lb lc ld le lf lg lh is = grind (arith, le_bytes_8)

-- the digits of a number of six, in base 16
digits_of : (a b c d e f n : ℕ) → a < 16 → b < 16 → c < 16 → d < 16 → e < 16 → f < 16 → n ≡ a + 16 * b + 256 * c + 4096 * d + 65536 * e + 1048576 * f
    → (n % 16 ≡ a) × (n / 16 % 16 ≡ b) × (n / 256 % 16 ≡ c) × (n / 4096 % 16 ≡ d) × (n / 65536 % 16 ≡ e) × (n / 1048576 % 16 ≡ f)
digits_of a b c d e f n la lb lc ld le lf is = (omega arith, omega arith, omega arith, omega arith, omega arith, omega arith)

pub turned_six : (byte : ℕ → ℕ) (v : ℕ)
    → six_bytes byte (turned v)
    ≡ byte (v / 1048576 % 16) + 256 * byte (v / 65536 % 16) + 65536 * byte (v / 4096 % 16) + 16777216 * byte (v / 256 % 16) + 4294967296 * byte (v / 16 % 16) + 1099511627776 * byte (v % 16)
turned_six byte v =
    let below : (k : ℕ) → k % 16 < 16 = λ k. omega arith in
    let at = digits_of _ _ _ _ _ _ (turned v) (below (v / 1048576)) (below (v / 65536)) (below (v / 4096)) (below (v / 256)) (below (v / 16)) (below v) refl in
    λ i. byte (at.0 i) + 256 * byte (at.1 i) + 65536 * byte (at.2 i) + 16777216 * byte (at.3 i) + 4294967296 * byte (at.4 i) + 1099511627776 * byte (at.5 i)

pub six_fours : (sub : Subframe) (n : ℕ) → n < 2 ^ 64 → HasFours sub n → swap_bytes w64 n / 256 % 281474976710656 ≡ six_bytes (λ k. k) (turned sub.value)
six_fours sub n fits h = grind (arith, swapped_is, turned_six)

-- and the flags
pub flags_fours : (sub : Subframe) (n : ℕ) → sub.flags < 8 → HasFours sub n → n / 72057594037927936 % 8 ≡ sub.flags
flags_fours sub n lt h = omega (arith, h.below, h.fours_are)
