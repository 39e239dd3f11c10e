-- The bit of a pair's body, of a byte that says which bodies are present: each byte, pair and body is computed.
use Rattle.std.proofs.Common.{◌≡◌, ℕ, ◌*◌, ◌%◌, ◌^◌, ◌<◌, Bool, true, false, cond, [], ◌∷◌, bit_and, ◌==◌, ◌&&◌, refl, ap, ◌∙◌, sym, arith}
use Rattle.std.specs.Prelude.{filter, not}
use Rattle.bch_block.specs.Bits.{bit}
use Rattle.tmds_word.proofs.Below.{passes_below, passes_at}
use Rattle.audio_packets.specs.Samples.{has_pair}

-- whether two bits are alike
unfoldable pub same : Bool → Bool → Bool
same true b = b
same false b = not b

pub same_is : (a b : Bool) → same a b ≡ true → a ≡ b
unfolding same
same_is a b h = grind arith

unfoldable one_holds : ℕ → ℕ → ℕ → Bool
one_holds present pair place = same (bit (bit_and present (1 * 2 ^ pair % 256)) place) (bit present place && (place == pair))

all_hold : passes_below 256 (λ present. passes_below 4 (λ pair. passes_below 4 (λ place. one_holds present pair place))) ≡ true
unfolding passes_below one_holds same
all_hold = refl

one_place : (present pair place : ℕ) → present < 256 → pair < 4 → place < 4
    → bit (bit_and present (1 * 2 ^ pair % 256)) place ≡ bit present place && (place == pair)
unfolding one_holds
one_place present pair place a b c =
    same_is _ _
    (passes_at 4 (λ k. one_holds present pair k) place
    (passes_at 4 (λ j. passes_below 4 (λ k. one_holds present j k)) pair
    (passes_at 256 (λ i. passes_below 4 (λ j. passes_below 4 (λ k. one_holds i j k))) present all_hold a) b) c)

-- a test of four places
pub filter_four : (p q : ℕ → Bool) → ((place : ℕ) → place < 4 → p place ≡ q place) → filter p (0 ∷ 1 ∷ 2 ∷ 3 ∷ []) ≡ filter q (0 ∷ 1 ∷ 2 ∷ 3 ∷ [])
filter_four p q h = grind arith

pub masked_pair : (present pair : ℕ) → present < 256 → pair < 4 → bit present 4 ≡ true
    → filter (bit (bit_and present (1 * 2 ^ pair % 256))) (0 ∷ 1 ∷ 2 ∷ 3 ∷ []) ≡ filter (has_pair present pair) (0 ∷ 1 ∷ 2 ∷ 3 ∷ [])
masked_pair present pair a b many =
    filter_four _ _
    (λ place c. one_place present pair place a b c ∙ ap (λ layout. bit present place && cond layout (place == pair) (pair == 0)) (sym many))
