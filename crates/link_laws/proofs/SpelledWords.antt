-- The words and the sizes of columns that spell periods.
use Rattle.std.proofs.Common.{◌≡◌, ℕ, suc, ◌*◌, ◌<◌, true, false, Bool, List, [], ◌∷◌, length, map, get_or, refl, ap, arith, length-append}
use Rattle.std.specs.Prelude.{nat_lt, ℤ}
use Rattle.std.proofs.lemmas.Bool.{ltb-true}
use Rattle.std.proofs.lemmas.List.{length-map}
use Rattle.tmds_word.specs.Column.{Column}
use Rattle.tmds_word.proofs.Below.{and-left, and-right}
use Rattle.tmds_code.specs.Coding.{Coded}
use Rattle.tmds_code.specs.Lanes.{IsLane}
use Rattle.tmds_code.proofs.TableWords.{decoded_coded, coded_turns}
use Rattle.terc4.proofs.Words.{few_turns}
use Rattle.island_pack.specs.Periods.{Pixel, Period, pixels_of, period_columns}
use Rattle.island_pack.specs.Conforming.{are_bytes}
use Rattle.island_pack.specs.Spelling.{SpellsPacketsBy, SpellsPeriod, SpellsPeriodBy, freely}
use Rattle.island_pack.specs.declared.packet.Packet.{Packet}
use Rattle.link_laws.proofs.Freely.{free_period}
use Rattle.link_laws.proofs.Rows.{and_both}
use Rattle.link_laws.proofs.VideoReported.{IsWord, pixel_count}
use Rattle.link_laws.proofs.IslandColumns.{packet_sent}

-- Words.

is_word : (d : ℤ) (b w : ℕ) → b < 256 → Coded d b w → IsWord b w
is_word d b w lt e = grind (arith, decoded_coded, coded_turns, few_turns)

-- each word is one that codes its byte
unfoldable pub AreWords : List ℕ → List ℕ → Type 0
AreWords [] [] = Unit {0}
AreWords [] (w ∷ ws) = ⊥
AreWords (b ∷ bs) [] = ⊥
AreWords (b ∷ bs) (w ∷ ws) = IsWord b w × AreWords bs ws

are_words : (bs ws : List ℕ) → are_bytes bs ≡ true → length ws ≡ length bs
    → ((j : ℕ) → j < length ws → (d : ℤ) × Coded d (get_or bs j 0) (get_or ws j 0)) → AreWords bs ws
unfolding AreWords
are_words [] [] small long coded = tt
are_words [] (w ∷ ws) small long coded = absurd (omega arith)
are_words (b ∷ bs) [] small long coded = absurd (omega arith)
are_words (b ∷ bs) (w ∷ ws) small long coded =
    let here = coded 0 (omega arith) in (
      is_word here.0 b w (ltb-true _ _ (and-left _ _ small)) here.1,
      are_words bs ws (and-right _ _ small) (omega arith) (λ j lt. coded (suc j) (omega arith)),
    )

pub lane_words : (bs ws : List ℕ) → are_bytes bs ≡ true → IsLane bs ws → AreWords bs ws
lane_words bs ws small lane = are_words bs ws small lane.same_length (λ j lt. (_, lane.coded j lt))

-- the bytes of one lane's pixels
small_lane : (f : Pixel → ℕ) → ((p : Pixel) → nat_lt p.red 256 ≡ true → nat_lt p.green 256 ≡ true → nat_lt p.blue 256 ≡ true → nat_lt (f p) 256 ≡ true)
    → (bytes : List ℕ) → are_bytes bytes ≡ true → are_bytes (map f (pixels_of bytes)) ≡ true
unfolding pixels_of
small_lane f pick [] h = refl
small_lane f pick (r ∷ []) h = refl
small_lane f pick (r ∷ (g ∷ [])) h = refl
small_lane f pick (r ∷ (g ∷ (b ∷ rest))) h = grind (arith, and-right, and_both, and-left, small_lane f pick rest)

pub small_blue : (bytes : List ℕ) → are_bytes bytes ≡ true → are_bytes (map (λ p. p.blue) (pixels_of bytes)) ≡ true
small_blue = small_lane (λ p. p.blue) (λ p r g b. b)

pub small_green : (bytes : List ℕ) → are_bytes bytes ≡ true → are_bytes (map (λ p. p.green) (pixels_of bytes)) ≡ true
small_green = small_lane (λ p. p.green) (λ p r g b. g)

pub small_red : (bytes : List ℕ) → are_bytes bytes ≡ true → are_bytes (map (λ p. p.red) (pixels_of bytes)) ≡ true
small_red = small_lane (λ p. p.red) (λ p r g b. r)

-- Sizes.

pub packets_size : (first : Bool) (ps : List Packet) (pp : List Column) → SpellsPacketsBy freely first ps pp → length pp ≡ 32 * length ps
packets_size first [] pp h = ap length h
packets_size first (p ∷ ps) pp h =
    let own = packet_sent first p h.0 h.3 in
    let rest = packets_size false ps h.1 h.4 in
    grind (arith, length-append)

-- as many columns as the period has
pub period_size_freely : (x : Period) (own : List Column) → SpellsPeriodBy freely x own → length own ≡ period_columns x
unfolding period_columns
period_size_freely x own h = grind (arith, length-map, pixel_count, packets_size, length-append)

pub period_size : (x : Period) (own : List Column) → SpellsPeriod x own → length own ≡ period_columns x
period_size x own h = period_size_freely x own (free_period x own h)
