-- The words of the columns that spell periods: control words in control columns, and in all others words of at most
-- five turns.
use Rattle.std.proofs.Common.{◌≡◌, ℕ, suc, zero, ◌+◌, ◌/◌, ◌%◌, ◌<◌, ◌≤◌, Bool, true, false, List, [], ◌∷◌, ◌++◌, map, length, get_or, replicate, refl, sym, ◌∙◌, subst, append_assoc, arith, nat_le, nat_lt, take}
use Rattle.std.specs.List.{list_all}
use Rattle.std.proofs.lemmas.Bool.{ltb-true, leb-true}
use Rattle.std.proofs.lemmas.List.{length-map, get_or-map}
use Rattle.tmds_word.specs.Bits.{word_bits, bits_of, turns, unlike}
use Rattle.tmds_word.specs.Column.{Column, column_of}
use Rattle.tmds_word.proofs.Below.{and-left, and-right}
use Rattle.tmds_code.specs.Coding.{sign_of}
use Rattle.tmds_code.specs.Lanes.{IsLane, disparity_of}
use Rattle.tmds_code.proofs.TableWords.{coded_turns}
use Rattle.terc4.specs.Tables.{control_words, terc_words, video_guard, island_guard, is_in, is_control, is_terc}
use Rattle.terc4.proofs.Words.{terc_turns}
use Rattle.island_pack.specs.Periods.{Period, control, video, island, Pixel, pixels_of}
use Rattle.island_pack.specs.Conforming.{IsConforming, conforms, are_bytes}
use Rattle.island_pack.specs.Packets.{CarriesFreely}
use Rattle.island_pack.specs.Spelling.{control_column, SpellsPixels, guard_column, column_words, SpellsPacketsBy, SpellsPeriodBy, SpellsBy, Spells, freely}
use Rattle.island_pack.specs.declared.packet.Packet.{Packet}
use Rattle.island_pack.specs.Sparse.{no_column, column_at}
use Rattle.island_pack.specs.Kinds.{Kind, control_column as control_kind, first_guard, second_guard, guard_pair, kinds_in, kinds_of}
use Rattle.link_laws.proofs.Freely.{free_spelled}
use Rattle.link_laws.proofs.Conformed.{conforming, HasValues, has_values}
use Rattle.link_laws.proofs.VideoReported.{pixel_count}
use Rattle.link_laws.proofs.SpelledWords.{packets_size}

-- what a word of a column of a kind is
pub record FitsWord (k : Kind) (w : ℕ) : Type 0 where
  pub controls : k ≡ control_kind → is_control w ≡ true
  pub others : (k ≡ control_kind → ⊥) → turns (word_bits w) ≤ 5

pub record FitsColumn (k : Kind) (c : Column) : Type 0 where
  pub blue : FitsWord k c.blue
  pub green : FitsWord k c.green
  pub red : FitsWord k c.red

-- column by column
pub data Fitting : List Kind → List Column → Type 0 where
  no_columns : Fitting [] []
  column : (k : Kind) (c : Column) (ks : List Kind) (cs : List Column) → FitsColumn k c → Fitting ks cs → Fitting (k ∷ ks) (c ∷ cs)

-- three words of at most five turns
pub record HasFewTurns (c : Column) : Type 0 where
  pub blue : turns (word_bits c.blue) ≤ 5
  pub green : turns (word_bits c.green) ≤ 5
  pub red : turns (word_bits c.red) ≤ 5

fit_other : (k : Kind) (c : Column) → (k ≡ control_kind → ⊥) → HasFewTurns c → FitsColumn k c
fit_other k c apart h = grind arith

-- Control columns.

fits_control : (v : ℕ) → v < 4 → FitsWord control_kind (get_or control_words v 0)
unfolding is_control is_in control_words
fits_control v lt = grind arith

fit_control : (vs : List ℕ) (ks : List Kind) (cs : List Column) → Fitting ks cs → Fitting (replicate (length vs) control_kind ++ ks) (map control_column vs ++ cs)
fit_control [] ks cs h = h
fit_control (v ∷ vs) ks cs h =
    column control_kind (control_column v) _ _
    (record {
      blue = fits_control (v % 4) (omega arith);
      green = fits_control (v / 4 % 4) (omega arith);
      red = fits_control (v / 16 % 4) (omega arith);
    })
    (fit_control vs ks cs h)

-- Guard columns.

passes_at_all : (p : ℕ → Bool) (ws : List ℕ) (i : ℕ) → p 0 ≡ true → list_all p ws ≡ true → p (get_or ws i 0) ≡ true
passes_at_all p [] i z h = z
passes_at_all p (w ∷ ws) zero z h = and-left _ _ h
passes_at_all p (w ∷ ws) (suc i) z h = passes_at_all p ws i z (and-right _ _ h)

abbrev is_minimized : ℕ → Bool
is_minimized w = nat_le (turns (word_bits w)) 5

terc_test : list_all is_minimized terc_words ≡ true
unfolding terc_words turns word_bits bits_of unlike
terc_test = refl

video_test : list_all is_minimized video_guard ≡ true
unfolding video_guard turns word_bits bits_of unlike
video_test = refl

minimized_at : (ws : List ℕ) (i : ℕ) → list_all is_minimized ws ≡ true → turns (word_bits (get_or ws i 0)) ≤ 5
unfolding turns word_bits bits_of unlike
minimized_at ws i h = grind (arith, leb-true, passes_at_all)

fit_guard : (sync : ℕ) → HasFewTurns (guard_column sync)
unfolding island_guard turns word_bits bits_of unlike
fit_guard sync = grind (arith, minimized_at, terc_test, leb-true)

fit_video_guard : HasFewTurns (column_of video_guard)
fit_video_guard = record {
  blue = minimized_at video_guard 0 video_test;
  green = minimized_at video_guard 1 video_test;
  red = minimized_at video_guard 2 video_test;
}

-- Columns of pixels and packets.

pub data ArePayload : List Column → Type 0 where
  none : ArePayload []
  more : (c : Column) (cs : List Column) → HasFewTurns c → ArePayload cs → ArePayload (c ∷ cs)

payload_both : (xs ys : List Column) → ArePayload xs → ArePayload ys → ArePayload (xs ++ ys)
payload_both _ ys none h = h
payload_both _ ys (more x xs here rest) h = more x (xs ++ ys) here (payload_both xs ys rest h)

payload_from : (cs : List Column) → ((i : ℕ) → i < length cs → HasFewTurns (column_at cs i)) → ArePayload cs
payload_from [] each = none
payload_from (c ∷ cs) each = more c cs (each zero (omega arith)) (payload_from cs (λ i lt. each (suc i) (omega arith)))

fit_payload : (k : Kind) → (k ≡ control_kind → ⊥) → (pp : List Column) (ks : List Kind) (cs : List Column) → ArePayload pp → Fitting ks cs → Fitting (replicate (length pp) k ++ ks) (pp ++ cs)
fit_payload k apart _ ks cs none h = h
fit_payload k apart _ ks cs (more c pp here rest) h = column k c _ _ (fit_other k c apart here) (fit_payload k apart pp ks cs rest h)

-- a pair of guard columns
fit_pair : (c d : Column) (ks : List Kind) (cs : List Column) → HasFewTurns c → HasFewTurns d → Fitting ks cs → Fitting (guard_pair ++ ks) (c ∷ (d ∷ cs))
fit_pair c d ks cs first second h =
    column first_guard c _ _ (fit_other first_guard c (λ e. cc) first) (column second_guard d _ _ (fit_other second_guard d (λ e. cc) second) h)

-- Pixels.

pub record IsSmall (p : Pixel) : Type 0 where
  pub red : p.red < 256
  pub green : p.green < 256
  pub blue : p.blue < 256

abbrev no_pixel : Pixel
no_pixel = record { red = 0; green = 0; blue = 0 }

none_small : IsSmall no_pixel
none_small = record { red = omega arith; green = omega arith; blue = omega arith }

small_pixels : (bytes : List ℕ) (j : ℕ) → are_bytes bytes ≡ true → IsSmall (get_or (pixels_of bytes) j no_pixel)
unfolding pixels_of
small_pixels [] j h = none_small
small_pixels (r ∷ []) j h = none_small
small_pixels (r ∷ (g ∷ [])) j h = none_small
small_pixels (r ∷ (g ∷ (b ∷ rest))) zero h = grind (arith, and-right, ltb-true, and-left)
small_pixels (r ∷ (g ∷ (b ∷ rest))) (suc j) h =
    small_pixels rest j (and-right (nat_lt b 256) _ (and-right (nat_lt g 256) _ (and-right (nat_lt r 256) _ h)))

lane_minimized : (bytes words : List ℕ) → IsLane bytes words → (j : ℕ) → j < length words → get_or bytes j 0 < 256 → turns (word_bits (get_or words j 0)) ≤ 5
lane_minimized bytes words lane j lt small =
    subst (λ w. turns (word_bits w) ≤ 5) (sym (lane.coded j lt)) (coded_turns (sign_of (disparity_of (take j words))) (get_or bytes j 0) small)

-- one lane of pixels
pixel_minimized : (f : Pixel → ℕ) (g : Column → ℕ) (pixels : List Pixel) (pp : List Column) → IsLane (map f pixels) (map g pp)
    → (j : ℕ) → j < length pp → f (get_or pixels j no_pixel) < 256 → turns (word_bits (g (column_at pp j))) ≤ 5
pixel_minimized f g pixels pp lane j lt small =
    let same = lane.same_length in
    let a = length-map pixels f in
    let b = length-map pp g in
    let byte : get_or (map f pixels) j 0 ≡ f (get_or pixels j no_pixel) = get_or-map f pixels j no_pixel 0 (omega arith) in
    grind (arith, get_or-map, lane_minimized)

pixels_payload : (bytes : List ℕ) (pp : List Column) → are_bytes bytes ≡ true → SpellsPixels (pixels_of bytes) pp → ArePayload pp
pixels_payload bytes pp small h = payload_from pp (λ j lt. record {
  blue = pixel_minimized (λ p. p.blue) (λ c. c.blue) (pixels_of bytes) pp h.blue j lt (small_pixels bytes j small).blue;
  green = pixel_minimized (λ p. p.green) (λ c. c.green) (pixels_of bytes) pp h.green j lt (small_pixels bytes j small).green;
  red = pixel_minimized (λ p. p.red) (λ c. c.red) (pixels_of bytes) pp h.red j lt (small_pixels bytes j small).red;
})

pub length-spelled : (pixels : List Pixel) (pp : List Column) → SpellsPixels pixels pp → length pp ≡ length pixels
length-spelled pixels pp h = grind (arith, length-map)

-- Packets.

packet_payload : (p : Packet) (own : List Column) → CarriesFreely p (map column_words own) → ArePayload own
packet_payload p own h = payload_from own (λ i lt.
    let many = length-map own column_words in
    let words : get_or (map column_words own) i [] ≡ column_words (column_at own i) = get_or-map column_words own i no_column [] lt in
    let few : (lane : ℕ) → lane < 3 → turns (word_bits (get_or (column_words (column_at own i)) lane 0)) ≤ 5 =
    λ lane within. terc_turns _ (subst (λ ws. is_terc (get_or ws lane 0) ≡ true) words (h.terc lane within i [] (omega arith))) in
    record { blue = few 0 (omega arith); green = few 1 (omega arith); red = few 2 (omega arith) })

packets_payload : (first : Bool) (packets : List Packet) (cs : List Column) → SpellsPacketsBy freely first packets cs → ArePayload cs
packets_payload first [] cs h = subst ArePayload (sym h) none
packets_payload first (p ∷ ps) cs h =
    subst ArePayload (sym h.2) (payload_both h.0 h.1 (packet_payload p h.0 h.3) (packets_payload false ps h.1 h.4))

-- Periods.

fit_video : (bytes : List ℕ) (own : List Column) (ks : List Kind) (cs : List Column) → are_bytes bytes ≡ true → SpellsPeriodBy freely (video bytes) own → Fitting ks cs
    → Fitting (kinds_in (video bytes) ++ ks) (own ++ cs)
unfolding kinds_in
fit_video bytes own ks cs small h fit =
    let pp = h.0 in
    let n : length pp ≡ length bytes / 3 = length-spelled (pixels_of bytes) pp h.2 ∙ pixel_count bytes in
    grind (arith, fit_payload, pixels_payload, fit_pair, fit_video_guard)

fit_periods : (ps : List Period) (sent : List Column) → HasValues ps → SpellsBy freely ps sent → Fitting (kinds_of ps) sent
unfolding HasValues kinds_of kinds_in
fit_periods [] sent small h = subst (λ cs. Fitting [] cs) (sym h) no_columns
fit_periods (control runs ∷ ps) sent small h = grind (arith, fit_control, fit_periods ps)
fit_periods (video bytes ∷ ps) sent small h =
    subst (λ cs. Fitting (kinds_of (video bytes ∷ ps)) cs) (sym h.2) (fit_video bytes h.0 (kinds_of ps) h.1 small.0 h.3 (fit_periods ps h.1 small.1 h.4))
fit_periods (island x ∷ ps) sent small h = grind (arith, fit_pair, fit_guard, packets_size, fit_payload, packets_payload, append_assoc, fit_periods ps)

-- the columns that spell conforming periods fit their kinds
pub fitting_freely : (ps : List Period) (sent : List Column) → IsConforming ps → SpellsBy freely ps sent → Fitting (kinds_of ps) sent
fitting_freely ps sent conforms spelled = fit_periods ps sent (has_values ps (conforming ps conforms)) spelled

pub fitting : (ps : List Period) (sent : List Column) → IsConforming ps → Spells ps sent → Fitting (kinds_of ps) sent
fitting ps sent conforms spelled = fitting_freely ps sent conforms (free_spelled ps sent spelled)
