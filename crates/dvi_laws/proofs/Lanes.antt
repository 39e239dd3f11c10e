-- The lanes of a stream without guard bands, received with sparse damage: each is one in which an edge is the end of a
-- control period, by the laws of a link's lanes as they stand.
use Rattle.std.proofs.Common.{◌≡◌, ℕ, suc, zero, ◌+◌, ◌-◌, ◌*◌, ◌/◌, ◌<◌, ◌≤◌, Bool, true, false, List, [], ◌∷◌, ◌++◌, length, map, get_or, replicate, sym, ◌∙◌, subst, arith, ◌⊎◌, nat_lt, take}
use Rattle.std.proofs.lemmas.Bool.{ltb-true}
use Rattle.std.proofs.lemmas.List.{length-map, get_or-map}
use Rattle.tmds_word.specs.Bits.{word_bits, turns}
use Rattle.tmds_word.specs.Column.{Column, blues, greens, reds}
use Rattle.tmds_word.specs.Taps.{part_of, AreNear}
use Rattle.tmds_word.proofs.Below.{and-left, and-right}
use Rattle.tmds_code.specs.Coding.{sign_of}
use Rattle.tmds_code.specs.Lanes.{IsLane, disparity_of}
use Rattle.tmds_code.proofs.TableWords.{coded_turns}
use Rattle.terc4.specs.Tables.{control_words, is_in, is_control}
use Rattle.terc4.proofs.Words.{few_turns}
use Rattle.island_pack.specs.Periods.{Period, control, video, island, values_of, Pixel, pixels_of}
use Rattle.island_pack.specs.Conforming.{are_bytes, is_control_period, is_video_period}
use Rattle.island_pack.specs.Spelling.{control_column, SpellsPixels}
use Rattle.island_pack.specs.Kinds.{Kind, control_column as control_kind, first_guard, second_guard, pixel_column, IsPayload, kind_at, EndsAt}
use Rattle.island_pack.specs.Sparse.{AreFew, no_column, column_at}
use Rattle.lane_deskew.specs.Triples.{IsFirst}
use Rattle.link_laws.specs.LaneEnds.{IsGuard, IsReceived, IsLaneSent, damaged}
use Rattle.link_laws.proofs.LaneEnds.{same_word, length_damaged, kind_cases, edge_ends, first_ends}
use Rattle.link_laws.proofs.Conformed.{is_video_of}
use Rattle.link_laws.proofs.VideoReported.{pixel_count}
use Rattle.link_laws.proofs.Spelled.{FitsColumn, Fitting, no_columns, column, HasFewTurns, ArePayload, IsSmall, length-spelled}
use Rattle.link_laws.proofs.Spelled as spelled
use Rattle.link_laws.proofs.Lanes.{fitting_length, fitting_at, lane_sent, few_marked}
use Rattle.source_end.specs.DviPeriods.{dvi_conforms, IsDviConforming, DviSpells, dvi_kinds_in, dvi_kinds, IsDviSparse, HasThree}
use Rattle.dvi_laws.specs.DviLaws.{DviEnds}
use Rattle.dvi_laws.proofs.Shape.{alternating}

-- Sent columns (as in link_sink.proofs.Spelled, where these are not public).

fit_other : (k : Kind) (c : Column) → (k ≡ control_kind → ⊥) → HasFewTurns c → FitsColumn k c
fit_other k c apart h = grind arith

control_word : (v : ℕ) → v < 4 → is_control (get_or control_words v 0) ≡ true
unfolding is_control is_in control_words
control_word v h = grind arith

fit_control : (vs : List ℕ) (ks : List Kind) (cs : List Column) → Fitting ks cs → Fitting (replicate (length vs) control_kind ++ ks) (map control_column vs ++ cs)
fit_control [] ks cs h = h
fit_control (v ∷ vs) ks cs h = grind (arith, column, control_word, fit_control vs ks cs h)

abbrev no_pixel : Pixel
no_pixel = record { red = 0; green = 0; blue = 0 }

small_pixels : (bytes : List ℕ) (j : ℕ) → are_bytes bytes ≡ true → IsSmall (get_or (pixels_of bytes) j no_pixel)
unfolding pixels_of
small_pixels [] j h = record { red = omega arith; green = omega arith; blue = omega arith }
small_pixels (r ∷ []) j h = record { red = omega arith; green = omega arith; blue = omega arith }
small_pixels (r ∷ (g ∷ [])) j h = record { red = omega arith; green = omega arith; blue = omega arith }
small_pixels (r ∷ (g ∷ (b ∷ rest))) zero h = grind (arith, and-right, ltb-true, and-left)
small_pixels (r ∷ (g ∷ (b ∷ rest))) (suc j) h =
    small_pixels rest j (and-right (nat_lt b 256) _ (and-right (nat_lt g 256) _ (and-right (nat_lt r 256) _ h)))

lane_minimized : (bytes words : List ℕ) → IsLane bytes words → (j : ℕ) → j < length words → get_or bytes j 0 < 256 → turns (word_bits (get_or words j 0)) ≤ 5
lane_minimized bytes words lane j lt small =
    subst (λ w. turns (word_bits w) ≤ 5) (sym (lane.coded j lt)) (coded_turns (sign_of (disparity_of (take j words))) (get_or bytes j 0) small)

pixel_minimized : (f : Pixel → ℕ) (g : Column → ℕ) (pixels : List Pixel) (pp : List Column) → IsLane (map f pixels) (map g pp)
    → (j : ℕ) → j < length pp → f (get_or pixels j no_pixel) < 256 → turns (word_bits (g (column_at pp j))) ≤ 5
pixel_minimized f g pixels pp lane j lt small =
    let same = lane.same_length in
    let a = length-map pixels f in
    let b = length-map pp g in
    let byte : get_or (map f pixels) j 0 ≡ f (get_or pixels j no_pixel) = get_or-map f pixels j no_pixel 0 (omega arith) in
    grind (arith, get_or-map, lane_minimized)

payload_from : (cs : List Column) → ((i : ℕ) → i < length cs → HasFewTurns (column_at cs i)) → ArePayload cs
payload_from [] each = spelled.none
payload_from (c ∷ cs) each = spelled.more c cs (each zero (omega arith)) (payload_from cs (λ i lt. each (suc i) (omega arith)))

pixels_payload : (bytes : List ℕ) (pp : List Column) → are_bytes bytes ≡ true → SpellsPixels (pixels_of bytes) pp → ArePayload pp
pixels_payload bytes pp small h = payload_from pp (λ j lt. record {
  blue = pixel_minimized (λ p. p.blue) (λ c. c.blue) (pixels_of bytes) pp h.blue j lt (small_pixels bytes j small).blue;
  green = pixel_minimized (λ p. p.green) (λ c. c.green) (pixels_of bytes) pp h.green j lt (small_pixels bytes j small).green;
  red = pixel_minimized (λ p. p.red) (λ c. c.red) (pixels_of bytes) pp h.red j lt (small_pixels bytes j small).red;
})

fit_pixels : (n : ℕ) (pp : List Column) (ks : List Kind) (cs : List Column) → length pp ≡ n → ArePayload pp → Fitting ks cs → Fitting (replicate n pixel_column ++ ks) (pp ++ cs)
fit_pixels zero _ ks cs e spelled.none h = h
fit_pixels (suc n) _ ks cs e spelled.none h = absurd (omega arith)
fit_pixels zero _ ks cs e (spelled.more c pp here rest) h = absurd (omega arith)
fit_pixels (suc n) _ ks cs e (spelled.more c pp here rest) h = column pixel_column c _ _ (fit_other pixel_column c (λ f. cc) here) (fit_pixels n pp ks cs (omega arith) rest h)

fit_video : (n : ℕ) (pp : List Column) (ks : List Kind) (cs : List Column) → length pp ≡ n → 1 ≤ n → ArePayload pp → Fitting ks cs
    → Fitting ((first_guard ∷ replicate (n - 1) pixel_column) ++ ks) (pp ++ cs)
fit_video n pp ks cs h k l m = grind (arith, column, fit_other, fit_pixels)

pub fitting : (ps : List Period) (sent : List Column) → IsDviConforming ps → DviSpells ps sent → Fitting (dvi_kinds ps) sent
unfolding dvi_conforms dvi_kinds dvi_kinds_in
fitting [] sent h s = cc
fitting (video bytes ∷ rest) sent h s = cc
fitting (island x ∷ rest) sent h s = cc
fitting (control runs ∷ []) sent h s = grind (arith, Fitting, fit_control, no_columns)
fitting (control runs ∷ (control next ∷ rest)) sent h s = cc
fitting (control runs ∷ (island x ∷ rest)) sent h s = cc
fitting (control runs ∷ (video bytes ∷ rest)) sent h s =
    let v = is_video_of bytes (and-left (is_video_period bytes) _ (and-right (is_control_period runs) _ h)) in
    let more = s.4 in
    let two = more.1 in
    let pp = more.0 in
    let is : sent ≡ map control_column (values_of runs) ++ (pp ++ two) = s.2 ∙ (λ i. s.3 i ++ more.2 i) in
    let count = pixel_count bytes in
    grind (arith, length-spelled, and-right, Fitting, fit_control, fit_video, pixels_payload, fitting rest)

-- No column is of the kind of a second guard column.

abbrev NoSecond : List Kind → Type 0
NoSecond ks = (i : ℕ) → i < length ks → kind_at ks i ≡ second_guard → ⊥

one_second : (k : Kind) (ks : List Kind) → (k ≡ second_guard → ⊥) → NoSecond ks → NoSecond (k ∷ ks)
one_second k ks h l m p q = grind arith

many_second : (n : ℕ) (k : Kind) (ks : List Kind) → (k ≡ second_guard → ⊥) → NoSecond ks → NoSecond (replicate n k ++ ks)
many_second zero k ks apart h = h
many_second (suc n) k ks apart h = one_second k (replicate n k ++ ks) apart (many_second n k ks apart h)

pub no_second : (ps : List Period) → NoSecond (dvi_kinds ps)
unfolding dvi_kinds dvi_kinds_in
no_second [] = grind arith
no_second (control runs ∷ ps) = many_second (length (values_of runs)) control_kind (dvi_kinds ps) (λ e. cc) (no_second ps)
no_second (video bytes ∷ ps) =
    one_second first_guard (replicate (length bytes / 3 - 1) pixel_column ++ dvi_kinds ps) (λ e. cc) (many_second (length bytes / 3 - 1) pixel_column (dvi_kinds ps) (λ e. cc) (no_second ps))
no_second (island x ∷ ps) = no_second ps

-- Received lanes.

guard_cases : (k : Kind) → IsGuard k → (k ≡ first_guard) ⊎ (k ≡ second_guard)
guard_cases k h = grind arith

no_payload : (k : Kind) → k ≡ control_kind → IsPayload k → ⊥
no_payload k e p = subst IsPayload e p

lane_received : (f : Column → ℕ) (ks : List Kind) (ss rs : List Column) → IsLaneSent ks (map f ss) → length rs ≡ length ss
    → ((i : ℕ) → i < length rs → f (column_at rs i) < 1024)
    → ((i : ℕ) → kind_at ks i ≡ control_kind → column_at rs i ≡ column_at ss i)
    → ((i : ℕ) → i < length rs → kind_at ks i ≡ first_guard → is_control (f (column_at rs i)) ≡ false)
    → NoSecond ks → AreFew (map f ss) (map f rs) → IsReceived ks (map f rs) (damaged (map f ss) (map f rs))
lane_received f ks ss rs s long narrow spares first second few =
    let a = length-map ss f in
    let b = length-map rs f in
    let sizes = s.same_length in
    let same_size : length (map f rs) ≡ length (map f ss) = omega arith in
    let marks = damaged (map f ss) (map f rs) in
    let size = length_damaged (map f ss) (map f rs) same_size in
    let word : (i : ℕ) → i < length (map f rs) → get_or (map f rs) i 0 ≡ f (column_at rs i) = λ i lt. get_or-map f rs i no_column 0 (omega arith) in
    let sent : (i : ℕ) → i < length (map f rs) → get_or (map f ss) i 0 ≡ f (column_at ss i) = λ i lt. get_or-map f ss i no_column 0 (omega arith) in
    grind (arith, same_word, kind_cases, few_marked, guard_cases, few_turns, no_payload)
  where
    clash : (x : Bool) → x ≡ false → x ≡ true → ⊥
    clash x h g = cc

-- the three lanes
pub record AreReceived (ps : List Period) (sent received : List Column) : Type 0 where
  pub blue : IsReceived (dvi_kinds ps) (blues received) (damaged (blues sent) (blues received))
  pub green : IsReceived (dvi_kinds ps) (greens received) (damaged (greens sent) (greens received))
  pub red : IsReceived (dvi_kinds ps) (reds received) (damaged (reds sent) (reds received))

pub lanes_received : (ps : List Period) (sent received : List Column) → IsDviConforming ps → DviSpells ps sent → IsDviSparse ps sent received → AreReceived ps sent received
lanes_received ps sent received c spells h =
    let ks = dvi_kinds ps in
    let fit = fitting ps sent c spells in
    let long = fitting_length ks sent fit in
    let at = fitting_at ks sent fit in
    record {
      blue = lane_received (λ c. c.blue) ks sent received (lane_sent (λ c. c.blue) ks sent long (λ i lt. (at i lt).blue)) h.same_length
          (λ i lt. (h.characters i lt).blue) h.spares (λ i lt k. (h.first i lt k).blue) (no_second ps) h.few_blue;
      green = lane_received (λ c. c.green) ks sent received (lane_sent (λ c. c.green) ks sent long (λ i lt. (at i lt).green)) h.same_length
          (λ i lt. (h.characters i lt).green) h.spares (λ i lt k. (h.first i lt k).green) (no_second ps) h.few_green;
      red = lane_received (λ c. c.red) ks sent received (lane_sent (λ c. c.red) ks sent long (λ i lt. (at i lt).red)) h.same_length
          (λ i lt. (h.characters i lt).red) h.spares (λ i lt k. (h.first i lt k).red) (no_second ps) h.few_red;
    }

pub edges_end : (ps : List Period) (sent received : List Column) → IsDviConforming ps → HasThree ps → DviSpells ps sent → IsDviSparse ps sent received
    → DviEnds ps (blues received) × DviEnds ps (greens received) × DviEnds ps (reds received)
edges_end ps sent received c t spells h =
    let lanes = lanes_received ps sent received c spells h in
    let shape = alternating ps c t in (
      record { edges = λ from many e edge. edge_ends (dvi_kinds ps) (blues received) _ shape lanes.blue from many e edge },
      record { edges = λ from many e edge. edge_ends (dvi_kinds ps) (greens received) _ shape lanes.green from many e edge },
      record { edges = λ from many e edge. edge_ends (dvi_kinds ps) (reds received) _ shape lanes.red from many e edge },
    )

pub first_is_end : (ps : List Period) (sent received : List Column) → IsDviConforming ps → HasThree ps → DviSpells ps sent → IsDviSparse ps sent received
    → (from1 from2 from3 many1 many2 many3 d e f : ℕ) → AreNear from1 from2 → AreNear from2 from3 → AreNear from1 from3
    → IsFirst (part_of (blues received) from1 many1) (part_of (greens received) from2 many2) (part_of (reds received) from3 many3) d e f
    → (i : ℕ) × EndsAt (dvi_kinds ps) i × (d + from1 ≡ 10 * (i + 1)) × (e + from2 ≡ 10 * (i + 1)) × (f + from3 ≡ 10 * (i + 1))
first_is_end ps sent received c t spells h from1 from2 from3 many1 many2 many3 d e f near12 near23 near13 first =
    let lanes = lanes_received ps sent received c spells h in
    first_ends (dvi_kinds ps) (blues received) (greens received) (reds received) _ _ _ (alternating ps c t) lanes.blue lanes.green lanes.red from1 from2 from3 many1 many2 many3 d e f near12 near23 near13 first
