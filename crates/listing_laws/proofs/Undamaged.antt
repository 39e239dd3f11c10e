-- Columns that spell conforming periods are received for them with no damage.
use Rattle.std.proofs.lemmas.Grind.{common_steps}
use Rattle.std.proofs.Common.{◌≡◌, ℕ, suc, zero, ◌+◌, ◌%◌, ◌/◌, ◌<◌, Bool, true, false, not, List, [], ◌∷◌, ◌++◌, map, length, get_or, take, refl, ap₂, sym, subst, arith, nat_lt}
use Rattle.std.specs.List.{list_all}
use Rattle.std.proofs.lemmas.Bool.{eq-eqb, ltb-true}
use Rattle.std.proofs.lemmas.List.{length-map, get_or-map}
use Rattle.tmds_word.specs.Column.{Column, column_of}
use Rattle.tmds_word.proofs.Below.{and-left, and-right}
use Rattle.tmds_code.specs.Coding.{sign_of}
use Rattle.tmds_code.specs.Lanes.{IsLane, disparity_of}
use Rattle.tmds_code.proofs.TableWords.{coded_below}
use Rattle.terc4.specs.Columns.{one_if}
use Rattle.terc4.specs.Tables.{control_words, terc_words, video_guard, island_guard, is_terc}
use Rattle.terc4.proofs.Members.{passes_all, passes_in}
use Rattle.island_pack.specs.Periods.{Period, control, video, island, values_of, pixels_of}
use Rattle.island_pack.specs.Conforming.{are_bytes, IsConforming}
use Rattle.island_pack.specs.Packets.{Carries}
use Rattle.island_pack.specs.Spelling.{control_column, SpellsPixels, guard_column, column_words, SpellsPackets, Spells}
use Rattle.island_pack.specs.Sparse.{unlike_words, no_column, column_at, IsNarrow}
use Rattle.island_pack.specs.declared.packet.Packet.{Packet}
use Rattle.link_laws.specs.Laws.{ReceivedOf}
use Rattle.link_laws.proofs.Conformed.{conforming, HasValues, has_values}
use Rattle.link_laws.proofs.SpelledWords.{small_blue, small_green, small_red}

-- Words of ten bits.

-- column by column
data AreNarrow : List Column → Type 0 where
  none : AreNarrow []
  more : (c : Column) (cs : List Column) → IsNarrow c → AreNarrow cs → AreNarrow (c ∷ cs)

narrow_both : (xs ys : List Column) → AreNarrow xs → AreNarrow ys → AreNarrow (xs ++ ys)
narrow_both _ ys none h = h
narrow_both _ ys (more x xs here rest) h = more x (xs ++ ys) here (narrow_both xs ys rest h)

narrow_from : (cs : List Column) → ((i : ℕ) → i < length cs → IsNarrow (column_at cs i)) → AreNarrow cs
narrow_from [] each = none
narrow_from (c ∷ cs) each = more c cs (each zero (omega arith)) (narrow_from cs (λ i lt. each (suc i) (omega arith)))

narrow_at : (cs : List Column) → AreNarrow cs → (i : ℕ) → i < length cs → IsNarrow (column_at cs i)
narrow_at _ none i lt = absurd (omega arith)
narrow_at _ (more c cs here rest) zero lt = here
narrow_at _ (more c cs here rest) (suc i) lt = narrow_at cs rest i (omega arith)

small_at : (n : ℕ) (ws : List ℕ) (i : ℕ) → 0 < n → list_all (λ w. nat_lt w n) ws ≡ true → get_or ws i 0 < n
small_at n [] i some h = some
small_at n (w ∷ ws) zero some h = ltb-true _ _ (and-left _ _ h)
small_at n (w ∷ ws) (suc i) some h = small_at n ws i some (and-right (nat_lt w n) _ h)

abbrev is_small : ℕ → Bool
is_small w = nat_lt w 1024

small_control : list_all is_small control_words ≡ true
unfolding control_words
small_control = refl

small_video : list_all is_small video_guard ≡ true
unfolding video_guard
small_video = refl

small_carried : passes_all is_small terc_words ≡ true
unfolding passes_all terc_words
small_carried = refl

carried_small : (w : ℕ) → is_terc w ≡ true → w < 1024
unfolding is_terc
carried_small w h = ltb-true _ _ (passes_in is_small terc_words w small_carried h)

narrow_controls : (vs : List ℕ) → AreNarrow (map control_column vs)
narrow_controls [] = none
narrow_controls (v ∷ vs) = more (control_column v) (map control_column vs)
    (record {
      blue = small_at 1024 control_words (v % 4) (omega arith) small_control;
      green = small_at 1024 control_words (v / 4 % 4) (omega arith) small_control;
      red = small_at 1024 control_words (v / 16 % 4) (omega arith) small_control;
    })
    (narrow_controls vs)

narrow_guard : (sync : ℕ) → IsNarrow (guard_column sync)
unfolding terc_words island_guard
narrow_guard sync = grind (arith, small_at, ltb-true)

narrow_video : IsNarrow (column_of video_guard)
narrow_video = record {
  blue = small_at 1024 video_guard 0 (omega arith) small_video;
  green = small_at 1024 video_guard 1 (omega arith) small_video;
  red = small_at 1024 video_guard 2 (omega arith) small_video;
}

lane_small : (bytes words : List ℕ) → are_bytes bytes ≡ true → IsLane bytes words → (j : ℕ) → j < length words → get_or words j 0 < 1024
lane_small bytes words small lane j lt =
    subst (λ w. w < 1024) (sym (lane.coded j lt)) (coded_below (sign_of (disparity_of (take j words))) (get_or bytes j 0) (small_at 256 bytes j (omega arith) small))

-- one lane of pixels
pixel_small : (g : Column → ℕ) (bytes : List ℕ) (pp : List Column) → are_bytes bytes ≡ true → IsLane bytes (map g pp) → (j : ℕ) → j < length pp → g (column_at pp j) < 1024
pixel_small g bytes pp small lane j lt =
    let many = length-map pp g in
    subst (λ w. w < 1024) (get_or-map g pp j no_column 0 lt) (lane_small bytes (map g pp) small lane j (omega (arith, many, lt)))

narrow_pixels : (bytes : List ℕ) (pp : List Column) → are_bytes bytes ≡ true → SpellsPixels (pixels_of bytes) pp → AreNarrow pp
narrow_pixels bytes pp small h = narrow_from pp (λ j lt. record {
  blue = pixel_small (λ c. c.blue) (map (λ p. p.blue) (pixels_of bytes)) pp (small_blue bytes small) h.blue j lt;
  green = pixel_small (λ c. c.green) (map (λ p. p.green) (pixels_of bytes)) pp (small_green bytes small) h.green j lt;
  red = pixel_small (λ c. c.red) (map (λ p. p.red) (pixels_of bytes)) pp (small_red bytes small) h.red j lt;
})

narrow_packet : (p : Packet) (first : Bool) (own : List Column) → Carries p first (map column_words own) → AreNarrow own
narrow_packet p first own h = narrow_from own (λ i lt.
    let many = length-map own column_words in
    let words : get_or (map column_words own) i [] ≡ column_words (column_at own i) = get_or-map column_words own i no_column [] lt in
    let small : (lane : ℕ) → lane < 3 → get_or (column_words (column_at own i)) lane 0 < 1024 =
    λ lane within. carried_small _ (subst (λ ws. is_terc (get_or ws lane 0) ≡ true) words (h.free.terc lane within i [] (omega arith))) in
    record { blue = small 0 (omega arith); green = small 1 (omega arith); red = small 2 (omega arith) })

narrow_packets : (first : Bool) (packets : List Packet) (cs : List Column) → SpellsPackets first packets cs → AreNarrow cs
narrow_packets first [] cs h = subst AreNarrow (sym h) none
narrow_packets first (p ∷ ps) cs h =
    subst AreNarrow (sym h.2) (narrow_both h.0 h.1 (narrow_packet p first h.0 h.3) (narrow_packets false ps h.1 h.4))

narrow_pair : (c d : Column) (cs : List Column) → IsNarrow c → IsNarrow d → AreNarrow cs → AreNarrow (c ∷ (d ∷ cs))
narrow_pair c d cs first second h = more c (d ∷ cs) first (more d cs second h)

narrow_spelled : (ps : List Period) (sent : List Column) → HasValues ps → Spells ps sent → AreNarrow sent
unfolding HasValues
narrow_spelled [] sent small h = subst AreNarrow (sym h) none
narrow_spelled (control runs ∷ ps) sent small h =
    subst AreNarrow (sym h.2) (narrow_both h.0 h.1 (subst AreNarrow (sym h.3) (narrow_controls (values_of runs))) (narrow_spelled ps h.1 small.1 h.4))
narrow_spelled (video bytes ∷ ps) sent small h =
    subst AreNarrow (sym h.2) (narrow_both h.0 h.1 (subst AreNarrow (sym h.3.1) (narrow_pair _ _ h.3.0 narrow_video narrow_video (narrow_pixels bytes h.3.0 small.0 h.3.2))) (narrow_spelled ps h.1 small.1 h.4))
narrow_spelled (island x ∷ ps) sent small h = grind (arith, common_steps, narrow_pair, narrow_guard, narrow_both, narrow_packets, narrow_spelled ps)

-- No damage.

pub none_unlike : (ws : List ℕ) → unlike_words ws ws ≡ 0
unfolding unlike_words one_if
none_unlike [] = refl
none_unlike (w ∷ ws) = ap₂ (λ (b : Bool) (n : ℕ). one_if (not b) + n) (eq-eqb w w refl) (none_unlike ws)

pub undamaged : (ps : List Period) (cs : List Column) → IsConforming ps → Spells ps cs → ReceivedOf ps cs cs
undamaged ps cs good spelled = grind (arith, conforming, narrow_spelled, has_values, narrow_at, none_unlike)
