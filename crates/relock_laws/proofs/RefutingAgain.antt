-- A tap after any bits: the epoch that has the skew of a good control period of it is let go for no edges, neither earlier nor later ones.
use Rattle.std.proofs.Common.{◌≡◌, ◌⊎◌, ℕ, ◌+◌, ◌-◌, ◌*◌, ◌/◌, ◌<◌, ◌≤◌, Bool, List, length, drop, get_or, ◌∙◌, subst, arith, inl, inr, Some, length-drop}
use Rattle.std.specs.Prelude.{slice_index}
use Rattle.std.proofs.lemmas.Bool.{cases_lt}
use Rattle.tmds_word.specs.Bits.{window}
use Rattle.tmds_word.specs.Column.{Column, blues, greens, reds}
use Rattle.tmds_word.specs.Taps.{part_of}
use Rattle.lane_align.specs.Lanes.{IsEdge}
use Rattle.lane_align.proofs.Edges.{edges_apart}
use Rattle.lane_deskew.specs.Triples.{IsTriple, IsFirst}
use Rattle.lane_deskew.proofs.First.{one_first}
use Rattle.island_pack.specs.Periods.{Period}
use Rattle.link_laws.proofs.Freely.{free_received}
use Rattle.link_laws.proofs.Tapped.{characters}
use Rattle.link_sink.specs.Sinks.{Fed}
use Rattle.track_sink.specs.Epochs.{rest_of}
use Rattle.track_sink.specs.declared.watch.Cause.TheVariants.{Slip}
use Rattle.relock_sink.specs.Bands.{OpensNothing, unopened_kept}
use Rattle.relock_sink.specs.Rivals.{HaveSameSkew, IsRefuted, middle, columns_before}
use Rattle.relock_sink.specs.Doubts.{IsContender, IsDoubted, IsLetGo}
use Rattle.relock_sink.specs.RefutedDecided.{later_of}
use Rattle.relock_sink.specs.Refuting.{refuting_rule}
use Rattle.relock_laws.specs.Settled.{IsAgain, IsGoodPeriod}
use Rattle.relock_laws.specs.Refuted.{GoesOn}
use Rattle.relock_laws.specs.RefutingSettled.{IsWholeGoodPeriod, IsSettledBy, SameSkewIsLast, RecoversUnrefuted}
use Rattle.relock_laws.specs.Doubted.{EachIsSpared}
use Rattle.relock_laws.proofs.Again.{IsTapAfter, tap_again, accounted, accounted_there, calm_again, long_lane}
use Rattle.relock_laws.proofs.Ending.{none_unconfirmed}
use Rattle.relock_laws.proofs.Doubting.{no_edge_after}
use Rattle.relock_laws.proofs.GoodPeriod.{HasLast, earlier_edge}
use Rattle.relock_laws.proofs.Refuting.{whole_apart}
use Rattle.relock_laws.proofs.RefutingEnding.{let_go_leaves}
use Rattle.relock_laws.proofs.RefutingSettling.{EndsLateBy, late_by, rest_period, settles_unrefuted, settled_has_skew, settled_no_stray}
use Rattle.relock_laws.proofs.Settling.{least_of, HaveLast, have_last, triple_at}
use Rattle.relock_laws.proofs.Seen.{part_word}
use Rattle.relock_laws.proofs.Spared.{IsLaneFrom}
use Rattle.relock_laws.proofs.Standing.{columns_open}
use Rattle.relock_laws.proofs.Undoubted.{AreAfter, later_undoubted}
use Rattle.relock_laws.proofs.Unrefuted.{last_unrefuted}
use Rattle.relock_laws.proofs.Upholding.{AreFrom}
use Rattle.relock_laws.proofs.Windows.{column_moved, rest_window, back_window}

-- Where edges lie.

-- an edge of the epoch lies before the nineteen characters, or at their end and past it
pub data IsPlaced (d z i : ℕ) : Type 0 where
  earlier : z + i + 200 ≤ d → IsPlaced d z i
  later : d ≤ z + i → IsPlaced d z i

pub placed : (xs : List Bool) (d least z i : ℕ) → HasLast xs d least z → IsEdge (drop z xs) i → IsPlaced d z i
placed xs d least z i h edge = elim (cases_lt d (z + i)) [
  | inl past ↦ later (omega arith)
  | inr before ↦ elim (earlier_edge xs d least z i h edge before) [
    | inl same ↦ later (omega arith)
    | inr far ↦ earlier far
  ]
]

-- a triple of the epoch lies so on all three lanes
pub data ArePlaced (d e f z i j k : ℕ) : Type 0 where
  all_earlier : z + i + 200 ≤ d → z + j + 200 ≤ e → z + k + 200 ≤ f → ArePlaced d e f z i j k
  all_later : d ≤ z + i → e ≤ z + j → f ≤ z + k → ArePlaced d e f z i j k

-- three places, any two near each other
pub record AreClose (d e f : ℕ) : Type 0 where
  pub blue_green : d ≤ e + 70
  pub green_blue : e ≤ d + 70
  pub blue_red : d ≤ f + 70
  pub red_blue : f ≤ d + 70

pub close : (fed : Fed) (d e f : ℕ) → IsTriple fed.blue fed.green fed.red d e f → AreClose d e f
close fed d e f t = record { blue_green = t.blue_green.0; green_blue = t.blue_green.1; blue_red = t.blue_red.0; red_blue = t.blue_red.1 }

pub together : (d e f z i j k : ℕ) → AreClose d e f → AreClose i j k → IsPlaced d z i → IsPlaced e z j → IsPlaced f z k → ArePlaced d e f z i j k
together d e f z i j k own other (earlier a) (earlier b) (earlier c) = all_earlier a b c
together d e f z i j k own other (later a) (later b) (later c) = all_later a b c
together d e f z i j k own other (earlier a) (later b) c = let x = own.blue_green in let y = other.green_blue in absurd (omega arith)
together d e f z i j k own other (earlier a) (earlier b) (later c) = let x = own.blue_red in let y = other.red_blue in absurd (omega arith)
together d e f z i j k own other (later a) (earlier b) c = let x = own.green_blue in let y = other.blue_green in absurd (omega arith)
together d e f z i j k own other (later a) (later b) (earlier c) = let x = own.red_blue in let y = other.blue_red in absurd (omega arith)

-- The columns of an alignment at the edges of another one of its skew.

nothing_moved : (fed : Fed) (p q r d e f n j i : ℕ) → 120 ≤ p → 120 ≤ q → 120 ≤ r → p + 10 * n ≡ d → q + 10 * n ≡ e → r + 10 * n ≡ f → j ≡ n + i
    → OpensNothing fed p q r j → OpensNothing fed d e f i
nothing_moved fed p q r d e f n j i a b c x y v at o =
    unopened_kept _ _ _ _ _ _ (λ g is. column_moved fed p q r d e f n j i a b c x y v at ∙ is) (λ g is. column_moved fed p q r d e f n (j + 1) (i + 1) a b c x y v (omega arith) ∙ is)
    (λ g is. column_moved fed p q r d e f n (j + 2) (i + 2) a b c x y v (omega arith) ∙ is) o

-- later edges have no fewer columns before them
pub more_before : (a b c n : ℕ) → n ≤ a → n ≤ b → n ≤ c → n ≤ middle a b c
more_before a b c n x y z = omega arith

pub few_columns : (p d z i n : ℕ) → p + 10 * n ≡ d - z → d ≤ z + i → n ≤ (i - p) / 10
few_columns p d z i n at past = omega arith

-- It is let go for no earlier edges, nor refuted by later ones.

pub not_earlier : (fed : Fed) (d e f z p q r i j k : ℕ) → IsGoodPeriod fed d e f → HaveLast fed d e f z → EndsLateBy refuting_rule fed z (least_of d e f)
    → z + i + 200 ≤ d → z + j + 200 ≤ e → z + k + 200 ≤ f → IsLetGo (rest_of z fed) p q r i j k → ⊥
not_earlier fed d e f z p q r i j k good h late x y v is =
    let b = long_lane fed.blue d good.blue in
    let g = long_lane fed.green e good.green in
    let a = long_lane fed.red f good.red in
    let lb = length-drop z fed.blue in
    let lg = length-drop z fed.green in
    let la = length-drop z fed.red in
    let b1 = h.blue.high in
    let g1 = h.green.high in
    let r1 = h.red.high in
    elim (let_go_leaves (rest_of z fed) p q r i j k is (omega arith)) [
      | inl ends ↦ let far = late ends.0 ends.1 in let early = ends.2 in omega arith
      | inr slip ↦ let far = late slip.1 (Slip slip.0, slip.2) in let early = slip.3 in omega arith
    ]

not_later : (ps : List Period) (sent received : List Column) (offset : ℕ) (skews counts : List ℕ) (x fed : Fed) (before : List ℕ) (a d e f z p q r i j k : ℕ)
    → IsAgain ps sent received offset skews counts x fed before a d e f → z + 120 ≤ least_of d e f → (IsTriple (drop z fed.blue) (drop z fed.green) (drop z fed.red) (d - z) (e - z) (f - z))
    → p + z ≤ d → q + z ≤ e → r + z ≤ f → HaveSameSkew p q r d e f → d ≤ z + i → e ≤ z + j → f ≤ z + k → IsRefuted (rest_of z fed) p q r i j k → ⊥
not_later ps sent received offset skews counts x fed before a d e f z p q r i j k h after own pb pg pr same u v w is =
    let t = is.later.own.first.triple in
    let past_b = t.blue.past in
    let past_g = t.green.past in
    let past_r = t.red.past in
    let even = whole_apart (drop z fed.blue) p (d - z) t.blue own.blue in
    let s0 = same.0 in
    let s1 = same.1 in
    let n = (d - z - p) / 10 in
    let nb : p + 10 * n ≡ d - z = omega arith in
    let ng : q + 10 * n ≡ e - z = omega arith in
    let nr : r + 10 * n ≡ f - z = omega arith in
    let c = columns_before p q r i j k in
    let more : n ≤ c = more_before ((i - p) / 10) ((j - q) / 10) ((k - r) / 10) n (few_columns p d z i n nb u) (few_columns q e z j n ng v) (few_columns r f z k n nr w) in
    let free = free_received ps sent received h.reception.reception in
    let account = accounted ps sent received offset skews counts x fed before a d e f z h (omega arith) (omega arith) (omega arith) in
    columns_open ps sent received free (rest_of z fed) (d - z) (e - z) (f - z) a (11 + (c - n)) account
    (nothing_moved (rest_of z fed) p q r (d - z) (e - z) (f - z) n (11 + c) (11 + (c - n)) (omega arith) (omega arith) (omega arith) nb ng nr (omega arith) is.period)

-- Nor is it doubted at later ones.

-- the lanes' words are those of the tap from the good control period on
lane_again : (words : List ℕ) (from many z b d p n a : ℕ) (xs us : List Bool) → ((k : ℕ) → k < length words → get_or words k 0 < 1024) → us ≡ part_of words from many → drop b xs ≡ us
    → d + from ≡ 10 * (a + 12) + b → b + 190 ≤ d → 120 ≤ p → z + p + 10 * n ≡ d → IsLaneFrom words (drop z xs) p n a
lane_again words from many z b d p n a xs us below is after begins whole past there i j w le at here =
    let back = back_window z xs (p - 120 + 10 * j) w here in
    let low : b ≤ z + (p - 120 + 10 * j) = omega arith in
    let mine = rest_window b xs (z + (p - 120 + 10 * j)) w low back in
    part_word words from many (z + (p - 120 + 10 * j) - b) i w below (subst (λ ys. window ys (z + (p - 120 + 10 * j) - b) ≡ Some w) (after ∙ is) mine) (omega arith)

pub columns_again : (received : List Column) (offset : ℕ) (skews counts : List ℕ) (x fed : Fed) (before : List ℕ) (a d e f z p q r n : ℕ)
    → IsTapAfter received offset skews counts x fed before a d e f → 120 ≤ p → 120 ≤ q → 120 ≤ r → z + p + 10 * n ≡ d → z + q + 10 * n ≡ e → z + r + 10 * n ≡ f
    → AreFrom received (rest_of z fed) p q r n a
columns_again received offset skews counts x fed before a d e f z p q r n h b g v bn gn vn =
    let tapped = h.tapped in
    let at_b = h.blue in
    let at_g = h.green in
    let at_r = h.red in
    record {
      blue = lane_again (blues received) (offset + slice_index skews 0) (slice_index counts 0) z (slice_index before 0) d p n a fed.blue x.blue
          (characters (λ l. l.blue) received (λ k lt. (h.narrow k lt).blue)) tapped.blue_part.bits_are h.blue_after (omega arith) h.blue_whole b bn;
      green = lane_again (greens received) (offset + slice_index skews 1) (slice_index counts 1) z (slice_index before 1) e q n a fed.green x.green
          (characters (λ l. l.green) received (λ k lt. (h.narrow k lt).green)) tapped.green_part.bits_are h.green_after (omega arith) h.green_whole g gn;
      red = lane_again (reds received) (offset + slice_index skews 2) (slice_index counts 2) z (slice_index before 2) f r n a fed.red x.red
          (characters (λ l. l.red) received (λ k lt. (h.narrow k lt).red)) tapped.red_part.bits_are h.red_after (omega arith) h.red_whole v vn;
    }

-- edges that contend with an alignment of the skew of a good control period, and lie no earlier than that, lie past it where the alignment is
-- there, or the guard band there is received whole
module _ (fed : Fed) (d e f z p q r : ℕ) (good : IsGoodPeriod fed d e f) (h : HaveLast fed d e f z) (same : HaveSameSkew p q r d e f) (i j k : ℕ) (is : IsContender (rest_of z fed) p q r i j k)
    (lb : d ≤ z + i) (lg : e ≤ z + j) (lv : f ≤ z + k) where
  there : (xs : List Bool) (d i : ℕ) → IsEdge xs d → GoesOn xs d → IsEdge xs i → d ≤ i → i ≤ d + 140 → d ≡ i
  there xs d i own on edge le near = elim (cases_lt d i) [
    | inl past ↦ absurd (no_edge_after xs d i own on edge past near)
    | inr upto ↦ omega arith
  ]

  -- all three lie past the good control period
  past_there : z + p ≡ d → (d < z + i) × (e < z + j) × (f < z + k)
  past_there at =
      let x = is.later.blue_later in
      let y = is.later.green_later in
      let v = is.later.red_later in
      let same0 = same.0 in
      let same1 = same.1 in
      (omega arith, omega arith, omega arith)

  past_whole : IsWholeGoodPeriod fed d e f → z + p < d → (d < z + i) × (e < z + j) × (f < z + k)
  past_whole w before =
      let own = triple_at fed d e f z good h in
      let far = edges_apart (drop z fed.blue) p (d - z) is.later.own.first.triple.blue own.blue (omega arith) in
      let de0 = good.blue_green.0 in
      let de1 = good.blue_green.1 in
      let df0 = good.blue_red.0 in
      let df1 = good.blue_red.1 in
      let period = rest_period fed d e f z w h (omega arith) (omega arith) (omega arith) in
      let u = is.later.triple in
      let ij0 = u.blue_green.0 in
      let ij1 = u.blue_green.1 in
      let ik0 = u.blue_red.0 in
      let ik1 = u.blue_red.1 in
      elim (cases_lt (d + 140) (z + i)) [
        | inl past ↦ (omega arith, omega arith, omega arith)
        | inr near ↦
            let x = there (drop z fed.blue) (d - z) i period.triple.blue period.blue_on u.blue (omega arith) (omega arith) in
            let y = there (drop z fed.green) (e - z) j period.triple.green period.green_on u.green (omega arith) (omega arith) in
            let v = there (drop z fed.red) (f - z) k period.triple.red period.red_on u.red (omega arith) (omega arith) in
            let same0 = same.0 in
            let same1 = same.1 in
            absurd (is.other_skew (omega arith, omega arith))
      ]

  pub past_all : z + p ≤ d → (z + p ≡ d) ⊎ IsWholeGoodPeriod fed d e f → (d < z + i) × (e < z + j) × (f < z + k)
  past_all pb (inl at) = past_there at
  past_all pb (inr w) = elim (cases_lt (z + p) d) [ inl before ↦ past_whole w before | inr at ↦ past_there (omega arith) ]

-- it is doubted for no later edges where it is aligned there, or the guard band there is received whole
not_doubted_later : (ps : List Period) (sent received : List Column) (offset : ℕ) (skews counts : List ℕ) (x fed : Fed) (before : List ℕ) (a d e f z p q r : ℕ)
    → IsAgain ps sent received offset skews counts x fed before a d e f → (z + p ≡ d) ⊎ IsWholeGoodPeriod fed d e f → EachIsSpared ps sent received (a + 12)
    → HaveLast fed d e f z → z + p ≤ d → z + q ≤ e → z + r ≤ f → HaveSameSkew p q r d e f
    → (i j k : ℕ) → IsDoubted (rest_of z fed) p q r i j k → d ≤ z + i → e ≤ z + j → f ≤ z + k → ⊥
not_doubted_later ps sent received offset skews counts x fed before a d e f z p q r again good each_is_spared h pb pg pr same i j k is lb lg lv =
    let own = triple_at fed d e f z again.good h in
    let t = is.contender.later.own.first.triple in
    let u = is.contender.later.triple in
    let past_b = t.blue.past in
    let past_g = t.green.past in
    let past_r = t.red.past in
    let after_b = own.blue.past in
    let even = whole_apart (drop z fed.blue) p (d - z) t.blue own.blue in
    let bi = whole_apart (drop z fed.blue) p i t.blue u.blue in
    let gi = whole_apart (drop z fed.green) q j t.green u.green in
    let vi = whole_apart (drop z fed.red) r k t.red u.red in
    let same0 = same.0 in
    let same1 = same.1 in
    let n = (d - z - p) / 10 in
    let bn : z + p + 10 * n ≡ d = omega arith in
    let gn : z + q + 10 * n ≡ e = omega arith in
    let vn : z + r + 10 * n ≡ f = omega arith in
    let are = columns_again received offset skews counts x fed before a d e f z p q r n (tap_again ps sent received offset skews counts x fed before a d e f again) (omega arith) (omega arith) (omega arith) bn gn vn in
    let past = past_all fed d e f z p q r again.good h same i j k is.contender lb lg lv pb good in
    let x = past.0 in
    let y = past.1 in
    let v = past.2 in
    let after : AreAfter p q r n i j k = record { blue = omega arith; green = omega arith; red = omega arith } in
    let more = more_before ((i - p) / 10) ((j - q) / 10) ((k - r) / 10) (n + 1) (omega arith) (omega arith) (omega arith) in
    later_undoubted ps sent received (free_received ps sent received again.reception.reception) (rest_of z fed) p q r n a are (a + 12) each_is_spared again.ends i j k is after (omega arith) (omega arith)

same_skew_stands : (ps : List Period) (sent received : List Column) (offset : ℕ) (skews counts : List ℕ) (x fed : Fed) (before : List ℕ) (a d e f : ℕ)
    → IsAgain ps sent received offset skews counts x fed before a d e f → EachIsSpared ps sent received (a + 12)
    → (z p q r : ℕ) → IsSettledBy refuting_rule fed d e f z p q r → HaveSameSkew p q r d e f → (z + p ≡ d) ⊎ IsWholeGoodPeriod fed d e f
    → (i j k : ℕ) → IsLetGo (rest_of z fed) p q r i j k → ⊥
same_skew_stands ps sent received offset skews counts x fed before a d e f again each_is_spared z p q r is same whole i j k u =
    let h = have_last fed d e f z again.good is.begins (late_by fed z (least_of d e f) is.ends) in
    let other = (later_of (rest_of z fed) p q r i j k u).triple in
    by h (where_lies h i j k other)
  where
    before_it : (z + p ≤ d) × (z + q ≤ e) × (z + r ≤ f)
    before_it = elim is.place [
      | inl at ↦ let a = at.0 in let b = at.1 in let c = at.2 in (omega arith, omega arith, omega arith)
      | inr far ↦ let a = far.0 in let b = far.1 in let c = far.2 in (omega arith, omega arith, omega arith)
    ]

    where_lies : HaveLast fed d e f z → (b g v : ℕ) → IsTriple (drop z fed.blue) (drop z fed.green) (drop z fed.red) b g v → ArePlaced d e f z b g v
    where_lies h b g v t =
        let good = again.good in
        let near : AreClose d e f = record { blue_green = good.blue_green.0; green_blue = good.blue_green.1; blue_red = good.blue_red.0; red_blue = good.blue_red.1 } in
        together d e f z b g v near (close (rest_of z fed) b g v t)
        (placed fed.blue d (least_of d e f) z b h.blue t.blue)
        (placed fed.green e (least_of d e f) z g h.green t.green)
        (placed fed.red f (least_of d e f) z v h.red t.red)

    later_stands : HaveLast fed d e f z → d ≤ z + i → e ≤ z + j → f ≤ z + k → IsLetGo (rest_of z fed) p q r i j k → ⊥
    later_stands h b g v (inl refuted) =
        let own = triple_at fed d e f z again.good h in
        let pb = before_it.0 in
        let pg = before_it.1 in
        let pr = before_it.2 in
        not_later ps sent received offset skews counts x fed before a d e f z p q r i j k again is.begins own (omega arith) (omega arith) (omega arith) same b g v refuted
    later_stands h b g v (inr doubted) =
        not_doubted_later ps sent received offset skews counts x fed before a d e f z p q r again whole each_is_spared h before_it.0 before_it.1 before_it.2 same i j k doubted b g v

    by : HaveLast fed d e f z → ArePlaced d e f z i j k → ⊥
    by h (all_earlier b g v) = not_earlier fed d e f z p q r i j k again.good h is.ends b g v u
    by h (all_later b g v) = later_stands h b g v u

-- the alignment in use is the first one
pub let_go_first : (x : Fed) (p q r d e f s t u : ℕ) → IsFirst x.blue x.green x.red s t u → IsLetGo x p q r d e f → IsLetGo x s t u d e f
let_go_first x p q r d e f s t u first is =
    let same = one_first x.blue x.green x.red p q r s t u (later_of x p q r d e f is).own.first first in
    subst (λ n. IsLetGo x n t u d e f) same.0 (subst (λ n. IsLetGo x p n u d e f) same.1 (subst (λ n. IsLetGo x p q n d e f) same.2 is))

pub same_skew_is_last : SameSkewIsLast
same_skew_is_last ps sent received offset skews counts x fed before a d e f again each_is_spared z p q r is same whole =
    let calm = calm_again ps sent received offset skews counts x fed before a d e f again in
    let none = settled_no_stray fed d e f z p q r again.good calm.blue calm.green calm.red is in
    last_unrefuted (rest_of z fed)
    (record { no_stray = none; confirmed = none_unconfirmed (rest_of z fed) p q r is.first is.confirmed })
    (λ s t v i j k u.
    same_skew_stands ps sent received offset skews counts x fed before a d e f again each_is_spared z p q r is same whole i j k
    (let_go_first (rest_of z fed) s t v i j k p q r is.first u))

pub recovers_unrefuted : RecoversUnrefuted
recovers_unrefuted ps sent received offset skews counts x fed before a d e f again w each_is_spared =
    let calm = calm_again ps sent received offset skews counts x fed before a d e f again in
    let s = settles_unrefuted fed d e f w in
    let z = s.0 in
    let p = s.2.0 in
    let q = s.2.1 in
    let r = s.2.2 in
    let is = s.2.3 in
    let skew = settled_has_skew fed d e f w calm.blue calm.green calm.red z p q r is in (
      z,
      s.1,
      (
        p,
        q,
        r,
        is,
        elim skew.1 [
          | inl same ↦ inl (same, same_skew_is_last ps sent received offset skews counts x fed before a d e f again each_is_spared z p q r is same (inr w))
          | inr opens ↦ inr opens
        ],
        accounted_there ps sent received offset skews counts x fed before a d e f z p q r again is.first is.place,
      ),
    )
