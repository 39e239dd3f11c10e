-- From a good control period on the lanes are aligned where a period opens, whatever came before.
use Rattle.std.proofs.Common.{◌≡◌, ◌⊎◌, ℕ, suc, zero, ◌+◌, ◌-◌, ◌*◌, ◌<◌, ◌≤◌, max, min, Bool, true, false, ◌&&◌, ◌||◌, ◌==◌, List, drop, refl, ◌∙◌, sym, subst, arith, inl, inr, Some, nat_le, slice_index, true≢false}
use Rattle.std.proofs.Math.Nat.{le-max_left, le-max_right, max-le}
use Rattle.std.proofs.lemmas.Bool.{cases_lt, leb-true}
use Rattle.tmds_word.specs.Bits.{window}
use Rattle.tmds_word.specs.Column.{Column}
use Rattle.tmds_word.specs.Taps.{AreNear}
use Rattle.terc4.specs.Tables.{terc_words, video_guard, island_guard, value_in, is_control}
use Rattle.terc4.proofs.Members.{by_control}
use Rattle.terc4.specs.Columns.{one_if, is_twelve_or_more, video_words, closing_words, island_words}
use Rattle.lane_align.specs.Lanes.{IsEdge}
use Rattle.lane_align.proofs.Edges.{edges_apart}
use Rattle.lane_deskew.specs.Aligned.{column_from, aligned_column}
use Rattle.lane_deskew.specs.Triples.{IsTriple, IsFirst}
use Rattle.link_laws.proofs.Guards.{one_at_most}
use Rattle.link_sink.proofs.Decided.{first_decided}
use Rattle.link_sink.specs.Sinks.{Fed}
use Rattle.lane_track.specs.Strays.{IsStray, HasNoStray}
use Rattle.track_sink.specs.Ends.{end_decided}
use Rattle.track_sink.specs.Epochs.{lane_of, rest_of, IsEnd, HasNoEnd}
use Rattle.relock_sink.specs.Bands.{AtEdges, so_kept}
use Rattle.relock_sink.specs.Relocks.{is_announced, IsUnconfirmed}
use Rattle.relock_sink.specs.Ends.{decided, excludes, one, within}
use Rattle.relock_laws.specs.Settled.{IsGoodPeriod, EndsEpoch, IsStart, first_start, next_start, IsSettled, SettlesAtPeriod, SettlesForGood}
use Rattle.relock_laws.proofs.Ending.{none_unconfirmed, unconfirmed_ends, stray_ends}
use Rattle.relock_laws.proofs.GoodPeriod.{HasLast, edge_at, earlier_edge, calm_none}
use Rattle.relock_laws.proofs.Windows.{words_of_column, rest_window, same_column}

-- Guard columns have no control words.

pub record IsNoControl (c : Column) : Type 0 where
  pub blue : is_control c.blue ≡ false
  pub green : is_control c.green ≡ false
  pub red : is_control c.red ≡ false

three_true : (a b c : Bool) → 3 ≤ one_if a + one_if b + one_if c → (a ≡ true) × (b ≡ true) × (c ≡ true)
unfolding one_if
three_true a b c h = grind (arith, one_at_most)

not_control : (p : ℕ → Bool) → ((w : ℕ) → is_control w ≡ true → p w ≡ false) → (w : ℕ) → p w ≡ true → is_control w ≡ false
not_control p none w h = by (is_control w) refl
  where
    by : (b : Bool) → is_control w ≡ b → is_control w ≡ false
    by true e = absurd (true≢false (sym h ∙ none w e))
    by false e = e

no_video : (i w : ℕ) → i < 3 → (w == slice_index video_guard i) ≡ true → is_control w ≡ false
unfolding video_guard
no_video zero w lt h = not_control (λ v. v == 0x2cc) (by_control (λ v. (v == 0x2cc) ≡ false) refl refl refl refl) w h
no_video (suc zero) w lt h = not_control (λ v. v == 0x133) (by_control (λ v. (v == 0x133) ≡ false) refl refl refl refl) w h
no_video (suc (suc zero)) w lt h = not_control (λ v. v == 0x2cc) (by_control (λ v. (v == 0x2cc) ≡ false) refl refl refl refl) w h
no_video (suc (suc (suc i))) w lt h = absurd (omega arith)

no_island : (w : ℕ) → (w == island_guard) ≡ true → is_control w ≡ false
unfolding island_guard
no_island w h = not_control (λ v. v == 0x133) (by_control (λ v. (v == 0x133) ≡ false) refl refl refl refl) w h

no_twelve : (w : ℕ) → is_twelve_or_more (value_in terc_words w) ≡ true → is_control w ≡ false
unfolding is_twelve_or_more value_in terc_words
no_twelve = not_control (λ v. is_twelve_or_more (value_in terc_words v)) (by_control (λ v. is_twelve_or_more (value_in terc_words v) ≡ false) refl refl refl refl)

video_column : (g : Column) → 3 ≤ video_words g → IsNoControl g
unfolding video_words
video_column g h =
    let t = three_true (g.blue == slice_index video_guard 0) (g.green == slice_index video_guard 1) (g.red == slice_index video_guard 2) h in
    record { blue = no_video 0 g.blue (omega arith) t.0; green = no_video 1 g.green (omega arith) t.1; red = no_video 2 g.red (omega arith) t.2 }

island_column : (g : Column) → 3 ≤ island_words g → IsNoControl g
unfolding island_words closing_words
island_column g h =
    let t = three_true (is_twelve_or_more (value_in terc_words g.blue)) (g.green == island_guard) (g.red == island_guard) (omega arith) in
    record { blue = no_twelve g.blue t.0; green = no_island g.green t.1; red = no_island g.red t.2 }

either : (P : Type 0) (a b c d : Bool) → ((a && b) || (c && d)) ≡ true → (a ≡ true → P) → (c ≡ true → P) → P
either P true true c d h f g = f refl
either P true false true d h f g = g refl
either P true false false d h f g = absurd (true≢false (sym h))
either P false b true d h f g = g refl
either P false b false d h f g = absurd (true≢false (sym h))

announced_column : (g h : Column) → is_announced g h ≡ true → IsNoControl g
unfolding is_announced
announced_column g h a =
    either (IsNoControl g) (nat_le 3 (video_words g)) (nat_le 2 (video_words h)) (nat_le 3 (island_words g)) (nat_le 2 (island_words h)) a
    (λ v. video_column g (leb-true 3 (video_words g) v)) (λ i. island_column g (leb-true 3 (island_words g) i))

-- Three lanes.

abbrev pub least_of : ℕ → ℕ → ℕ → ℕ
least_of d e f = min d (min e f)

-- no end lies before the last twelve characters
abbrev EndsLate : Fed → ℕ → ℕ → Type 0
EndsLate fed z least = (place : ℕ) → EndsEpoch (rest_of z fed) place → least < z + place + 120

-- no end at a stray lies before them, and no alignment before them is unconfirmed
pub record IsLate (fed : Fed) (z least : ℕ) : Type 0 where
  pub ends : (lane p : ℕ) → IsEnd (rest_of z fed) lane p → least < z + p + 120
  pub unconfirmed : (p q r : ℕ) → IsUnconfirmed (rest_of z fed) p q r → least < z + max p (max q r) + 20

late_of : (fed : Fed) (z least : ℕ) → EndsLate fed z least → IsLate fed z least
late_of fed z least late = record {
  ends = λ lane p end.
      let ends = stray_ends (rest_of z fed) lane p end in
      let far = late ends.0 ends.1 in
      let before = ends.2 in
      omega arith;
  unconfirmed = λ p q r u.
      let ends = unconfirmed_ends (rest_of z fed) p q r u in
      let far = late ends.0 ends.1 in
      let early = ends.2 in
      omega arith;
}

-- nor then does a stray
late_stray : (fed : Fed) (z least : ℕ) → IsLate fed z least → (l : ℕ) → l < 3 → (p : ℕ) → IsStray (lane_of (rest_of z fed) l) p → least < z + p + 120
late_stray fed z least late l lt p stray = elim (end_decided (rest_of z fed)) [
  | inr none ↦ absurd (none l lt p stray)
  | inl found ↦
      let far = late.ends found.0 found.1 found.2 in
      elim (found.2.least l p lt stray) [
        | inl less ↦ omega arith
        | inr same ↦ let e = same.0 in omega arith
      ]
]

-- places near each other
pub record AreSpread (d e f : ℕ) : Type 0 where
  pub blue_low : least_of d e f ≤ d
  pub green_low : least_of d e f ≤ e
  pub red_low : least_of d e f ≤ f
  pub blue_high : d ≤ least_of d e f + 70
  pub green_high : e ≤ least_of d e f + 70
  pub red_high : f ≤ least_of d e f + 70

pub spread : (d e f : ℕ) → AreNear d e → AreNear e f → AreNear d f → AreSpread d e f
spread d e f a b c =
    let a0 = a.0 in
    let a1 = a.1 in
    let b0 = b.0 in
    let b1 = b.1 in
    let c0 = c.0 in
    let c1 = c.1 in
    record {
      blue_low = grind arith;
      green_low = grind arith;
      red_low = grind arith;
      blue_high = grind arith;
      green_high = grind arith;
      red_high = grind arith;
    }

at_edge : (e : ℕ) (xs : List Bool) (w : ℕ) → 120 ≤ e → window xs (e - 120 + 10 * 12) ≡ Some w → window xs e ≡ Some w
at_edge e xs w le h = let same : e - 120 + 10 * 12 ≡ e = omega arith in subst (λ p. window xs p ≡ Some w) same h

pub record HaveLast (fed : Fed) (d e f z : ℕ) : Type 0 where
  pub blue : HasLast fed.blue d (least_of d e f) z
  pub green : HasLast fed.green e (least_of d e f) z
  pub red : HasLast fed.red f (least_of d e f) z

pub have_last : (fed : Fed) (d e f z : ℕ) → IsGoodPeriod fed d e f → z + 120 ≤ least_of d e f → IsLate fed z (least_of d e f) → HaveLast fed d e f z
have_last fed d e f z good after late =
    let s = spread d e f good.blue_green good.green_red good.blue_red in
    let none = announced_column good.opens.here good.opens.next good.opens.so in
    let w = words_of_column fed.blue fed.green fed.red d e f 12 good.opens.here good.opens.is_here in
    let b = good.blue.begins in
    let g = good.green.begins in
    let r = good.red.begins in
    record {
      blue = record {
        good = good.blue;
        word = good.opens.here.blue;
        here = at_edge d fed.blue good.opens.here.blue (omega arith) w.blue_is;
        no_control = none.blue;
        after = after;
        low = s.blue_low;
        high = s.blue_high;
        no_stray = late_stray fed z (least_of d e f) late 0 (omega arith);
      };
      green = record {
        good = good.green;
        word = good.opens.here.green;
        here = at_edge e fed.green good.opens.here.green (omega arith) w.green_is;
        no_control = none.green;
        after = after;
        low = s.green_low;
        high = s.green_high;
        no_stray = late_stray fed z (least_of d e f) late 1 (omega arith);
      };
      red = record {
        good = good.red;
        word = good.opens.here.red;
        here = at_edge f fed.red good.opens.here.red (omega arith) w.red_is;
        no_control = none.red;
        after = after;
        low = s.red_low;
        high = s.red_high;
        no_stray = late_stray fed z (least_of d e f) late 2 (omega arith);
      };
    }

near_rest : (z d e : ℕ) → z ≤ d → z ≤ e → AreNear d e → AreNear (d - z) (e - z)
near_rest z d e a b near = let c = near.0 in let g = near.1 in (omega arith, omega arith)

-- the good period's edges are a triple of the epoch
pub triple_at : (fed : Fed) (d e f z : ℕ) → IsGoodPeriod fed d e f → HaveLast fed d e f z → IsTriple (drop z fed.blue) (drop z fed.green) (drop z fed.red) (d - z) (e - z) (f - z)
triple_at fed d e f z good h =
    let after = h.blue.after in
    let b = h.blue.low in
    let g = h.green.low in
    let r = h.red.low in
    record {
      blue = edge_at fed.blue d (least_of d e f) z h.blue;
      green = edge_at fed.green e (least_of d e f) z h.green;
      red = edge_at fed.red f (least_of d e f) z h.red;
      blue_green = near_rest z d e (omega arith) (omega arith) good.blue_green;
      green_red = near_rest z e f (omega arith) (omega arith) good.green_red;
      blue_red = near_rest z d f (omega arith) (omega arith) good.blue_red;
    }

-- an edge not far past another one does not lie past it
pub not_past : (xs : List Bool) (g k : ℕ) → IsEdge xs g → IsEdge xs k → g ≤ k + 70 → g ≤ k
not_past xs g k a b near = elim (cases_lt k g) [
  | inr le ↦ le
  | inl past ↦ let far = edges_apart xs k g b a past in absurd (omega arith)
]

-- the largest of three places bounds each
record AreBelow (p q r n : ℕ) : Type 0 where
  blue : p ≤ n
  green : q ≤ n
  red : r ≤ n

below : (p q r a b c n : ℕ) → max p (max q r) ≤ max a (max b c) → a ≤ n → b ≤ n → c ≤ n → AreBelow p q r n
below p q r a b c n le ha hb hc = record { blue = grind (arith, le-max_left, max-le); green = grind (arith, le-max_left, le-max_right, max-le); red = grind (arith, le-max_right, max-le) }

abbrev pub AreAt : ℕ → ℕ → ℕ → ℕ → ℕ → ℕ → ℕ → Type 0
AreAt z d e f p q r =
    ((z + p ≡ d) × (z + q ≡ e) × (z + r ≡ f)) ⊎ ((z + p + 200 ≤ d) × (z + q + 200 ≤ e) × (z + r + 200 ≤ f))

-- the first alignment is there, or it lies before
pub place_of : (fed : Fed) (d e f z p q r : ℕ) → IsGoodPeriod fed d e f → HaveLast fed d e f z → IsFirst (drop z fed.blue) (drop z fed.green) (drop z fed.red) p q r → AreAt z d e f p q r
place_of fed d e f z p q r good h first =
    let t = first.triple in
    let own = triple_at fed d e f z good h in
    let least = first.least (d - z) (e - z) (f - z) own in
    let after = h.blue.after in
    let b0 = h.blue.low in
    let b1 = h.blue.high in
    let g0 = h.green.low in
    let g1 = h.green.high in
    let r0 = h.red.low in
    let r1 = h.red.high in
    let n = below p q r (d - z) (e - z) (f - z) (least_of d e f + 70 - z) least (omega arith) (omega arith) (omega arith) in
    let nb = n.blue in
    let ng = n.green in
    let nr = n.red in
    let pb = not_past (drop z fed.blue) p (d - z) t.blue own.blue (omega arith) in
    let pg = not_past (drop z fed.green) q (e - z) t.green own.green (omega arith) in
    let pr = not_past (drop z fed.red) r (f - z) t.red own.red (omega arith) in
    let bg = t.blue_green in
    let br = t.blue_red in
    let bg0 = bg.0 in
    let bg1 = bg.1 in
    let br0 = br.0 in
    let br1 = br.1 in
    let x = earlier_edge fed.blue d (least_of d e f) z p h.blue t.blue (omega arith) in
    let y = earlier_edge fed.green e (least_of d e f) z q h.green t.green (omega arith) in
    let w = earlier_edge fed.red f (least_of d e f) z r h.red t.red (omega arith) in
    elim x [
      | inl xe ↦ elim y [
        | inl ye ↦ elim w [
          | inl we ↦ inl (xe, ye, we)
          | inr wl ↦ absurd (omega arith)
        ]
        | inr yl ↦ absurd (omega arith)
      ]
      | inr xl ↦ elim y [
        | inl ye ↦ absurd (omega arith)
        | inr yl ↦ elim w [
          | inl we ↦ absurd (omega arith)
          | inr wl ↦ inr (xl, yl, wl)
        ]
      ]
    ]

-- a column of the good period, as one of the epoch
window_at : (xs : List Bool) (z d p j w : ℕ) → z + p ≡ d → 120 ≤ p → window xs (d - 120 + 10 * j) ≡ Some w → window (drop z xs) (p - 120 + 10 * j) ≡ Some w
window_at xs z d p j w at far here =
    let same : d - 120 + 10 * j - z ≡ p - 120 + 10 * j = omega arith in
    subst (λ n. window (drop z xs) n ≡ Some w) same (rest_window z xs (d - 120 + 10 * j) w (omega arith) here)

pub column_at : (fed : Fed) (d e f z p q r j : ℕ) (c : Column) → z + p ≡ d → z + q ≡ e → z + r ≡ f → 120 ≤ p → 120 ≤ q → 120 ≤ r
    → aligned_column fed.blue fed.green fed.red d e f j ≡ Some c → aligned_column (drop z fed.blue) (drop z fed.green) (drop z fed.red) p q r j ≡ Some c
unfolding aligned_column
column_at fed d e f z p q r j c b g h fb fg fr is =
    let w = words_of_column fed.blue fed.green fed.red d e f j c is in
    let x = window_at fed.blue z d p j c.blue b fb w.blue_is in
    let y = window_at fed.green z e q j c.green g fg w.green_is in
    let v = window_at fed.red z f r j c.red h fr w.red_is in
    λ i. column_from (x i) (y i) (v i)

-- what is so of the columns at its edges is so of those of the epoch
pub edges_at : (fed : Fed) (d e f z p q r : ℕ) (test : Column → Column → Bool) (answer : Bool) → z + p ≡ d → z + q ≡ e → z + r ≡ f → 120 ≤ p → 120 ≤ q → 120 ≤ r
    → AtEdges test answer fed d e f → AtEdges test answer (rest_of z fed) p q r
edges_at fed d e f z p q r test answer b g h fb fg fr is =
    so_kept _ _ _ _ test answer (λ c. column_at fed d e f z p q r 12 c b g h fb fg fr) (λ c. column_at fed d e f z p q r 13 c b g h fb fg fr) is

largest : (p q r n : ℕ) → p ≤ n → q ≤ n → r ≤ n → max p (max q r) ≤ n
largest p q r n a b c = max-le a (max-le b c)

is_confirmed : (fed : Fed) (d e f z p q r : ℕ) → IsGoodPeriod fed d e f → HaveLast fed d e f z → IsLate fed z (least_of d e f) → AreAt z d e f p q r → IsUnconfirmed (rest_of z fed) p q r → ⊥
is_confirmed fed d e f z p q r good h late (inl at) u =
    let t = u.first.triple in
    let pb = t.blue.past in
    let pg = t.green.past in
    let pr = t.red.past in
    let a = same_column _ good.opens.here u.columns.here (column_at fed d e f z p q r 12 good.opens.here at.0 at.1 at.2 (omega arith) (omega arith) (omega arith) good.opens.is_here) u.columns.is_here in
    let b = same_column _ good.opens.next u.columns.next (column_at fed d e f z p q r 13 good.opens.next at.0 at.1 at.2 (omega arith) (omega arith) (omega arith) good.opens.is_next) u.columns.is_next in
    true≢false (sym good.opens.so ∙ (λ i. is_announced (a i) (b i)) ∙ u.columns.so)
is_confirmed fed d e f z p q r good h late (inr before) u =
    let far = late.unconfirmed p q r u in
    let x = before.0 in
    let y = before.1 in
    let w = before.2 in
    let b1 = h.blue.high in
    let g1 = h.green.high in
    let r1 = h.red.high in
    let top = largest p q r (least_of d e f - 130 - z) (omega arith) (omega arith) (omega arith) in
    omega arith

-- the first alignment of the epoch that does not end before the last twelve characters
pub record AreSettled (fed : Fed) (d e f z p q r : ℕ) : Type 0 where
  pub last : HaveLast fed d e f z
  pub first : IsFirst (drop z fed.blue) (drop z fed.green) (drop z fed.red) p q r
  pub place : AreAt z d e f p q r
  pub confirmed : IsUnconfirmed (rest_of z fed) p q r → ⊥

pub are_settled : (fed : Fed) (d e f z : ℕ) → IsGoodPeriod fed d e f → z + 120 ≤ least_of d e f → IsLate fed z (least_of d e f) → (p q r : ℕ) × AreSettled fed d e f z p q r
are_settled fed d e f z good after late =
    let h = have_last fed d e f z good after late in
    elim (first_decided (drop z fed.blue) (drop z fed.green) (drop z fed.red)) [
      | inr none ↦ absurd (none (d - z) (e - z) (f - z) (triple_at fed d e f z good h))
      | inl first ↦
          let at = place_of fed d e f z first.0 first.1 first.2 good h first.3 in
          (first.0, first.1, first.2, record { last = h; first = first.3; place = at; confirmed = is_confirmed fed d e f z first.0 first.1 first.2 good h late at })
    ]

settled_at : (fed : Fed) (d e f z : ℕ) → IsGoodPeriod fed d e f → z + 120 ≤ least_of d e f → EndsLate fed z (least_of d e f) → (p q r : ℕ) × IsSettled fed d e f z p q r
settled_at fed d e f z good after late =
    let s = are_settled fed d e f z good after (late_of fed z (least_of d e f) late) in
    let is = s.3 in
    (s.0, s.1, s.2, record { begins = after; ends = late; first = is.first; place = is.place; confirmed = is.confirmed })

-- Its beginning.

abbrev Settles : Fed → ℕ → ℕ → ℕ → Type 0
Settles fed d e f = (start : ℕ) × IsStart fed start × ((p q r : ℕ) × IsSettled fed d e f start p q r)

settle : (n : ℕ) (fed : Fed) (d e f z : ℕ) → IsGoodPeriod fed d e f → IsStart fed z → z + 120 ≤ least_of d e f → least_of d e f < z + 120 + n → Settles fed d e f
settle zero fed d e f z good start after fuel = absurd (omega arith)
settle (suc n) fed d e f z good start after fuel = elim (decided (rest_of z fed)) [
  | inr last ↦ (z, start, settled_at fed d e f z good after (λ place ends. absurd (excludes (rest_of z fed) ends.0 place last ends.1)))
  | inl end ↦
      let past = (within (rest_of z fed) end.0 end.1 end.2).0 in
      elim (cases_lt (least_of d e f) (z + end.1 + 120)) [
        | inl late ↦ (z, start, settled_at fed d e f z good after (λ place ends. let same = (one (rest_of z fed) ends.0 end.0 place end.1 ends.1 end.2).1 in omega arith))
        | inr early ↦ settle n fed d e f (z + end.1) good (next_start fed z end.1 start (end.0, end.2)) (omega arith) (omega arith)
      ]
]

pub settles_at_period : SettlesAtPeriod
settles_at_period fed d e f good =
    let s = spread d e f good.blue_green good.green_red good.blue_red in
    let b = good.blue.begins in
    let high = s.blue_high in
    settle (suc (least_of d e f)) fed d e f 0 good (first_start fed) (omega arith) (omega arith)

-- It is the last where the lanes have few damaged characters from there on.

pub none_at : (fed : Fed) (z : ℕ) → HasNoStray (drop z fed.blue) → HasNoStray (drop z fed.green) → HasNoStray (drop z fed.red) → HasNoEnd (rest_of z fed)
none_at fed z blue green red zero lt = blue
none_at fed z blue green red (suc zero) lt = green
none_at fed z blue green red (suc (suc l)) lt = red

pub settles_for_good : SettlesForGood
settles_for_good fed d e f good blue green red z p q r is =
    let h = have_last fed d e f z good is.begins (late_of fed z (least_of d e f) is.ends) in
    record {
      no_stray = none_at fed z (calm_none fed.blue d (least_of d e f) z h.blue blue) (calm_none fed.green e (least_of d e f) z h.green green) (calm_none fed.red f (least_of d e f) z h.red red);
      confirmed = none_unconfirmed (rest_of z fed) p q r is.first is.confirmed;
    }
