-- A tap after any bits: from a good control period of it on there is one epoch, and what is reported from there on is the account.
use Rattle.std.proofs.Common.{◌≡◌, ℕ, ◌+◌, ◌-◌, ◌*◌, ◌/◌, ◌<◌, ◌≤◌, Bool, List, length, take, drop, ap, ap₂, ◌∙◌, sym, subst, arith, inl, inr, length-drop}
use Rattle.std.specs.Prelude.{slice_index}
use Rattle.std.proofs.lemmas.List.{drop-drop}
use Rattle.tmds_word.specs.Column.{Column, blues, greens, reds}
use Rattle.tmds_word.specs.Taps.{IsPart, IsTap}
use Rattle.tmds_word.specs.Words.{words_of, columns_of}
use Rattle.lane_align.specs.Laws.{IsCalm}
use Rattle.lane_align.specs.Words.{words_from}
use Rattle.lane_align.proofs.Controls.{control_within}
use Rattle.lane_deskew.specs.Triples.{IsFirst}
use Rattle.lane_deskew.specs.Aligned.{aligned_columns}
use Rattle.lane_track.proofs.Around.{drop_part}
use Rattle.island_pack.specs.Periods.{Period}
use Rattle.island_pack.specs.Sparse.{IsNarrow, column_at}
use Rattle.period_grammar.specs.Heard.{heard}
use Rattle.link_laws.specs.Laws.{IsAccounted}
use Rattle.link_laws.specs.LaneEnds.{damaged}
use Rattle.link_laws.proofs.Aligned.{BeginAt, columns_taken}
use Rattle.link_laws.proofs.Calm.{lanes_are_calm}
use Rattle.link_laws.proofs.Framing.{link_law}
use Rattle.link_laws.proofs.Freely.{free_received}
use Rattle.link_laws.proofs.Tapped.{characters}
use Rattle.link_sink.specs.Sinks.{Fed}
use Rattle.relock_laws.specs.Settled.{EndsNineteen, IsCalmFrom, IsAgain, RecoversAgain}
use Rattle.relock_laws.proofs.Settling.{AreAt, settles_at_period, settles_for_good}

-- what is left of a lane from a place of the tap on
left : (n k : ℕ) (xs us : List Bool) → drop n xs ≡ us → n ≤ k → drop k xs ≡ drop (k - n) us
left n k xs us after le =
    let e : n + (k - n) ≡ k = omega arith in
    ap (λ m. drop m xs) (sym e) ∙ sym (drop-drop (k - n) n xs) ∙ ap (drop (k - n)) after

-- such a lane is calm from there on
calm_from : (words : List ℕ) (marks : List Bool) (from many n e : ℕ) (xs us : List Bool) → IsCalm words marks → IsPart words from many us → drop n xs ≡ us → n + 190 ≤ e → IsCalmFrom xs e
calm_from words marks from many n e xs us calm part after le = record {
  words = words;
  marks = marks;
  from = from + (e - 190 - n);
  many = many - (e - 190 - n);
  calm = calm;
  part = left n (e - 190) xs us after (omega arith) ∙ ap (drop (e - 190 - n)) part.bits_are ∙ drop_part words from many (e - 190 - n);
}

-- the characters of an epoch from a place on are those of the tap
words_moved : (z n d : ℕ) (xs us : List Bool) → drop n xs ≡ us → z + 120 ≤ d → n + 120 ≤ d → words_from (drop z xs) (d - z - 120) ≡ words_from us (d - n - 120)
unfolding words_from
words_moved z n d xs us after low high =
    let a = length-drop z xs in
    let b = length-drop n xs in
    let c = ap length after in
    let count : (length (drop z xs) - (d - z - 120)) / 10 ≡ (length us - (d - n - 120)) / 10 = omega arith in
    let e : z + (d - z - 120) ≡ d - 120 = omega arith in
    let f : d - 120 - n ≡ d - n - 120 = omega arith in
    ap₂ (λ (k : ℕ) (ys : List Bool). words_of k ys) count
    (drop-drop (d - z - 120) z xs ∙ ap (λ m. drop m xs) e ∙ left n (d - 120) xs us after (omega arith) ∙ ap (λ m. drop m us) f)

columns_moved : (z n m k d e f : ℕ) (xs ys zs us vs ws : List Bool) → drop n xs ≡ us → drop m ys ≡ vs → drop k zs ≡ ws
    → z + 120 ≤ d → z + 120 ≤ e → z + 120 ≤ f → n + 120 ≤ d → m + 120 ≤ e → k + 120 ≤ f
    → aligned_columns (drop z xs) (drop z ys) (drop z zs) (d - z) (e - z) (f - z) ≡ aligned_columns us vs ws (d - n) (e - m) (f - k)
unfolding aligned_columns
columns_moved z n m k d e f xs ys zs us vs ws a b c dz ez fz dn em fk =
    let x = words_moved z n d xs us a dz dn in
    let y = words_moved z m e ys vs b ez em in
    let w = words_moved z k f zs ws c fz fk in
    λ i. columns_of (x i) (y i) (w i)

-- the nineteen characters are there
pub long_lane : (xs : List Bool) (e : ℕ) → EndsNineteen xs e → e ≤ length xs
long_lane xs e good =
    let begins = good.begins in
    let last = control_within xs (e - 190 + 10 * 18) (good.controls 18 (omega arith)) in
    omega arith

-- a tap of characters that comes after other bits, at three places of which its column a + 12 begins
pub record IsTapAfter (received : List Column) (offset : ℕ) (skews counts : List ℕ) (x fed : Fed) (before : List ℕ) (a d e f : ℕ) : Type 0 where
  pub tapped : IsTap received offset skews counts x.blue x.green x.red
  pub narrow : (i : ℕ) → i < length received → IsNarrow (column_at received i)
  pub blue_after : drop (slice_index before 0) fed.blue ≡ x.blue
  pub green_after : drop (slice_index before 1) fed.green ≡ x.green
  pub red_after : drop (slice_index before 2) fed.red ≡ x.red
  pub blue : d + offset + slice_index skews 0 ≡ 10 * (a + 12) + slice_index before 0
  pub green : e + offset + slice_index skews 1 ≡ 10 * (a + 12) + slice_index before 1
  pub red : f + offset + slice_index skews 2 ≡ 10 * (a + 12) + slice_index before 2
  pub blue_whole : slice_index before 0 + 190 ≤ d
  pub green_whole : slice_index before 1 + 190 ≤ e
  pub red_whole : slice_index before 2 + 190 ≤ f
  pub blue_within : d ≤ length fed.blue
  pub green_within : e ≤ length fed.green
  pub red_within : f ≤ length fed.red

pub tap_again : (ps : List Period) (sent received : List Column) (offset : ℕ) (skews counts : List ℕ) (x fed : Fed) (before : List ℕ) (a d e f : ℕ)
    → IsAgain ps sent received offset skews counts x fed before a d e f → IsTapAfter received offset skews counts x fed before a d e f
tap_again ps sent received offset skews counts x fed before a d e f h = record {
  tapped = h.reception.tapped;
  narrow = h.reception.reception.sparse.characters;
  blue_after = h.blue_after;
  green_after = h.green_after;
  red_after = h.red_after;
  blue = h.blue;
  green = h.green;
  red = h.red;
  blue_whole = h.blue_whole;
  green_whole = h.green_whole;
  red_whole = h.red_whole;
  blue_within = long_lane fed.blue d h.good.blue;
  green_within = long_lane fed.green e h.good.green;
  red_within = long_lane fed.red f h.good.red;
}

-- the columns of an epoch from there on are received ones
pub received_there : (received : List Column) (offset : ℕ) (skews counts : List ℕ) (x fed : Fed) (before : List ℕ) (a d e f z : ℕ)
    → IsTapAfter received offset skews counts x fed before a d e f → z + 120 ≤ d → z + 120 ≤ e → z + 120 ≤ f
    → let cs = aligned_columns (drop z fed.blue) (drop z fed.green) (drop z fed.red) (d - z) (e - z) (f - z) in
    cs ≡ take (length cs) (drop a received)
received_there received offset skews counts x fed before a d e f z h dz ez fz =
    let n = slice_index before 0 in
    let m = slice_index before 1 in
    let k = slice_index before 2 in
    let at_b = h.blue in
    let at_g = h.green in
    let at_r = h.red in
    let b = h.blue_whole in
    let g = h.green_whole in
    let r = h.red_whole in
    let tap = h.tapped in
    let lb = h.blue_within in
    let lg = h.green_within in
    let lr = h.red_within in
    let sb = ap length h.blue_after in
    let sg = ap length h.green_after in
    let sr = ap length h.red_after in
    let tb = length-drop n fed.blue in
    let tg = length-drop m fed.green in
    let tr = length-drop k fed.red in
    let cs = aligned_columns x.blue x.green x.red (d - n) (e - m) (f - k) in
    let begins : BeginAt received (offset + slice_index skews 0) (offset + slice_index skews 1) (offset + slice_index skews 2)
    (slice_index counts 0) (slice_index counts 1) (slice_index counts 2) a x.blue x.green x.red (d - n) (e - m) (f - k) = record {
      blue = tap.blue_part.bits_are;
      green = tap.green_part.bits_are;
      red = tap.red_part.bits_are;
      blue_begins = omega arith;
      green_begins = omega arith;
      red_begins = omega arith;
      blue_within = omega arith;
      green_within = omega arith;
      red_within = omega arith;
    } in
    let columns : cs ≡ take (length cs) (drop a received) =
    columns_taken received (offset + slice_index skews 0) (offset + slice_index skews 1) (offset + slice_index skews 2)
    (slice_index counts 0) (slice_index counts 1) (slice_index counts 2) a x.blue x.green x.red (d - n) (e - m) (f - k) begins
    (characters (λ c. c.blue) received (λ i lt. (h.narrow i lt).blue)) (characters (λ c. c.green) received (λ i lt. (h.narrow i lt).green)) (characters (λ c. c.red) received (λ i lt. (h.narrow i lt).red)) in
    subst (λ ds. ds ≡ take (length ds) (drop a received))
    (sym (columns_moved z n m k d e f fed.blue fed.green fed.red x.blue x.green x.red h.blue_after h.green_after h.red_after dz ez fz (omega arith) (omega arith) (omega arith))) columns

-- where the epoch is aligned at the good period
pub accounted : (ps : List Period) (sent received : List Column) (offset : ℕ) (skews counts : List ℕ) (x fed : Fed) (before : List ℕ) (a d e f z : ℕ)
    → IsAgain ps sent received offset skews counts x fed before a d e f → z + 120 ≤ d → z + 120 ≤ e → z + 120 ≤ f
    → IsAccounted ps sent received (aligned_columns (drop z fed.blue) (drop z fed.green) (drop z fed.red) (d - z) (e - z) (f - z)) a
accounted ps sent received offset skews counts x fed before a d e f z h dz ez fz =
    let free = free_received ps sent received h.reception.reception in
    let cs = aligned_columns (drop z fed.blue) (drop z fed.green) (drop z fed.red) (d - z) (e - z) (f - z) in
    let columns = received_there received offset skews counts x fed before a d e f z (tap_again ps sent received offset skews counts x fed before a d e f h) dz ez fz in
    record { ends = h.ends; columns = columns; reported = ap heard columns ∙ link_law ps sent received free a (length cs) h.ends }

-- the alignment is at the good period on all lanes, where it is on one
record AreThere (fed : Fed) (d e f start p q r : ℕ) : Type 0 where
  blue : p ≡ d - start
  green : q ≡ e - start
  red : r ≡ f - start
  blue_low : start + 120 ≤ d
  green_low : start + 120 ≤ e
  red_low : start + 120 ≤ f

there : (fed : Fed) (d e f start p q r : ℕ) → IsFirst (drop start fed.blue) (drop start fed.green) (drop start fed.red) p q r → AreAt start d e f p q r → start + p ≡ d → AreThere fed d e f start p q r
there fed d e f start p q r first place at =
    let t = first.triple in
    let b = t.blue.past in
    let g = t.green.past in
    let w = t.red.past in
    elim place [
      | inl h ↦
          let x = h.0 in
          let y = h.1 in
          let v = h.2 in
          record { blue = omega arith; green = omega arith; red = omega arith; blue_low = omega arith; green_low = omega arith; red_low = omega arith }
      | inr h ↦ let x = h.0 in absurd (omega arith)
    ]

pub accounted_there : (ps : List Period) (sent received : List Column) (offset : ℕ) (skews counts : List ℕ) (x fed : Fed) (before : List ℕ) (a d e f start p q r : ℕ)
    → IsAgain ps sent received offset skews counts x fed before a d e f
    → IsFirst (drop start fed.blue) (drop start fed.green) (drop start fed.red) p q r → AreAt start d e f p q r → start + p ≡ d
    → IsAccounted ps sent received (aligned_columns (drop start fed.blue) (drop start fed.green) (drop start fed.red) p q r) a
accounted_there ps sent received offset skews counts x fed before a d e f start p q r h first place at =
    let t = there fed d e f start p q r first place at in
    let own = accounted ps sent received offset skews counts x fed before a d e f start h t.blue_low t.green_low t.red_low in
    let P : ℕ → ℕ → ℕ → Type 0 = λ i j k. IsAccounted ps sent received (aligned_columns (drop start fed.blue) (drop start fed.green) (drop start fed.red) i j k) a in
    subst (λ n. P n q r) (sym t.blue) (subst (λ n. P (d - start) n r) (sym t.green) (subst (λ n. P (d - start) (e - start) n) (sym t.red) own))

-- the lanes are calm from the good period on
pub record AreCalmFrom (fed : Fed) (d e f : ℕ) : Type 0 where
  pub blue : IsCalmFrom fed.blue d
  pub green : IsCalmFrom fed.green e
  pub red : IsCalmFrom fed.red f

pub calm_again : (ps : List Period) (sent received : List Column) (offset : ℕ) (skews counts : List ℕ) (x fed : Fed) (before : List ℕ) (a d e f : ℕ)
    → IsAgain ps sent received offset skews counts x fed before a d e f → AreCalmFrom fed d e f
calm_again ps sent received offset skews counts x fed before a d e f h =
    let calm = lanes_are_calm ps sent received h.reception.reception in
    let tap = h.reception.tapped in
    record {
      blue = calm_from (blues received) (damaged (blues sent) (blues received)) (offset + slice_index skews 0) (slice_index counts 0) (slice_index before 0) d fed.blue x.blue calm.blue tap.blue_part h.blue_after h.blue_whole;
      green = calm_from (greens received) (damaged (greens sent) (greens received)) (offset + slice_index skews 1) (slice_index counts 1) (slice_index before 1) e fed.green x.green calm.green tap.green_part h.green_after h.green_whole;
      red = calm_from (reds received) (damaged (reds sent) (reds received)) (offset + slice_index skews 2) (slice_index counts 2) (slice_index before 2) f fed.red x.red calm.red tap.red_part h.red_after h.red_whole;
    }

pub recovers_again : RecoversAgain
recovers_again ps sent received offset skews counts x fed before a d e f h =
    let s = settles_at_period fed d e f h.good in
    let start = s.0 in
    let p = s.2.0 in
    let q = s.2.1 in
    let r = s.2.2 in
    let is = s.2.3 in
    let calm = calm_again ps sent received offset skews counts x fed before a d e f h in (
      start,
      s.1,
      (
        p,
        q,
        r,
        is,
        settles_for_good fed d e f h.good calm.blue calm.green calm.red start p q r is,
        accounted_there ps sent received offset skews counts x fed before a d e f start p q r h is.first is.place,
      ),
    )
