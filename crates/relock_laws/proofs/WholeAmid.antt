-- A control period that comes whole among any characters: the epoch that has its last columns is the last, and has its skew.
use Rattle.std.proofs.Common.{◌≡◌, ◌⊎◌, ℕ, ◌+◌, ◌-◌, ◌*◌, ◌/◌, ◌%◌, ◌<◌, ◌≤◌, Bool, List, ◌∷◌, ◌++◌, length, map, take, drop, ap, ◌∙◌, sym, subst, append_assoc, arith, inl, inr, length-append, length-drop, length-take, length-take-le}
use Rattle.std.specs.Prelude.{slice_index}
use Rattle.std.proofs.lemmas.List.{take-append-drop}
use Rattle.tmds_word.specs.Column.{Column}
use Rattle.lane_align.specs.Lanes.{IsRun}
use Rattle.lane_align.proofs.Controls.{one_lock}
use Rattle.lane_align.proofs.Parts.{run_of_rest}
use Rattle.lane_deskew.specs.Aligned.{aligned_columns}
use Rattle.lane_deskew.specs.Triples.{IsTriple}
use Rattle.lane_track.specs.Strays.{HasNoStray}
use Rattle.island_pack.specs.Periods.{Period, period_columns, columns_of}
use Rattle.island_pack.specs.Sparse.{column_at}
use Rattle.period_grammar.specs.Events.{Event, event_of}
use Rattle.period_grammar.specs.Heard.{heard_so_far, heard}
use Rattle.link_laws.proofs.LocalStream.{row_anywhere, spelled_at, heard_pieces}
use Rattle.link_laws.specs.Literal.{period_placed}
use Rattle.link_laws.specs.Local.{part_at, twelve_before}
use Rattle.link_sink.specs.Sinks.{Fed}
use Rattle.track_sink.specs.Epochs.{rest_of, HasNoEnd}
use Rattle.relock_sink.specs.Doubts.{IsContender, IsLetGo}
use Rattle.relock_sink.specs.RefutedDecided.{later_of}
use Rattle.relock_sink.specs.Refuting.{IsLastUnrefuted, refuting_rule}
use Rattle.relock_sink.specs.Rivals.{HaveSameSkew, columns_before}
use Rattle.relock_laws.specs.RefutingSettled.{IsSettledBy, IsWholeGoodFrom}
use Rattle.relock_laws.specs.WholeAmid.{HasNoStrayFrom, ComesWholeAmid, EndReceived, SettlesAmid, RowsAfter}
use Rattle.relock_laws.proofs.Again.{IsTapAfter, long_lane, received_there}
use Rattle.relock_laws.proofs.ClearEnds.{none_contends}
use Rattle.relock_laws.proofs.Ending.{none_unconfirmed}
use Rattle.relock_laws.proofs.GoodPeriod.{HasLast, edge_at}
use Rattle.relock_laws.proofs.Refuting.{whole_apart}
use Rattle.relock_laws.proofs.RefutingAgain.{ArePlaced, all_earlier, all_later, AreClose, placed, close, together, not_earlier, more_before, few_columns, columns_again, past_all, let_go_first}
use Rattle.relock_laws.proofs.RefutingSettling.{late_by, settles_by_refuting}
use Rattle.relock_laws.proofs.Settling.{least_of, HaveLast, have_last, triple_at, none_at}
use Rattle.relock_laws.proofs.SkewColumns.{columns_left}
use Rattle.relock_laws.proofs.Undoubted.{AreAfter}
use Rattle.relock_laws.proofs.Unrefuted.{last_unrefuted}
use Rattle.relock_laws.proofs.WholeColumns.{spelled_whole, whole_before}
use Rattle.relock_laws.proofs.WholeSettling.{skew_at_whole}

-- edges for which an alignment is let go contend with it
pub let_go_contends : (fed : Fed) (p q r d e f : ℕ) → IsLetGo fed p q r d e f → IsContender fed p q r d e f
let_go_contends fed p q r d e f (inl refuted) = record { later = refuted.later; other_skew = refuted.other_skew; period = refuted.period.ending }
let_go_contends fed p q r d e f (inr doubted) = doubted.contender

-- an epoch has no stray on a lane that has none from the control period on
stays_free : (xs : List Bool) (e least z : ℕ) → HasLast xs e least z → HasNoStrayFrom xs e → HasNoStray (drop z xs)
stays_free xs e least z h stays p stray =
    let begins = h.good.begins in
    let after = h.after in
    let low = h.low in
    let high = h.high in
    let near = h.no_stray p stray in
    let edge = edge_at xs e least z h in
    let same = one_lock (drop z xs) stray.lock edge.lock stray.is_lock edge.is_lock in
    let aligned = edge.aligned in
    let run : IsRun xs (z + p) = run_of_rest z xs p stray.run in
    let even = stays (z + p) (omega arith) run in
    stray.apart (omega arith)

module _ (ps : List Period) (sent received : List Column) (offset : ℕ) (skews counts : List ℕ) (x fed : Fed) (before : List ℕ) (j a d e f : ℕ)
    (c : ComesWholeAmid ps sent received offset skews counts x fed before j a d e f) where
  -- the lanes have it whole
  whole_amid : IsWholeGoodFrom fed d e f (a + 12 - j)
  whole_amid =
      let h = c.reception in
      spelled_whole ps sent received offset skews counts x fed before j a d e f
      (record {
        spelled = record { conforming = h.conforming; spelled = h.spelled; same_length = h.same_length };
        narrow = h.characters;
        tap = c.tapped;
        blue_after = c.blue_after;
        green_after = c.green_after;
        red_after = c.red_after;
        whole = c.whole;
        blue = c.blue;
        green = c.green;
        red = c.red;
        blue_green = c.blue_green;
        green_red = c.green_red;
        blue_red = c.blue_red;
      })

  tap_after : IsTapAfter received offset skews counts x fed before a d e f
  tap_after = record {
    tapped = c.tapped;
    narrow = c.reception.characters;
    blue_after = c.blue_after;
    green_after = c.green_after;
    red_after = c.red_after;
    blue = c.blue.at;
    green = c.green.at;
    red = c.red.at;
    blue_whole = whole_before offset (slice_index skews 0) (slice_index before 0) j a d (length fed.blue) c.whole.long c.blue;
    green_whole = whole_before offset (slice_index skews 1) (slice_index before 1) j a e (length fed.green) c.whole.long c.green;
    red_whole = whole_before offset (slice_index skews 2) (slice_index before 2) j a f (length fed.red) c.whole.long c.red;
    blue_within = long_lane fed.blue d whole_amid.good.good.blue;
    green_within = long_lane fed.green e whole_amid.good.good.green;
    red_within = long_lane fed.red f whole_amid.good.good.red;
  }

  -- Of the epoch that has its last columns.
  module _ (z p q r : ℕ) (is : IsSettledBy refuting_rule fed d e f z p q r) where
    has_last : HaveLast fed d e f z
    has_last = have_last fed d e f z whole_amid.good.good is.begins (late_by fed z (least_of d e f) is.ends)

    no_stray : HasNoEnd (rest_of z fed)
    no_stray =
        none_at fed z (stays_free fed.blue d (least_of d e f) z has_last.blue c.blue_stays) (stays_free fed.green e (least_of d e f) z has_last.green c.green_stays)
        (stays_free fed.red f (least_of d e f) z has_last.red c.red_stays)

    same_skew : HaveSameSkew p q r d e f
    same_skew = elim (skew_at_whole fed d e f (a + 12 - j) whole_amid z p q r is) [
      | inl same ↦ same
      | inr slip ↦ let end = slip.2.slip.end in absurd (no_stray slip.0 end.within slip.1 end.stray)
    ]

    before_it : (z + p ≤ d) × (z + q ≤ e) × (z + r ≤ f)
    before_it = elim is.place [
      | inl at ↦ let b = at.0 in let g = at.1 in let v = at.2 in (omega arith, omega arith, omega arith)
      | inr far ↦ let b = far.0 in let g = far.1 in let v = far.2 in (omega arith, omega arith, omega arith)
    ]

    -- how many columns its alignment has before the control period ends
    count : (n : ℕ) × (z + p + 10 * n ≡ d) × (z + q + 10 * n ≡ e) × (z + r + 10 * n ≡ f)
    count =
        let own = triple_at fed d e f z whole_amid.good.good has_last in
        let t = is.first.triple in
        let past_b = t.blue.past in
        let after_b = own.blue.past in
        let even = whole_apart (drop z fed.blue) p (d - z) t.blue own.blue in
        let same = same_skew in
        let same0 = same.0 in
        let same1 = same.1 in
        let upto = before_it in
        let upto_b = upto.0 in
        ((d - z - p) / 10, omega arith, omega arith, omega arith)

    -- it is let go for no later edges
    none_later : (s t u : ℕ) → IsContender (rest_of z fed) p q r s t u → d ≤ z + s → e ≤ z + t → f ≤ z + u → ⊥
    none_later s t u other lb lg lv =
        let n = count.0 in
        let nb = count.1 in
        let ng = count.2 in
        let nv = count.3 in
        let own = other.later.own.first.triple in
        let then = other.later.triple in
        let past_b = own.blue.past in
        let past_g = own.green.past in
        let past_r = own.red.past in
        let bi = whole_apart (drop z fed.blue) p s own.blue then.blue in
        let gi = whole_apart (drop z fed.green) q t own.green then.green in
        let vi = whole_apart (drop z fed.red) r u own.red then.red in
        let past = past_all fed d e f z p q r whole_amid.good.good has_last same_skew s t u other lb lg lv before_it.0 (inr whole_amid.good) in
        let x0 = past.0 in
        let y0 = past.1 in
        let v0 = past.2 in
        let are = columns_again received offset skews counts x fed before a d e f z p q r n tap_after (omega arith) (omega arith) (omega arith) nb ng nv in
        let more = more_before ((s - p) / 10) ((t - q) / 10) ((u - r) / 10) (n + 1) (omega arith) (omega arith) (omega arith) in
        none_contends ps sent received (a + 12) (record { conforming = c.reception.conforming; spelled = c.reception.spelled; same_length = c.reception.same_length }) c.clear_ends
        (rest_of z fed) p q r n a are s t u other (record { blue = omega arith; green = omega arith; red = omega arith }) (omega arith)

    stands : (s t u : ℕ) → IsLetGo (rest_of z fed) p q r s t u → ⊥
    stands s t u go = by (where_lies (later_of (rest_of z fed) p q r s t u go).triple)
      where
        where_lies : IsTriple (drop z fed.blue) (drop z fed.green) (drop z fed.red) s t u → ArePlaced d e f z s t u
        where_lies triple =
            let good = whole_amid.good.good in
            let near : AreClose d e f = record { blue_green = good.blue_green.0; green_blue = good.blue_green.1; blue_red = good.blue_red.0; red_blue = good.blue_red.1 } in
            together d e f z s t u near (close (rest_of z fed) s t u triple)
            (placed fed.blue d (least_of d e f) z s has_last.blue triple.blue)
            (placed fed.green e (least_of d e f) z t has_last.green triple.green)
            (placed fed.red f (least_of d e f) z u has_last.red triple.red)

        by : ArePlaced d e f z s t u → ⊥
        by (all_earlier b g v) = not_earlier fed d e f z p q r s t u whole_amid.good.good has_last is.ends b g v go
        by (all_later b g v) = none_later s t u (let_go_contends (rest_of z fed) p q r s t u go) b g v

    last_amid : IsLastUnrefuted (rest_of z fed)
    last_amid =
        last_unrefuted (rest_of z fed) (record { no_stray = no_stray; confirmed = none_unconfirmed (rest_of z fed) p q r is.first is.confirmed })
        (λ i k l s t u go. stands s t u (let_go_first (rest_of z fed) i k l s t u p q r is.first go))

    -- its columns from there on are received ones
    ends_amid : EndReceived (aligned_columns (rest_of z fed).blue (rest_of z fed).green (rest_of z fed).red p q r) count.0 received a
    ends_amid =
        let n = count.0 in
        let nb = count.1 in
        let ng = count.2 in
        let nv = count.3 in
        let t = is.first.triple in
        let past_b = t.blue.past in
        let past_g = t.green.past in
        let past_r = t.red.past in
        let columns = aligned_columns (drop z fed.blue) (drop z fed.green) (drop z fed.red) p q r in
        let left = columns_left (rest_of z fed) p q r (d - z) (e - z) (f - z) n (omega arith) (omega arith) (omega arith) (omega arith) (omega arith) (omega arith) in
        let there = received_there received offset skews counts x fed before a d e f z tap_after (omega arith) (omega arith) (omega arith) in
        let mine : drop n columns ≡ take (length (drop n columns)) (drop a received) = subst (λ ds. ds ≡ take (length ds) (drop a received)) (sym left) there in
        mine ∙ ap (λ k. take k (drop a received)) (length-drop n columns)

pub settles_amid : SettlesAmid
settles_amid ps sent received offset skews counts x fed before j a d e f c =
    let s = settles_by_refuting fed d e f (whole_amid ps sent received offset skews counts x fed before j a d e f c).good.good in
    let z = s.0 in
    let p = s.2.0 in
    let q = s.2.1 in
    let r = s.2.2 in
    let is = s.2.3 in
    let n = count ps sent received offset skews counts x fed before j a d e f c z p q r is in (
      z,
      s.1,
      (
        p,
        q,
        r,
        is,
        same_skew ps sent received offset skews counts x fed before j a d e f c z p q r is,
        last_amid ps sent received offset skews counts x fed before j a d e f c z p q r is,
        (n.0, n.1, ends_amid ps sent received offset skews counts x fed before j a d e f c z p q r is),
      ),
    )

-- Rows.

pub rows_after : RowsAfter
rows_after front p back sent received columns n a is spells same ends long alone late past =
    let j = columns_of front in
    let w = period_columns p in
    let m = length columns - n in
    let own = part_at j p received in
    let before = twelve_before j received in
    let part = take (j - 12 - a) (drop a received) in
    let earlier = take n columns ++ part in
    let later = take (a + m - (j + w + 1)) (drop (j + w + 1) received) in
    let next = column_at received (j + w) in
    let size = ap length ends in
    let whole_size = length-drop n columns in
    let got = length-take m (drop a received) in
    let from = length-drop a received in
    let cut = heard_pieces received a m j w late (omega arith) (omega arith) in
    let are : columns ≡ earlier ++ (before ++ (own ++ (next ∷ later))) =
    sym (take-append-drop n columns) ∙ ap (λ cs. take n columns ++ cs) (ends ∙ cut) ∙ sym (append_assoc (take n columns) part (before ++ (own ++ (next ∷ later)))) in
    let a0 = length-append (take n columns) part in
    let a1 : length (take n columns) ≡ n = length-take-le n columns long in
    let a2 : length part ≡ j - 12 - a = length-take-le (j - 12 - a) (drop a received) (omega arith) in
    let k = length-drop (j - 12) received in
    let twelve : length before ≡ 12 = length-take-le 12 (drop (j - 12) received) (omega arith) in
    let b : length earlier + length before ≡ n + (j - a) = omega arith in
    let law = row_anywhere p (part_at j p sent) own is (record { spelled = spelled_at front p back sent spells; sparse = alone.sparse }) earlier before next later alone.before alone.next in
    let first = map event_of (heard_so_far (take (length earlier + length before + 1) (earlier ++ (before ++ (own ++ (next ∷ later)))))) in (
      first,
      law.0,
      ap heard are ∙ law.1 ∙ ap (λ (i : ℕ). first ++ (map event_of (period_placed i before p (part_at j p sent) own) ++ law.0)) b,
    )
