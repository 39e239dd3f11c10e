-- A slip within a line that is not noticed, and what is reported of the lanes: where the lane had no lock before it,
-- what a tap with the skews after the slip does; where it had one, the account as far as columns end before the slip.
use Rattle.std.proofs.Common.{◌≡◌, ◌⊎◌, ◌↔◌, ℕ, suc, zero, ◌+◌, ◌-◌, ◌*◌, ◌/◌, ◌<◌, ◌≤◌, Bool, true, List, [], ◌∷◌, length, take, drop, get_or, ap, ap₂, ◌∙◌, sym, subst, arith, inl, inr, length-drop}
use Rattle.std.specs.Prelude.{slice_index}
use Rattle.std.proofs.lemmas.Bool.{cases_lt}
use Rattle.std.proofs.lemmas.List.{drop-drop, length-take-le, take_all}
use Rattle.tmds_word.specs.Bits.{number, turns, word_bits, row_bits}
use Rattle.tmds_word.specs.Column.{Column}
use Rattle.tmds_word.specs.Taps.{part_of, IsPart}
use Rattle.tmds_word.specs.Words.{words_of, columns_of}
use Rattle.tmds_word.proofs.Lists.{length-word_bits}
use Rattle.terc4.specs.Tables.{is_control}
use Rattle.lane_align.specs.Lanes.{IsRun, IsLock, IsEdge}
use Rattle.lane_align.specs.Words.{words_from}
use Rattle.lane_align.proofs.Across.{control_turns, ten_bits}
use Rattle.lane_align.proofs.Calm.{control_is, row_word, tap_lock}
use Rattle.lane_align.proofs.Controls.{window_is, window_here, run_within}
use Rattle.lane_align.proofs.Parts.{run_in_front, run_in_rest, run_of_front, run_of_rest, take_piece}
use Rattle.lane_deskew.specs.Triples.{IsFirst}
use Rattle.lane_deskew.specs.Aligned.{aligned_columns}
use Rattle.island_pack.specs.Periods.{Period}
use Rattle.link_laws.proofs.Freely.{free_received}
use Rattle.link_laws.specs.Laws.{BeginColumn, IsAccounted}
use Rattle.link_sink.specs.Sinks.{Fed}
use Rattle.link_laws.proofs.Tapped.{payload_accounted}
use Rattle.lane_track.specs.Slips.{Slips, BeginsControl, slipped_part}
use Rattle.lane_track.specs.Strays.{IsStray, IsFirstStray, HasNoStray}
use Rattle.lane_track.proofs.Around.{drop_part, length-part, no_run_across, strays_after}
use Rattle.lane_track.proofs.Begins.{stray_starts}
use Rattle.lane_track.proofs.Cutting.{drop_slipped, front_piece, length_slipped, run_before, run_after, run_stays_before, run_stays_after}
use Rattle.track_sink.specs.Epochs.{lane_of, front_of, HasNoEnd}
use Rattle.track_laws.specs.Laws.{Received, Slipped, SlipsInVideo, FirstAccounted, later_skews, words_at}
use Rattle.track_laws.proofs.Before.{front_accounted}
use Rattle.track_laws.proofs.Ends.{none_of, same_lane, slipped_is}
use Rattle.track_laws.proofs.First.{first_same}
use Rattle.track_laws.proofs.Noticed.{lock_before, others_none}
use Rattle.track_laws.proofs.Slipping.{marks_at, begins_control, calm_lanes, slips_at}

-- The runs of a lane that had no lock before it slipped.

-- a lane with no lock before a place has no run before it
no_run_early : (xs : List Bool) (place : ℕ) → ((lock : ℕ) → IsLock xs lock → lock + 120 ≤ place → ⊥) → (n p : ℕ) → p < n → p + 120 ≤ place → IsRun xs p → ⊥
no_run_early xs place none zero p lt before run = omega arith
no_run_early xs place none (suc n) p lt before run =
    none p (record { run = run; least = λ q less other. no_run_early xs place none n q (omega arith) (omega arith) other }) before

-- no character of a run lies next to a slip, since those there have few turns
character_apart : (words : List ℕ) (marks : List Bool) (from many place dropped : ℕ) → Slips words marks from many place dropped
    → (r j : ℕ) → IsRun (part_of words from many) r → j < 12 → (r + 10 * j + 130 ≤ place) ⊎ (place + dropped + 120 ≤ r + 10 * j)
character_apart words marks from many place dropped s r j run lt = elim (cases_lt place (r + 10 * j + 130)) [
  | inr before ↦ inl before
  | inl past ↦ elim (cases_lt (r + 10 * j) (place + dropped + 120)) [
    | inr after ↦ inr after
    | inl near ↦
        let xs = part_of words from many in
        let len : length xs ≡ many = length-part words from many s.within in
        let within = s.within in
        let begins = s.begins in
        let long = run_within xs r run in
        let whole = tap_lock words marks s.calm from many r run in
        let k = (r + 10 * j + from) / 10 in
        let at : from + (r + 10 * j) ≡ 10 * k = omega arith in
        let inside : k < length words = omega arith in
        let few = s.minimized k inside (omega arith) (omega arith) in
        let w = get_or words k 0 in
        let is : take 10 (drop (r + 10 * j) xs) ≡ word_bits w =
        take_piece many (r + 10 * j) 10 (drop from (row_bits words)) (omega arith) ∙ ap (take 10) (drop-drop (r + 10 * j) from (row_bits words) ∙ ap (λ m. drop m (row_bits words)) at) ∙ row_word words k inside in
        let control : is_control (number (word_bits w)) ≡ true = ap (λ ys. is_control (number ys)) (sym is) ∙ control_is xs (r + 10 * j) (run j lt) in
        let many_turns : 7 ≤ turns (word_bits w) = subst (λ ys. 7 ≤ turns ys) (ten_bits (word_bits w) (length-word_bits w)) (control_turns (number (word_bits w)) control) in
        absurd (omega arith)
  ]
]

-- its runs are those of the lane that was later from the beginning
run_later : (words : List ℕ) (marks : List Bool) (from many place dropped : ℕ) → Slips words marks from many place dropped
    → ((lock : ℕ) → IsLock (part_of words from many) lock → lock + 120 ≤ place → ⊥)
    → (p : ℕ) → IsRun (slipped_part words from many place dropped) p → (place ≤ p) × IsRun (drop dropped (part_of words from many)) p
run_later words marks from many place dropped s none p run =
    let xs = part_of words from many in
    let len : length xs ≡ many = length-part words from many s.within in
    let ends = s.ends in
    let e : p + dropped ≡ dropped + p = omega arith in
    elim (no_run_across words marks from many place dropped s p run) [
      | inl before ↦ absurd (no_run_early xs place none (p + 1) p (omega arith) before (run_before xs place dropped p (omega arith) before run))
      | inr after ↦ (after, run_in_rest dropped xs p (subst (IsRun xs) e (run_after xs place dropped p (omega arith) after run)))
    ]

run_was : (words : List ℕ) (marks : List Bool) (from many place dropped : ℕ) → Slips words marks from many place dropped
    → ((lock : ℕ) → IsLock (part_of words from many) lock → lock + 120 ≤ place → ⊥)
    → (p : ℕ) → IsRun (drop dropped (part_of words from many)) p → (place ≤ p) × IsRun (slipped_part words from many place dropped) p
run_was words marks from many place dropped s none p run =
    let xs = part_of words from many in
    let len : length xs ≡ many = length-part words from many s.within in
    let ends = s.ends in
    let e : dropped + p ≡ p + dropped = omega arith in
    let was : IsRun xs (p + dropped) = subst (IsRun xs) e (run_of_rest dropped xs p run) in
    elim (character_apart words marks from many place dropped s (p + dropped) 0 was (omega arith)) [
      | inl before ↦ absurd (no_run_early xs place none (p + dropped + 1) (p + dropped) (omega arith) (omega arith) was)
      | inr after ↦ (omega arith, run_stays_after xs place dropped p (omega arith) (omega arith) was)
    ]

-- Its edges, and the characters from their runs on.

edge_alike : (ys zs : List Bool) (e : ℕ) → ((p : ℕ) → IsRun ys p → IsRun zs p) → ((p : ℕ) → IsRun zs p → IsRun ys p)
    → (e + 10 ≤ length ys → IsRun ys (e - 120) → (e + 10 ≤ length zs) × (take 10 (drop e ys) ≡ take 10 (drop e zs))) → IsEdge ys e → IsEdge zs e
edge_alike ys zs e there back same edge =
    let w = window_is ys e edge.word edge.here in
    let is = same w.0 edge.run in
    let within = is.0 in
    record {
      lock = edge.lock;
      is_lock = record {
        run = there edge.lock edge.is_lock.run;
        least = λ q less run. edge.is_lock.least q less (back q run);
      };
      past = edge.past;
      aligned = edge.aligned;
      run = there (e - 120) edge.run;
      word = edge.word;
      here = window_here zs e edge.word (λ short. omega arith) (sym w.1 ∙ ap number is.1);
      no_control = edge.no_control;
    }

words_alike : (ys zs : List Bool) (p : ℕ) → length ys ≡ length zs → drop p ys ≡ drop p zs → words_from ys p ≡ words_from zs p
unfolding words_from
words_alike ys zs p long same = ap₂ (λ (n : ℕ) (us : List Bool). words_of ((n - p) / 10) us) long same

-- a lane, and one that is a part of the same lane with the same edges and the same characters from each of them on
pub record IsLike (words : List ℕ) (from many : ℕ) (ys zs : List Bool) : Type 0 where
  pub part : IsPart words from many zs
  pub edges : (e : ℕ) → IsEdge ys e ↔ IsEdge zs e
  pub characters : (e : ℕ) → IsEdge ys e → words_from ys (e - 120) ≡ words_from zs (e - 120)

slipped_like : (words : List ℕ) (marks : List Bool) (from many place dropped : ℕ) → Slips words marks from many place dropped
    → ((lock : ℕ) → IsLock (part_of words from many) lock → lock + 120 ≤ place → ⊥)
    → IsLike words (from + dropped) (many - dropped) (slipped_part words from many place dropped) (drop dropped (part_of words from many))
slipped_like words marks from many place dropped s none =
    let xs = part_of words from many in
    let ys = slipped_part words from many place dropped in
    let zs = drop dropped xs in
    let len : length xs ≡ many = length-part words from many s.within in
    let within = s.within in
    let ends = s.ends in
    let size = length_slipped xs place dropped (omega arith) in
    let long : length ys ≡ length zs = omega (arith, length-drop dropped xs) in
    let same : (q : ℕ) → place ≤ q → drop q ys ≡ drop q zs =
    λ q after.
    let e : q + dropped ≡ dropped + q = omega arith in
    drop_slipped xs place dropped q (omega arith) after ∙ ap (λ m. drop m xs) e ∙ sym (drop-drop q dropped xs) in
    let there = run_later words marks from many place dropped s none in
    let back = run_was words marks from many place dropped s none in
    record {
      part = record { within = omega arith; bits_are = drop_part words from many dropped };
      edges = λ e. (
        edge_alike ys zs e (λ p run. (there p run).1) (λ p run. (back p run).1) (λ within run. let h = (there (e - 120) run).0 in (omega arith, ap (take 10) (same e (omega arith)))),
        edge_alike zs ys e (λ p run. (back p run).1) (λ p run. (there p run).1) (λ within run. let h = (back (e - 120) run).0 in (omega arith, sym (ap (take 10) (same e (omega arith))))),
      );
      characters = λ e edge. words_alike ys zs (e - 120) long (same (e - 120) (there (e - 120) edge.run).0);
    }

-- the lane of a tap
pub lane_like : (ps : List Period) (sent received : List Column) (offset : ℕ) (skews counts : List ℕ) (x y : Fed) (lane place dropped first next : ℕ)
    → Received ps sent received offset skews counts x → Slipped x lane place dropped y
    → SlipsInVideo ps sent received offset skews counts lane place dropped first next
    → ((lock : ℕ) → IsLock (lane_of x lane) lock → lock + 120 ≤ place → ⊥)
    → IsLike (words_at received lane) (offset + (slice_index skews lane + dropped)) (slice_index counts lane - dropped) (lane_of y lane) (drop dropped (lane_of x lane))
lane_like ps sent received offset skews counts x y lane place dropped first next reception slip s none =
    let words = words_at received lane in
    let from = offset + slice_index skews lane in
    let many = slice_index counts lane in
    let lanes = calm_lanes ps sent received offset skews counts x reception s.alone in
    let slips = slips_at ps sent received offset skews counts x y lane place dropped first next reception slip s in
    let mine = slipped_is x y (words_at received) (marks_at sent received) (λ l. offset + slice_index skews l) (λ l. slice_index counts l) lane place dropped lanes slip in
    let own = lanes.parts lane slip.within in
    let e : from + dropped ≡ offset + (slice_index skews lane + dropped) = omega arith in
    let is = slipped_like words (marks_at sent received lane) from many place dropped slips (λ lock is_lock. none lock (subst (λ us. IsLock us lock) (sym own) is_lock)) in
    subst (λ n. IsLike words n (many - dropped) (lane_of y lane) (drop dropped (lane_of x lane))) e
    (subst (λ us. IsLike words (from + dropped) (many - dropped) us (drop dropped (lane_of x lane))) (sym mine)
    (subst (λ us. IsLike words (from + dropped) (many - dropped) (slipped_part words from many place dropped) (drop dropped us)) (sym own) is))

-- What is reported of the lanes.

same_edges : (xs ys : List Bool) → ys ≡ xs → (e : ℕ) → IsEdge ys e ↔ IsEdge xs e
same_edges xs ys same e = (λ h. subst (λ us. IsEdge us e) same h, λ h. subst (λ us. IsEdge us e) (sym same) h)

alike_columns : (xs ys zs us vs ws : List Bool) (d e f : ℕ)
    → words_from xs (d - 120) ≡ words_from us (d - 120) → words_from ys (e - 120) ≡ words_from vs (e - 120) → words_from zs (f - 120) ≡ words_from ws (f - 120)
    → aligned_columns xs ys zs d e f ≡ aligned_columns us vs ws d e f
unfolding aligned_columns
alike_columns xs ys zs us vs ws d e f blue green red = λ i. columns_of (blue i) (green i) (red i)

-- what is reported from the first full alignment on is the account, where the lane had no lock before it slipped
pub passed_reported : (ps : List Period) (sent received : List Column) (offset : ℕ) (skews counts : List ℕ) (x y : Fed) (lane place dropped first next : ℕ)
    → Received ps sent received offset skews counts x → Slipped x lane place dropped y
    → SlipsInVideo ps sent received offset skews counts lane place dropped first next
    → ((lock : ℕ) → IsLock (lane_of x lane) lock → lock + 120 ≤ place → ⊥)
    → (d e f : ℕ) → IsFirst y.blue y.green y.red d e f
    → (a : ℕ) × IsAccounted ps sent received (aligned_columns y.blue y.green y.red d e f) a
    × BeginColumn offset (later_skews skews lane dropped) (a + 12) d e f
passed_reported ps sent received offset skews counts x y zero place dropped first next reception slip s none d e f alignment =
    let like = lane_like ps sent received offset skews counts x y zero place dropped first next reception slip s none in
    let green = slip.others 1 (omega arith) (λ h. omega arith) in
    let red = slip.others 2 (omega arith) (λ h. omega arith) in
    let here = first_same (IsEdge y.blue) (IsEdge y.green) (IsEdge y.red) (IsEdge (drop dropped x.blue)) (IsEdge x.green) (IsEdge x.red)
    like.edges (same_edges x.green y.green green) (same_edges x.red y.red red) d e f alignment in
    let columns = alike_columns y.blue y.green y.red (drop dropped x.blue) x.green x.red d e f
    (like.characters d alignment.triple.blue) (ap (λ us. words_from us (e - 120)) green) (ap (λ us. words_from us (f - 120)) red) in
    subst (λ cs. (a : ℕ) × IsAccounted ps sent received cs a × BeginColumn offset (later_skews skews zero dropped) (a + 12) d e f) (sym columns)
    (payload_accounted ps sent received (free_received ps sent received reception.reception) s.alone offset (later_skews skews zero dropped)
    ((slice_index counts 0 - dropped) ∷ (slice_index counts 1 ∷ (slice_index counts 2 ∷ []))) (drop dropped x.blue) x.green x.red
    (record { blue_part = like.part; green_part = reception.tapped.green_part; red_part = reception.tapped.red_part }) s.small d e f here)
passed_reported ps sent received offset skews counts x y (suc zero) place dropped first next reception slip s none d e f alignment =
    let like = lane_like ps sent received offset skews counts x y (suc zero) place dropped first next reception slip s none in
    let blue = slip.others 0 (omega arith) (λ h. omega arith) in
    let red = slip.others 2 (omega arith) (λ h. omega arith) in
    let here = first_same (IsEdge y.blue) (IsEdge y.green) (IsEdge y.red) (IsEdge x.blue) (IsEdge (drop dropped x.green)) (IsEdge x.red)
    (same_edges x.blue y.blue blue) like.edges (same_edges x.red y.red red) d e f alignment in
    let columns = alike_columns y.blue y.green y.red x.blue (drop dropped x.green) x.red d e f
    (ap (λ us. words_from us (d - 120)) blue) (like.characters e alignment.triple.green) (ap (λ us. words_from us (f - 120)) red) in
    subst (λ cs. (a : ℕ) × IsAccounted ps sent received cs a × BeginColumn offset (later_skews skews (suc zero) dropped) (a + 12) d e f) (sym columns)
    (payload_accounted ps sent received (free_received ps sent received reception.reception) s.alone offset (later_skews skews (suc zero) dropped)
    (slice_index counts 0 ∷ ((slice_index counts 1 - dropped) ∷ (slice_index counts 2 ∷ []))) x.blue (drop dropped x.green) x.red
    (record { blue_part = reception.tapped.blue_part; green_part = like.part; red_part = reception.tapped.red_part }) s.small d e f here)
passed_reported ps sent received offset skews counts x y (suc (suc zero)) place dropped first next reception slip s none d e f alignment =
    let like = lane_like ps sent received offset skews counts x y (suc (suc zero)) place dropped first next reception slip s none in
    let blue = slip.others 0 (omega arith) (λ h. omega arith) in
    let green = slip.others 1 (omega arith) (λ h. omega arith) in
    let here = first_same (IsEdge y.blue) (IsEdge y.green) (IsEdge y.red) (IsEdge x.blue) (IsEdge x.green) (IsEdge (drop dropped x.red))
    (same_edges x.blue y.blue blue) (same_edges x.green y.green green) like.edges d e f alignment in
    let columns = alike_columns y.blue y.green y.red x.blue x.green (drop dropped x.red) d e f
    (ap (λ us. words_from us (d - 120)) blue) (ap (λ us. words_from us (e - 120)) green) (like.characters f alignment.triple.red) in
    subst (λ cs. (a : ℕ) × IsAccounted ps sent received cs a × BeginColumn offset (later_skews skews (suc (suc zero)) dropped) (a + 12) d e f) (sym columns)
    (payload_accounted ps sent received (free_received ps sent received reception.reception) s.alone offset (later_skews skews (suc (suc zero)) dropped)
    (slice_index counts 0 ∷ (slice_index counts 1 ∷ ((slice_index counts 2 - dropped) ∷ []))) x.blue x.green (drop dropped x.red)
    (record { blue_part = reception.tapped.blue_part; green_part = reception.tapped.green_part; red_part = like.part }) s.small d e f here)
passed_reported ps sent received offset skews counts x y (suc (suc (suc l))) place dropped first next reception slip s none d e f alignment =
    let lt = slip.within in absurd (omega arith)

-- Where the lane ends before the twelfth character of the control period after the line.

-- the first stray would begin with that period, or with the last characters before it
short_none : (words : List ℕ) (marks : List Bool) (from many place dropped : ℕ) → Slips words marks from many place dropped
    → (start : ℕ) → BeginsControl words marks (from + place + dropped) start
    → ((early : ℕ) → early ≤ 2 → ((k : ℕ) → k < early → is_control (slice_index words (start - 1 - k)) ≡ true) → from + many < 10 * (start - early + 12))
    → (n p : ℕ) → p < n → IsStray (slipped_part words from many place dropped) p → ⊥
short_none words marks from many place dropped s start b short zero p lt stray = omega arith
short_none words marks from many place dropped s start b short (suc n) p lt stray =
    let xs = part_of words from many in
    let len : length xs ≡ many = length-part words from many s.within in
    let ends = s.ends in
    let size = length_slipped xs place dropped (omega arith) in
    let first : IsFirstStray (slipped_part words from many place dropped) p = record {
      stray = stray;
      least = λ q less other. short_none words marks from many place dropped s start b short n q (omega arith) other;
    } in
    let lock = lock_before words marks from many place dropped s p stray in
    let at = stray_starts words marks from many place dropped s lock.0 lock.1 lock.2 start b p first in
    let over = short at.0 at.1 at.2 in
    let here = at.4 in
    let long = run_within (slipped_part words from many place dropped) p stray.run in
    omega arith

pub short_passes : (ps : List Period) (sent received : List Column) (offset : ℕ) (skews counts : List ℕ) (x y : Fed) (lane place dropped first next : ℕ)
    → Received ps sent received offset skews counts x → Slipped x lane place dropped y
    → SlipsInVideo ps sent received offset skews counts lane place dropped first next
    → ((early : ℕ) → early ≤ 2 → ((k : ℕ) → k < early → is_control (slice_index (words_at received lane) (next - 1 - k)) ≡ true)
    → offset + slice_index skews lane + slice_index counts lane < 10 * (next - early + 12))
    → HasNoEnd y
short_passes ps sent received offset skews counts x y lane place dropped first next reception slip s short l lt =
    let lanes = calm_lanes ps sent received offset skews counts x reception s.alone in
    let slips = slips_at ps sent received offset skews counts x y lane place dropped first next reception slip s in
    let mine = slipped_is x y (words_at received) (marks_at sent received) (λ l. offset + slice_index skews l) (λ l. slice_index counts l) lane place dropped lanes slip in
    let b = begins_control ps sent received offset skews counts lane place dropped first next reception.reception s in
    elim (same_lane l lane) [
      | inr apart ↦ others_none ps sent received offset skews counts x y lane place dropped first next reception slip s l lt apart
      | inl same ↦ none_of (lane_of y l) _ (ap (lane_of y) same ∙ mine)
          (λ p stray. short_none (words_at received lane) (marks_at sent received lane) (offset + slice_index skews lane) (slice_index counts lane) place dropped slips next b short (p + 1) p (omega arith) stray)
    ]

-- What is reported of the lanes there of the columns that end before the slip.

-- the edges of the lane are those of the bits before the slip
short_edges : (words : List ℕ) (marks : List Bool) (from many place dropped : ℕ) → Slips words marks from many place dropped
    → (lock : ℕ) → IsLock (part_of words from many) lock → lock + 120 ≤ place → HasNoStray (slipped_part words from many place dropped)
    → (e : ℕ) → IsEdge (slipped_part words from many place dropped) e ↔ IsEdge (take place (part_of words from many)) e
short_edges words marks from many place dropped s lock is_lock before none e =
    let xs = part_of words from many in
    let ys = slipped_part words from many place dropped in
    let len : length xs ≡ many = length-part words from many s.within in
    let ends = s.ends in
    let size = length_slipped xs place dropped (omega arith) in
    let cut : length (take place xs) ≡ place = length-take-le place xs (omega arith) in
    let early : (p : ℕ) → IsRun ys p → p + 120 ≤ place =
    λ p run.
    elim (no_run_across words marks from many place dropped s p run) [
      | inl here ↦ here
      | inr after ↦ absurd (none p ((strays_after words marks from many place dropped s lock is_lock before p).1 (after, run)))
    ] in
    let was : (p : ℕ) → IsRun ys p → IsRun xs p = λ p run. run_before xs place dropped p (omega arith) (early p run) run in
    let there : (p : ℕ) → IsRun ys p → IsRun (take place xs) p = λ p run. run_in_front place xs p (early p run) (was p run) in
    let back : (p : ℕ) → IsRun (take place xs) p → IsRun ys p =
    λ p run.
    let long = run_within (take place xs) p run in
    run_stays_before xs place dropped p (omega arith) (omega arith) (run_of_front place xs p run) in
    let same : e + 10 ≤ place → take 10 (drop e ys) ≡ take 10 (drop e (take place xs)) = λ le. front_piece e 10 (take place xs) (drop (place + dropped) xs) (omega arith) in (
      edge_alike ys (take place xs) e there back (λ within run.
          let a = early (e - 120) run in
          let far : e + 10 ≤ place = elim (character_apart words marks from many place dropped s (e - 120) 11 (was (e - 120) run) (omega arith)) [
            | inl h ↦ omega arith
            | inr h ↦ absurd (omega arith)
          ] in
          (omega arith, same far)),
      edge_alike (take place xs) ys e back there (λ within run. (omega arith, sym (same (omega arith)))),
    )

lane_front : (n : ℕ) (y : Fed) (l : ℕ) → front_of n y ≡ y → take n (lane_of y l) ≡ lane_of y l
lane_front n y l h = grind arith

-- the lane of a tap
pub lane_edges : (ps : List Period) (sent received : List Column) (offset : ℕ) (skews counts : List ℕ) (x y : Fed) (lane place dropped first next : ℕ)
    → Received ps sent received offset skews counts x → Slipped x lane place dropped y
    → SlipsInVideo ps sent received offset skews counts lane place dropped first next
    → (lock : ℕ) → IsLock (lane_of x lane) lock → lock + 120 ≤ place → HasNoEnd y
    → (e : ℕ) → IsEdge (lane_of y lane) e ↔ IsEdge (take place (lane_of x lane)) e
lane_edges ps sent received offset skews counts x y lane place dropped first next reception slip s lock is_lock before none e =
    let lanes = calm_lanes ps sent received offset skews counts x reception s.alone in
    let slips = slips_at ps sent received offset skews counts x y lane place dropped first next reception slip s in
    let mine = slipped_is x y (words_at received) (marks_at sent received) (λ l. offset + slice_index skews l) (λ l. slice_index counts l) lane place dropped lanes slip in
    let own = lanes.parts lane slip.within in
    let both = short_edges (words_at received lane) (marks_at sent received lane) (offset + slice_index skews lane) (slice_index counts lane) place dropped slips
    lock (subst (λ us. IsLock us lock) own is_lock) before (none_of _ _ (sym mine) (none lane slip.within)) e in (
      λ g. subst (λ us. IsEdge (take place us) e) (sym own) (both.0 (subst (λ us. IsEdge us e) mine g)),
      λ g. subst (λ us. IsEdge us e) (sym mine) (both.1 (subst (λ us. IsEdge (take place us) e) own g)),
    )

-- the first bits of three lanes are all of them where there are no more
front_whole : (n : ℕ) (y : Fed) → length y.blue ≤ n → length y.green ≤ n → length y.red ≤ n → front_of n y ≡ y
front_whole n y blue green red = λ i. record { blue = take_all n y.blue blue i; green = take_all n y.green green i; red = take_all n y.red red i }

pub short_reported : (ps : List Period) (sent received : List Column) (offset : ℕ) (skews counts : List ℕ) (x y : Fed) (lane place dropped first next : ℕ)
    → Received ps sent received offset skews counts x → Slipped x lane place dropped y
    → SlipsInVideo ps sent received offset skews counts lane place dropped first next
    → (lock : ℕ) → IsLock (lane_of x lane) lock → lock + 120 ≤ place → HasNoEnd y
    → (d e f : ℕ) → IsFirst y.blue y.green y.red d e f
    → (start : ℕ) × (front_of start y ≡ y) × FirstAccounted ps sent received offset skews y lane place start d e f
short_reported ps sent received offset skews counts x y lane place dropped first next reception slip s lock is_lock before none d e f alignment =
    let start = length y.blue + length y.green + length y.red + place in
    let whole : front_of start y ≡ y = front_whole start y (omega arith) (omega arith) (omega arith) in
    let lane_whole : take start (lane_of y lane) ≡ lane_of y lane = lane_front start y lane whole in
    let edges : (h : ℕ) → IsEdge (take start (lane_of y lane)) h ↔ IsEdge (take place (lane_of x lane)) h =
    λ h.
    let both = lane_edges ps sent received offset skews counts x y lane place dropped first next reception slip s lock is_lock before none h in
    (λ g. both.0 (subst (λ us. IsEdge us h) lane_whole g), λ g. subst (λ us. IsEdge us h) (sym lane_whole) (both.1 g)) in
    let here = subst (λ (z : Fed). IsFirst z.blue z.green z.red d e f) (sym whole) alignment in
    (start, whole, front_accounted ps sent received offset skews counts x y lane place dropped first next start reception slip s (omega arith) edges d e f here)
