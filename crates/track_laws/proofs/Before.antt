-- What is reported of the columns that end before a slip within a line.
use Rattle.std.proofs.Common.{◌≡◌, ◌↔◌, ℕ, suc, zero, ◌+◌, ◌-◌, ◌*◌, ◌<◌, ◌≤◌, List, [], ◌∷◌, length, take, drop, ap, ◌∙◌, sym, subst, arith, inl, inr}
use Rattle.std.specs.Prelude.{slice_index}
use Rattle.std.proofs.lemmas.Bool.{cases_lt}
use Rattle.std.proofs.lemmas.List.{take-take}
use Rattle.tmds_word.specs.Column.{Column}
use Rattle.tmds_word.specs.Taps.{AreNear, HasSmallSkew}
use Rattle.lane_align.specs.Lanes.{IsEdge}
use Rattle.lane_align.specs.Words.{words_from}
use Rattle.lane_deskew.specs.Triples.{IsFirst}
use Rattle.lane_deskew.specs.Aligned.{aligned_columns}
use Rattle.link_laws.proofs.Freely.{free_received}
use Rattle.link_laws.specs.Alternating.{IsAlternating}
use Rattle.link_laws.proofs.LaneEnds.{edge_ends}
use Rattle.link_laws.proofs.Shapes.{alternating, ends_apart}
use Rattle.island_pack.specs.Kinds.{Kind, kinds_of, EndsAt}
use Rattle.island_pack.specs.Periods.{Period}
use Rattle.period_grammar.specs.Heard.{heard}
use Rattle.link_laws.specs.Account.{account}
use Rattle.link_laws.specs.Laws.{ReceivedOf, IsAccounted}
use Rattle.link_sink.specs.Sinks.{Fed}
use Rattle.link_laws.proofs.Framing.{link_law}
use Rattle.link_laws.proofs.Tapped.{payload_accounted}
use Rattle.lane_track.specs.Slips.{slipped}
use Rattle.lane_track.proofs.Around.{length-part}
use Rattle.lane_track.proofs.Cutting.{length_slipped}
use Rattle.lane_track.proofs.Front.{front_edges}
use Rattle.track_sink.specs.Epochs.{lane_of, IsEnd}
use Rattle.track_laws.specs.Laws.{Received, Slipped, SlipsInVideo, FirstAccounted, fronts, later_skews, words_at}
use Rattle.track_laws.proofs.Ends.{slipped_is, same_lane}
use Rattle.track_laws.proofs.First.{front_part, first_reported}
use Rattle.track_laws.proofs.Fronts.{same_columns, slipped_words}
use Rattle.track_laws.proofs.Noticed.{found_at, second_epoch}
use Rattle.track_laws.proofs.Slipping.{marks_at, calm_lanes, slips_at, received_at, part_at}

-- The skews before the slip.

-- they differ by up to 79 where those after it are small
before_slip : (skews : List ℕ) (lane dropped : ℕ) → lane < 3 → dropped < 10 → HasSmallSkew (later_skews skews lane dropped)
    → (slice_index skews 0 ≤ slice_index skews 1 + 79) × (slice_index skews 1 ≤ slice_index skews 0 + 79)
    × (slice_index skews 1 ≤ slice_index skews 2 + 79) × (slice_index skews 2 ≤ slice_index skews 1 + 79)
    × (slice_index skews 0 ≤ slice_index skews 2 + 79) × (slice_index skews 2 ≤ slice_index skews 0 + 79)
before_slip skews lane dropped h k l = grind arith

-- two near edges that end control periods, of lanes that are no farther apart: they end the same one, so the lanes are near
near_lanes : (kinds : List Kind) → IsAlternating kinds → (i j d e offset k l : ℕ) → EndsAt kinds i → EndsAt kinds j → d + (offset + k) ≡ 10 * (i + 1) → e + (offset + l) ≡ 10 * (j + 1)
    → AreNear d e → k ≤ l + 79 → l ≤ k + 79 → AreNear k l
near_lanes kinds alternates i j d e offset k l ends_i ends_j at_i at_j near hi lo = grind (arith, cases_lt, ends_apart)

-- The lanes of the first epoch.

-- the lane that slipped, cut after the slip, has the edges of the bits before it
abbrev pub HasFrontEdges : Fed → Fed → ℕ → ℕ → ℕ → Type 0
HasFrontEdges x y lane place start = (e : ℕ) → IsEdge (take start (lane_of y lane)) e ↔ IsEdge (take place (lane_of x lane)) e

-- so it does where an epoch ends
pub edges_at : (ps : List Period) (sent received : List Column) (offset : ℕ) (skews counts : List ℕ) (x y : Fed) (lane place dropped first next start : ℕ)
    → Received ps sent received offset skews counts x → Slipped x lane place dropped y
    → SlipsInVideo ps sent received offset skews counts lane place dropped first next
    → IsEnd y lane start → (e : ℕ) → IsEdge (take start (lane_of y lane)) e ↔ IsEdge (take place (lane_of x lane)) e
edges_at ps sent received offset skews counts x y lane place dropped first next start reception slip s end e =
    let lanes = calm_lanes ps sent received offset skews counts x reception s.alone in
    let slips = slips_at ps sent received offset skews counts x y lane place dropped first next reception slip s in
    let mine = slipped_is x y (words_at received) (marks_at sent received) (λ l. offset + slice_index skews l) (λ l. slice_index counts l) lane place dropped lanes slip in
    let own = lanes.parts lane slip.within in
    let found = found_at ps sent received offset skews counts x y lane place dropped first next start reception slip s end in
    let both = front_edges (words_at received lane) (marks_at sent received lane) (offset + slice_index skews lane) (slice_index counts lane) place dropped slips
    found.lock found.is_lock found.before start found.first e in (
      λ h. subst (λ us. IsEdge (take place us) e) (sym own) (both.0 (subst (λ us. IsEdge (take start us) e) mine h)),
      λ h. subst (λ us. IsEdge (take start us) e) (sym mine) (both.1 (subst (λ us. IsEdge (take place us) e) own h)),
    )

-- an edge of a lane of the first epoch ends a control period
ends_at : (ps : List Period) (sent received : List Column) (offset : ℕ) (skews counts : List ℕ) (x y : Fed) (lane place dropped first next start : ℕ)
    → Received ps sent received offset skews counts x → Slipped x lane place dropped y
    → SlipsInVideo ps sent received offset skews counts lane place dropped first next
    → HasFrontEdges x y lane place start → (l : ℕ) → l < 3 → (e : ℕ) → IsEdge (take start (lane_of y l)) e
    → (i : ℕ) × (EndsAt (kinds_of ps) i) × (e + (offset + slice_index skews l) ≡ 10 * (i + 1))
ends_at ps sent received offset skews counts x y lane place dropped first next start reception slip s edges l lt e edge =
    let alternates = alternating ps reception.reception.conforming in
    let r = received_at ps sent received reception.reception s.alone l in
    let part = part_at ps sent received offset skews counts x reception l lt in
    let by : (n : ℕ) → IsEdge (take n (lane_of x l)) e → (i : ℕ) × (EndsAt (kinds_of ps) i) × (e + (offset + slice_index skews l) ≡ 10 * (i + 1)) =
    λ n h.
    let cut = front_part (words_at received l) (offset + slice_index skews l) (slice_index counts l) n (lane_of x l) part in
    edge_ends (kinds_of ps) (words_at received l) (marks_at sent received l) alternates r (offset + slice_index skews l) cut.0 e (subst (λ us. IsEdge us e) cut.1.bits_are h) in
    elim (same_lane l lane) [
      | inr apart ↦ by start (subst (λ us. IsEdge (take start us) e) (slip.others l lt apart) edge)
      | inl same ↦
          let here = subst (λ k. IsEdge (take start (lane_of y k)) e) same edge in
          let was = (edges e).0 here in
          by place (subst (λ k. IsEdge (take place (lane_of x k)) e) (sym same) was)
    ]

-- where they have a full alignment the skews were small before the slip too
small_before : (ps : List Period) (sent received : List Column) (offset : ℕ) (skews counts : List ℕ) (x y : Fed) (lane place dropped first next start : ℕ)
    → Received ps sent received offset skews counts x → Slipped x lane place dropped y
    → SlipsInVideo ps sent received offset skews counts lane place dropped first next
    → HasFrontEdges x y lane place start → (d e f : ℕ) → IsFirst (take start y.blue) (take start y.green) (take start y.red) d e f → HasSmallSkew skews
small_before ps sent received offset skews counts x y lane place dropped first next start reception slip s edges d e f alignment =
    let t = alignment.triple in
    let alternates = alternating ps reception.reception.conforming in
    let wide = before_slip skews lane dropped slip.within slip.few.1 s.small in
    let blue = ends_at ps sent received offset skews counts x y lane place dropped first next start reception slip s edges 0 (omega arith) d t.blue in
    let green = ends_at ps sent received offset skews counts x y lane place dropped first next start reception slip s edges 1 (omega arith) e t.green in
    let red = ends_at ps sent received offset skews counts x y lane place dropped first next start reception slip s edges 2 (omega arith) f t.red in
    record {
      blue_green = near_lanes (kinds_of ps) alternates blue.0 green.0 d e offset (slice_index skews 0) (slice_index skews 1) blue.1 green.1 blue.2 green.2 t.blue_green wide.0 wide.1;
      green_red = near_lanes (kinds_of ps) alternates green.0 red.0 e f offset (slice_index skews 1) (slice_index skews 2) green.1 red.1 green.2 red.2 t.green_red wide.2 wide.3;
      blue_red = near_lanes (kinds_of ps) alternates blue.0 red.0 d f offset (slice_index skews 0) (slice_index skews 2) blue.1 red.1 blue.2 red.2 t.blue_red wide.4 wide.5;
    }

-- What is reported.

-- the first columns of the first epoch and of the lanes that end before the slip
front_columns : (x y : Fed) (lane place dropped start d e f m : ℕ) → Slipped x lane place dropped y → place + dropped ≤ length (lane_of x lane) → place ≤ start → place ≤ length (lane_of y lane)
    → slice_index (d ∷ e ∷ f ∷ []) lane - 120 + 10 * m ≤ place
    → m ≤ length (aligned_columns (take start y.blue) (take start y.green) (take start y.red) d e f)
    → (m ≤ length (aligned_columns (fronts x lane place start).blue (fronts x lane place start).green (fronts x lane place start).red d e f))
    × (take m (aligned_columns (take start y.blue) (take start y.green) (take start y.red) d e f)
    ≡ take m (aligned_columns (fronts x lane place start).blue (fronts x lane place start).green (fronts x lane place start).red d e f))
front_columns x y zero place dropped start d e f m slip long after long_y early within =
    same_columns (take start y.blue) (take start y.green) (take start y.red) (take place x.blue) (take start x.green) (take start x.red) d e f m
    (slipped_words x.blue y.blue place dropped start (d - 120) m slip.this long after long_y early)
    (ap (λ us. take m (words_from (take start us) (e - 120))) (slip.others 1 (omega arith) (λ h. omega arith)))
    (ap (λ us. take m (words_from (take start us) (f - 120))) (slip.others 2 (omega arith) (λ h. omega arith)))
    within
front_columns x y (suc zero) place dropped start d e f m slip long after long_y early within =
    same_columns (take start y.blue) (take start y.green) (take start y.red) (take start x.blue) (take place x.green) (take start x.red) d e f m
    (ap (λ us. take m (words_from (take start us) (d - 120))) (slip.others 0 (omega arith) (λ h. omega arith)))
    (slipped_words x.green y.green place dropped start (e - 120) m slip.this long after long_y early)
    (ap (λ us. take m (words_from (take start us) (f - 120))) (slip.others 2 (omega arith) (λ h. omega arith)))
    within
front_columns x y (suc (suc zero)) place dropped start d e f m slip long after long_y early within =
    same_columns (take start y.blue) (take start y.green) (take start y.red) (take start x.blue) (take start x.green) (take place x.red) d e f m
    (ap (λ us. take m (words_from (take start us) (d - 120))) (slip.others 0 (omega arith) (λ h. omega arith)))
    (ap (λ us. take m (words_from (take start us) (e - 120))) (slip.others 1 (omega arith) (λ h. omega arith)))
    (slipped_words x.red y.red place dropped start (f - 120) m slip.this long after long_y early)
    within
front_columns x y (suc (suc (suc l))) place dropped start d e f m slip long after long_y early within = let lt = slip.within in absurd (omega arith)

reported_front : (ps : List Period) (sent received : List Column) → ReceivedOf ps sent received → (cs ds : List Column) (a m : ℕ) → IsAccounted ps sent received ds a → m ≤ length ds → take m cs ≡ take m ds
    → heard (take m cs) ≡ account ps sent received a m
reported_front ps sent received reception cs ds a m is within same =
    ap heard (same ∙ ap (take m) is.columns ∙ take-take m (length ds) (drop a received) within) ∙ link_law ps sent received (free_received ps sent received reception) a m is.ends

pub front_accounted : (ps : List Period) (sent received : List Column) (offset : ℕ) (skews counts : List ℕ) (x y : Fed) (lane place dropped first next start : ℕ)
    → Received ps sent received offset skews counts x → Slipped x lane place dropped y
    → SlipsInVideo ps sent received offset skews counts lane place dropped first next
    → place ≤ start → HasFrontEdges x y lane place start
    → (d e f : ℕ) → IsFirst (take start y.blue) (take start y.green) (take start y.red) d e f
    → FirstAccounted ps sent received offset skews y lane place start d e f
front_accounted ps sent received offset skews counts x y lane place dropped first next start reception slip s after edges d e f alignment =
    let small = small_before ps sent received offset skews counts x y lane place dropped first next start reception slip s edges d e f alignment in
    let reported = first_reported payload_accounted ps sent received offset skews counts x y lane place dropped start reception s.alone slip small edges d e f alignment in
    let part = part_at ps sent received offset skews counts x reception lane slip.within in
    let len : length (lane_of x lane) ≡ slice_index counts lane = ap length part.bits_are ∙ length-part (words_at received lane) (offset + slice_index skews lane) (slice_index counts lane) part.within in
    let room = s.ends in
    let size = length_slipped (lane_of x lane) place dropped (omega arith) in
    let size_y : length (lane_of y lane) ≡ length (slipped (lane_of x lane) place dropped) = ap length slip.this in
    record {
      a = reported.1.0;
      ends = reported.1.1.ends;
      begins = reported.1.2;
      reported = λ m early within.
          let same = front_columns x y lane place dropped start d e f m slip (omega arith) after (omega arith) early within in
          reported_front ps sent received reception.reception _ _ reported.1.0 m reported.1.1 same.0 same.1;
    }

pub first_epoch : (ps : List Period) (sent received : List Column) (offset : ℕ) (skews counts : List ℕ) (x y : Fed) (lane place dropped first next start : ℕ)
    → Received ps sent received offset skews counts x → Slipped x lane place dropped y
    → SlipsInVideo ps sent received offset skews counts lane place dropped first next
    → IsEnd y lane start
    → (d e f : ℕ) → IsFirst (take start y.blue) (take start y.green) (take start y.red) d e f
    → FirstAccounted ps sent received offset skews y lane place start d e f
first_epoch ps sent received offset skews counts x y lane place dropped first next start reception slip s end =
    front_accounted ps sent received offset skews counts x y lane place dropped first next start reception slip s
    (second_epoch ps sent received offset skews counts x y lane place dropped first next reception slip s lane start end).1
    (edges_at ps sent received offset skews counts x y lane place dropped first next start reception slip s end)
