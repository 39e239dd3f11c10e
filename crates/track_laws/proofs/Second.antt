-- The lanes of the second epoch are a tap of the same columns.
use Rattle.std.proofs.Common.{◌≡◌, ℕ, suc, zero, ◌+◌, ◌≤◌, Bool, List, [], ◌∷◌, length, drop, sym, subst, arith, length-drop, length-take, length-append, slice_index}
use Rattle.std.proofs.lemmas.Bool.{cases_lt}
use Rattle.tmds_word.specs.Column.{Column, blues, greens, reds}
use Rattle.tmds_word.specs.Taps.{IsPart, HasSmallSkew}
use Rattle.lane_align.specs.Lanes.{IsEdge}
use Rattle.lane_align.proofs.Controls.{window_is}
use Rattle.lane_deskew.specs.Triples.{IsFirst}
use Rattle.lane_deskew.specs.Aligned.{aligned_columns}
use Rattle.island_pack.specs.Periods.{Period}
use Rattle.island_pack.specs.Sparse.{IsSparseInPayload}
use Rattle.link_sink.specs.Sinks.{Fed}
use Rattle.link_laws.proofs.Freely.{free_received}
use Rattle.link_laws.specs.Laws.{BeginColumn, IsAccounted, PayloadAccounted}
use Rattle.lane_track.specs.Slips.{slipped}
use Rattle.lane_track.proofs.Around.{length-part, drop_part, rest_is_part}
use Rattle.lane_track.proofs.Cutting.{length_slipped}
use Rattle.track_laws.specs.Laws.{Received, Slipped, later_skews}

-- a lane with an edge has ten bits
edge_long : (xs : List Bool) (e : ℕ) → IsEdge xs e → 10 ≤ length xs
edge_long xs e edge = let within = (window_is xs e edge.word edge.here).0 in omega arith

rest_part : (words : List ℕ) (from many z : ℕ) (xs : List Bool) → IsPart words from many xs → 10 ≤ length (drop z xs)
    → (count : ℕ) × IsPart words (from + z) count (drop z xs)
rest_part words from many z xs part long = grind (arith, drop_part, length-part, length-drop)

slipped_rest : (words : List ℕ) (from many place dropped z : ℕ) (xs ys : List Bool) → IsPart words from many xs → ys ≡ slipped xs place dropped → place ≤ z → 10 ≤ length (drop z ys)
    → (count : ℕ) × IsPart words (from + dropped + z) count (drop z ys)
slipped_rest words from many place dropped z xs ys part are after long = grind (arith, length-part, length-drop, cases_lt, length-append, length-take, length_slipped, rest_is_part)

from_is : (words : List ℕ) (a b count : ℕ) (xs : List Bool) → a ≡ b → IsPart words a count xs → IsPart words b count xs
from_is words a b count xs e part = subst (λ n. IsPart words n count xs) e part

-- a lane that did not slip
kept : (words : List ℕ) (offset skew count start : ℕ) (xs ys : List Bool) (e : ℕ) → IsPart words (offset + skew) count xs → ys ≡ xs → IsEdge (drop start ys) e
    → (n : ℕ) × IsPart words (offset + start + skew) n (drop start ys)
kept words offset skew count start xs ys e part same edge =
    let own = subst (λ us. IsPart words (offset + skew) count us) (sym same) part in
    let rest = rest_part words (offset + skew) count start ys own (edge_long (drop start ys) e edge) in
    (rest.0, from_is words (offset + skew + start) (offset + start + skew) rest.0 (drop start ys) (omega arith) rest.1)

-- the lane that slipped
lost : (words : List ℕ) (offset skew count place dropped start : ℕ) (xs ys : List Bool) (e : ℕ) → IsPart words (offset + skew) count xs → ys ≡ slipped xs place dropped → place ≤ start
    → IsEdge (drop start ys) e → (n : ℕ) × IsPart words (offset + start + (skew + dropped)) n (drop start ys)
lost words offset skew count place dropped start xs ys e part are after edge =
    let rest = slipped_rest words (offset + skew) count place dropped start xs ys part are after (edge_long (drop start ys) e edge) in
    (rest.0, from_is words (offset + skew + dropped + start) (offset + start + (skew + dropped)) rest.0 (drop start ys) (omega arith) rest.1)

pub second_reported : PayloadAccounted → (ps : List Period) (sent received : List Column) (offset : ℕ) (skews counts : List ℕ) (x y : Fed) (lane place dropped start : ℕ)
    → Received ps sent received offset skews counts x → IsSparseInPayload ps sent received → Slipped x lane place dropped y
    → HasSmallSkew (later_skews skews lane dropped) → place ≤ start
    → (d e f : ℕ) → IsFirst (drop start y.blue) (drop start y.green) (drop start y.red) d e f
    → (a : ℕ) × IsAccounted ps sent received (aligned_columns (drop start y.blue) (drop start y.green) (drop start y.red) d e f) a
    × BeginColumn (offset + start) (later_skews skews lane dropped) (a + 12) d e f
second_reported law ps sent received offset skews counts x y zero place dropped start reception alone slip small after d e f first =
    let t = first.triple in
    let blue = lost (blues received) offset (slice_index skews 0) (slice_index counts 0) place dropped start x.blue y.blue d reception.tapped.blue_part slip.this after t.blue in
    let green = kept (greens received) offset (slice_index skews 1) (slice_index counts 1) start x.green y.green e reception.tapped.green_part (slip.others 1 (omega arith) (λ h. omega arith)) t.green in
    let red = kept (reds received) offset (slice_index skews 2) (slice_index counts 2) start x.red y.red f reception.tapped.red_part (slip.others 2 (omega arith) (λ h. omega arith)) t.red in
    law ps sent received (free_received ps sent received reception.reception) alone (offset + start) (later_skews skews zero dropped) (blue.0 ∷ (green.0 ∷ (red.0 ∷ []))) (drop start y.blue) (drop start y.green) (drop start y.red)
    (record { blue_part = blue.1; green_part = green.1; red_part = red.1 }) small d e f first
second_reported law ps sent received offset skews counts x y (suc zero) place dropped start reception alone slip small after d e f first =
    let t = first.triple in
    let blue = kept (blues received) offset (slice_index skews 0) (slice_index counts 0) start x.blue y.blue d reception.tapped.blue_part (slip.others 0 (omega arith) (λ h. omega arith)) t.blue in
    let green = lost (greens received) offset (slice_index skews 1) (slice_index counts 1) place dropped start x.green y.green e reception.tapped.green_part slip.this after t.green in
    let red = kept (reds received) offset (slice_index skews 2) (slice_index counts 2) start x.red y.red f reception.tapped.red_part (slip.others 2 (omega arith) (λ h. omega arith)) t.red in
    law ps sent received (free_received ps sent received reception.reception) alone (offset + start) (later_skews skews (suc zero) dropped) (blue.0 ∷ (green.0 ∷ (red.0 ∷ []))) (drop start y.blue) (drop start y.green) (drop start y.red)
    (record { blue_part = blue.1; green_part = green.1; red_part = red.1 }) small d e f first
second_reported law ps sent received offset skews counts x y (suc (suc l)) place dropped start reception alone slip small after d e f first =
    let t = first.triple in
    let blue = kept (blues received) offset (slice_index skews 0) (slice_index counts 0) start x.blue y.blue d reception.tapped.blue_part (slip.others 0 (omega arith) (λ h. omega arith)) t.blue in
    let green = kept (greens received) offset (slice_index skews 1) (slice_index counts 1) start x.green y.green e reception.tapped.green_part (slip.others 1 (omega arith) (λ h. omega arith)) t.green in
    let red = lost (reds received) offset (slice_index skews 2) (slice_index counts 2) place dropped start x.red y.red f reception.tapped.red_part slip.this after t.red in
    law ps sent received (free_received ps sent received reception.reception) alone (offset + start) (later_skews skews (suc (suc l)) dropped) (blue.0 ∷ (green.0 ∷ (red.0 ∷ []))) (drop start y.blue) (drop start y.green) (drop start y.red)
    (record { blue_part = blue.1; green_part = green.1; red_part = red.1 }) small d e f first
