-- The lanes of the first epoch, cut before the slip, are a tap of the same columns.
use Rattle.std.proofs.Common.{◌≡◌, ◌↔◌, ℕ, suc, zero, ◌+◌, Bool, List, [], ◌∷◌, length, take, drop, ap, ◌∙◌, sym, subst, arith, inl, inr, take-take, slice_index}
use Rattle.std.proofs.lemmas.Bool.{cases_lt}
use Rattle.std.proofs.lemmas.List.{take_all}
use Rattle.tmds_word.specs.Column.{Column, blues, greens, reds}
use Rattle.tmds_word.specs.Bits.{row_bits}
use Rattle.tmds_word.specs.Taps.{IsPart, HasSmallSkew}
use Rattle.lane_align.specs.Lanes.{IsEdge}
use Rattle.lane_deskew.specs.Triples.{AreFirst, IsFirst}
use Rattle.lane_deskew.specs.Aligned.{aligned_columns}
use Rattle.island_pack.specs.Periods.{Period}
use Rattle.island_pack.specs.Sparse.{IsSparseInPayload}
use Rattle.link_sink.specs.Sinks.{Fed}
use Rattle.link_laws.proofs.Freely.{free_received}
use Rattle.link_laws.specs.Laws.{BeginColumn, IsAccounted, PayloadAccounted}
use Rattle.lane_track.proofs.Around.{length-part}
use Rattle.track_sink.specs.Epochs.{lane_of}
use Rattle.track_laws.specs.Laws.{Received, Slipped, fronts}

pub front_part : (words : List ℕ) (from many n : ℕ) (xs : List Bool) → IsPart words from many xs → (count : ℕ) × IsPart words from count (take n xs)
front_part words from many n xs part =
    let within = part.within in
    let len : length xs ≡ many = ap length part.bits_are ∙ length-part words from many within in
    elim (cases_lt many n) [
      | inl all ↦ (many, record { within = within; bits_are = take_all n xs (omega arith) ∙ part.bits_are })
      | inr some ↦ (n, record { within = omega arith; bits_are = ap (take n) part.bits_are ∙ take-take n many (drop from (row_bits words)) some })
    ]

-- the first triple of the same edges
pub first_same : (A B C D E F : ℕ → Type 0) → ((e : ℕ) → A e ↔ D e) → ((e : ℕ) → B e ↔ E e) → ((e : ℕ) → C e ↔ F e) → (d e f : ℕ) → AreFirst A B C d e f → AreFirst D E F d e f
first_same A B C D E F a b c d e f first = grind arith

kept : (start : ℕ) (xs ys : List Bool) → ys ≡ xs → (e : ℕ) → IsEdge (take start ys) e ↔ IsEdge (take start xs) e
kept start xs ys same e = (λ h. subst (λ us. IsEdge (take start us) e) same h, λ h. subst (λ us. IsEdge (take start us) e) (sym same) h)

pub first_reported : PayloadAccounted → (ps : List Period) (sent received : List Column) (offset : ℕ) (skews counts : List ℕ) (x y : Fed) (lane place dropped start : ℕ)
    → Received ps sent received offset skews counts x → IsSparseInPayload ps sent received → Slipped x lane place dropped y → HasSmallSkew skews
    → ((e : ℕ) → IsEdge (take start (lane_of y lane)) e ↔ IsEdge (take place (lane_of x lane)) e)
    → (d e f : ℕ) → IsFirst (take start y.blue) (take start y.green) (take start y.red) d e f
    → IsFirst (fronts x lane place start).blue (fronts x lane place start).green (fronts x lane place start).red d e f
    × ((a : ℕ) × IsAccounted ps sent received (aligned_columns (fronts x lane place start).blue (fronts x lane place start).green (fronts x lane place start).red d e f) a
    × BeginColumn offset skews (a + 12) d e f)
first_reported law ps sent received offset skews counts x y zero place dropped start reception alone slip small edges d e f first =
    let green = kept start x.green y.green (slip.others 1 (omega arith) (λ h. omega arith)) in
    let red = kept start x.red y.red (slip.others 2 (omega arith) (λ h. omega arith)) in
    let here = first_same (IsEdge (take start y.blue)) (IsEdge (take start y.green)) (IsEdge (take start y.red)) (IsEdge (take place x.blue)) (IsEdge (take start x.green)) (IsEdge (take start x.red)) edges green red d e f first in
    let p = front_part (blues received) (offset + slice_index skews 0) (slice_index counts 0) place x.blue reception.tapped.blue_part in
    let q = front_part (greens received) (offset + slice_index skews 1) (slice_index counts 1) start x.green reception.tapped.green_part in
    let r = front_part (reds received) (offset + slice_index skews 2) (slice_index counts 2) start x.red reception.tapped.red_part in (
      here,
      law ps sent received (free_received ps sent received reception.reception) alone offset skews (p.0 ∷ (q.0 ∷ (r.0 ∷ []))) (take place x.blue) (take start x.green) (take start x.red)
          (record { blue_part = p.1; green_part = q.1; red_part = r.1 }) small d e f here,
    )
first_reported law ps sent received offset skews counts x y (suc zero) place dropped start reception alone slip small edges d e f first =
    let blue = kept start x.blue y.blue (slip.others 0 (omega arith) (λ h. omega arith)) in
    let red = kept start x.red y.red (slip.others 2 (omega arith) (λ h. omega arith)) in
    let here = first_same (IsEdge (take start y.blue)) (IsEdge (take start y.green)) (IsEdge (take start y.red)) (IsEdge (take start x.blue)) (IsEdge (take place x.green)) (IsEdge (take start x.red)) blue edges red d e f first in
    let p = front_part (blues received) (offset + slice_index skews 0) (slice_index counts 0) start x.blue reception.tapped.blue_part in
    let q = front_part (greens received) (offset + slice_index skews 1) (slice_index counts 1) place x.green reception.tapped.green_part in
    let r = front_part (reds received) (offset + slice_index skews 2) (slice_index counts 2) start x.red reception.tapped.red_part in (
      here,
      law ps sent received (free_received ps sent received reception.reception) alone offset skews (p.0 ∷ (q.0 ∷ (r.0 ∷ []))) (take start x.blue) (take place x.green) (take start x.red)
          (record { blue_part = p.1; green_part = q.1; red_part = r.1 }) small d e f here,
    )
first_reported law ps sent received offset skews counts x y (suc (suc l)) place dropped start reception alone slip small edges d e f first =
    let blue = kept start x.blue y.blue (slip.others 0 (omega arith) (λ h. omega arith)) in
    let green = kept start x.green y.green (slip.others 1 (omega arith) (λ h. omega arith)) in
    let here = first_same (IsEdge (take start y.blue)) (IsEdge (take start y.green)) (IsEdge (take start y.red)) (IsEdge (take start x.blue)) (IsEdge (take start x.green)) (IsEdge (take place x.red)) blue green edges d e f first in
    let p = front_part (blues received) (offset + slice_index skews 0) (slice_index counts 0) start x.blue reception.tapped.blue_part in
    let q = front_part (greens received) (offset + slice_index skews 1) (slice_index counts 1) start x.green reception.tapped.green_part in
    let r = front_part (reds received) (offset + slice_index skews 2) (slice_index counts 2) place x.red reception.tapped.red_part in (
      here,
      law ps sent received (free_received ps sent received reception.reception) alone offset skews (p.0 ∷ (q.0 ∷ (r.0 ∷ []))) (take start x.blue) (take start x.green) (take place x.red)
          (record { blue_part = p.1; green_part = q.1; red_part = r.1 }) small d e f here,
    )
