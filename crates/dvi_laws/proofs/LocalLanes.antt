-- A first full alignment of the first columns of a stream without guard columns stays, whatever is received after them.
use Rattle.std.proofs.Common.{◌≡◌, ℕ, ◌+◌, ◌-◌, ◌*◌, ◌≤◌, List, length, drop, subst, arith, length-take}
use Rattle.std.specs.Prelude.{slice_index}
use Rattle.std.proofs.lemmas.List.{length-map}
use Rattle.tmds_word.specs.Column.{blues, greens, reds}
use Rattle.tmds_word.specs.Bits.{row_bits}
use Rattle.tmds_word.specs.Taps.{part_of}
use Rattle.lane_align.proofs.Edges.{edge_within}
use Rattle.lane_deskew.specs.Triples.{IsFirst}
use Rattle.lane_deskew.proofs.Fed.{first_stays}
use Rattle.island_pack.specs.Kinds.{EndsAt}
use Rattle.source_end.specs.DviPeriods.{dvi_kinds}
use Rattle.link_laws.specs.Laws.{BeginColumn}
use Rattle.link_laws.proofs.Aligned.{columns_taken}
use Rattle.link_laws.proofs.Ends.{near_from}
use Rattle.link_laws.proofs.LocalLanes.{spliced, lane_front, lane_grown}
use Rattle.link_laws.proofs.Shapes.{ends_late}
use Rattle.link_laws.proofs.Tapped.{ends, begin_at, characters}
use Rattle.dvi_laws.specs.DviLocal.{DviAlignedWhateverFollows}
use Rattle.dvi_laws.proofs.Lanes.{first_is_end}
use Rattle.dvi_laws.proofs.Shape.{alternating}
use Rattle.dvi_laws.proofs.Tapped.{first_of}

-- a part begins nowhere before the column at its edge
flat : (d offset k i : ℕ) → d + (offset + k) ≡ 10 * (i + 1) → d + offset + k ≡ 10 * (i + 1)
flat d offset k i e = omega arith

pub dvi_aligned_whatever_follows : DviAlignedWhateverFollows
dvi_aligned_whatever_follows ps sent received f h offset skews counts x y z tapped small p q r aligns =
    let n = f + 1 in
    let s1 = slice_index skews 0 in
    let s2 = slice_index skews 1 in
    let s3 = slice_index skews 2 in
    let k1 = offset + s1 in
    let k2 = offset + s2 in
    let k3 = offset + s3 in
    let n1 = 10 * n - k1 in
    let n2 = 10 * n - k2 in
    let n3 = 10 * n - k3 in
    let cs = spliced n received sent in
    let w1 = tapped.blue_part.within in
    let l1 = length-map received (λ c. c.blue) in
    let b1 = aligns.begins 0 (omega arith) in
    let b2 = aligns.begins 1 (omega arith) in
    let b3 = aligns.begins 2 (omega arith) in
    let r1 = aligns.reaches 0 (omega arith) in
    let r2 = aligns.reaches 1 (omega arith) in
    let r3 = aligns.reaches 2 (omega arith) in
    let within : n ≤ length received = omega arith in
    let first_cut : IsFirst (part_of (blues cs) k1 n1) (part_of (greens cs) k2 n2) (part_of (reds cs) k3 n3) p q r =
    first_of (part_of (blues received) k1 n1) (part_of (greens received) k2 n2) (part_of (reds received) k3 n3) (part_of (blues cs) k1 n1) (part_of (greens cs) k2 n2) (part_of (reds cs) k3 n3) p q r
    (lane_front (λ c. c.blue) received sent n k1 n1 within (omega arith))
    (lane_front (λ c. c.green) received sent n k2 n2 within (omega arith))
    (lane_front (λ c. c.red) received sent n k3 n3 within (omega arith))
    aligns.first in
    let first : IsFirst x y z p q r = first_stays (part_of (blues cs) k1 n1) (part_of (greens cs) k2 n2) (part_of (reds cs) k3 n3) x y z p q r
    (lane_grown (λ c. c.blue) received sent n k1 n1 (slice_index counts 0) x within (omega arith) (omega arith) tapped.blue_part.bits_are)
    (lane_grown (λ c. c.green) received sent n k2 n2 (slice_index counts 1) y within (omega arith) (omega arith) tapped.green_part.bits_are)
    (lane_grown (λ c. c.red) received sent n k3 n3 (slice_index counts 2) z within (omega arith) (omega arith) tapped.red_part.bits_are)
    first_cut in
    let end = first_is_end ps sent cs h.conforming h.three h.spelled h.sparse k1 k2 k3 n1 n2 n3 p q r
    (near_from offset s1 s2 small.blue_green) (near_from offset s2 s3 small.green_red) (near_from offset s1 s3 small.blue_red) first_cut in
    let i = end.0 in
    let far = ends_late (dvi_kinds ps) (alternating ps h.conforming h.three) i end.1 in
    let a = i - 11 in
    let same : i ≡ a + 11 = omega arith in
    let edges : BeginColumn offset skews (i + 1) p q r = record { blue = flat p offset s1 i end.2; green = flat q offset s2 i end.3; red = flat r offset s3 i end.4 } in
    let at = begin_at received offset skews counts x y z p q r i tapped first far edges in
    let last = edge_within (part_of (blues received) k1 n1) p aligns.first.triple.blue in
    let few = length-part_le (blues received) k1 n1 in
    let place = end.2 in (
      first,
      (
        a,
        subst (λ j. EndsAt (dvi_kinds ps) j) same end.1,
        omega arith,
        record { blue = ends p offset s1 i far edges.blue; green = ends q offset s2 i far edges.green; red = ends r offset s3 i far edges.red },
        columns_taken received k1 k2 k3 (slice_index counts 0) (slice_index counts 1) (slice_index counts 2) a x y z p q r at
            (characters (λ c. c.blue) received (λ j lt. (h.characters j lt).blue)) (characters (λ c. c.green) received (λ j lt. (h.characters j lt).green)) (characters (λ c. c.red) received (λ j lt. (h.characters j lt).red)),
      ),
    )
  where
    length-part_le : (words : List ℕ) (from count : ℕ) → length (part_of words from count) ≤ count
    length-part_le words from count = omega (arith, length-take count (drop from (row_bits words)))
