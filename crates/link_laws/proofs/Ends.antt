-- The edges and the first full alignment of columns received with sparse damage are ends of control periods.
use Rattle.std.proofs.Common.{◌≡◌, ℕ, ◌+◌, Bool, List, subst, arith}
use Rattle.std.specs.Prelude.{slice_index}
use Rattle.lane_deskew.specs.Triples.{IsFirst}
use Rattle.tmds_word.specs.Taps.{AreNear}
use Rattle.link_laws.specs.LaneEnds.{IsReceived, damaged}
use Rattle.link_laws.specs.Alternating.{IsAlternating}
use Rattle.link_laws.proofs.Shapes.{alternating}
use Rattle.link_laws.proofs.LaneEnds.{edge_ends, first_ends as lanes_first_ends}
use Rattle.tmds_word.specs.Column.{blues, greens, reds}
use Rattle.island_pack.specs.Periods.{Period}
use Rattle.island_pack.specs.Kinds.{kinds_of}
use Rattle.link_laws.specs.Laws.{AreEnds, EdgesEnd, FirstEnds}
use Rattle.link_laws.proofs.Lanes.{lanes_received}

lane_ends : (ps : List Period) (words : List ℕ) (marks : List Bool) → IsAlternating (kinds_of ps) → IsReceived (kinds_of ps) words marks → AreEnds ps words
lane_ends ps words marks alternates lane = record { edges = edge_ends (kinds_of ps) words marks alternates lane }

pub edges_end : EdgesEnd
edges_end ps sent received reception alone =
    let alternates = alternating ps reception.conforming in
    let lanes = lanes_received ps sent received reception alone in (
      lane_ends ps (blues received) (damaged (blues sent) (blues received)) alternates lanes.blue,
      lane_ends ps (greens received) (damaged (greens sent) (greens received)) alternates lanes.green,
      lane_ends ps (reds received) (damaged (reds sent) (reds received)) alternates lanes.red,
    )

-- three lists at once
first_of : (x y z p q r : List Bool) (d e f : ℕ) → x ≡ p → y ≡ q → z ≡ r → IsFirst x y z d e f → IsFirst p q r d e f
first_of x y z p q r d e f ex ey ez h =
    subst (λ xs. IsFirst xs q r d e f) ex (subst (λ ys. IsFirst x ys r d e f) ey (subst (λ zs. IsFirst x y zs d e f) ez h))

pub near_from : (offset k l : ℕ) → AreNear k l → AreNear (offset + k) (offset + l)
near_from offset k l near = let a = near.0 in let b = near.1 in (omega arith, omega arith)

pub flat : (d offset k n : ℕ) → d + (offset + k) ≡ n → d + offset + k ≡ n
flat d offset k n e = omega arith

pub first_ends : FirstEnds
first_ends ps sent received reception alone offset skews counts x y z tapped small d e f first =
    let k1 = slice_index skews 0 in
    let k2 = slice_index skews 1 in
    let k3 = slice_index skews 2 in
    let alternates = alternating ps reception.conforming in
    let lanes = lanes_received ps sent received reception alone in
    let ends =
    lanes_first_ends (kinds_of ps) (blues received) (greens received) (reds received)
    (damaged (blues sent) (blues received)) (damaged (greens sent) (greens received)) (damaged (reds sent) (reds received))
    alternates lanes.blue lanes.green lanes.red (offset + k1) (offset + k2) (offset + k3)
    (slice_index counts 0) (slice_index counts 1) (slice_index counts 2) d e f
    (near_from offset k1 k2 small.blue_green) (near_from offset k2 k3 small.green_red) (near_from offset k1 k3 small.blue_red)
    (first_of x y z _ _ _ d e f tapped.blue_part.bits_are tapped.green_part.bits_are tapped.red_part.bits_are first) in
    (ends.0, ends.1, record { blue = flat d offset k1 _ ends.2; green = flat e offset k2 _ ends.3; red = flat f offset k3 _ ends.4 })
