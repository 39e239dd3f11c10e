-- Where a control period and the column after it were received, the lanes' bits up to that column have a first full alignment.
use Rattle.std.proofs.Common.{◌≡◌, ℕ, ◌+◌, ◌-◌, ◌*◌, ◌≤◌, Bool, List, length, map, sym, subst, arith, ◌⊎◌, inl, inr}
use Rattle.std.specs.Prelude.{slice_index}
use Rattle.std.proofs.lemmas.List.{length-map}
use Rattle.tmds_word.specs.Column.{Column, blues, greens, reds}
use Rattle.tmds_word.specs.Taps.{AreNear}
use Rattle.lane_align.specs.Lanes.{IsEdge}
use Rattle.lane_deskew.specs.Triples.{IsTriple, IsFirst}
use Rattle.link_sink.proofs.Decided.{first_decided}
use Rattle.island_pack.specs.Kinds.{Kind, control_column, first_guard, kind_at, EndsAt, IsAfterControl}
use Rattle.source_end.specs.DviPeriods.{dvi_kinds}
use Rattle.link_laws.specs.Alternating.{IsAlternating}
use Rattle.link_laws.specs.LaneEnds.{IsGuard, IsReceived}
use Rattle.link_laws.proofs.Ends.{near_from}
use Rattle.link_laws.proofs.LocalLanes.{spliced, lane_front, lane_part}
use Rattle.link_laws.proofs.Until.{IsReceivedUntil, end_edge}
use Rattle.dvi_laws.specs.DviLocal.{bits_until, DviFirstUntil}
use Rattle.dvi_laws.proofs.Lanes.{lanes_received}
use Rattle.dvi_laws.proofs.Shape.{alternating}
use Rattle.dvi_laws.proofs.Tapped.{first_of}

received_until : (ks : List Kind) (f : ℕ) (words : List ℕ) (marks : List Bool) → IsReceived ks words marks → IsReceivedUntil ks f words marks
received_until ks f words marks r =
    record { calm = r.calm; below = r.below; controls = λ i lt le. r.controls i lt; guards = λ i lt le. r.guards i lt; payloads = λ i lt le. r.payloads i lt }

no_control : (k : Kind) → k ≡ first_guard → k ≡ control_column → ⊥
no_control k e h = cc

period_ends : (ks : List Kind) (f i : ℕ) → f ≡ i + 1 → kind_at ks i ≡ control_column → kind_at ks f ≡ first_guard → EndsAt ks i
period_ends ks f i next here opens = record { here = here; then = no_control (kind_at ks (i + 1)) (subst (λ j. kind_at ks j ≡ first_guard) next opens) }

-- column f is at an edge of each lane of the columns that were received up to it
lane_edge : (g : Column → ℕ) (ks : List Kind) (sent received : List Column) (marks : List Bool) (f from : ℕ) → IsAlternating ks → IsReceived ks (map g (spliced (f + 1) received sent)) marks
    → IsAfterControl ks f → f + 1 ≤ length received → from + 120 ≤ 10 * f → IsEdge (bits_until (map g (spliced (f + 1) received sent)) from f) (10 * f - from)
lane_edge g ks sent received marks f from alternates r after within begins =
    let words = map g (spliced (f + 1) received sent) in
    let i = after.before.0 in
    let next = after.before.1 in
    let many = 10 * (f + 1) - from in
    let part = lane_part g received sent (f + 1) from many within (omega arith) in
    end_edge ks f i words marks alternates (received_until ks f words marks r) (subst IsGuard (sym after.opens) tt)
    (period_ends ks f i next after.before.2 after.opens) next from many (record { begins = begins; reaches = omega arith; within = part.within })

-- the same place on two lanes
near_place : (n k l : ℕ) → k ≤ n → l ≤ n → AreNear k l → AreNear (n - k) (n - l)
near_place n k l a b near = let c = near.0 in let d = near.1 in (omega arith, omega arith)

some_first : (x y z : List Bool) (d e g : ℕ) → IsTriple x y z d e g → ((p q r : ℕ) × IsFirst x y z p q r) ⊎ ((p q r : ℕ) → IsTriple x y z p q r → ⊥) → (p q r : ℕ) × IsFirst x y z p q r
some_first x y z d e g triple (inl is) = is
some_first x y z d e g triple (inr none) = absurd (none d e g triple)

pub dvi_first_until : DviFirstUntil
dvi_first_until ps sent received f h offset skews counts x y z tapped small aligns =
    let n = f + 1 in
    let s1 = slice_index skews 0 in
    let s2 = slice_index skews 1 in
    let s3 = slice_index skews 2 in
    let k1 = offset + s1 in
    let k2 = offset + s2 in
    let k3 = offset + s3 in
    let cs = spliced n received sent in
    let w1 = tapped.blue_part.within in
    let l1 = length-map received (λ c. c.blue) in
    let b1 = aligns.holds.begins 0 (omega arith) in
    let b2 = aligns.holds.begins 1 (omega arith) in
    let b3 = aligns.holds.begins 2 (omega arith) in
    let r1 = aligns.holds.reaches 0 (omega arith) in
    let within : n ≤ length received = omega arith in
    let lanes = lanes_received ps sent cs h.conforming h.spelled h.sparse in
    let ks = dvi_kinds ps in
    let shape = alternating ps h.conforming h.three in
    let u = bits_until (blues cs) k1 f in
    let v = bits_until (greens cs) k2 f in
    let w = bits_until (reds cs) k3 f in
    let triple : IsTriple u v w (10 * f - k1) (10 * f - k2) (10 * f - k3) = record {
      blue = lane_edge (λ c. c.blue) ks sent received _ f k1 shape lanes.blue aligns.after within b1;
      green = lane_edge (λ c. c.green) ks sent received _ f k2 shape lanes.green aligns.after within b2;
      red = lane_edge (λ c. c.red) ks sent received _ f k3 shape lanes.red aligns.after within b3;
      blue_green = near_place (10 * f) k1 k2 (omega arith) (omega arith) (near_from offset s1 s2 small.blue_green);
      green_red = near_place (10 * f) k2 k3 (omega arith) (omega arith) (near_from offset s2 s3 small.green_red);
      blue_red = near_place (10 * f) k1 k3 (omega arith) (omega arith) (near_from offset s1 s3 small.blue_red);
    } in
    let found = some_first u v w (10 * f - k1) (10 * f - k2) (10 * f - k3) triple (first_decided u v w) in (
      found.0,
      found.1,
      found.2,
      record {
        begins = λ lane lt. let b = aligns.holds.begins lane lt in omega arith;
        reaches = λ lane lt. let r = aligns.holds.reaches lane lt in omega arith;
        first = first_of u v w (bits_until (blues received) k1 f) (bits_until (greens received) k2 f) (bits_until (reds received) k3 f) found.0 found.1 found.2
            (sym (lane_front (λ c. c.blue) received sent n k1 (10 * n - k1) within (omega arith)))
            (sym (lane_front (λ c. c.green) received sent n k2 (10 * n - k2) within (omega arith)))
            (sym (lane_front (λ c. c.red) received sent n k3 (10 * n - k3) within (omega arith)))
            found.3;
      },
    )
