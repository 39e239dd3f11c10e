-- What is reported of the bits of three lanes received with sparse damage is the account.
use Rattle.std.proofs.Common.{◌≡◌, ℕ, ◌+◌, ◌-◌, ◌*◌, ◌<◌, ◌≤◌, Bool, List, length, map, take, drop, ap, sym, ◌∙◌, subst, arith, slice_index}
use Rattle.std.proofs.lemmas.List.{length-map, get_or-map}
use Rattle.tmds_word.specs.Column.{Column}
use Rattle.tmds_word.specs.Taps.{IsTap, HasSmallSkew}
use Rattle.island_pack.specs.Periods.{Period}
use Rattle.island_pack.specs.Kinds.{EndsAt}
use Rattle.island_pack.specs.Sparse.{no_column, column_at}
use Rattle.lane_align.proofs.Edges.{edge_within}
use Rattle.lane_deskew.specs.Triples.{IsFirst}
use Rattle.lane_deskew.specs.Aligned.{aligned_columns}
use Rattle.link_laws.proofs.Shapes.{ends_late}
use Rattle.link_laws.proofs.Ends.{near_from}
use Rattle.link_laws.proofs.Aligned.{AreCharacters, BeginAt, columns_taken}
use Rattle.source_end.specs.DviPeriods.{IsDviConforming, DviSpells, dvi_kinds, IsDviSparse, HasThree}
use Rattle.dvi_hearing.specs.DviHeard.{dvi_heard}
use Rattle.link_laws.specs.Laws.{BeginColumn}
use Rattle.dvi_laws.specs.DviLaws.{IsDviAccounted}
use Rattle.dvi_laws.proofs.Shape.{alternating}
use Rattle.dvi_laws.proofs.Starting.{link_law}
use Rattle.dvi_laws.proofs.Lanes.{first_is_end}

pub first_of : (x y z p q r : List Bool) (d e f : ℕ) → x ≡ p → y ≡ q → z ≡ r → IsFirst x y z d e f → IsFirst p q r d e f
first_of x y z p q r d e f ex ey ez h =
    subst (λ xs. IsFirst xs q r d e f) ex (subst (λ ys. IsFirst x ys r d e f) ey (subst (λ zs. IsFirst x y zs d e f) ez h))

begins : (d from i : ℕ) → 120 ≤ d → 11 ≤ i → d + from ≡ 10 * (i + 1) → d - 120 + from ≡ 10 * (i - 11)
begins d from i late far e = omega arith

characters : (g : Column → ℕ) (received : List Column) → ((i : ℕ) → i < length received → g (column_at received i) < 1024) → AreCharacters (map g received)
characters g received narrow i lt = let n = length-map received g in subst (λ w. w < 1024) (sym (get_or-map g received i no_column 0 (omega arith))) (narrow i (omega arith))

pub tap_accounted : (ps : List Period) (sent received : List Column) → IsDviConforming ps → HasThree ps → DviSpells ps sent → IsDviSparse ps sent received
    → (offset : ℕ) (skews counts : List ℕ) (x y z : List Bool) → IsTap received offset skews counts x y z → HasSmallSkew skews
    → (d e f : ℕ) → IsFirst x y z d e f
    → (a : ℕ) × IsDviAccounted ps sent received (aligned_columns x y z d e f) a × BeginColumn offset skews (a + 12) d e f
tap_accounted ps sent received c t spells h offset skews counts x y z tapped small d e f first =
    let k1 = slice_index skews 0 in
    let k2 = slice_index skews 1 in
    let k3 = slice_index skews 2 in
    let end =
    first_is_end ps sent received c t spells h (offset + k1) (offset + k2) (offset + k3)
    (slice_index counts 0) (slice_index counts 1) (slice_index counts 2) d e f
    (near_from offset k1 k2 small.blue_green) (near_from offset k2 k3 small.green_red) (near_from offset k1 k3 small.blue_red)
    (first_of x y z _ _ _ d e f tapped.blue_part.bits_are tapped.green_part.bits_are tapped.red_part.bits_are first) in
    let i = end.0 in
    let far = ends_late (dvi_kinds ps) (alternating ps c t) i end.1 in
    let a = i - 11 in
    let cs = aligned_columns x y z d e f in
    let same : i ≡ a + 11 = omega arith in
    let ends_a = subst (λ k. EndsAt (dvi_kinds ps) k) same end.1 in
    let triple = first.triple in
    let p1 = triple.blue.past in
    let p2 = triple.green.past in
    let p3 = triple.red.past in
    let w1 = edge_within x d triple.blue in
    let w2 = edge_within y e triple.green in
    let w3 = edge_within z f triple.red in
    let at : BeginAt received (offset + k1) (offset + k2) (offset + k3) (slice_index counts 0) (slice_index counts 1) (slice_index counts 2) a x y z d e f = grind (arith, begins) in
    let columns : cs ≡ take (length cs) (drop a received) =
    columns_taken received (offset + k1) (offset + k2) (offset + k3) (slice_index counts 0) (slice_index counts 1) (slice_index counts 2) a x y z d e f at
    (characters (λ c. c.blue) received (λ i lt. (h.characters i lt).blue)) (characters (λ c. c.green) received (λ i lt. (h.characters i lt).green)) (characters (λ c. c.red) received (λ i lt. (h.characters i lt).red)) in
    let on : BeginColumn offset skews (a + 12) d e f = record { blue = omega (arith, end.2, far); green = omega (arith, end.3, far); red = omega (arith, end.4, far) } in
    (a, record { ends = ends_a; columns = columns; reported = ap dvi_heard columns ∙ link_law ps sent received c t spells h.same_length h.one_a_column a (length cs) ends_a }, on)
