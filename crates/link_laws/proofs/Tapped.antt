-- What is reported of the aligned columns of a tap is the account from the end of a control period on.
use Rattle.std.proofs.Common.{◌≡◌, ℕ, ◌+◌, ◌-◌, ◌*◌, ◌<◌, ◌≤◌, Bool, List, length, map, take, drop, ap, sym, ◌∙◌, subst, arith}
use Rattle.std.specs.Prelude.{slice_index}
use Rattle.std.proofs.lemmas.List.{length-map, get_or-map}
use Rattle.tmds_word.specs.Column.{Column}
use Rattle.tmds_word.specs.Taps.{IsTap}
use Rattle.lane_align.proofs.Edges.{edge_within}
use Rattle.lane_deskew.specs.Triples.{IsFirst}
use Rattle.lane_deskew.specs.Aligned.{aligned_columns}
use Rattle.link_laws.proofs.Shapes.{alternating, ends_late}
use Rattle.island_pack.specs.Periods.{Period}
use Rattle.island_pack.specs.Kinds.{kinds_of}
use Rattle.island_pack.specs.Sparse.{no_column, column_at}
use Rattle.period_grammar.specs.Heard.{heard}
use Rattle.link_laws.specs.Laws.{ReceivedFreely, EndsControl, BeginColumn, IsAccounted, TapAccounted, PayloadAccounted}
use Rattle.link_laws.proofs.Ends.{first_ends}
use Rattle.link_laws.proofs.Aligned.{AreCharacters, BeginAt, columns_taken}
use Rattle.link_laws.proofs.Aligning.{first_until}
use Rattle.link_laws.proofs.Framing.{link_law}

-- twelve words before the end of word i
begins : (d offset k i : ℕ) → 120 ≤ d → 11 ≤ i → d + offset + k ≡ 10 * (i + 1) → d - 120 + (offset + k) ≡ 10 * (i - 11)
begins d offset k i late far e = omega arith

pub ends : (d offset k i : ℕ) → 11 ≤ i → d + offset + k ≡ 10 * (i + 1) → d + offset + k ≡ 10 * (i - 11 + 12)
ends d offset k i far e = omega arith

-- where the lanes of a first full alignment begin
pub begin_at : (received : List Column) (offset : ℕ) (skews counts : List ℕ) (x y z : List Bool) (d e f i : ℕ) → IsTap received offset skews counts x y z → IsFirst x y z d e f → 11 ≤ i
    → BeginColumn offset skews (i + 1) d e f
    → BeginAt received (offset + slice_index skews 0) (offset + slice_index skews 1) (offset + slice_index skews 2)
    (slice_index counts 0) (slice_index counts 1) (slice_index counts 2) (i - 11) x y z d e f
begin_at received offset skews counts x y z d e f i tapped first far at =
    let t = first.triple in
    let p1 = t.blue.past in
    let p2 = t.green.past in
    let p3 = t.red.past in
    let w1 = edge_within x d t.blue in
    let w2 = edge_within y e t.green in
    let w3 = edge_within z f t.red in
    record {
      blue = tapped.blue_part.bits_are;
      green = tapped.green_part.bits_are;
      red = tapped.red_part.bits_are;
      blue_begins = begins d offset (slice_index skews 0) i (omega arith) far at.blue;
      green_begins = begins e offset (slice_index skews 1) i (omega arith) far at.green;
      red_begins = begins f offset (slice_index skews 2) i (omega arith) far at.red;
      blue_within = omega arith;
      green_within = omega arith;
      red_within = omega arith;
    }

pub characters : (g : Column → ℕ) (received : List Column) → ((i : ℕ) → i < length received → g (column_at received i) < 1024) → AreCharacters (map g received)
characters g received narrow i lt = let n = length-map received g in subst (λ w. w < 1024) (sym (get_or-map g received i no_column 0 (omega arith))) (narrow i (omega arith))

-- a first full alignment at the end of a control period
accounted : (ps : List Period) (sent received : List Column) → ReceivedFreely ps sent received → (offset : ℕ) (skews counts : List ℕ) (x y z : List Bool) → IsTap received offset skews counts x y z
    → (d e f i : ℕ) → IsFirst x y z d e f → EndsControl ps i → BeginColumn offset skews (i + 1) d e f → 11 ≤ i
    → IsAccounted ps sent received (aligned_columns x y z d e f) (i - 11) × BeginColumn offset skews (i - 11 + 12) d e f
accounted ps sent received reception offset skews counts x y z tapped d e f i first ends_i edges far =
    let a = i - 11 in
    let cs = aligned_columns x y z d e f in
    let same : i ≡ a + 11 = omega arith in
    let ends_a = subst (λ k. EndsControl ps k) same ends_i in
    let h = reception.sparse in
    let at = begin_at received offset skews counts x y z d e f i tapped first far edges in
    let columns : cs ≡ take (length cs) (drop a received) =
    columns_taken received (offset + slice_index skews 0) (offset + slice_index skews 1) (offset + slice_index skews 2)
    (slice_index counts 0) (slice_index counts 1) (slice_index counts 2) a x y z d e f at
    (characters (λ c. c.blue) received (λ i lt. (h.characters i lt).blue)) (characters (λ c. c.green) received (λ i lt. (h.characters i lt).green)) (characters (λ c. c.red) received (λ i lt. (h.characters i lt).red)) in (
      record { ends = ends_a; columns = columns; reported = ap heard columns ∙ link_law ps sent received reception a (length cs) ends_a },
      record {
        blue = ends d offset (slice_index skews 0) i far edges.blue;
        green = ends e offset (slice_index skews 1) i far edges.green;
        red = ends f offset (slice_index skews 2) i far edges.red;
      },
    )

late : (ps : List Period) (sent received : List Column) → ReceivedFreely ps sent received → (i : ℕ) → EndsControl ps i → 11 ≤ i
late ps sent received reception i ends_i = ends_late (kinds_of ps) (alternating ps reception.conforming) i ends_i

pub tap_accounted : TapAccounted
tap_accounted ps sent received reception offset skews counts x y z tapped small until aligns =
    let found = first_until ps sent received reception offset skews counts x y z tapped small until aligns in
    let end = found.4 in
    let far = late ps sent received reception end.0 end.1 in
    let before = end.2 in
    let reported = accounted ps sent received reception offset skews counts x y z tapped found.0 found.1 found.2 end.0 found.3 end.1 end.3 far in
    (found.0, found.1, found.2, found.3, (end.0 - 11, omega arith, reported.0, reported.1))

pub payload_accounted : PayloadAccounted
payload_accounted ps sent received reception alone offset skews counts x y z tapped small d e f first =
    let end = first_ends ps sent received reception alone offset skews counts x y z tapped small d e f first in
    let reported = accounted ps sent received reception offset skews counts x y z tapped d e f end.0 first end.1 end.2 (late ps sent received reception end.0 end.1) in
    (end.0 - 11, reported.0, reported.1)
