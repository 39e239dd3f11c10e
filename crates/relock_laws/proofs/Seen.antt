-- Lanes whose edges are ends of control periods and whose characters there are those that were received: their first alignment is
-- not unconfirmed.
use Rattle.std.proofs.Common.{◌≡◌, ℕ, ◌+◌, ◌-◌, ◌*◌, ◌<◌, ◌≤◌, Bool, true, List, length, take, drop, get_or, ap, ap₂, sym, ◌∙◌, arith, Some, true≢false}
use Rattle.std.proofs.lemmas.Bool.{cases_lt}
use Rattle.std.proofs.lemmas.List.{length-map, get_or-map}
use Rattle.tmds_word.specs.Bits.{window, row_bits, number}
use Rattle.tmds_word.specs.Column.{Column, blues, greens, reds}
use Rattle.tmds_word.specs.Taps.{part_of, AreNear}
use Rattle.tmds_word.proofs.Lists.{length-row_bits}
use Rattle.lane_align.specs.Lanes.{IsEdge}
use Rattle.lane_align.proofs.Calm.{tapped}
use Rattle.lane_align.proofs.Controls.{window_is}
use Rattle.lane_deskew.specs.Triples.{IsTriple}
use Rattle.island_pack.specs.Conforming.{IsConforming}
use Rattle.island_pack.specs.Periods.{Period}
use Rattle.island_pack.specs.Kinds.{Kind, EndsAt, kinds_of}
use Rattle.island_pack.specs.Sparse.{no_column, column_at, IsSparseInPayload}
use Rattle.link_laws.specs.Alternating.{IsAlternating}
use Rattle.link_laws.specs.LaneEnds.{IsReceived}
use Rattle.link_laws.specs.Laws.{ReceivedFreely}
use Rattle.link_laws.proofs.LaneEnds.{edge_ends, word_is}
use Rattle.link_laws.proofs.Shapes.{alternating, ends_apart, parted}
use Rattle.link_sink.specs.Sinks.{Fed}
use Rattle.track_sink.specs.Epochs.{lane_of}
use Rattle.track_laws.specs.Laws.{words_at}
use Rattle.relock_sink.specs.Relocks.{is_announced, IsUnconfirmed}
use Rattle.relock_sink.specs.Rivals.{HaveSameSkew}
use Rattle.relock_laws.proofs.Announced.{pair_at, announced_at}
use Rattle.relock_laws.proofs.Windows.{words_of_column}

-- One lane.

-- character i of a lane's words
pub record HasWord (words : List ℕ) (i w : ℕ) : Type 0 where
  pub within : i < length words
  pub is : get_or words i 0 ≡ w

-- each edge of a lane is the end of a control period, and the two characters from there on are those that follow it
pub record IsSeen (kinds : List Kind) (words : List ℕ) (from : ℕ) (ys : List Bool) : Type 0 where
  pub edges : (e : ℕ) → IsEdge ys e → (i : ℕ) × (EndsAt kinds i) × (e + from ≡ 10 * (i + 1))
  pub characters : (e : ℕ) → IsEdge ys e → (p i w : ℕ) → e ≤ p → p ≤ e + 10 → window ys p ≡ Some w → p + from ≡ 10 * i → HasWord words i w

-- a character of a part of a lane
pub part_word : (words : List ℕ) (from many p i w : ℕ) → ((k : ℕ) → k < length words → get_or words k 0 < 1024) → window (part_of words from many) p ≡ Some w → p + from ≡ 10 * i → HasWord words i w
part_word words from many p i w small here at =
    let len = length-row_bits words in
    let is = window_is (part_of words from many) p w here in
    let t = tapped words from many p is.0 in
    let within : i < length words = omega (arith, t.0) in
    record { within = within; is = sym (word_is words i within (small i within)) ∙ ap (λ m. number (take 10 (drop m (row_bits words)))) (sym at) ∙ ap number (sym t.1) ∙ is.1 }

pub part_seen : (kinds : List Kind) (words : List ℕ) (marks : List Bool) → IsAlternating kinds → IsReceived kinds words marks → (from many : ℕ) → IsSeen kinds words from (part_of words from many)
part_seen kinds words marks alternates r from many = record {
  edges = edge_ends kinds words marks alternates r from many;
  characters = λ e edge p i w low high here at. part_word words from many p i w r.below here at;
}

-- Three lanes.

-- places that are no farther apart than lanes may be before a slip of at most nine bits
pub record AreClose (k l : ℕ) : Type 0 where
  pub one : k ≤ l + 79
  pub two : l ≤ k + 79

same_end : (kinds : List Kind) → IsAlternating kinds → (i j d e k l : ℕ) → EndsAt kinds i → EndsAt kinds j → d + k ≡ 10 * (i + 1) → e + l ≡ 10 * (j + 1) → AreNear d e → AreClose k l → i ≡ j
same_end kinds alternates i j d e k l ends_i ends_j at_i at_j near close = grind (arith, cases_lt, ends_apart)

-- a received column by its words
pub column_is : (received : List Column) (i : ℕ) (c : Column) → HasWord (blues received) i c.blue → HasWord (greens received) i c.green → HasWord (reds received) i c.red
    → (i < length received) × (column_at received i ≡ c)
column_is received i c blue green red =
    let a = length-map received (λ c. c.blue) in
    let lt = blue.within in
    let within : i < length received = omega arith in
    let b = sym (get_or-map (λ c. c.blue) received i no_column 0 within) ∙ blue.is in
    let g = sym (get_or-map (λ c. c.green) received i no_column 0 within) ∙ green.is in
    let r = sym (get_or-map (λ c. c.red) received i no_column 0 within) ∙ red.is in
    (within, λ k. record { blue = b k; green = g k; red = r k })

-- lanes from places of theirs on
pub record AreSeen (ps : List Period) (received : List Column) (from : ℕ → ℕ) (y : Fed) : Type 0 where
  pub seen : (l : ℕ) → l < 3 → IsSeen (kinds_of ps) (words_at received l) (from l) (lane_of y l)
  pub blue_green : AreClose (from 0) (from 1)
  pub blue_red : AreClose (from 0) (from 2)

pub seen_confirmed : (ps : List Period) (sent received : List Column) → ReceivedFreely ps sent received → IsSparseInPayload ps sent received → (from : ℕ → ℕ) (y : Fed) → AreSeen ps received from y
    → (d e f : ℕ) → IsUnconfirmed y d e f → ⊥
seen_confirmed ps sent received reception alone from y lanes d e f u =
    let kinds = kinds_of ps in
    let alternates = alternating ps reception.conforming in
    let t = u.first.triple in
    let blue = lanes.seen 0 (omega arith) in
    let green = lanes.seen 1 (omega arith) in
    let red = lanes.seen 2 (omega arith) in
    let b = blue.edges d t.blue in
    let g = green.edges e t.green in
    let r = red.edges f t.red in
    let bg = same_end kinds alternates b.0 g.0 d e (from 0) (from 1) b.1 g.1 b.2 g.2 t.blue_green lanes.blue_green in
    let br = same_end kinds alternates b.0 r.0 d f (from 0) (from 2) b.1 r.1 b.2 r.2 t.blue_red lanes.blue_red in
    let at_b = b.2 in
    let at_g = g.2 in
    let at_r = r.2 in
    let past_b = t.blue.past in
    let past_g = t.green.past in
    let past_r = t.red.past in
    let i = b.0 in
    let h = words_of_column y.blue y.green y.red d e f 12 u.columns.here u.columns.is_here in
    let n = words_of_column y.blue y.green y.red d e f 13 u.columns.next u.columns.is_next in
    let here = column_is received (i + 1) u.columns.here
    (blue.characters d t.blue (d - 120 + 10 * 12) (i + 1) u.columns.here.blue (omega arith) (omega arith) h.blue_is (omega arith))
    (green.characters e t.green (e - 120 + 10 * 12) (i + 1) u.columns.here.green (omega arith) (omega arith) h.green_is (omega arith))
    (red.characters f t.red (f - 120 + 10 * 12) (i + 1) u.columns.here.red (omega arith) (omega arith) h.red_is (omega arith)) in
    let next = column_is received (i + 2) u.columns.next
    (blue.characters d t.blue (d - 120 + 10 * 13) (i + 2) u.columns.next.blue (omega arith) (omega arith) n.blue_is (omega arith))
    (green.characters e t.green (e - 120 + 10 * 13) (i + 2) u.columns.next.green (omega arith) (omega arith) n.green_is (omega arith))
    (red.characters f t.red (f - 120 + 10 * 13) (i + 2) u.columns.next.red (omega arith) (omega arith) n.red_is (omega arith)) in
    let spared = alone.spares (i + 1) (i + 1) (omega arith) (λ payload. parted kinds alternates i b.1.here payload) in
    let within = here.0 in
    let long = reception.sparse.same_length in
    let announced : is_announced (column_at received (i + 1)) (column_at received (i + 2)) ≡ true =
    announced_at sent received (i + 1) (i + 2) (omega arith) (pair_at ps sent reception.conforming reception.spelled i (i + 1) b.1 (omega arith) (omega arith)) spared (reception.sparse.one_a_column (i + 2)) in
    true≢false (sym announced ∙ ap₂ is_announced here.1 next.1 ∙ u.columns.so)

-- all their alignments have one skew, since the edges of each are the end of one control period
pub seen_skew : (ps : List Period) (received : List Column) → IsConforming ps → (from : ℕ → ℕ) (y : Fed) → AreSeen ps received from y
    → (p q r d e f : ℕ) → IsTriple y.blue y.green y.red p q r → IsTriple y.blue y.green y.red d e f → HaveSameSkew p q r d e f
seen_skew ps received conforming from y lanes p q r d e f own other =
    let a = seen_end ps received conforming from y lanes p q r own in
    let b = seen_end ps received conforming from y lanes d e f other in
    let ab = a.1 in
    let ag = a.2 in
    let ar = a.3 in
    let bb = b.1 in
    let bg = b.2 in
    let br = b.3 in
    (omega arith, omega arith)
  where
    seen_end : (ps : List Period) (received : List Column) → IsConforming ps → (from : ℕ → ℕ) (y : Fed) → AreSeen ps received from y
        → (d e f : ℕ) → IsTriple y.blue y.green y.red d e f → (i : ℕ) × (d + from 0 ≡ 10 * (i + 1)) × (e + from 1 ≡ 10 * (i + 1)) × (f + from 2 ≡ 10 * (i + 1))
    seen_end ps received conforming from y lanes d e f t =
        let kinds = kinds_of ps in
        let alternates = alternating ps conforming in
        let b = (lanes.seen 0 (omega arith)).edges d t.blue in
        let g = (lanes.seen 1 (omega arith)).edges e t.green in
        let r = (lanes.seen 2 (omega arith)).edges f t.red in
        let bg = same_end kinds alternates b.0 g.0 d e (from 0) (from 1) b.1 g.1 b.2 g.2 t.blue_green lanes.blue_green in
        let br = same_end kinds alternates b.0 r.0 d f (from 0) (from 2) b.1 r.1 b.2 r.2 t.blue_red lanes.blue_red in
        let at_b = b.2 in
        let at_g = g.2 in
        let at_r = r.2 in
        (b.0, at_b, omega arith, omega arith)
