-- A lane that slips within the pixels of a line is calm, its characters are transition-minimized where it slips, and a control period
-- begins after the line.
use Rattle.std.proofs.Common.{◌≡◌, ℕ, suc, zero, ◌+◌, ◌-◌, ◌<◌, Bool, List, length, ap, ◌∙◌, sym, subst, arith}
use Rattle.std.specs.Prelude.{slice_index}
use Rattle.std.proofs.lemmas.List.{length-map}
use Rattle.tmds_word.specs.Column.{Column}
use Rattle.tmds_word.specs.Taps.{IsPart}
use Rattle.link_laws.proofs.Freely.{free_received}
use Rattle.link_laws.specs.LaneEnds.{IsReceived, IsLaneSent, damaged}
use Rattle.island_pack.specs.Periods.{Period}
use Rattle.island_pack.specs.Kinds.{Kind, control_column, pixel_column, kinds_of, kind_at}
use Rattle.island_pack.specs.Sparse.{IsSparseInPayload}
use Rattle.link_laws.specs.Laws.{ReceivedOf}
use Rattle.link_sink.specs.Sinks.{Fed}
use Rattle.link_laws.proofs.Lanes.{fitting_length, fitting_at, lane_sent, lanes_received}
use Rattle.link_laws.proofs.Spelled.{fitting}
use Rattle.lane_track.specs.Slips.{Slips, BeginsControl}
use Rattle.track_sink.specs.Epochs.{lane_of}
use Rattle.track_laws.specs.Laws.{Received, Slipped, SlipsInVideo, CalmLanes, words_at}
use Rattle.track_laws.proofs.Middles.{Twelve, line_ends}

-- which characters of a lane were received unlike those that were sent
abbrev pub marks_at : List Column → List Column → ℕ → List Bool
marks_at sent received l = damaged (words_at sent l) (words_at received l)

pub received_at : (ps : List Period) (sent received : List Column) → ReceivedOf ps sent received → IsSparseInPayload ps sent received → (l : ℕ)
    → IsReceived (kinds_of ps) (words_at received l) (marks_at sent received l)
received_at ps sent received reception alone zero = (lanes_received ps sent received (free_received ps sent received reception) alone).blue
received_at ps sent received reception alone (suc zero) = (lanes_received ps sent received (free_received ps sent received reception) alone).green
received_at ps sent received reception alone (suc (suc l)) = (lanes_received ps sent received (free_received ps sent received reception) alone).red

sent_at : (ps : List Period) (sent received : List Column) → ReceivedOf ps sent received → (l : ℕ) → IsLaneSent (kinds_of ps) (words_at sent l)
sent_at ps sent received reception zero =
    let fit = fitting ps sent reception.conforming reception.spelled in
    let at = fitting_at (kinds_of ps) sent fit in
    lane_sent (λ c. c.blue) (kinds_of ps) sent (fitting_length (kinds_of ps) sent fit) (λ i lt. (at i lt).blue)
sent_at ps sent received reception (suc zero) =
    let fit = fitting ps sent reception.conforming reception.spelled in
    let at = fitting_at (kinds_of ps) sent fit in
    lane_sent (λ c. c.green) (kinds_of ps) sent (fitting_length (kinds_of ps) sent fit) (λ i lt. (at i lt).green)
sent_at ps sent received reception (suc (suc l)) =
    let fit = fitting ps sent reception.conforming reception.spelled in
    let at = fitting_at (kinds_of ps) sent fit in
    lane_sent (λ c. c.red) (kinds_of ps) sent (fitting_length (kinds_of ps) sent fit) (λ i lt. (at i lt).red)

length_at : (cs : List Column) (l : ℕ) → length (words_at cs l) ≡ length cs
length_at cs l = grind (arith, length-map)

pub part_at : (ps : List Period) (sent received : List Column) (offset : ℕ) (skews counts : List ℕ) (x : Fed) → Received ps sent received offset skews counts x → (l : ℕ) → l < 3
    → IsPart (words_at received l) (offset + slice_index skews l) (slice_index counts l) (lane_of x l)
part_at ps sent received offset skews counts x h k l = grind arith

-- the three lanes
pub calm_lanes : (ps : List Period) (sent received : List Column) (offset : ℕ) (skews counts : List ℕ) (x : Fed) → Received ps sent received offset skews counts x → IsSparseInPayload ps sent received
    → CalmLanes x (words_at received) (marks_at sent received) (λ l. offset + slice_index skews l) (λ l. slice_index counts l)
calm_lanes ps sent received offset skews counts x reception alone =
    record {
      calm = λ l lt. (received_at ps sent received reception.reception alone l).calm;
      parts = λ l lt. (part_at ps sent received offset skews counts x reception l lt).bits_are;
    }

pixel_apart : (k : Kind) → k ≡ pixel_column → k ≡ control_column → ⊥
pixel_apart k e f = cc

-- the lane that slipped
pub slips_at : (ps : List Period) (sent received : List Column) (offset : ℕ) (skews counts : List ℕ) (x y : Fed) (lane place dropped first next : ℕ)
    → Received ps sent received offset skews counts x → Slipped x lane place dropped y
    → SlipsInVideo ps sent received offset skews counts lane place dropped first next
    → Slips (words_at received lane) (marks_at sent received lane) (offset + slice_index skews lane) (slice_index counts lane) place dropped
slips_at ps sent received offset skews counts x y lane place dropped first next reception slip s =
    let part = part_at ps sent received offset skews counts x reception lane slip.within in
    let r = received_at ps sent received reception.reception s.alone lane in
    let sent_is = sent_at ps sent received reception.reception lane in
    grind (arith, length_at, pixel_apart)

-- after the line
pub after_line : (ps : List Period) (sent received : List Column) (offset : ℕ) (skews counts : List ℕ) (lane place dropped first next : ℕ)
    → ReceivedOf ps sent received → SlipsInVideo ps sent received offset skews counts lane place dropped first next → Twelve (kinds_of ps) next
after_line ps sent received offset skews counts lane place dropped first next reception s =
    let after = s.after in
    let before = s.before in
    let begins = s.begins in
    let e : next - 1 + 1 ≡ next = omega arith in
    let then : kind_at (kinds_of ps) next ≡ pixel_column → ⊥ = grind (arith, pixel_apart) in
    subst (Twelve (kinds_of ps)) e
    (line_ends ps reception.conforming (next - 1) (s.pixels (next - 1) (omega arith) (omega arith)) (λ p. then (ap (kind_at (kinds_of ps)) (sym e) ∙ p)))

pub begins_control : (ps : List Period) (sent received : List Column) (offset : ℕ) (skews counts : List ℕ) (lane place dropped first next : ℕ)
    → ReceivedOf ps sent received → SlipsInVideo ps sent received offset skews counts lane place dropped first next
    → BeginsControl (words_at received lane) (marks_at sent received lane) (offset + slice_index skews lane + place + dropped) next
begins_control ps sent received offset skews counts lane place dropped first next reception s =
    let t = after_line ps sent received offset skews counts lane place dropped first next reception s in
    let r = received_at ps sent received reception s.alone lane in
    let sent_is = sent_at ps sent received reception lane in
    grind (arith, length_at)
