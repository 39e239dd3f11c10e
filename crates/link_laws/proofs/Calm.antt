-- The lanes of columns received with sparse damage, wherever it lies, are calm.
use Rattle.std.proofs.Common.{ℕ, List, map, arith}
use Rattle.std.proofs.lemmas.List.{length-map}
use Rattle.tmds_word.specs.Column.{Column}
use Rattle.lane_align.specs.Laws.{IsCalm}
use Rattle.link_laws.specs.LaneEnds.{IsLaneSent, damaged}
use Rattle.link_laws.proofs.LaneEnds.{same_word, length_damaged, kind_cases}
use Rattle.island_pack.specs.Kinds.{kinds_of}
use Rattle.island_pack.specs.Periods.{Period}
use Rattle.island_pack.specs.Sparse.{AreFew}
use Rattle.link_laws.specs.Laws.{ReceivedOf}
use Rattle.link_laws.specs.Calm.{AreCalm}
use Rattle.link_laws.proofs.Lanes.{fitting_length, fitting_at, lane_sent, few_marked}
use Rattle.link_laws.proofs.Spelled.{fitting}

-- the lane that a projection takes
calm_lane : (g : Column → ℕ) (ps : List Period) (sent received : List Column) → ReceivedOf ps sent received → IsLaneSent (kinds_of ps) (map g sent) → AreFew (map g sent) (map g received)
    → IsCalm (map g received) (damaged (map g sent) (map g received))
calm_lane g ps sent received reception is_sent few = grind (arith, length-map, few_marked, length_damaged, same_word, kind_cases)

pub lanes_are_calm : (ps : List Period) (sent received : List Column) → ReceivedOf ps sent received → AreCalm sent received
lanes_are_calm ps sent received reception =
    let fit = fitting ps sent reception.conforming reception.spelled in
    let long = fitting_length (kinds_of ps) sent fit in
    let at = fitting_at (kinds_of ps) sent fit in
    record {
      blue = calm_lane (λ c. c.blue) ps sent received reception (lane_sent (λ c. c.blue) (kinds_of ps) sent long (λ i lt. (at i lt).blue)) reception.sparse.few_blue;
      green = calm_lane (λ c. c.green) ps sent received reception (lane_sent (λ c. c.green) (kinds_of ps) sent long (λ i lt. (at i lt).green)) reception.sparse.few_green;
      red = calm_lane (λ c. c.red) ps sent received reception (lane_sent (λ c. c.red) (kinds_of ps) sent long (λ i lt. (at i lt).red)) reception.sparse.few_red;
    }
