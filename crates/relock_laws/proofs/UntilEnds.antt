-- A lane whose damage spares control and guard words until a column: its edges before the end of a control period that comes before
-- that column are ends of control periods.
use Rattle.std.proofs.Common.{◌≡◌, ℕ, ◌+◌, ◌-◌, ◌*◌, ◌/◌, ◌%◌, ◌<◌, ◌≤◌, false, Bool, List, length, map, take, drop, get_or, ap, ◌∙◌, sym, subst, arith, inl, inr}
use Rattle.std.proofs.lemmas.Bool.{cases_lt}
use Rattle.std.proofs.lemmas.List.{length-map, get_or-map}
use Rattle.tmds_word.specs.Column.{Column}
use Rattle.tmds_word.specs.Taps.{part_of}
use Rattle.terc4.proofs.Words.{few_turns}
use Rattle.lane_align.specs.Lanes.{IsEdge}
use Rattle.lane_align.specs.Laws.{marked}
use Rattle.island_pack.specs.Kinds.{Kind, control_column, IsPayload, kinds_of, kind_at, EndsAt, IsAfterControl}
use Rattle.island_pack.specs.Periods.{Period}
use Rattle.island_pack.specs.Sparse.{AreFew, no_column, column_at, SparesUntil}
use Rattle.link_laws.specs.Alternating.{IsAlternating}
use Rattle.link_laws.specs.LaneEnds.{IsGuard, IsLaneSent, damaged}
use Rattle.link_laws.specs.Laws.{ReceivedFreely}
use Rattle.link_laws.proofs.LaneEnds.{same_word, length_damaged, kind_cases, no_guard_payload}
use Rattle.link_laws.proofs.Lanes.{fitting_length, fitting_at, lane_sent, not_damaged, few_marked}
use Rattle.link_laws.proofs.Shapes.{ends_apart}
use Rattle.link_laws.proofs.Spelled.{FitsWord, FitsColumn, fitting_freely}
use Rattle.link_laws.proofs.Until.{IsReceivedUntil, Holds, edge_until}

received_until : (ks : List Kind) (f : ℕ) (sent received : List ℕ) → IsLaneSent ks sent → length received ≡ length sent → ((i : ℕ) → i < length received → get_or received i 0 < 1024)
    → ((i : ℕ) → i + 11 ≤ length sent → marked (take 11 (drop i (damaged sent received))) ≤ 2)
    → ((i : ℕ) → i < length sent → i ≤ f → (IsPayload (kind_at ks i) → ⊥) → get_or (damaged sent received) i false ≡ false)
    → IsReceivedUntil ks f received (damaged sent received)
received_until ks f sent received s len below few spares = grind (arith, length_damaged, same_word, kind_cases, few_turns, no_guard_payload)

-- the lane of a stream that a projection takes
pub lane_until : (g : Column → ℕ) (ps : List Period) (sent received : List Column) (f : ℕ) → ReceivedFreely ps sent received → SparesUntil ps sent received f
    → ((k : Kind) (c : Column) → FitsColumn k c → FitsWord k (g c)) → ((i : ℕ) → i < length received → g (column_at received i) < 1024) → AreFew (map g sent) (map g received)
    → IsReceivedUntil (kinds_of ps) f (map g received) (damaged (map g sent) (map g received))
lane_until g ps sent received f reception spares of narrow few =
    let same = reception.sparse.same_length in
    let a = length-map sent g in
    let b = length-map received g in
    let fit = fitting_freely ps sent reception.conforming reception.spelled in
    let is_sent = lane_sent g (kinds_of ps) sent (fitting_length (kinds_of ps) sent fit) (λ i lt. of (kind_at (kinds_of ps) i) (column_at sent i) (fitting_at (kinds_of ps) sent fit i lt)) in
    received_until (kinds_of ps) f (map g sent) (map g received) is_sent (omega arith)
    (λ i lt. subst (λ w. w < 1024) (sym (get_or-map g received i no_column 0 (omega arith))) (narrow i (omega arith)))
    (few_marked (map g sent) (map g received) few)
    (λ i lt le n. not_damaged (map g sent) (map g received) i (omega arith)
    (get_or-map g received i no_column 0 (omega arith) ∙ ap g (spares i le n) ∙ sym (get_or-map g sent i no_column 0 (omega arith))))

-- two ends near each other are one
one_end : (kinds : List Kind) → IsAlternating kinds → (i m : ℕ) → EndsAt kinds i → EndsAt kinds m → i ≤ m + 14 → m ≤ i + 14 → m ≡ i
one_end kinds alternates i m a b low high = elim (cases_lt i m) [
  | inl less ↦ let far = ends_apart kinds alternates i m a b less in omega arith
  | inr upto ↦ elim (cases_lt m i) [
    | inl less ↦ let far = ends_apart kinds alternates m i b a less in omega arith
    | inr same ↦ omega arith
  ]
]

no_control : (k : Kind) → IsGuard k → k ≡ control_column → ⊥
no_control k guard is = subst IsGuard is guard

-- an edge near such an end is there, as many whole characters after an earlier one
pub early_edge_there : (kinds : List Kind) (f : ℕ) (words : List ℕ) (marks : List Bool) → IsAlternating kinds → IsReceivedUntil kinds f words marks → IsAfterControl kinds f
    → (from many a c p d : ℕ) → Holds words from many f → EndsAt kinds (a + (11 + c)) → a + (11 + c) + 1 < f → IsEdge (part_of words from many) d
    → p + from ≡ 10 * (a + 12) → p < d → p % 10 ≡ d % 10 → c ≤ (d - p) / 10 + 14 → (d - p) / 10 ≤ c + 14 → p + 10 * c ≡ d
early_edge_there kinds f words marks alternates r after from many a c p d holds ends early edge begins later whole over under =
    let opens : IsGuard (kind_at kinds f) = subst IsGuard (sym after.opens) tt in
    let u = after.before.0 in
    let next = after.before.1 in
    let last : EndsAt kinds u = record {
      here = after.before.2;
      then = λ is. no_control (kind_at kinds f) opens (ap (kind_at kinds) next ∙ is);
    } in
    let far = ends_apart kinds alternates (a + (11 + c)) u ends last (omega arith) in
    let found = edge_until kinds f words marks alternates r opens from many d holds edge (omega arith) in
    let at = found.3 in
    let same = one_end kinds alternates (a + (11 + c)) found.0 ends found.1 (omega arith) (omega arith) in
    omega arith
