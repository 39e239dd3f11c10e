-- Where the first column of a control period, the three before it and its last one were received as they were sent, each lane has its last
-- beginning before an edge near the end there.
use Rattle.std.proofs.Common.{◌≡◌, ℕ, suc, zero, ◌+◌, ◌-◌, ◌*◌, ◌/◌, ◌%◌, ◌<◌, ◌≤◌, Bool, true, false, List, [], ◌∷◌, length, map, take, drop, get_or, refl, ap, ◌∙◌, sym, subst, arith, inl, inr}
use Rattle.std.proofs.lemmas.Bool.{cases_lt, true_from_ne_false}
use Rattle.std.proofs.lemmas.List.{length-map, get_or-map, get_or-drop}
use Rattle.tmds_word.specs.Column.{Column}
use Rattle.tmds_word.specs.Bits.{number}
use Rattle.terc4.specs.Tables.{is_control}
use Rattle.terc4.specs.Columns.{one_if}
use Rattle.terc4.proofs.Words.{few_turns}
use Rattle.lane_align.specs.Lanes.{HasControl, IsEdge}
use Rattle.lane_align.specs.Laws.{marked}
use Rattle.lane_align.proofs.Controls.{window_here, one_lock, false_from}
use Rattle.lane_align.proofs.Edges.{edge_within}
use Rattle.lane_edges.specs.Begins.{IsBegin, IsBeginOf}
use Rattle.island_pack.specs.Kinds.{Kind, control_column, kinds_of, kind_at}
use Rattle.island_pack.specs.Periods.{Period}
use Rattle.island_pack.specs.Sparse.{AreFew, no_column, column_at, unlike_at}
use Rattle.link_laws.specs.Alternating.{IsAlternating}
use Rattle.link_laws.specs.LaneEnds.{damaged}
use Rattle.link_laws.specs.Laws.{ReceivedFreely}
use Rattle.link_laws.proofs.LaneEnds.{same_word}
use Rattle.link_laws.proofs.Lanes.{few_marked, fitting_at}
use Rattle.link_laws.proofs.Shapes.{alternating}
use Rattle.link_laws.proofs.Spelled.{FitsWord, FitsColumn, fitting_freely}
use Rattle.relock_laws.specs.Doubted.{BeginsUntil, IsBeginSpared}
use Rattle.relock_laws.proofs.Spared.{IsLaneFrom, three_after, spelled_freely, spared_fits}

-- The columns.

-- the column before the one before a control period is of none
two_before : (kinds : List Kind) → IsAlternating kinds → (h : ℕ) → (kind_at kinds h ≡ control_column → ⊥) → kind_at kinds (h + 1) ≡ control_column → 1 ≤ h → kind_at kinds (h - 1) ≡ control_column → ⊥
two_before kinds alternates h none then le is =
    let next : h - 1 + 1 ≡ h = omega arith in
    let there : h + 1 ≡ h - 1 + 1 + 1 = omega arith in
    three_after kinds alternates (h - 1) 1 (record { here = is; then = λ c. none (subst (λ m. kind_at kinds m ≡ control_column) next c) }) (omega arith)
    (subst (λ m. kind_at kinds m ≡ control_column) there then)

-- and so is the one before that
pub three_before : (kinds : List Kind) → IsAlternating kinds → (h k : ℕ) → (kind_at kinds h ≡ control_column → ⊥) → kind_at kinds (h + 1) ≡ control_column → k < 3 → k ≤ h
    → kind_at kinds (h - k) ≡ control_column → ⊥
three_before kinds alternates h zero none then lt le is = let at : h - 0 ≡ h = omega arith in none (subst (λ m. kind_at kinds m ≡ control_column) at is)
three_before kinds alternates h (suc zero) none then lt le is = two_before kinds alternates h none then le is
three_before kinds alternates h (suc (suc zero)) none then lt le is =
    let next : h - 2 + 1 ≡ h - 1 = omega arith in
    let there : h + 1 ≡ h - 2 + 1 + 2 = omega arith in
    three_after kinds alternates (h - 2) 2
    (record { here = is; then = λ c. two_before kinds alternates h none then (omega arith) (subst (λ m. kind_at kinds m ≡ control_column) next c) }) (omega arith)
    (subst (λ m. kind_at kinds m ≡ control_column) there then)
three_before kinds alternates h (suc (suc (suc k))) none then lt le is = absurd (omega arith)

-- Three damaged characters in a row.

late_marked : (n : ℕ) (ms : List Bool) → get_or ms n false ≡ true → get_or ms (suc n) false ≡ true → get_or ms (suc (suc n)) false ≡ true → 3 ≤ marked (take (suc (suc (suc n))) ms)
unfolding marked one_if
late_marked zero [] a b c = cc
late_marked zero (x ∷ []) a b c = cc
late_marked zero (x ∷ (y ∷ [])) a b c = cc
late_marked zero (true ∷ (true ∷ (true ∷ ms))) a b c = omega arith
late_marked zero (false ∷ (y ∷ (z ∷ ms))) a b c = cc
late_marked zero (true ∷ (false ∷ (z ∷ ms))) a b c = cc
late_marked zero (true ∷ (true ∷ (false ∷ ms))) a b c = cc
late_marked (suc n) [] a b c = cc
late_marked (suc n) (x ∷ ms) a b c = let h = late_marked n ms a b c in omega arith

no_three : (sent received : List ℕ) → AreFew sent received → (k : ℕ) → 8 ≤ k → k + 3 ≤ length sent
    → get_or (damaged sent received) k false ≡ true → get_or (damaged sent received) (k + 1) false ≡ true → get_or (damaged sent received) (k + 2) false ≡ true → ⊥
no_three sent received few k late long a b c =
    let marks = damaged sent received in
    let s = k - 8 in
    let h = few_marked sent received few s (omega arith) in
    let x : s + 8 ≡ k = omega arith in
    let y : s + 9 ≡ k + 1 = omega arith in
    let z : s + 10 ≡ k + 2 = omega arith in
    let m = late_marked 8 (drop s marks) (get_or-drop s marks 8 false ∙ ap (λ n. get_or marks n false) x ∙ a) (get_or-drop s marks 9 false ∙ ap (λ n. get_or marks n false) y ∙ b)
    (get_or-drop s marks 10 false ∙ ap (λ n. get_or marks n false) z ∙ c) in
    omega arith

-- One lane.

-- the characters about a control period that begins with one and ends with another: the first and the last are control characters, the
-- three before the first are none, and no three in a row between them are none
pub record IsBegunLane (words : List ℕ) (j i : ℕ) : Type 0 where
  pub first : is_control (get_or words j 0) ≡ true
  pub last : is_control (get_or words i 0) ≡ true
  pub before : (k : ℕ) → k < 3 → is_control (get_or words (j - 1 - k) 0) ≡ false
  pub three : (k : ℕ) → j ≤ k → k + 2 ≤ i → is_control (get_or words k 0) ≡ false → is_control (get_or words (k + 1) 0) ≡ false → is_control (get_or words (k + 2) 0) ≡ false → ⊥

-- the lane that a projection takes
pub begun_lane : (g : Column → ℕ) (ps : List Period) (sent received : List Column) (j i : ℕ) → ReceivedFreely ps sent received → BeginsUntil ps j i → IsBeginSpared sent received j i
    → 8 ≤ j → i < length received → ((k : Kind) (c : Column) → FitsColumn k c → FitsWord k (g c)) → AreFew (map g sent) (map g received) → IsBegunLane (map g received) j i
begun_lane g ps sent received j i reception begins spared late long of few =
    record {
      first = ap is_control (word j (omega arith)) ∙ (fits j (spared.first j (omega arith) (omega arith)) (omega arith)).controls (begins.control j (omega arith) order);
      last = ap is_control (word i long) ∙ (fits i spared.last long).controls (begins.control i order (omega arith));
      before = λ k lt.
          let m = j - 1 - k in
          let h = j - 1 in
          let at : j ≡ h + 1 = omega arith in
          let place : h - k ≡ m = omega arith in
          let then : kind_at (kinds_of ps) (h + 1) ≡ control_column = subst (λ n. kind_at (kinds_of ps) n ≡ control_column) at (begins.control j (omega arith) order) in
          let none : kind_at (kinds_of ps) m ≡ control_column → ⊥ =
          λ is. three_before (kinds_of ps) (alternating ps reception.conforming) h k (begins.before h at) then lt (omega arith) (subst (λ n. kind_at (kinds_of ps) n ≡ control_column) (sym place) is) in
          ap is_control (word m (omega arith)) ∙ few_turns (g (column_at received m)) ((fits m (spared.first m (omega arith) (omega arith)) (omega arith)).others none);
      three = λ k low high a b c.
          let one = size in
          let other = sent_size in
          let same = same_length in
          no_three (map g sent) (map g received) few k (omega arith) (omega arith)
          (mark k (omega arith) (omega arith) a) (mark (k + 1) (omega arith) (omega arith) b) (mark (k + 2) (omega arith) (omega arith) c);
    }
  where
    order : j ≤ i
    order = begins.order

    same_length : length received ≡ length sent
    same_length = reception.sparse.same_length

    size : length (map g received) ≡ length received
    size = length-map received g

    sent_size : length (map g sent) ≡ length sent
    sent_size = length-map sent g

    word : (k : ℕ) → k < length received → get_or (map g received) k 0 ≡ g (column_at received k)
    word k lt = get_or-map g received k no_column 0 lt

    fits : (k : ℕ) → unlike_at sent received k ≡ 0 → k < length received → FitsWord (kind_at (kinds_of ps) k) (g (column_at received k))
    fits k none lt = of (kind_at (kinds_of ps) k) (column_at received k) (spared_fits ps sent received (spelled_freely ps sent received reception) k none lt)

    mark : (k : ℕ) → j ≤ k → k ≤ i → is_control (get_or (map g received) k 0) ≡ false → get_or (damaged (map g sent) (map g received)) k false ≡ true
    mark k low high none = true_from_ne_false (get_or (damaged (map g sent) (map g received)) k false) (λ plain.
        let one = size in
        let other = sent_size in
        let alike = same_length in
        let same = same_word (map g sent) (map g received) k (omega arith) (omega arith) plain in
        let there = get_or-map g sent k no_column 0 (omega arith) in
        let control = (of (kind_at (kinds_of ps) k) (column_at sent k)
        (fitting_at (kinds_of ps) sent (fitting_freely ps sent reception.conforming reception.spelled) k (omega arith))).controls (begins.control k low high) in
        let is : is_control (get_or (map g received) k 0) ≡ true = ap is_control (same ∙ there) ∙ control in
        cc)

-- The characters of the bits.

module _ (words : List ℕ) (xs : List Bool) (p n a : ℕ) (lane : IsLaneFrom words xs p n a) (far : 120 ≤ p) where
  -- where character k begins
  abbrev At : ℕ → ℕ
  At k = p - 120 + 10 * (k + n - a)

  said : (k : ℕ) → a ≤ k → HasControl xs (At k) → is_control (get_or words k 0) ≡ true
  said k le has = ap is_control (lane k (k + n - a) has.word (omega arith) (omega arith) has.here).is ∙ has.control

  heard : (k : ℕ) → a ≤ k → At k + 10 ≤ length xs → is_control (get_or words k 0) ≡ true → HasControl xs (At k)
  heard k le long is =
      let w = number (take 10 (drop (At k) xs)) in
      let here = window_here xs (At k) w (λ short. omega arith) refl in
      let at = (lane k (k + n - a) w (omega arith) (omega arith) here).is in
      record { word = w; here = here; control = ap is_control (sym at) ∙ is }

  not_heard : (k : ℕ) → a ≤ k → At k + 10 ≤ length xs → (HasControl xs (At k) → ⊥) → is_control (get_or words k 0) ≡ false
  not_heard k le long none = false_from (is_control (get_or words k 0)) (λ is. none (heard k le long is))

  module _ (j i c d : ℕ) (begun : IsBegunLane words j i) (own : IsEdge xs p) (edge : IsEdge xs d) (whole : p % 10 ≡ d % 10) (after : p + 10 * n ≤ d) (late : a + 15 ≤ j) (order : j + 11 ≤ i)
      (at : i + n ≡ a + (11 + c)) (over : c ≤ (d - p) / 10 + 14) (under : (d - p) / 10 ≤ c + 14) where
    within : d + 10 ≤ length xs
    within = edge_within xs d edge

    -- the character before the edge is none of the three before the first
    first_before : At j < d
    first_before = elim (cases_lt (At j) d) [
      | inl less ↦ less
      | inr more ↦
          let k = (At j - d) / 10 in
          let place : d - 120 + 10 * 11 ≡ At (j - 1 - k) = omega arith in
          let control = said (j - 1 - k) (omega arith) (subst (HasControl xs) place (edge.run 11 (omega arith))) in
          let none = begun.before k (omega arith) in
          absurd cc
    ]

    begins : IsBegin xs (At j)
    begins =
        let past = own.past in
        let aligned = own.aligned in
        let less = first_before in
        let long = within in
        record {
          lock = own.lock;
          is_lock = own.is_lock;
          past = omega arith;
          aligned = omega arith;
          control = heard j (omega arith) (omega arith) begun.first;
          others = λ k lt has.
              let place : At j - 10 - 10 * k ≡ At (j - 1 - k) = omega arith in
              let control = said (j - 1 - k) (omega arith) (subst (HasControl xs) place has) in
              let none = begun.before k lt in
              cc;
        }

    no_other : (q : ℕ) → IsBegin xs q → q < d → At j < q → ⊥
    no_other q b before past =
        let long = within in
        let one = one_lock xs b.lock own.lock b.is_lock own.is_lock in
        let aligned = b.aligned in
        let mine = own.aligned in
        let m = j + (q - At j) / 10 in
        let place : q ≡ At m = omega arith in
        let none : (k : ℕ) → k < 3 → k < m - j → is_control (get_or words (m - 1 - k) 0) ≡ false =
        λ k lt few. let there : q - 10 - 10 * k ≡ At (m - 1 - k) = omega arith in not_heard (m - 1 - k) (omega arith) (omega arith) (λ has. b.others k lt (subst (HasControl xs) (sym there) has)) in
        let early : q ≤ d - 120 = elim (cases_lt (d - 120) q) [
          | inr not ↦ not
          | inl inside ↦
              let k = (q - 10 - (d - 120)) / 10 in
              let there : d - 120 + 10 * k ≡ q - 10 - 10 * 0 = omega arith in
              absurd (b.others 0 (omega arith) (subst (HasControl xs) there (edge.run k (omega arith))))
        ] in
        by m none (omega arith) (omega arith)
      where
        by : (m : ℕ) → ((k : ℕ) → k < 3 → k < m - j → is_control (get_or words (m - 1 - k) 0) ≡ false) → j < m → m ≤ i + 3 → ⊥
        by m none more few = elim (cases_lt (j + 3) m) [
          | inr near ↦
              let place : m - 1 - (m - 1 - j) ≡ j = omega arith in
              let apart = none (m - 1 - j) (omega arith) (omega arith) in
              let is = ap (λ l. is_control (get_or words l 0)) place in
              let control = begun.first in
              cc
          | inl past ↦ elim (cases_lt i (m - 1)) [
            | inr inside ↦
                let x : m - 1 - 2 ≡ m - 3 = omega arith in
                let y : m - 1 - 1 ≡ m - 3 + 1 = omega arith in
                let z : m - 1 - 0 ≡ m - 3 + 2 = omega arith in
                begun.three (m - 3) (omega arith) (omega arith) (subst (λ l. is_control (get_or words l 0) ≡ false) x (none 2 (omega arith) (omega arith)))
                (subst (λ l. is_control (get_or words l 0) ≡ false) y (none 1 (omega arith) (omega arith))) (subst (λ l. is_control (get_or words l 0) ≡ false) z (none 0 (omega arith) (omega arith)))
            | inl late ↦
                let place : m - 1 - (m - 1 - i) ≡ i = omega arith in
                let apart = none (m - 1 - i) (omega arith) (omega arith) in
                let is = ap (λ l. is_control (get_or words l 0)) place in
                let control = begun.last in
                cc
          ]
        ]

    -- so it is the last beginning before the edge
    pub begun_there : (q : ℕ) → IsBeginOf xs d q → q ≡ At j
    begun_there q b =
        let low = b.last (At j) begins first_before in
        elim (cases_lt (At j) q) [
          | inl past ↦ absurd (no_other q b.begins b.before past)
          | inr not ↦ omega arith
        ]
