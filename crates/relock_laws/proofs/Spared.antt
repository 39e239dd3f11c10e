-- About the end of a control period whose characters were received as they were sent each lane has one edge.
use Rattle.std.proofs.Common.{◌≡◌, ℕ, ◌+◌, ◌-◌, ◌*◌, ◌/◌, ◌%◌, ◌<◌, ◌≤◌, max, Bool, true, false, not, ◌==◌, List, ◌++◌, length, map, get_or, replicate, refl, ap, ◌∙◌, sym, subst, arith, inl, inr, true≢false, eqb-true, length-append, Some}
use Rattle.std.proofs.lemmas.Bool.{cases_lt}
use Rattle.std.proofs.lemmas.List.{length-map, length-replicate, get_or-map, get_or_past, get_or_append_left, get_or-append_right}
use Rattle.tmds_word.specs.Column.{Column}
use Rattle.tmds_word.specs.Bits.{window}
use Rattle.terc4.specs.Tables.{is_control}
use Rattle.terc4.specs.Columns.{one_if}
use Rattle.terc4.proofs.Words.{few_turns}
use Rattle.lane_align.specs.Lanes.{IsEdge}
use Rattle.island_pack.specs.Kinds.{Kind, control_column, second_guard, kinds_of, kind_at, EndsAt}
use Rattle.island_pack.specs.Conforming.{IsConforming}
use Rattle.island_pack.specs.Periods.{Period}
use Rattle.island_pack.specs.Sparse.{unlike_words, no_column, column_at, unlike_at}
use Rattle.island_pack.specs.Spelling.{SpellsBy, freely}
use Rattle.link_laws.specs.Alternating.{IsAlternating, last, more, built}
use Rattle.link_laws.specs.Laws.{ReceivedFreely}
use Rattle.link_laws.proofs.Guards.{unlike}
use Rattle.link_laws.proofs.LaneEnds.{kind_cases}
use Rattle.link_laws.proofs.Lanes.{fitting_at}
use Rattle.link_laws.proofs.Shapes.{where_ends, ends_alone, ends_apart, in_rest}
use Rattle.link_laws.proofs.Spelled.{FitsWord, FitsColumn, fitting_freely}
use Rattle.relock_laws.specs.Doubted.{IsSpared}
use Rattle.relock_laws.proofs.Seen.{HasWord}

-- The columns.

-- the three columns after a control period are of none
pub three_after : (kinds : List Kind) → IsAlternating kinds → (i k : ℕ) → EndsAt kinds i → k < 3 → kind_at kinds (i + 1 + k) ≡ control_column → ⊥
three_after _ (last n long) i k e lt is = grind (arith, ends_alone, length-replicate, get_or_past, length-append)
three_after _ (more n mid rest long m alternates) i k e lt is =
    let three = m.long in
    elim (where_ends n mid rest i m e) [
      | inl here ↦
          let at : i + 1 + k - n ≡ k = omega arith in
          let same = get_or-append_right (replicate n control_column) (mid ++ rest) n (i + 1 + k) second_guard (length-replicate n control_column) (omega arith)
          ∙ get_or_append_left mid rest second_guard (i + 1 + k - n) (omega arith) in
          m.none k (ap (kind_at mid) (sym at) ∙ sym same ∙ is)
      | inr later ↦
          let place = later.place in
          let at : i + 1 + k ≡ n + length mid + (later.at + 1 + k) = omega arith in
          three_after rest alternates later.at k later.ends lt (sym (in_rest n mid rest (later.at + 1 + k)) ∙ ap (kind_at (built n mid rest)) (sym at) ∙ is)
    ]

same_word : (x y : ℕ) (b : Bool) → (x == y) ≡ b → one_if (not b) ≡ 0 → x ≡ y
unfolding one_if
same_word x y true e none = eqb-true x y e
same_word x y false e none = absurd (omega arith)

-- a column none of whose characters is unlike is as it was sent
same_column : (s r : Column) → unlike s r ≡ 0 → r ≡ s
unfolding unlike_words
same_column s r none =
    let b = same_word s.blue r.blue (s.blue == r.blue) refl (omega arith) in
    let g = same_word s.green r.green (s.green == r.green) refl (omega arith) in
    let a = same_word s.red r.red (s.red == r.red) refl (omega arith) in
    sym (λ i. record { blue = b i; green = g i; red = a i })

-- columns of conforming periods, and as many received ones
pub record AreSpelled (ps : List Period) (sent received : List Column) : Type 0 where
  pub conforming : IsConforming ps
  pub spelled : SpellsBy freely ps sent
  pub same_length : length received ≡ length sent

pub spelled_freely : (ps : List Period) (sent received : List Column) → ReceivedFreely ps sent received → AreSpelled ps sent received
spelled_freely ps sent received h = record { conforming = h.conforming; spelled = h.spelled; same_length = h.sparse.same_length }

-- and is of its kind
pub spared_fits : (ps : List Period) (sent received : List Column) → AreSpelled ps sent received → (k : ℕ) → unlike_at sent received k ≡ 0 → k < length received
    → FitsColumn (kind_at (kinds_of ps) k) (column_at received k)
spared_fits ps sent received h k none lt =
    let long = h.same_length in
    let fits = fitting_at (kinds_of ps) sent (fitting_freely ps sent h.conforming h.spelled) k (omega arith) in
    subst (FitsColumn (kind_at (kinds_of ps) k)) (sym (same_column (column_at sent k) (column_at received k) none)) fits

-- One lane.

-- the characters about the end of a control period are of their kinds
pub record IsSparedLane (kinds : List Kind) (words : List ℕ) (i : ℕ) : Type 0 where
  pub controls : (k : ℕ) → i < k + 15 → k ≤ i + 3 → k < length words → kind_at kinds k ≡ control_column → is_control (get_or words k 0) ≡ true
  pub others : (k : ℕ) → i < k + 15 → k ≤ i + 3 → k < length words → (kind_at kinds k ≡ control_column → ⊥) → is_control (get_or words k 0) ≡ false

-- the lane that a projection takes
pub spared_lane : (g : Column → ℕ) (ps : List Period) (sent received : List Column) (i : ℕ) → ReceivedFreely ps sent received → IsSpared sent received i
    → ((k : Kind) (c : Column) → FitsColumn k c → FitsWord k (g c)) → IsSparedLane (kinds_of ps) (map g received) i
spared_lane g ps sent received i reception spared of =
    let size = length-map received g in
    let word : (k : ℕ) → k < length received → get_or (map g received) k 0 ≡ g (column_at received k) = λ k lt. get_or-map g received k no_column 0 lt in
    let fits : (k : ℕ) → i < k + 15 → k ≤ i + 3 → k < length received → FitsWord (kind_at (kinds_of ps) k) (g (column_at received k)) =
    λ k low high lt. of (kind_at (kinds_of ps) k) (column_at received k) (spared_fits ps sent received (spelled_freely ps sent received reception) k (spared k low high) lt) in
    record {
      controls = λ k low high lt is. ap is_control (word k (omega arith)) ∙ (fits k low high (omega arith)).controls is;
      others = λ k low high lt apart. ap is_control (word k (omega arith)) ∙ few_turns (g (column_at received k)) ((fits k low high (omega arith)).others apart);
    }

-- the characters of a lane, whole ones after a place, are its words from a column on: character j is word a + j - n, where j is n or more
abbrev pub IsLaneFrom : List ℕ → List Bool → (p n a : ℕ) → Type 0
IsLaneFrom words xs p n a = (i j w : ℕ) → n ≤ j → i + n ≡ a + j → window xs (p - 120 + 10 * j) ≡ Some w → HasWord words i w

-- twelve control words end with a character, and none follows
pub record RunEnds (words : List ℕ) (m : ℕ) : Type 0 where
  pub far : 11 ≤ m
  pub within : m + 1 < length words
  pub controls : (k : ℕ) → k < 12 → is_control (get_or words (m - 11 + k) 0) ≡ true
  pub next : is_control (get_or words (m + 1) 0) ≡ false

pub run_ends : (words : List ℕ) (xs : List Bool) (p n a e m : ℕ) → IsLaneFrom words xs p n a → IsEdge xs e → 120 ≤ p → p % 10 ≡ e % 10 → p + 10 * n ≤ e → m + n ≡ a + (11 + (e - p) / 10) → RunEnds words m
run_ends words xs p n a e m lane edge past whole later at =
    let c = (e - p) / 10 in
    let e_at : e ≡ p - 120 + 10 * (c + 12) = omega arith in
    let next = lane (m + 1) (c + 12) edge.word (omega arith) (omega arith) (ap (window xs) (sym e_at) ∙ edge.here) in
    record {
      far = omega arith;
      within = next.within;
      controls = λ k lt.
          let has = edge.run k lt in
          let k_at : e - 120 + 10 * k ≡ p - 120 + 10 * (c + k) = omega arith in
          let w = lane (m - 11 + k) (c + k) has.word (omega arith) (omega arith) (ap (window xs) (sym k_at) ∙ has.here) in
          ap is_control w.is ∙ has.control;
      next = ap is_control next.is ∙ edge.no_control;
    }

-- those that end near such an end end with it
one_run : (kinds : List Kind) (words : List ℕ) → IsAlternating kinds → (i m : ℕ) → EndsAt kinds i → IsSparedLane kinds words i → RunEnds words m → i ≤ m + 14 → m ≤ i + 14 → m ≡ i
one_run kinds words alternates i m ends spared run low high =
    let far = run.far in
    let within = run.within in
    elim (cases_lt m i) [
      | inl early ↦
          let at : m - 11 + 11 ≡ m = omega arith in
          let control : is_control (get_or words m 0) ≡ true = ap (λ n. is_control (get_or words n 0)) (sym at) ∙ run.controls 11 (omega arith) in
          let here : kind_at kinds m ≡ control_column =
          kind_cases (kind_at kinds m ≡ control_column) (kind_at kinds m) (λ is. is)
          (λ apart. absurd (true≢false (sym control ∙ spared.others m (omega arith) (omega arith) (omega arith) apart))) in
          let then : kind_at kinds (m + 1) ≡ control_column → ⊥ =
          λ is. true≢false (sym (spared.controls (m + 1) (omega arith) (omega arith) within is) ∙ run.next) in
          let far_apart = ends_apart kinds alternates m i (record { here = here; then = then }) ends early in
          omega arith
      | inr upto ↦ elim (cases_lt i m) [
        | inr same ↦ omega arith
        | inl late ↦
            let n = max (i + 1) (m - 11) in
            let k = n - (i + 1) in
            let at : m - 11 + (n - (m - 11)) ≡ n = omega arith in
            let place : i + 1 + k ≡ n = omega arith in
            let control : is_control (get_or words n 0) ≡ true = ap (λ l. is_control (get_or words l 0)) (sym at) ∙ run.controls (n - (m - 11)) (omega arith) in
            let apart : kind_at kinds n ≡ control_column → ⊥ = λ is. three_after kinds alternates i k ends (omega arith) (ap (kind_at kinds) place ∙ is) in
            absurd (true≢false (sym control ∙ spared.others n (omega arith) (omega arith) (omega arith) apart))
      ]
    ]

-- so an edge of the lane near it is there, as many whole characters after an earlier one
pub edge_there : (kinds : List Kind) (words : List ℕ) → IsAlternating kinds → (xs : List Bool) (p n a i c d : ℕ) → IsLaneFrom words xs p n a
    → EndsAt kinds i → i + n ≡ a + (11 + c) → IsSparedLane kinds words i → IsEdge xs d
    → 120 ≤ p → p + 10 * n ≤ d → p % 10 ≡ d % 10 → c ≤ (d - p) / 10 + 14 → (d - p) / 10 ≤ c + 14 → p + 10 * c ≡ d
edge_there kinds words alternates xs p n a i c d lane ends at spared edge past later whole over under =
    let m = a + (11 + (d - p) / 10) - n in
    let run = run_ends words xs p n a d m lane edge past whole later (omega arith) in
    let same = one_run kinds words alternates i m ends spared run (omega arith) (omega arith) in
    omega arith
