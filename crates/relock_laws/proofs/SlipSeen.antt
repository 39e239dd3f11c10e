-- A lane that slipped once: where it had a lock before, its edges and the characters there end before the slip; where it had
-- none, they lie after it.
use Rattle.std.proofs.Common.{◌≡◌, ◌⊎◌, ℕ, zero, suc, ◌+◌, ◌-◌, ◌*◌, ◌/◌, ◌<◌, ◌≤◌, Bool, true, List, ◌++◌, length, take, drop, get_or, refl, ap, ◌∙◌, sym, subst, arith, inl, inr, Some}
use Rattle.std.proofs.lemmas.Bool.{cases_lt}
use Rattle.std.proofs.lemmas.List.{drop-drop, length-take-le, take-append-drop}
use Rattle.tmds_word.specs.Bits.{number, turns, window, word_bits, row_bits}
use Rattle.tmds_word.specs.Taps.{part_of}
use Rattle.tmds_word.proofs.Lists.{length-word_bits}
use Rattle.terc4.specs.Tables.{is_control}
use Rattle.lane_align.specs.Lanes.{IsRun, IsLock, IsEdge}
use Rattle.lane_align.proofs.Across.{control_turns, ten_bits}
use Rattle.lane_align.proofs.Calm.{control_is, row_word, tap_lock}
use Rattle.lane_align.proofs.Controls.{one_lock, run_within}
use Rattle.lane_align.proofs.Growing.{edge_stays, edge_was, window_stays, window_was}
use Rattle.lane_align.proofs.Parts.{run_in_rest, run_of_rest, take_piece}
use Rattle.island_pack.specs.Kinds.{Kind}
use Rattle.link_laws.specs.Alternating.{IsAlternating}
use Rattle.link_laws.specs.LaneEnds.{IsReceived}
use Rattle.link_laws.proofs.LaneEnds.{edge_ends}
use Rattle.lane_track.specs.Slips.{Slips, slipped_part}
use Rattle.lane_track.proofs.Around.{length-part, lock_stays, no_run_across, rest_is_part, runs_around}
use Rattle.lane_track.proofs.Cutting.{run_before}
use Rattle.relock_laws.proofs.Seen.{IsSeen, part_word}
use Rattle.relock_laws.proofs.Windows.{rest_window}

-- no character of a run lies next to the slip, since those there have few turns
character_apart : (words : List ℕ) (marks : List Bool) (from many place dropped : ℕ) → Slips words marks from many place dropped
    → (r j : ℕ) → IsRun (part_of words from many) r → j < 12 → (r + 10 * j + 130 ≤ place) ⊎ (place + dropped + 120 ≤ r + 10 * j)
character_apart words marks from many place dropped s r j run lt = elim (cases_lt place (r + 10 * j + 130)) [
  | inr before ↦ inl before
  | inl past ↦ elim (cases_lt (r + 10 * j) (place + dropped + 120)) [
    | inr after ↦ inr after
    | inl near ↦
        let xs = part_of words from many in
        let len : length xs ≡ many = length-part words from many s.within in
        let within = s.within in
        let begins = s.begins in
        let long = run_within xs r run in
        let whole = tap_lock words marks s.calm from many r run in
        let k = (r + 10 * j + from) / 10 in
        let at : from + (r + 10 * j) ≡ 10 * k = omega arith in
        let inside : k < length words = omega arith in
        let few = s.minimized k inside (omega arith) (omega arith) in
        let w = get_or words k 0 in
        let is : take 10 (drop (r + 10 * j) xs) ≡ word_bits w =
        take_piece many (r + 10 * j) 10 (drop from (row_bits words)) (omega arith) ∙ ap (take 10) (drop-drop (r + 10 * j) from (row_bits words) ∙ ap (λ m. drop m (row_bits words)) at) ∙ row_word words k inside in
        let control : is_control (number (word_bits w)) ≡ true = ap (λ ys. is_control (number ys)) (sym is) ∙ control_is xs (r + 10 * j) (run j lt) in
        let many_turns : 7 ≤ turns (word_bits w) = subst (λ ys. 7 ≤ turns ys) (ten_bits (word_bits w) (length-word_bits w)) (control_turns (number (word_bits w)) control) in
        absurd (omega arith)
  ]
]

-- With a lock before the slip.

-- each edge ends before it
edge_early : (words : List ℕ) (marks : List Bool) (from many place dropped : ℕ) → Slips words marks from many place dropped
    → (lock : ℕ) → IsLock (part_of words from many) lock → lock + 120 ≤ place
    → (e : ℕ) → IsEdge (slipped_part words from many place dropped) e → e + 120 ≤ place
edge_early words marks from many place dropped s lock is_lock before e edge =
    let xs = part_of words from many in
    let ys = slipped_part words from many place dropped in
    let len : length xs ≡ many = length-part words from many s.within in
    let ends = s.ends in
    let some = s.some in
    let few = s.few in
    let same : edge.lock ≡ lock = one_lock ys edge.lock lock edge.is_lock (lock_stays words marks from many place dropped s lock is_lock before) in
    let whole = tap_lock words marks s.calm from many lock is_lock.run in
    let aligned = edge.aligned in
    let past = edge.past in
    elim (runs_around words marks from many place dropped s (e - 120) edge.run) [
      | inr late ↦ let a = late.1 in absurd (omega arith)
      | inl h ↦
          let b = h.0 in
          elim (character_apart words marks from many place dropped s (e - 120) 11 (run_before xs place dropped (e - 120) (omega arith) b edge.run) (omega arith)) [
            | inl far ↦ omega arith
            | inr after ↦ absurd (omega arith)
          ]
    ]

pub kept_seen : (kinds : List Kind) (words : List ℕ) (marks : List Bool) → IsAlternating kinds → IsReceived kinds words marks → (from many place dropped : ℕ) → Slips words marks from many place dropped
    → (lock : ℕ) → IsLock (part_of words from many) lock → lock + 120 ≤ place → IsSeen kinds words from (slipped_part words from many place dropped)
kept_seen kinds words marks alternates r from many place dropped s lock is_lock before =
    let xs = part_of words from many in
    let ys = slipped_part words from many place dropped in
    let len : length xs ≡ many = length-part words from many s.within in
    let ends = s.ends in
    let front = take place xs in
    let long : length front ≡ place = length-take-le place xs (omega arith) in
    let whole : xs ≡ front ++ drop place xs = sym (take-append-drop place xs) in
    let early = edge_early words marks from many place dropped s lock is_lock before in
    record {
      edges = λ e edge.
          let near = early e edge in
          let was = edge_was front ys (drop (place + dropped) xs) refl e (omega arith) edge in
          edge_ends kinds words marks alternates r from many e (edge_stays front xs (drop place xs) whole e was);
      characters = λ e edge p i w low high here at.
          let near = early e edge in
          let was = window_was front ys (drop (place + dropped) xs) refl p w (omega arith) here in
          part_word words from many p i w r.below (window_stays front xs (drop place xs) whole p w was) at;
    }

-- With none before it.

-- there is no run before it
no_run_early : (xs : List Bool) (place : ℕ) → ((lock : ℕ) → IsLock xs lock → lock + 120 ≤ place → ⊥) → (n p : ℕ) → p < n → p + 120 ≤ place → IsRun xs p → ⊥
no_run_early xs place none zero p lt before run = omega arith
no_run_early xs place none (suc n) p lt before run =
    none p (record { run = run; least = λ q less other. no_run_early xs place none n q (omega arith) (omega arith) other }) before

run_late : (words : List ℕ) (marks : List Bool) (from many place dropped : ℕ) → Slips words marks from many place dropped
    → ((lock : ℕ) → IsLock (part_of words from many) lock → lock + 120 ≤ place → ⊥)
    → (p : ℕ) → IsRun (slipped_part words from many place dropped) p → place ≤ p
run_late words marks from many place dropped s none p run =
    let xs = part_of words from many in
    let len : length xs ≡ many = length-part words from many s.within in
    let ends = s.ends in
    elim (no_run_across words marks from many place dropped s p run) [
      | inl before ↦ absurd (no_run_early xs place none (p + 1) p (omega arith) before (run_before xs place dropped p (omega arith) before run))
      | inr after ↦ after
    ]

-- an edge of a list with no run before a place is one of what is left from there on
rest_edge : (z : ℕ) (ys : List Bool) → ((p : ℕ) → IsRun ys p → z ≤ p) → (e : ℕ) → IsEdge ys e → IsEdge (drop z ys) (e - z)
rest_edge z ys late e edge =
    let past = edge.past in
    let aligned = edge.aligned in
    let after = late edge.lock edge.is_lock.run in
    let far = late (e - 120) edge.run in
    let a : edge.lock ≡ z + (edge.lock - z) = omega arith in
    let b : e - 120 ≡ z + (e - z - 120) = omega arith in
    record {
      lock = edge.lock - z;
      is_lock = record {
        run = run_in_rest z ys (edge.lock - z) (subst (IsRun ys) a edge.is_lock.run);
        least = λ q less run. edge.is_lock.least (z + q) (omega arith) (run_of_rest z ys q run);
      };
      past = omega arith;
      aligned = omega arith;
      run = run_in_rest z ys (e - z - 120) (subst (IsRun ys) b edge.run);
      word = edge.word;
      here = rest_window z ys e edge.word (omega arith) edge.here;
      no_control = edge.no_control;
    }

pub passed_seen : (kinds : List Kind) (words : List ℕ) (marks : List Bool) → IsAlternating kinds → IsReceived kinds words marks → (from many place dropped : ℕ) → Slips words marks from many place dropped
    → ((lock : ℕ) → IsLock (part_of words from many) lock → lock + 120 ≤ place → ⊥) → IsSeen kinds words (from + dropped) (slipped_part words from many place dropped)
passed_seen kinds words marks alternates r from many place dropped s none =
    let ys = slipped_part words from many place dropped in
    let within = s.within in
    let ends = s.ends in
    let start = from + dropped + place in
    let count = many - dropped - place in
    let rest : drop place ys ≡ part_of words start count = rest_is_part words from many place dropped place (omega arith) (omega arith) within in
    let late = run_late words marks from many place dropped s none in
    record {
      edges = λ e edge.
          let past = edge.past in
          let after = late (e - 120) edge.run in
          let was = subst (λ us. IsEdge us (e - place)) rest (rest_edge place ys late e edge) in
          let found = edge_ends kinds words marks alternates r start count (e - place) was in
          let at = found.2 in
          (found.0, found.1, omega arith);
      characters = λ e edge p i w low high here at.
          let past = edge.past in
          let after = late (e - 120) edge.run in
          let was = subst (λ us. window us (p - place) ≡ Some w) rest (rest_window place ys p w (omega arith) here) in
          part_word words start count (p - place) i w r.below was (omega arith);
    }
