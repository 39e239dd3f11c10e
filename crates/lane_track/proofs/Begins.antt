-- Where the first stray after a slip is.
use Rattle.std.proofs.Common.{◌≡◌, ℕ, ◌+◌, ◌-◌, ◌*◌, ◌/◌, ◌%◌, ◌^◌, ◌<◌, ◌≤◌, Bool, true, false, List, [], ◌∷◌, length, take, drop, get_or, ap, ◌∙◌, sym, subst, arith, inl, inr}
use Rattle.std.proofs.lemmas.Bool.{cases_lt, cases_Bool, true_from_ne_false}
use Rattle.std.proofs.lemmas.List.{drop-drop, get_or-drop}
use Rattle.tmds_word.specs.Bits.{number, word_bits, row_bits}
use Rattle.tmds_word.specs.Taps.{part_of}
use Rattle.tmds_word.proofs.Numbers.{number-bits_of}
use Rattle.terc4.specs.Tables.{is_control}
use Rattle.terc4.specs.Columns.{one_if}
use Rattle.lane_align.specs.Lanes.{IsRun, IsLock}
use Rattle.lane_align.specs.Laws.{marked, IsCalm}
use Rattle.lane_align.proofs.Controls.{window_here, run_within}
use Rattle.lane_align.proofs.Calm.{row_word, control_is}
use Rattle.lane_align.proofs.Across.{control_turns}
use Rattle.lane_track.specs.Strays.{IsFirstStray}
use Rattle.lane_track.specs.Slips.{Slips, slipped_part, BeginsControl}
use Rattle.lane_align.proofs.Parts.{take_piece}
use Rattle.lane_track.proofs.Cutting.{run_after, run_stays_after}
use Rattle.lane_track.proofs.Around.{length-part, runs_around, strays_after}

-- what a window of a part of a lane says, where a character begins there
part_word : (words : List ℕ) (from many q j : ℕ) → from + many ≤ 10 * length words → q + 10 ≤ many → q + from ≡ 10 * j
    → ((k : ℕ) → k < length words → get_or words k 0 < 1024) → number (take 10 (drop q (part_of words from many))) ≡ get_or words j 0
unfolding word_bits
part_word words from many q j within long at small =
    let e : from + q ≡ 10 * j = omega arith in
    let lt : j < length words = omega arith in
    let w = get_or words j 0 in
    let f : w % 2 ^ 10 ≡ w = omega (arith, small j lt) in
    ap number (take_piece many q 10 (drop from (row_bits words)) long ∙ ap (take 10) (drop-drop q from (row_bits words) ∙ ap (λ m. drop m (row_bits words)) e) ∙ row_word words j lt)
    ∙ number-bits_of 10 w ∙ f

-- twelve control words in a part of a lane
run_here : (words : List ℕ) (from many p j : ℕ) → from + many ≤ 10 * length words → p + 120 ≤ many → p + from ≡ 10 * j
    → ((k : ℕ) → k < length words → get_or words k 0 < 1024) → ((k : ℕ) → k < 12 → is_control (get_or words (j + k) 0) ≡ true) → IsRun (part_of words from many) p
run_here words from many p j within long at small control k lt =
    let xs = part_of words from many in
    let len = length-part words from many within in
    let e = part_word words from many (p + 10 * k) (j + k) within (omega arith) (omega arith) small in
    record { word = get_or words (j + k) 0; here = window_here xs (p + 10 * k) (get_or words (j + k) 0) (λ short. omega arith) (sym e); control = control k lt }

run_words : (words : List ℕ) (from many p j : ℕ) → from + many ≤ 10 * length words → p + from ≡ 10 * j
    → ((k : ℕ) → k < length words → get_or words k 0 < 1024) → IsRun (part_of words from many) p → (k : ℕ) → k < 12 → is_control (get_or words (j + k) 0) ≡ true
run_words words from many p j within at small run k lt =
    let xs = part_of words from many in
    let len = length-part words from many within in
    let long = run_within xs p run in
    let e = part_word words from many (p + 10 * k) (j + k) within (omega arith) (omega arith) small in
    ap is_control (sym e) ∙ control_is xs (p + 10 * k) (run k lt)

three_marked : (ms : List Bool) → get_or ms 0 false ≡ true → get_or ms 1 false ≡ true → get_or ms 2 false ≡ true → 3 ≤ marked (take 11 ms)
unfolding marked one_if
three_marked [] a b c = cc
three_marked (x ∷ []) a b c = cc
three_marked (x ∷ (y ∷ [])) a b c = cc
three_marked (true ∷ (true ∷ (true ∷ ms))) a b c = omega arith
three_marked (false ∷ (y ∷ (z ∷ ms))) a b c = cc
three_marked (true ∷ (false ∷ (z ∷ ms))) a b c = cc
three_marked (true ∷ (true ∷ (false ∷ ms))) a b c = cc

-- no three control words stand in a row where all of them would be marked
no_three : (words : List ℕ) (marks : List Bool) → IsCalm words marks → (i : ℕ) → i + 11 ≤ length words
    → ((k : ℕ) → i ≤ k → k < i + 3 → get_or marks k false ≡ false → is_control (get_or words k 0) ≡ false)
    → is_control (get_or words i 0) ≡ true → is_control (get_or words (i + 1) 0) ≡ true → is_control (get_or words (i + 2) 0) ≡ true → ⊥
no_three words marks calm i long plain a b c =
    let same = calm.same_length in
    let few = calm.few i (omega arith) in
    let mark : (k : ℕ) → i ≤ k → k < i + 3 → is_control (get_or words k 0) ≡ true → get_or marks k false ≡ true =
    λ k lo hi h. true_from_ne_false (get_or marks k false) (λ f. let g = plain k lo hi f in cc) in
    let e : i + 0 ≡ i = omega arith in
    grind (arith, get_or-drop, three_marked)

-- the control period begins at least 120 bits after the bits that were lost
starts_far : (words : List ℕ) (marks : List Bool) (from many place dropped start : ℕ) → Slips words marks from many place dropped
    → BeginsControl words marks (from + place + dropped) start → from + place + dropped + 120 ≤ 10 * start
starts_far words marks from many place dropped start s b = grind (arith, cases_lt, control_turns)

-- no run lies between the slip and the control period but those that begin with its last characters
none_before : (words : List ℕ) (marks : List Bool) (from many place dropped start early : ℕ) → Slips words marks from many place dropped
    → BeginsControl words marks (from + place + dropped) start → early ≤ 2 → is_control (get_or words (start - 1 - early) 0) ≡ false
    → (q : ℕ) → place ≤ q → q + dropped + from < 10 * (start - early) → IsRun (slipped_part words from many place dropped) q → ⊥
none_before words marks from many place dropped start early s b few plain q after less run =
    let xs = part_of words from many in
    let len : length xs ≡ many = length-part words from many s.within in
    let ends = s.ends in
    let far = starts_far words marks from many place dropped start s b in
    let within = b.within in
    let was : IsRun xs (q + dropped) = run_after xs place dropped q (omega arith) after run in
    let whole : (q + dropped + from) % 10 ≡ 0 = elim (runs_around words marks from many place dropped s q run) [
      | inl w ↦ let a = w.0 in absurd (omega arith)
      | inr w ↦ w.1
    ] in
    let i = (q + dropped + from) / 10 in
    let at : q + dropped + from ≡ 10 * i = omega arith in
    let control = run_words words from many (q + dropped) i s.within at b.small was in
    let m = start - 1 - early in
    elim (cases_lt m (i + 12)) [
      | inl inside ↦
          let e : i + (m - i) ≡ m = omega arith in
          let h : is_control (get_or words m 0) ≡ true = subst (λ n. is_control (get_or words n 0) ≡ true) e (control (m - i) (omega arith)) in
          cc
      | inr past ↦
          let e : i + 0 ≡ i = omega arith in
          no_three words marks s.calm i (omega arith) (λ k lo hi. b.before k (omega arith) (omega arith))
          (subst (λ n. is_control (get_or words n 0) ≡ true) e (control 0 (omega arith))) (control 1 (omega arith)) (control 2 (omega arith))
    ]

-- the twelve characters from `early` before the control period on
begin_run : (words : List ℕ) (marks : List Bool) (bit start early : ℕ) → BeginsControl words marks bit start → early ≤ start
    → ((k : ℕ) → k < early → is_control (get_or words (start - 1 - k) 0) ≡ true)
    → (k : ℕ) → k < 12 → is_control (get_or words (start - early + k) 0) ≡ true
begin_run words marks bit start early b le before k lt = elim (cases_lt k early) [
  | inl first ↦
      let e : start - 1 - (early - 1 - k) ≡ start - early + k = omega arith in
      subst (λ n. is_control (get_or words n 0) ≡ true) e (before (early - 1 - k) (omega arith))
  | inr later ↦
      let e : start + (k - early) ≡ start - early + k = omega arith in
      subst (λ n. is_control (get_or words n 0) ≡ true) e (b.control (k - early) (omega arith))
]

first_at : (words : List ℕ) (marks : List Bool) (from many place dropped : ℕ) → Slips words marks from many place dropped
    → (lock : ℕ) → IsLock (part_of words from many) lock → lock + 120 ≤ place
    → (start : ℕ) → BeginsControl words marks (from + place + dropped) start
    → (early : ℕ) → 10 * (start - early + 12) ≤ from + many → early ≤ 2 → ((k : ℕ) → k < early → is_control (get_or words (start - 1 - k) 0) ≡ true) → is_control (get_or words (start - 1 - early) 0) ≡ false
    → (p : ℕ) → p + dropped + from ≡ 10 * (start - early) → IsFirstStray (slipped_part words from many place dropped) p
first_at words marks from many place dropped s lock is_lock before start b early whole few control plain p at =
    let xs = part_of words from many in
    let len : length xs ≡ many = length-part words from many s.within in
    let ends = s.ends in
    let far = starts_far words marks from many place dropped start s b in
    let after = strays_after words marks from many place dropped s lock is_lock before in
    let run : IsRun xs (p + dropped) = run_here words from many (p + dropped) (start - early) s.within (omega arith) at b.small
    (begin_run words marks (from + place + dropped) start early b (omega arith) control) in
    record {
      stray = (after p).1 (omega arith, run_stays_after xs place dropped p (omega arith) (omega arith) run);
      least = λ q less stray.
          let h = (after q).0 stray in
          none_before words marks from many place dropped start early s b few plain q h.0 (omega arith) h.1;
    }

-- how many words right before the control period were received as control words
early_of : (words : List ℕ) (marks : List Bool) (from many place dropped start : ℕ) → Slips words marks from many place dropped
    → BeginsControl words marks (from + place + dropped) start
    → (early : ℕ) × (early ≤ 2)
    × ((k : ℕ) → k < early → is_control (get_or words (start - 1 - k) 0) ≡ true)
    × (is_control (get_or words (start - 1 - early) 0) ≡ false)
early_of words marks from many place dropped start s b =
    let far = starts_far words marks from many place dropped start s b in
    let within = b.within in
    let zero_of : start - 1 - 0 ≡ start - 1 = omega arith in
    elim (cases_Bool (is_control (get_or words (start - 1 - 0) 0))) [
      | inr plain ↦ let none : (k : ℕ) → k < 0 → is_control (get_or words (start - 1 - k) 0) ≡ true = λ k lt. absurd (omega arith) in
          (0, omega arith, none, plain)
      | inl one ↦ elim (cases_Bool (is_control (get_or words (start - 1 - 1) 0))) [
        | inr plain ↦ grind arith
        | inl two ↦ elim (cases_Bool (is_control (get_or words (start - 1 - 2) 0))) [
          | inr plain ↦ grind (arith, cases_lt)
          | inl three ↦
              let i = start - 1 - 2 in
              let e1 : start - 1 - 1 ≡ i + 1 = omega arith in
              let e2 : start - 1 - 0 ≡ i + 2 = omega arith in
              absurd (no_three words marks s.calm i (omega arith) (λ k lo hi. b.before k (omega arith) (omega arith)) three
              (subst (λ n. is_control (get_or words n 0) ≡ true) e1 two) (subst (λ n. is_control (get_or words n 0) ≡ true) e2 one))
        ]
      ]
    ]

pub stray_begins_control : (words : List ℕ) (marks : List Bool) (from many place dropped : ℕ) → Slips words marks from many place dropped
    → (lock : ℕ) → IsLock (part_of words from many) lock → lock + 120 ≤ place
    → (start : ℕ) → BeginsControl words marks (from + place + dropped) start
    → (ahead : ℕ) → ahead ≤ 2 → ((k : ℕ) → k < ahead → is_control (get_or words (start - 1 - k) 0) ≡ true) → 10 * (start - ahead + 12) ≤ from + many
    → (early : ℕ) × (early ≤ 2)
    × ((k : ℕ) → k < early → is_control (get_or words (start - 1 - k) 0) ≡ true)
    × (is_control (get_or words (start - 1 - early) 0) ≡ false)
    × ((p : ℕ) → p + dropped + from ≡ 10 * (start - early) → IsFirstStray (slipped_part words from many place dropped) p)
stray_begins_control words marks from many place dropped s lock is_lock before start b ahead few control whole =
    let e = early_of words marks from many place dropped start s b in
    let most : ahead ≤ e.0 = elim (cases_lt e.0 ahead) [
      | inl less ↦ let is = control e.0 less in let plain = e.3 in absurd cc
      | inr le ↦ le
    ] in
    (e.0, e.1, e.2, e.3, first_at words marks from many place dropped s lock is_lock before start b e.0 (omega arith) e.1 e.2 e.3)

pub stray_starts : (words : List ℕ) (marks : List Bool) (from many place dropped : ℕ) → Slips words marks from many place dropped
    → (lock : ℕ) → IsLock (part_of words from many) lock → lock + 120 ≤ place
    → (start : ℕ) → BeginsControl words marks (from + place + dropped) start
    → (p : ℕ) → IsFirstStray (slipped_part words from many place dropped) p
    → (early : ℕ) × (early ≤ 2)
    × ((k : ℕ) → k < early → is_control (get_or words (start - 1 - k) 0) ≡ true)
    × (is_control (get_or words (start - 1 - early) 0) ≡ false)
    × (p + dropped + from ≡ 10 * (start - early))
stray_starts words marks from many place dropped s lock is_lock before start b p first =
    let e = early_of words marks from many place dropped start s b in
    let xs = part_of words from many in
    let len : length xs ≡ many = length-part words from many s.within in
    let ends = s.ends in
    let few = e.1 in
    let far = starts_far words marks from many place dropped start s b in
    let after = strays_after words marks from many place dropped s lock is_lock before in
    let h = (after p).0 first.stray in
    let was = run_after xs place dropped p (omega arith) h.0 h.1 in
    let long = run_within xs (p + dropped) was in
    let q = 10 * (start - e.0) - dropped - from in
    let at : q + dropped + from ≡ 10 * (start - e.0) = omega arith in
    let here : p + dropped + from ≡ 10 * (start - e.0) =
    elim (cases_lt (p + dropped + from) (10 * (start - e.0))) [
      | inl less ↦ absurd (none_before words marks from many place dropped start e.0 s b e.1 e.3 p h.0 less h.1)
      | inr more ↦ elim (cases_lt q p) [
        | inr same ↦ omega arith
        | inl later ↦
            let run : IsRun xs (q + dropped) = run_here words from many (q + dropped) (start - e.0) s.within (omega arith) at b.small
            (begin_run words marks (from + place + dropped) start e.0 b (omega arith) e.2) in
            absurd (first.least q later ((after q).1 (omega arith, run_stays_after xs place dropped q (omega arith) (omega arith) run)))
      ]
    ] in
    (e.0, e.1, e.2, e.3, here)
