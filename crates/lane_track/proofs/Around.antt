-- A calm lane that loses bits once: no run lies across the slip, since across it there are too few turns.
use Rattle.std.proofs.Common.{◌≡◌, ◌⊎◌, ◌↔◌, ℕ, ◌+◌, ◌-◌, ◌*◌, ◌%◌, ◌<◌, ◌≤◌, Bool, List, ◌++◌, length, take, drop, ap, ◌∙◌, sym, arith, inl, inr, length-take, length-drop}
use Rattle.std.proofs.lemmas.Bool.{cases_lt}
use Rattle.std.proofs.lemmas.List.{drop-drop, drop-take, drop-append-le, length-take-le, drop_all}
use Rattle.tmds_word.specs.Bits.{turns, row_bits}
use Rattle.tmds_word.specs.Taps.{part_of}
use Rattle.tmds_word.proofs.Lists.{length-row_bits}
use Rattle.tmds_word.proofs.Turns.{turns_join}
use Rattle.lane_align.specs.Lanes.{IsRun, IsLock}
use Rattle.lane_align.proofs.Calm.{tap_lock, run_has_turns}
use Rattle.lane_track.specs.Strays.{IsStray, HasNoStray}
use Rattle.lane_track.specs.Slips.{Slips, slipped, slipped_part, AreTransitionMinimized}
use Rattle.lane_track.proofs.Pieces.{piece_cost, take_both}
use Rattle.lane_align.proofs.Parts.{take_piece}
use Rattle.lane_track.proofs.Cutting.{drop_slipped, run_before, run_after, run_stays_before}

pub length-part : (words : List ℕ) (from many : ℕ) → from + many ≤ 10 * length words → length (part_of words from many) ≡ many
length-part words from many within =
    length-take-le many (drop from (row_bits words)) (omega (arith, length-drop from (row_bits words), length-row_bits words))

-- n bits of a part of a lane
part_cost : (words : List ℕ) (from many i n low high : ℕ) → from + many ≤ 10 * length words → 0 < n → i + n ≤ many
    → AreTransitionMinimized words low high → low ≤ from + i → from + i + n ≤ high → 5 * turns (take n (drop i (part_of words from many))) + 5 ≤ 3 * n + 24
part_cost words from many i n low high within some inside minimized above below = grind (arith, take_piece, drop-drop, piece_cost)

-- 120 bits across the slip: some before it and some after
across_cut : (xs : List Bool) (place dropped p a b : ℕ) → place + dropped ≤ length xs → p + a ≡ place → a + b ≡ 120
    → take 120 (drop p (slipped xs place dropped)) ≡ take a (drop p xs) ++ take b (drop (place + dropped) xs)
across_cut xs place dropped p a b long at sum =
    let front = take place xs in
    let back = drop (place + dropped) xs in
    let len : length front ≡ place = length-take-le place xs (omega arith) in
    let rest : drop p front ≡ take a (drop p xs) = ap (λ m. drop p (take m xs)) (sym at) ∙ drop-take p a xs in
    let rest_len : length (take a (drop p xs)) ≡ a = length-take-le a (drop p xs) (omega (arith, length-drop p xs)) in
    let e : 120 - length (take a (drop p xs)) ≡ b = omega arith in
    ap (take 120) (drop-append-le p front back (omega arith) ∙ ap (λ ys. ys ++ back) rest)
    ∙ take_both 120 (take a (drop p xs)) back (omega arith)
    ∙ ap (λ m. take a (drop p xs) ++ take m back) e

too_few : (words : List ℕ) (marks : List Bool) (from many place dropped : ℕ) → Slips words marks from many place dropped
    → (p : ℕ) → IsRun (slipped_part words from many place dropped) p → p < place → place < p + 120 → ⊥
too_few words marks from many place dropped s p run before after =
    let xs = part_of words from many in
    let len : length xs ≡ many = length-part words from many s.within in
    let begins = s.begins in
    let ends = s.ends in
    let a = place - p in
    let b = 120 - a in
    let cut = across_cut xs place dropped p a b (omega arith) (omega arith) (omega arith) in
    let join = turns_join (take a (drop p xs)) (take b (drop (place + dropped) xs)) in
    grind (arith, part_cost, run_has_turns)

pub no_run_across : (words : List ℕ) (marks : List Bool) (from many place dropped : ℕ) → Slips words marks from many place dropped
    → (p : ℕ) → IsRun (slipped_part words from many place dropped) p → (p + 120 ≤ place) ⊎ (place ≤ p)
no_run_across words marks from many place dropped s p run = elim (cases_lt p place) [
  | inr after ↦ inr after
  | inl before ↦ elim (cases_lt place (p + 120)) [
    | inl across ↦ absurd (too_few words marks from many place dropped s p run before across)
    | inr whole ↦ inl whole
  ]
]

pub runs_around : (words : List ℕ) (marks : List Bool) (from many place dropped : ℕ) → Slips words marks from many place dropped
    → (p : ℕ) → IsRun (slipped_part words from many place dropped) p
    → ((p + 120 ≤ place) × ((p + from) % 10 ≡ 0)) ⊎ ((place ≤ p) × ((p + dropped + from) % 10 ≡ 0))
runs_around words marks from many place dropped s p run =
    let xs = part_of words from many in
    let len : length xs ≡ many = length-part words from many s.within in
    let ends = s.ends in
    elim (no_run_across words marks from many place dropped s p run) [
      | inl before ↦ inl (before, tap_lock words marks s.calm from many p (run_before xs place dropped p (omega arith) before run))
      | inr after ↦ inr (after, tap_lock words marks s.calm from many (p + dropped) (run_after xs place dropped p (omega arith) after run))
    ]

-- a lock before the slip stays
pub lock_stays : (words : List ℕ) (marks : List Bool) (from many place dropped : ℕ) → Slips words marks from many place dropped
    → (lock : ℕ) → IsLock (part_of words from many) lock → lock + 120 ≤ place → IsLock (slipped_part words from many place dropped) lock
lock_stays words marks from many place dropped s lock is_lock before =
    let xs = part_of words from many in
    let len : length xs ≡ many = length-part words from many s.within in
    let ends = s.ends in
    record {
      run = run_stays_before xs place dropped lock (omega arith) before is_lock.run;
      least = λ q less run. is_lock.least q less (run_before xs place dropped q (omega arith) (omega arith) run);
    }

pub strays_after : (words : List ℕ) (marks : List Bool) (from many place dropped : ℕ) → Slips words marks from many place dropped
    → (lock : ℕ) → IsLock (part_of words from many) lock → lock + 120 ≤ place
    → (p : ℕ) → IsStray (slipped_part words from many place dropped) p
    ↔ ((place ≤ p) × IsRun (slipped_part words from many place dropped) p)
strays_after words marks from many place dropped s lock is_lock before p =
    let whole = tap_lock words marks s.calm from many lock is_lock.run in
    let some = s.some in
    let few = s.few in (
      λ stray.
          let around = runs_around words marks from many place dropped s in
          let was = around stray.lock stray.is_lock.run in
          elim (around p stray.run) [
            | inr after ↦ (after.0, stray.run)
            | inl early ↦ elim was [
              | inl w ↦ let a = w.1 in let b = early.1 in absurd (stray.apart (omega arith))
              | inr w ↦ let a = w.0 in let b = early.0 in let c = stray.past in absurd (omega arith)
            ]
          ],
      λ h.
          elim (runs_around words marks from many place dropped s p h.1) [
            | inl early ↦ let a = h.0 in let b = early.0 in absurd (omega arith)
            | inr late ↦
                let a = h.0 in
                let b = late.1 in
                record {
                  lock = lock;
                  is_lock = lock_stays words marks from many place dropped s lock is_lock before;
                  past = omega arith;
                  apart = λ e. omega arith;
                  run = h.1;
                }
          ],
    )

pub no_lock_no_stray : (words : List ℕ) (marks : List Bool) (from many place dropped : ℕ) → Slips words marks from many place dropped
    → ((lock : ℕ) → IsLock (part_of words from many) lock → lock + 120 ≤ place → ⊥)
    → HasNoStray (slipped_part words from many place dropped)
no_lock_no_stray words marks from many place dropped s none p stray =
    let xs = part_of words from many in
    let len : length xs ≡ many = length-part words from many s.within in
    let ends = s.ends in
    let around = runs_around words marks from many place dropped s in
    let past = stray.past in
    elim (around stray.lock stray.is_lock.run) [
      | inl early ↦
          let before = early.0 in
          none stray.lock (record {
            run = run_before xs place dropped stray.lock (omega arith) before stray.is_lock.run;
            least = λ q less run. stray.is_lock.least q less (run_stays_before xs place dropped q (omega arith) (omega arith) run);
          }) before
      | inr late ↦ elim (around p stray.run) [
        | inl early ↦ let a = late.0 in let b = early.0 in absurd (omega arith)
        | inr other ↦ let a = late.1 in let b = other.1 in stray.apart (omega arith)
      ]
    ]

-- what is left of a part of a lane
pub drop_part : (words : List ℕ) (from many z : ℕ) → drop z (part_of words from many) ≡ part_of words (from + z) (many - z)
drop_part words from many z =
    let rest = drop from (row_bits words) in
    elim (cases_lt many z) [
      | inr within ↦
          let e : z + (many - z) ≡ many = omega arith in
          ap (λ m. drop z (take m rest)) (sym e) ∙ drop-take z (many - z) rest ∙ ap (take (many - z)) (drop-drop z from (row_bits words))
      | inl past ↦ grind (arith, drop_all, length-take)
    ]

pub rest_is_part : (words : List ℕ) (from many place dropped z : ℕ) → place ≤ z → place + dropped ≤ many → from + many ≤ 10 * length words
    → drop z (slipped_part words from many place dropped) ≡ part_of words (from + dropped + z) (many - dropped - z)
rest_is_part words from many place dropped z after long within = grind (arith, length-part, drop_slipped, drop_part)
