-- The edges of a lane that slipped, before its first stray.
use Rattle.std.proofs.Common.{◌≡◌, ◌↔◌, ℕ, ◌+◌, ◌-◌, ◌*◌, ◌/◌, ◌%◌, ◌<◌, ◌≤◌, Bool, true, List, length, take, drop, get_or, ap, ◌∙◌, sym, subst, arith, inl, inr}
use Rattle.std.proofs.lemmas.Bool.{cases_lt}
use Rattle.std.proofs.lemmas.List.{drop-drop, length-take-le}
use Rattle.tmds_word.specs.Bits.{number, turns, word_bits, row_bits}
use Rattle.tmds_word.specs.Taps.{part_of}
use Rattle.tmds_word.proofs.Lists.{length-word_bits}
use Rattle.terc4.specs.Tables.{is_control}
use Rattle.lane_align.specs.Lanes.{IsRun, IsLock, IsEdge}
use Rattle.lane_align.proofs.Controls.{window_is, window_here, run_within}
use Rattle.lane_align.proofs.Calm.{row_word, control_is}
use Rattle.lane_align.proofs.Across.{control_turns, ten_bits}
use Rattle.lane_track.specs.Strays.{IsFirstStray}
use Rattle.lane_track.specs.Slips.{Slips, slipped, slipped_part}
use Rattle.lane_align.proofs.Parts.{same_control, take_piece, run_of_front}
use Rattle.lane_track.proofs.Cutting.{front_piece, run_before, length_slipped}
use Rattle.lane_track.proofs.Around.{length-part, runs_around, strays_after}

run_same : (xs ys : List Bool) (place p : ℕ) → ((q : ℕ) → q + 10 ≤ place → take 10 (drop q xs) ≡ take 10 (drop q ys)) → place ≤ length ys → p + 120 ≤ place → IsRun xs p → IsRun ys p
run_same xs ys place p same long before run k lt = same_control xs ys (p + 10 * k) (p + 10 * k) (same (p + 10 * k) (omega arith)) (omega arith) (run k lt)

edge_same : (xs ys : List Bool) (place e : ℕ) → ((q : ℕ) → q + 10 ≤ place → take 10 (drop q xs) ≡ take 10 (drop q ys)) → place ≤ length xs → place ≤ length ys → e + 10 ≤ place → IsEdge xs e → IsEdge ys e
edge_same xs ys place e same long_x long_y before edge =
    let past = edge.past in
    record {
      lock = edge.lock;
      is_lock = record {
        run = run_same xs ys place edge.lock same long_y (omega arith) edge.is_lock.run;
        least = λ q less run. edge.is_lock.least q less (run_same ys xs place q (λ p lt. sym (same p lt)) long_x (omega arith) run);
      };
      past = past;
      aligned = edge.aligned;
      run = run_same xs ys place (e - 120) same long_y (omega arith) edge.run;
      word = edge.word;
      here = window_here ys e edge.word (λ short. omega arith) (sym (window_is xs e edge.word edge.here).1 ∙ ap number (same e before));
      no_control = edge.no_control;
    }

-- a run that ends before the slip ends before the minimized characters
ends_early : (words : List ℕ) (marks : List Bool) (from many place dropped : ℕ) → Slips words marks from many place dropped
    → (r : ℕ) → IsRun (part_of words from many) r → r + 120 ≤ place → (r + from) % 10 ≡ 0 → r + 130 ≤ place
ends_early words marks from many place dropped s r run before whole = elim (cases_lt place (r + 130)) [
  | inr far ↦ far
  | inl near ↦
      let xs = part_of words from many in
      let within = s.within in
      let ends = s.ends in
      let begins = s.begins in
      let k = (r + 110 + from) / 10 in
      let at : from + (r + 110) ≡ 10 * k = omega arith in
      let inside : k < length words = omega arith in
      let few = s.minimized k inside (omega arith) (omega arith) in
      let w = get_or words k 0 in
      let is : take 10 (drop (r + 10 * 11) xs) ≡ word_bits w =
      take_piece many (r + 110) 10 (drop from (row_bits words)) (omega arith) ∙ ap (take 10) (drop-drop (r + 110) from (row_bits words) ∙ ap (λ m. drop m (row_bits words)) at) ∙ row_word words k inside in
      let control : is_control (number (word_bits w)) ≡ true = ap (λ ys. is_control (number ys)) (sym is) ∙ control_is xs (r + 10 * 11) (run 11 (omega arith)) in
      let many_turns : 7 ≤ turns (word_bits w) = subst (λ ys. 7 ≤ turns ys) (ten_bits (word_bits w) (length-word_bits w)) (control_turns (number (word_bits w)) control) in
      absurd (omega arith)
]

pub front_edges : (words : List ℕ) (marks : List Bool) (from many place dropped : ℕ) → Slips words marks from many place dropped
    → (lock : ℕ) → IsLock (part_of words from many) lock → lock + 120 ≤ place
    → (z : ℕ) → IsFirstStray (slipped_part words from many place dropped) z
    → (e : ℕ) → IsEdge (take z (slipped_part words from many place dropped)) e ↔ IsEdge (take place (part_of words from many)) e
front_edges words marks from many place dropped s lock is_lock before z first e =
    let xs = part_of words from many in
    let ys = slipped xs place dropped in
    let len : length xs ≡ many = length-part words from many s.within in
    let ends = s.ends in
    let slip_len = length_slipped xs place dropped (omega arith) in
    let after = strays_after words marks from many place dropped s lock is_lock before in
    let late = (after z).0 first.stray in
    let within = run_within ys z first.stray.run in
    let front : length (take place xs) ≡ place = length-take-le place xs (omega arith) in
    let cut : length (take z ys) ≡ z = length-take-le z ys (omega arith) in
    let reach : place ≤ z = late.0 in
    let same : (q : ℕ) → q + 10 ≤ place → take 10 (drop q (take z ys)) ≡ take 10 (drop q (take place xs)) =
    λ q lt. take_piece z q 10 ys (omega arith) ∙ front_piece q 10 (take place xs) (drop (place + dropped) xs) (omega arith) in (
      λ edge.
          let past = edge.past in
          let run = run_of_front z ys (e - 120) edge.run in
          let long = run_within (take z ys) (e - 120) edge.run in
          let early : e + 10 ≤ place =
          elim (runs_around words marks from many place dropped s (e - 120) run) [
            | inl h ↦
                let ok = ends_early words marks from many place dropped s (e - 120) (run_before xs place dropped (e - 120) (omega arith) h.0 run) h.0 h.1 in
                omega arith
            | inr h ↦ absurd (first.least (e - 120) (omega arith) ((after (e - 120)).1 (h.0, run)))
          ] in
          edge_same (take z ys) (take place xs) place e same (omega arith) (omega arith) early edge,
      λ edge.
          let here = (window_is (take place xs) e edge.word edge.here).0 in
          edge_same (take place xs) (take z ys) place e (λ q lt. sym (same q lt)) (omega arith) (omega arith) (omega arith) edge,
    )
