-- A lane whose damage spares control and guard words until a column, which is the first after a control period: its
-- edges up to there, and a little past it, are ends of control periods, and that place is an edge.
use Rattle.std.proofs.Common.{◌≡◌, ℕ, suc, zero, ◌+◌, ◌-◌, ◌*◌, ◌/◌, ◌<◌, ◌≤◌, Bool, true, false, List, [], ◌∷◌, ◌++◌, length, take, drop, get_or, refl, ap, ◌∙◌, sym, subst, arith, inl, inr, ◌⊎◌, Some, length-take, length-drop}
use Rattle.std.proofs.lemmas.Bool.{cases_lt}
use Rattle.std.proofs.lemmas.List.{drop-take, take-take, take_all, take-append-drop, get_or-take, get_or-replicate, get_or_append_left, length-replicate}
use Rattle.std.proofs.Math.Seq.{take-append-add}
use Rattle.tmds_word.specs.Bits.{word_bits, row_bits, number, window}
use Rattle.tmds_word.proofs.Lists.{length-row_bits, length-word_bits}
use Rattle.terc4.specs.Tables.{is_control}
use Rattle.lane_align.specs.Lanes.{IsRun, IsLock, IsEdge}
use Rattle.lane_align.specs.Laws.{marked, IsCalm}
use Rattle.tmds_word.specs.Taps.{part_of}
use Rattle.lane_align.proofs.Controls.{window_here}
use Rattle.lane_align.proofs.Calm.{tap_lock, tapped}
use Rattle.island_pack.specs.Kinds.{Kind, control_column, IsPayload, kind_at, EndsAt}
use Rattle.link_laws.specs.LaneEnds.{IsGuard, IsReceived}
use Rattle.lane_deskew.specs.Growing.{HasGrown}
use Rattle.lane_deskew.proofs.Growth.{edge_before}
use Rattle.link_laws.proofs.LaneEnds.{word_is, tap_run, edge_ends}
use Rattle.link_laws.specs.Alternating.{IsAlternating, last, more}
use Rattle.link_laws.proofs.Shapes.{where_ends, ends_alone, ends_late, in_first, in_rest}
use Rattle.link_sink.proofs.Decided.{lock_of_run}

-- the characters of one lane as they were received: until column f control and guard words were received as
-- they were sent
pub record IsReceivedUntil (kinds : List Kind) (f : ℕ) (words : List ℕ) (marks : List Bool) : Type 0 where
  pub calm : IsCalm words marks
  pub below : (i : ℕ) → i < length words → get_or words i 0 < 1024
  pub controls : (i : ℕ) → i < length words → i ≤ f → kind_at kinds i ≡ control_column → is_control (get_or words i 0) ≡ true
  pub guards : (i : ℕ) → i < length words → i ≤ f → IsGuard (kind_at kinds i) → is_control (get_or words i 0) ≡ false
  pub payloads : (i : ℕ) → i < length words → i ≤ f → IsPayload (kind_at kinds i) → get_or marks i false ≡ false → is_control (get_or words i 0) ≡ false

-- The lane up to column f.

few_cut : (n : ℕ) (marks : List Bool) → ((i : ℕ) → i + 11 ≤ length marks → marked (take 11 (drop i marks)) ≤ 2)
    → (i : ℕ) → i + 11 ≤ length (take n marks) → marked (take 11 (drop i (take n marks))) ≤ 2
few_cut n marks few i within =
    let l = length-take n marks in
    let e : i + (n - i) ≡ n = omega arith in
    let same : take 11 (drop i (take n marks)) ≡ take 11 (drop i marks) =
    ap (λ m. take 11 (drop i (take m marks))) (sym e) ∙ ap (take 11) (drop-take i (n - i) marks) ∙ take-take 11 (n - i) (drop i marks) (omega arith) in
    subst (λ ms. marked ms ≤ 2) (sym same) (few i (omega arith))

-- the lane cut after column f is one that the standing laws know
pub cut_received : (kinds : List Kind) (f : ℕ) (words : List ℕ) (marks : List Bool) → IsReceivedUntil kinds f words marks → IsReceived kinds (take (f + 1) words) (take (f + 1) marks)
cut_received kinds f words marks r = grind (arith, length-take, get_or-take, few_cut)

take_nothing : (n : ℕ) → take {A = Bool} n [] ≡ []
take_nothing n = grind arith

row_take : (n : ℕ) (ws : List ℕ) → row_bits (take n ws) ≡ take (10 * n) (row_bits ws)
unfolding row_bits
row_take zero ws = refl
row_take (suc n) [] = sym (take_nothing (10 * suc n))
row_take (suc n) (w ∷ ws) =
    let e : 10 * suc n ≡ length (word_bits w) + 10 * n = omega (arith, length-word_bits w) in
    ap (λ bits. word_bits w ++ bits) (row_take n ws)
    ∙ sym (ap (λ m. take m (word_bits w ++ row_bits ws)) e ∙ take-append-add (word_bits w) (row_bits ws) (10 * n))

take_swap : (a b : ℕ) (xs : List Bool) → take a (take b xs) ≡ take b (take a xs)
take_swap a b xs = grind (arith, cases_lt, take-take, take_all, length-take)

-- what is tapped of it is the beginning of what is tapped of the lane
cut_tap : (words : List ℕ) (n from many : ℕ) → from ≤ 10 * n → part_of (take n words) from many ≡ take (10 * n - from) (part_of words from many)
cut_tap words n from many le =
    let e : from + (10 * n - from) ≡ 10 * n = omega arith in
    ap (λ bits. take many (drop from bits)) (row_take n words)
    ∙ ap (λ m. take many (drop from (take m (row_bits words)))) (sym e)
    ∙ ap (take many) (drop-take from (10 * n - from) (row_bits words))
    ∙ take_swap many (10 * n - from) (drop from (row_bits words))

grown : (words : List ℕ) (n from many : ℕ) → from ≤ 10 * n → HasGrown (part_of (take n words) from many) (part_of words from many)
grown words n from many le =
    let us = part_of words from many in
    let k = 10 * n - from in
    (drop k us, sym (take-append-drop k us) ∙ ap (λ xs. xs ++ drop k us) (sym (cut_tap words n from many le)))

-- how many bits a tap has
tap_length : (words : List ℕ) (from many : ℕ) → from + many ≤ 10 * length words → length (part_of words from many) ≡ many
tap_length words from many within = omega (arith, length-take many (drop from (row_bits words)), length-drop from (row_bits words), length-row_bits words)

-- a tap that has the bits of column f and of the twelve columns before it
pub record Holds (words : List ℕ) (from many f : ℕ) : Type 0 where
  pub begins : from + 120 ≤ 10 * f
  pub reaches : 10 * f + 10 ≤ from + many
  pub within : from + many ≤ 10 * length words

-- Edges.

no_word : (w : ℕ) → is_control w ≡ true → is_control w ≡ false → ⊥
no_word w h g = cc

-- no run of twelve control words holds column f, which is a guard word
over_guard : (kinds : List Kind) (f : ℕ) (words : List ℕ) (marks : List Bool) → IsReceivedUntil kinds f words marks → IsGuard (kind_at kinds f)
    → (from many e : ℕ) → Holds words from many f → IsEdge (part_of words from many) e → 10 * f < e + from → e + from ≤ 10 * f + 70 → ⊥
over_guard kinds f words marks r at from many e h edge over near =
    let past = edge.past in
    let within = h.within in
    let reaches = h.reaches in
    let p = e - 120 in
    let whole = tap_lock words marks r.calm from many p edge.run in
    let k = f + 12 - (e + from) / 10 in
    let place : p + from + 10 * k ≡ 10 * f = omega arith in
    let controls = tap_run words from many p edge.run k (omega arith) in
    let word = word_is words f (omega arith) (r.below f (omega arith)) in
    no_word (get_or words f 0)
    (ap is_control (sym word) ∙ ap (λ m. is_control (number (take 10 (drop m (row_bits words))))) (sym place) ∙ controls)
    (r.guards f (omega arith) (omega arith) at)

-- an edge not far past column f is the end of a control period, at or before f
pub edge_until : (kinds : List Kind) (f : ℕ) (words : List ℕ) (marks : List Bool) → IsAlternating kinds → IsReceivedUntil kinds f words marks → IsGuard (kind_at kinds f)
    → (from many e : ℕ) → Holds words from many f → IsEdge (part_of words from many) e → e + from ≤ 10 * f + 70
    → (i : ℕ) × (EndsAt kinds i) × (i + 1 ≤ f) × (e + from ≡ 10 * (i + 1))
edge_until kinds f words marks alternates r at from many e h edge near = by (cases_lt (10 * f) (e + from))
  where
    by : (10 * f < e + from) ⊎ (e + from ≤ 10 * f) → (i : ℕ) × (EndsAt kinds i) × (i + 1 ≤ f) × (e + from ≡ 10 * (i + 1))
    by (inl over) = absurd (over_guard kinds f words marks r at from many e h edge over near)
    by (inr le) =
        let begins = h.begins in
        let reaches = h.reaches in
        let within = h.within in
        let n = f + 1 in
        let l = length-take n words in
        let k = 10 * n - from in
        let long : length (part_of (take n words) from many) ≡ k =
        ap length (cut_tap words n from many (omega arith)) ∙ omega (arith, length-take k (part_of words from many), tap_length words from many within) in
        let was = edge_before (part_of (take n words) from many) (part_of words from many) e (grown words n from many (omega arith)) (omega (arith, long, le)) edge in
        let found = edge_ends kinds (take n words) (take n marks) alternates (cut_received kinds f words marks r) from many e was in
        let place = found.2 in
        (found.0, found.1, omega (arith, place, le), place)

-- the twelve columns up to the end of a control period are of it
ends_long : (kinds : List Kind) → IsAlternating kinds → (i k : ℕ) → EndsAt kinds i → k < 12 → kind_at kinds (i - k) ≡ control_column
ends_long _ (last n long) i k h lt = grind (arith, ends_alone, length-replicate, get_or_append_left, get_or-replicate)
ends_long _ (more n mid rest long m alternates) i k h lt = elim (where_ends n mid rest i m h) [
  | inl here ↦ in_first n mid rest (i - k) (omega arith)
  | inr later ↦ grind (arith, ends_late rest alternates later.at later.ends, in_rest n mid rest (later.at - k), ends_long rest alternates)
]

-- a word of the lane in what is tapped
window_at : (words : List ℕ) (from many i p : ℕ) → i < length words → get_or words i 0 < 1024 → p + from ≡ 10 * i → 10 * i + 10 ≤ from + many → from + many ≤ 10 * length words
    → window (part_of words from many) p ≡ Some (get_or words i 0)
window_at words from many i p lt small e reaches within = grind (arith, tap_length, tapped, window_here, word_is)

-- the end of a control period before column f is an edge
pub end_edge : (kinds : List Kind) (f i : ℕ) (words : List ℕ) (marks : List Bool) → IsAlternating kinds → IsReceivedUntil kinds f words marks → IsGuard (kind_at kinds f) → EndsAt kinds i → f ≡ i + 1
    → (from many : ℕ) → Holds words from many f → IsEdge (part_of words from many) (10 * f - from)
end_edge kinds f i words marks alternates r at ends next from many h = by (lock_of_run xs (10 * f - from - 120) run)
  where
    xs : List Bool
    xs = part_of words from many

    run : IsRun xs (10 * f - from - 120)
    run k lt =
        let begins = h.begins in
        let reaches = h.reaches in
        let within = h.within in
        let j = i - (11 - k) in
        let late = ends_late kinds alternates i ends in
        let place : 10 * f - from - 120 + 10 * k + from ≡ 10 * j = omega (arith, next, lt, begins, late) in
        record {
          word = get_or words j 0;
          here = window_at words from many j (10 * f - from - 120 + 10 * k) (omega (arith, next, reaches, within)) (r.below j (omega (arith, next, reaches, within))) place (omega (arith, next, reaches)) within;
          control = r.controls j (omega (arith, next, reaches, within)) (omega (arith, next)) (ends_long kinds alternates i (11 - k) ends (omega (arith, lt)));
        }

    by : (p : ℕ) × IsLock xs p → IsEdge xs (10 * f - from)
    by l =
        let begins = h.begins in
        let reaches = h.reaches in
        let within = h.within in
        let e = 10 * f - from in
        let a = tap_lock words marks r.calm from many l.0 l.1.run in
        let b = tap_lock words marks r.calm from many (e - 120) run in
        record {
          lock = l.0;
          is_lock = l.1;
          past = first (cases_lt (e - 120) l.0);
          aligned = omega (arith, a, b, begins);
          run = run;
          word = get_or words f 0;
          here = window_at words from many f e (omega (arith, reaches, within)) (r.below f (omega (arith, reaches, within))) (omega (arith, begins)) reaches within;
          no_control = r.guards f (omega (arith, reaches, within)) (omega arith) at;
        }
      where
        first : (10 * f - from - 120 < l.0) ⊎ (l.0 ≤ 10 * f - from - 120) → l.0 + 120 ≤ 10 * f - from
        first (inl lt) = absurd (l.1.least (10 * f - from - 120) lt run)
        first (inr le) = let begins = h.begins in omega (arith, le, begins)
