-- An edge in a part of a lane's bits is the end of a control period.
use Rattle.std.proofs.Common.{◌↔◌, ◌≡◌, ℕ, suc, zero, ◌+◌, ◌-◌, ◌*◌, ◌/◌, ◌%◌, ◌<◌, ◌≤◌, Bool, true, false, List, [], ◌∷◌, length, take, drop, get_or, refl, ap, ◌∙◌, sym, subst, arith, ◌⊎◌, eqb-true, length-drop}
use Rattle.std.proofs.lemmas.Bool.{cases_lt, true_from_ne_false}
use Rattle.std.proofs.lemmas.List.{get_or-drop}
use Rattle.tmds_word.specs.Bits.{word_bits, row_bits, number}
use Rattle.tmds_word.proofs.Lists.{length-row_bits}
use Rattle.tmds_word.proofs.Numbers.{number-bits_of}
use Rattle.terc4.specs.Tables.{is_control}
use Rattle.terc4.specs.Columns.{one_if}
use Rattle.terc4.proofs.Words.{few_turns}
use Rattle.lane_align.specs.Lanes.{IsRun, IsEdge}
use Rattle.lane_align.specs.Laws.{marked}
use Rattle.tmds_word.specs.Taps.{part_of, AreNear}
use Rattle.lane_align.proofs.Controls.{window_is, control_within}
use Rattle.lane_align.proofs.Calm.{row_word, control_is, tap_lock, tapped}
use Rattle.lane_deskew.specs.Triples.{IsFirst}
use Rattle.island_pack.specs.Kinds.{Kind, control_column, first_guard, second_guard, pixel_column, packet_column, IsPayload, kind_at, EndsAt}
use Rattle.link_laws.specs.LaneEnds.{IsGuard, IsReceived, IsLaneSent, IsSparseLane, damaged, controls_of}
use Rattle.link_laws.specs.Alternating.{IsAlternating}
use Rattle.link_laws.proofs.Shapes.{ends_apart, parted}

-- a word is the number of its bits
pub number_back : (w : ℕ) → w < 1024 → number (word_bits w) ≡ w
unfolding word_bits
number_back w lt = let e = number-bits_of 10 w in omega arith

-- ten bits of a lane from a multiple of ten on are a character
pub word_is : (words : List ℕ) (i : ℕ) → i < length words → get_or words i 0 < 1024 → number (take 10 (drop (10 * i) (row_bits words))) ≡ get_or words i 0
word_is words i lt small = ap number (row_word words i lt) ∙ number_back (get_or words i 0) small

all_marked : (n : ℕ) (ms : List Bool) → n ≤ length ms → ((k : ℕ) → k < n → get_or ms k false ≡ true) → marked (take n ms) ≡ n
unfolding marked one_if
all_marked zero ms long each = refl
all_marked (suc n) [] long each = absurd (omega arith)
all_marked (suc n) (m ∷ ms) long each =
    let first = each zero (omega arith) in
    let ih = all_marked n ms (omega arith) (λ k lt. each (suc k) (omega arith)) in
    let e : one_if m ≡ 1 = ap one_if first in
    omega arith

-- a column is of a control period, a guard column, or a pixel or a part of a packet
sort_of : (k : Kind) → (k ≡ control_column) ⊎ (IsGuard k ⊎ IsPayload k)
sort_of k = grind arith

clash : (b : Bool) → b ≡ false → b ≡ true → ⊥
clash b h g = cc

-- a control word is no guard word
not_guard : (kinds : List Kind) (words : List ℕ) (marks : List Bool) (i : ℕ) → IsReceived kinds words marks → i < length words → is_control (get_or words i 0) ≡ true → IsGuard (kind_at kinds i) → ⊥
not_guard kinds words marks i r lt h g = let no_control = r.guards i lt g in cc

-- twelve control words whose last is payload: all are
payload_before : (kinds : List Kind) (words : List ℕ) (marks : List Bool) → IsAlternating kinds → IsReceived kinds words marks → (m : ℕ) → m + 12 ≤ length words
    → ((k : ℕ) → k < 12 → is_control (get_or words (m + k) 0) ≡ true) → IsPayload (kind_at kinds (m + 11)) → (d : ℕ) → d < 12 → IsPayload (kind_at kinds (m + (11 - d)))
payload_before kinds words marks alternates r m long run end zero lt = end
payload_before kinds words marks alternates r m long run end (suc d) lt = grind (arith, sort_of, parted, not_guard, payload_before kinds words marks alternates r m long run end d)

-- and those before the last are marked
marked_before : (kinds : List Kind) (words : List ℕ) (marks : List Bool) → IsAlternating kinds → IsReceived kinds words marks → (m : ℕ) → m + 12 ≤ length words
    → ((k : ℕ) → k < 12 → is_control (get_or words (m + k) 0) ≡ true) → IsPayload (kind_at kinds (m + 11)) → (k : ℕ) → k < 11 → get_or (drop m marks) k false ≡ true
marked_before kinds words marks alternates r m long run end k lt =
    let e : m + (11 - (11 - k)) ≡ m + k = omega arith in
    let here : IsPayload (kind_at kinds (m + k)) = subst (λ j. IsPayload (kind_at kinds j)) e (payload_before kinds words marks alternates r m long run end (11 - k) (omega arith)) in
    get_or-drop m marks k false ∙ true_from_ne_false _ (λ unmarked. clash _ (r.payloads (m + k) (omega arith) here unmarked) (run k (omega arith)))

-- too many of them
no_payload_end : (kinds : List Kind) (words : List ℕ) (marks : List Bool) → IsAlternating kinds → IsReceived kinds words marks → (m : ℕ) → m + 12 ≤ length words
    → ((k : ℕ) → k < 12 → is_control (get_or words (m + k) 0) ≡ true) → IsPayload (kind_at kinds (m + 11)) → ⊥
no_payload_end kinds words marks alternates r m long run end =
    let same = r.calm.same_length in
    let many = all_marked 11 (drop m marks) (omega (arith, length-drop m marks)) (marked_before kinds words marks alternates r m long run end) in
    let few = r.calm.few m (omega arith) in
    omega arith

-- twelve control words, and then none: the last of them is of a control period
run_ends : (kinds : List Kind) (words : List ℕ) (marks : List Bool) → IsAlternating kinds → IsReceived kinds words marks → (m : ℕ) → m + 13 ≤ length words
    → ((k : ℕ) → k < 12 → is_control (get_or words (m + k) 0) ≡ true) → is_control (get_or words (m + 12) 0) ≡ false → EndsAt kinds (m + 11)
run_ends kinds words marks alternates r m long run next = grind (arith, clash, sort_of, not_guard, no_payload_end)

-- a run in the tapped bits is one in the lane
pub tap_run : (words : List ℕ) (from many p : ℕ) → IsRun (part_of words from many) p → (k : ℕ) → k < 12 → is_control (number (take 10 (drop (p + from + 10 * k) (row_bits words)))) ≡ true
tap_run words from many p run k lt =
    let xs = part_of words from many in
    let has = run k lt in
    let f : p + 10 * k + from ≡ p + from + 10 * k = omega arith in
    ap (λ m. is_control (number (take 10 (drop m (row_bits words))))) (sym f)
    ∙ ap (λ ys. is_control (number ys)) (sym (tapped words from many (p + 10 * k) (control_within xs (p + 10 * k) has)).1)
    ∙ control_is xs (p + 10 * k) has

-- the places ten apart from a multiple of ten on
place_of : (q k : ℕ) → q % 10 ≡ 0 → q + 10 * k ≡ 10 * (q / 10 + k)
place_of q k whole = omega arith

pub edge_ends : (kinds : List Kind) (words : List ℕ) (marks : List Bool) → IsAlternating kinds → IsReceived kinds words marks
    → (from many e : ℕ) → IsEdge (part_of words from many) e → (i : ℕ) × (EndsAt kinds i) × (e + from ≡ 10 * (i + 1))
edge_ends kinds words marks alternates r from many e edge =
    let bits = row_bits words in
    let xs = part_of words from many in
    let len : length bits ≡ 10 * length words = length-row_bits words in
    let past = edge.past in
    let p = e - 120 in
    let q = p + from in
    let here = window_is xs e edge.word edge.here in
    let at_e = tapped words from many e here.0 in
    let controls : (k : ℕ) → k < 12 → is_control (number (take 10 (drop (q + 10 * k) bits))) ≡ true = tap_run words from many p edge.run in
    let whole : q % 10 ≡ 0 = tap_lock words marks r.calm from many p edge.run in
    let m = q / 10 in
    let long : m + 13 ≤ length words = omega (arith, at_e.0) in
    let word : (k : ℕ) → k < 13 → number (take 10 (drop (q + 10 * k) bits)) ≡ get_or words (m + k) 0 =
    λ k lt. ap (λ n. number (take 10 (drop n bits))) (place_of q k whole) ∙ word_is words (m + k) (omega arith) (r.below (m + k) (omega arith)) in
    let run : (k : ℕ) → k < 12 → is_control (get_or words (m + k) 0) ≡ true = λ k lt. ap is_control (sym (word k (omega arith))) ∙ controls k lt in
    let g : q + 10 * 12 ≡ e + from = omega arith in
    let next : is_control (get_or words (m + 12) 0) ≡ false =
    ap is_control (sym (word 12 (omega arith)))
    ∙ ap (λ n. is_control (number (take 10 (drop n bits)))) g
    ∙ ap (λ ys. is_control (number ys)) (sym at_e.1)
    ∙ ap is_control here.1 ∙ edge.no_control in
    (m + 11, run_ends kinds words marks alternates r m long run next, omega arith)

pub one_end : (kinds : List Kind) (words1 words2 : List ℕ) (marks1 marks2 : List Bool) → IsAlternating kinds
    → IsReceived kinds words1 marks1 → IsReceived kinds words2 marks2
    → (from1 from2 many1 many2 e1 e2 : ℕ) → AreNear from1 from2 → IsEdge (part_of words1 from1 many1) e1 → IsEdge (part_of words2 from2 many2) e2 → AreNear e1 e2
    → (i : ℕ) × (EndsAt kinds i) × (e1 + from1 ≡ 10 * (i + 1)) × (e2 + from2 ≡ 10 * (i + 1))
one_end kinds words1 words2 marks1 marks2 alternates r1 r2 from1 from2 many1 many2 e1 e2 skew edge1 edge2 near = grind (arith, edge_ends kinds words1 marks1 alternates r1 from1 many1 e1 edge1, edge_ends kinds words2 marks2 alternates r2 from2 many2 e2 edge2, cases_lt, ends_apart)

pub first_ends : (kinds : List Kind) (words1 words2 words3 : List ℕ) (marks1 marks2 marks3 : List Bool) → IsAlternating kinds
    → IsReceived kinds words1 marks1 → IsReceived kinds words2 marks2 → IsReceived kinds words3 marks3
    → (from1 from2 from3 many1 many2 many3 e1 e2 e3 : ℕ) → AreNear from1 from2 → AreNear from2 from3 → AreNear from1 from3
    → IsFirst (part_of words1 from1 many1) (part_of words2 from2 many2) (part_of words3 from3 many3) e1 e2 e3
    → (i : ℕ) × (EndsAt kinds i) × (e1 + from1 ≡ 10 * (i + 1)) × (e2 + from2 ≡ 10 * (i + 1)) × (e3 + from3 ≡ 10 * (i + 1))
first_ends kinds words1 words2 words3 marks1 marks2 marks3 alternates r1 r2 r3 from1 from2 from3 many1 many2 many3 e1 e2 e3 skew12 skew23 skew13 first =
    let t = first.triple in
    let a = one_end kinds words1 words2 marks1 marks2 alternates r1 r2 from1 from2 many1 many2 e1 e2 skew12 t.blue t.green t.blue_green in
    let b = one_end kinds words2 words3 marks2 marks3 alternates r2 r3 from2 from3 many2 many3 e2 e3 skew23 t.green t.red t.green_red in
    grind arith

one_or_none : (b : Bool) → one_if b ≤ 1
unfolding one_if
one_or_none b = grind arith

-- an unmarked word was received as it was sent
pub same_word : (sent received : List ℕ) (i : ℕ) → length received ≡ length sent → i < length sent → get_or (damaged sent received) i false ≡ false → get_or received i 0 ≡ get_or sent i 0
unfolding damaged
same_word [] ys i len lt h = absurd (omega arith)
same_word (x ∷ xs) [] i len lt h = absurd (omega arith)
same_word (x ∷ xs) (y ∷ ys) zero len lt h = grind (arith, eqb-true)
same_word (x ∷ xs) (y ∷ ys) (suc i) len lt h = same_word xs ys i (omega arith) (omega arith) h

pub length_damaged : (sent received : List ℕ) → length received ≡ length sent → length (damaged sent received) ≡ length sent
unfolding damaged
length_damaged [] ys len = refl
length_damaged (x ∷ xs) [] len = absurd (omega arith)
length_damaged (x ∷ xs) (y ∷ ys) len = ap suc (length_damaged xs ys (omega arith))

-- a column is of a control period, or it is not
pub kind_cases : (P : Type 0) (k : Kind) → (k ≡ control_column → P) → ((k ≡ control_column → ⊥) → P) → P
kind_cases P control_column f g = f refl
kind_cases P first_guard f g = g (λ c. cc)
kind_cases P second_guard f g = g (λ c. cc)
kind_cases P pixel_column f g = g (λ c. cc)
kind_cases P packet_column f g = g (λ c. cc)

pub no_guard_payload : (k : Kind) → IsGuard k → IsPayload k → ⊥
no_guard_payload k h l = grind arith

pub sparse_received : (kinds : List Kind) (sent received : List ℕ) → IsLaneSent kinds sent → IsSparseLane kinds sent received → IsReceived kinds received (damaged sent received)
sparse_received kinds sent received s h = grind (arith, length_damaged, same_word, clash, few_turns, no_guard_payload)

pub control_columns : (kinds : List Kind) (words1 words2 words3 : List ℕ) (marks1 marks2 marks3 : List Bool)
    → IsReceived kinds words1 marks1 → IsReceived kinds words2 marks2 → IsReceived kinds words3 marks3
    → ((i : ℕ) → one_if (get_or marks1 i false) + one_if (get_or marks2 i false) + one_if (get_or marks3 i false) ≤ 1)
    → (i : ℕ) → i < length words1 → i < length words2 → i < length words3 → (kind_at kinds i ≡ control_column) ↔ (2 ≤ controls_of (get_or words1 i 0) (get_or words2 i 0) (get_or words3 i 0))
unfolding one_if
control_columns kinds words1 words2 words3 marks1 marks2 marks3 r1 r2 r3 once i lt1 lt2 lt3 = grind (arith, one_or_none, sort_of)
