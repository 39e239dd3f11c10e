-- Edges that a search has reached, and the triple whose largest edge is least.
use Rattle.std.proofs.Common.{◌≡◌, ℕ, ◌+◌, ◌≤◌, arith}
use Rattle.std.proofs.lemmas.Bool.{cases_lt}
use Rattle.lane_deskew.specs.Triples.{AreTriple, AreFirst}
use Rattle.tmds_word.specs.Taps.{AreNear}
use Rattle.lane_deskew.specs.Candidates.{AreAllNear, HaveReached}

-- near edges that are reached are first
pub near_first : (A B C : ℕ → Type 0) (d e f : ℕ) → HaveReached A B C d e f → AreAllNear d e f → AreFirst A B C d e f
near_first A B C d e f reached near = grind arith

-- edges around one that is the least are near where all are near it
all_near : (d e f p q r : ℕ) → d ≤ e → d ≤ f → p ≡ d → e ≤ q → f ≤ r → AreNear p q → AreNear p r → AreAllNear d e f
all_near d e f p q r le_e le_f same le_q le_r near_q near_r = grind arith

-- the least of three edges that are not near is in no triple
past_first : (A B C : ℕ → Type 0) (d e f p q r : ℕ) → HaveReached A B C d e f → (AreAllNear d e f → ⊥) → d ≤ e → d ≤ f → AreTriple A B C p q r → d + 1 ≤ p
past_first A B C d e f p q r reached far le_e le_f t = grind (arith, cases_lt, all_near)

swap : (d e : ℕ) → AreNear d e → AreNear e d
swap d e near = (near.1, near.0)

past_second : (A B C : ℕ → Type 0) (d e f p q r : ℕ) → HaveReached A B C d e f → (AreAllNear d e f → ⊥) → e ≤ d → e ≤ f → AreTriple A B C p q r → e + 1 ≤ q
past_second A B C d e f p q r reached far le_d le_f t = grind (arith, cases_lt, all_near, swap)

past_third : (A B C : ℕ → Type 0) (d e f p q r : ℕ) → HaveReached A B C d e f → (AreAllNear d e f → ⊥) → f ≤ d → f ≤ e → AreTriple A B C p q r → f + 1 ≤ r
past_third A B C d e f p q r reached far le_d le_e t = grind (arith, cases_lt, all_near, swap)

-- the least of far edges goes on to its lane's next
pub on_first : (A B C : ℕ → Type 0) (d e f n : ℕ) → HaveReached A B C d e f → (AreAllNear d e f → ⊥) → d ≤ e → d ≤ f
    → A n → ((p : ℕ) → d + 1 ≤ p → A p → n ≤ p) → HaveReached A B C n e f
on_first A B C d e f n reached far le_e le_f here least = grind (arith, past_first)

pub on_second : (A B C : ℕ → Type 0) (d e f n : ℕ) → HaveReached A B C d e f → (AreAllNear d e f → ⊥) → e ≤ d → e ≤ f
    → B n → ((q : ℕ) → e + 1 ≤ q → B q → n ≤ q) → HaveReached A B C d n f
on_second A B C d e f n reached far le_d le_f here least = grind (arith, past_second)

pub on_third : (A B C : ℕ → Type 0) (d e f n : ℕ) → HaveReached A B C d e f → (AreAllNear d e f → ⊥) → f ≤ d → f ≤ e
    → C n → ((r : ℕ) → f + 1 ≤ r → C r → n ≤ r) → HaveReached A B C d e n
on_third A B C d e f n reached far le_d le_e here least = grind (arith, past_third)

-- where its lane has no next, there is no triple
pub no_first : (A B C : ℕ → Type 0) (d e f : ℕ) → HaveReached A B C d e f → (AreAllNear d e f → ⊥) → d ≤ e → d ≤ f
    → ((p : ℕ) → d + 1 ≤ p → A p → ⊥) → (p q r : ℕ) → AreTriple A B C p q r → ⊥
no_first A B C d e f reached far le_e le_f none p q r t = none p (past_first A B C d e f p q r reached far le_e le_f t) t.blue

pub no_second : (A B C : ℕ → Type 0) (d e f : ℕ) → HaveReached A B C d e f → (AreAllNear d e f → ⊥) → e ≤ d → e ≤ f
    → ((q : ℕ) → e + 1 ≤ q → B q → ⊥) → (p q r : ℕ) → AreTriple A B C p q r → ⊥
no_second A B C d e f reached far le_d le_f none p q r t = none q (past_second A B C d e f p q r reached far le_d le_f t) t.green

pub no_third : (A B C : ℕ → Type 0) (d e f : ℕ) → HaveReached A B C d e f → (AreAllNear d e f → ⊥) → f ≤ d → f ≤ e
    → ((r : ℕ) → f + 1 ≤ r → C r → ⊥) → (p q r : ℕ) → AreTriple A B C p q r → ⊥
no_third A B C d e f reached far le_d le_e none p q r t = none r (past_third A B C d e f p q r reached far le_d le_e t) t.red
