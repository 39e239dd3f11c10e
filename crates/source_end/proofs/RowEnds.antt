-- Rows that lie one after the other: how many they are, each of them, and one more.
use Rattle.std.proofs.Common.{◌≡◌, ℕ, zero, suc, ◌+◌, ◌-◌, ◌≤◌, ◌<◌, List, [], ◌∷◌, ◌++◌, length, get_or, take, drop, refl, ap, ap₂, ◌∙◌, arith, length-drop}
use Rattle.std.proofs.Math.Seq.{drop-append_seam, take-length}
use Rattle.std.proofs.lemmas.List.{take-append-le, drop-append-le}
use Rattle.source_end.specs.Rows.{rows_between, AreEnds}

pub length-rows : (from : ℕ) (bytes ends : List ℕ) → length (rows_between from bytes ends) ≡ length ends
length-rows from bytes [] = refl
length-rows from bytes (e ∷ ends) = ap (λ n. suc n) (length-rows e bytes ends)

-- a row begins where the one before it ends
pub row_between : (from : ℕ) (bytes ends : List ℕ) (i : ℕ) (d : List ℕ) → i < length ends
    → get_or (rows_between from bytes ends) i d ≡ take (get_or ends i 0 - get_or (from ∷ ends) i 0) (drop (get_or (from ∷ ends) i 0) bytes)
row_between from bytes [] i d lt = absurd (omega arith)
row_between from bytes (e ∷ ends) zero d lt = refl
row_between from bytes (e ∷ ends) (suc i) d lt = let lt' : i < length ends = omega arith in row_between e bytes ends i d lt'

last_end : (from : ℕ) (ends : List ℕ) (n : ℕ) → AreEnds from ends n → from ≤ n
last_end from [] n h = omega (arith, h)
last_end from (e ∷ ends) n h = omega (arith, h.0, last_end e ends n h.1)

pub ends_rise : (from : ℕ) (ends : List ℕ) (n i : ℕ) → AreEnds from ends n → i < length ends → (get_or (from ∷ ends) i 0 ≤ get_or ends i 0) × (get_or ends i 0 ≤ n)
ends_rise from [] n i h lt = absurd (omega arith)
ends_rise from (e ∷ ends) n zero h lt = (h.0, last_end e ends n h.1)
ends_rise from (e ∷ ends) n (suc i) h lt = let lt' : i < length ends = omega arith in ends_rise e ends n i h.1 lt'

pub ends_more : (from : ℕ) (ends : List ℕ) (n m : ℕ) → AreEnds from ends n → n ≤ m → AreEnds from (ends ++ m ∷ []) m
ends_more from [] n m h le = (omega (arith, h, le), refl)
ends_more from (e ∷ ends) n m h le = (h.0, ends_more e ends n m h.1 le)

last_row : (from : ℕ) (bytes row : List ℕ) (m : ℕ) → from ≡ length bytes → m ≡ length bytes + length row → take (m - from) (drop from (bytes ++ row)) ≡ row
last_row from bytes row m e is =
    let k : m - from ≡ length row = omega (arith, e, is) in
    ap₂ (λ n xs. take n xs) k (ap (λ n. drop n (bytes ++ row)) e ∙ drop-append_seam bytes row) ∙ take-length row

pub rows_more : (from : ℕ) (bytes ends row : List ℕ) (m : ℕ) → AreEnds from ends (length bytes) → m ≡ length bytes + length row
    → rows_between from (bytes ++ row) (ends ++ m ∷ []) ≡ rows_between from bytes ends ++ row ∷ []
rows_more from bytes [] row m h is = ap (λ (r : List ℕ). r ∷ []) (last_row from bytes row m h is)
rows_more from bytes (e ∷ ends) row m h is = grind (arith, last_end, length-drop, drop-append-le, take-append-le, rows_more e bytes ends row m)
