-- The columns of an alignment from later edges of its skew on are those of an alignment there.
use Rattle.std.proofs.Common.{◌≡◌, ℕ, suc, zero, ◌+◌, ◌-◌, ◌*◌, ◌/◌, ◌≤◌, List, [], ◌∷◌, length, drop, refl, ap, ◌∙◌, sym, subst, arith, inl, inr, Some, None, slice_get}
use Rattle.std.proofs.lemmas.Option.{slice_get_within}
use Rattle.lane_deskew.specs.Aligned.{aligned_columns}
use Rattle.lane_deskew.proofs.Listed.{columns_listed}
use Rattle.link_laws.specs.Laws.{IsAccounted}
use Rattle.link_laws.proofs.Freely.{free_received}
use Rattle.link_sink.specs.Sinks.{Fed}
use Rattle.track_sink.specs.Epochs.{rest_of}
use Rattle.relock_laws.specs.RefutingSettled.{SameSkewIsAccounted}
use Rattle.relock_laws.proofs.AccountEnds.{ends_accounted}
use Rattle.relock_laws.proofs.Again.{accounted}
use Rattle.relock_laws.proofs.Refuting.{whole_apart}
use Rattle.relock_laws.proofs.RefutingSettling.{late_by}
use Rattle.relock_laws.proofs.Settling.{column_at, least_of, have_last, triple_at}
use Rattle.relock_laws.proofs.Windows.{column_moved}

-- what is left of a list has its later elements
get_left : {X : Type 0} (n : ℕ) (xs : List X) (j i : ℕ) → i ≡ n + j → slice_get (drop n xs) j ≡ slice_get xs i
get_left zero xs j i at = let same : j ≡ i = omega arith in ap (slice_get xs) same
get_left (suc n) [] j i at = refl
get_left (suc n) (x ∷ xs) j zero at = absurd (omega arith)
get_left (suc n) (x ∷ xs) j (suc i) at = get_left n xs j i (omega arith)

-- lists with the same elements are the same
all_same : {X : Type 0} (xs ys : List X) → ((j : ℕ) → slice_get xs j ≡ slice_get ys j) → xs ≡ ys
all_same [] [] h = refl
all_same [] (y ∷ ys) h = let none : None ≡ Some y = h 0 in cc
all_same (x ∷ xs) [] h = let none : Some x ≡ None = h 0 in cc
all_same (x ∷ xs) (y ∷ ys) h =
    let first : Some x ≡ Some y = h 0 in
    let head : x ≡ y = cc in
    let tail = all_same xs ys (λ j. h (suc j)) in
    λ i. head i ∷ tail i

pub columns_left : (fed : Fed) (p q r d e f n : ℕ) → 120 ≤ p → 120 ≤ q → 120 ≤ r → p + 10 * n ≡ d → q + 10 * n ≡ e → r + 10 * n ≡ f
    → drop n (aligned_columns fed.blue fed.green fed.red p q r) ≡ aligned_columns fed.blue fed.green fed.red d e f
columns_left fed p q r d e f n a b c x y v =
    all_same (drop n (aligned_columns fed.blue fed.green fed.red p q r)) (aligned_columns fed.blue fed.green fed.red d e f) (λ j.
    get_left n (aligned_columns fed.blue fed.green fed.red p q r) j (n + j) refl ∙ columns_listed fed.blue fed.green fed.red p q r (n + j)
    ∙ sym (column_moved fed p q r d e f n (n + j) j a b c x y v refl) ∙ sym (columns_listed fed.blue fed.green fed.red d e f j))

pub same_skew_is_accounted : SameSkewIsAccounted
same_skew_is_accounted ps sent received offset skews counts x fed before a d e f again z p q r is same =
    let good = again.good in
    let h = have_last fed d e f z good is.begins (late_by fed z (least_of d e f) is.ends) in
    let own = triple_at fed d e f z good h in
    let t = is.first.triple in
    let past_b = t.blue.past in
    let past_g = t.green.past in
    let past_r = t.red.past in
    let even = whole_apart (drop z fed.blue) p (d - z) t.blue own.blue in
    let s0 = same.0 in
    let s1 = same.1 in
    let begins = is.begins in
    let upto : z + p ≤ d = elim is.place [
      | inl at ↦ let b = at.0 in omega arith
      | inr far ↦ let b = far.0 in omega arith
    ] in
    let n = (d - z - p) / 10 in
    let b : p + 10 * n ≡ d - z = omega arith in
    let g : q + 10 * n ≡ e - z = omega arith in
    let v : r + 10 * n ≡ f - z = omega arith in
    let left = columns_left (rest_of z fed) p q r (d - z) (e - z) (f - z) n (omega arith) (omega arith) (omega arith) b g v in
    let columns = aligned_columns (drop z fed.blue) (drop z fed.green) (drop z fed.red) p q r in
    let told = subst (λ cs. IsAccounted ps sent received cs a) (sym left) (accounted ps sent received offset skews counts x fed before a d e f z again (omega arith) (omega arith) (omega arith)) in
    let twelfth = columns_listed (drop z fed.blue) (drop z fed.green) (drop z fed.red) (d - z) (e - z) (f - z) 12
    ∙ column_at fed d e f z (d - z) (e - z) (f - z) 12 good.opens.here (omega arith) (omega arith) (omega arith) (omega arith) (omega arith) (omega arith) good.opens.is_here in
    let long = slice_get_within (aligned_columns (drop z fed.blue) (drop z fed.green) (drop z fed.red) (d - z) (e - z) (f - z)) 12 good.opens.here twelfth in
    let same = ap length left in
    (n, omega arith, told, ends_accounted ps sent received (free_received ps sent received again.reception.reception) columns n a told.ends told.columns (omega arith))
