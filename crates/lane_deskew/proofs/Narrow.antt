-- Characters of ten bits stay so where some are kept.
use Rattle.std.proofs.Common.{◌≡◌, ℕ, ◌<◌, ◌≤◌, ap, arith, length-append, List, ◌++◌, length, take, drop, subst}
use Rattle.std.proofs.Math.Seq.{drop-append_seam, take-append_seam}
use Rattle.std.proofs.lemmas.List.Elements.{All-append, All-take, All-drop}
use Rattle.lane_align.specs.Words.{AreWords}

pub words_after : (ring row : List ℕ) → AreWords (ring ++ row) → AreWords row
words_after ring row small = subst AreWords (drop-append_seam ring row) (All-drop (λ w. w < 1024) (length ring) (ring ++ row) small)

words_before : (ring row : List ℕ) → AreWords (ring ++ row) → AreWords ring
words_before ring row small = subst AreWords (take-append_seam ring row) (All-take (λ w. w < 1024) (length ring) (ring ++ row) small)

pub words_joined : (xs ys : List ℕ) → AreWords xs → AreWords ys → AreWords (xs ++ ys)
words_joined = All-append (λ w. w < 1024)

-- with some of the row alone
pub words_kept : (ring row part : List ℕ) → AreWords (ring ++ row) → AreWords part → AreWords (ring ++ part)
words_kept ring row part small few = words_joined ring part (words_before ring row small) few

pub words_taken : (n : ℕ) (xs : List ℕ) → AreWords xs → AreWords (take n xs)
words_taken = All-take (λ w. w < 1024)

pub words_dropped : (n : ℕ) (xs : List ℕ) → AreWords xs → AreWords (drop n xs)
words_dropped = All-drop (λ w. w < 1024)

-- with fewer in the row there are not more
pub still_within : (ring row after part : List ℕ) (n : ℕ) → after ≡ ring → length part ≤ length row → length (ring ++ row) ≤ n → length (after ++ part) ≤ n
still_within ring row after part n same fewer within = omega (arith, length-append ring row, length-append after part, ap length same)
