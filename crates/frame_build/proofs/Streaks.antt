-- Marks of a run, and the three newest ones.
use Rattle.std.proofs.Common.{◌≡◌, ℕ, zero, suc, min, ◌+◌, ◌<◌, List, [], ◌∷◌, ◌++◌, Bool, true, false, not, ◌&&◌, nat_le, Option, Some, None, if◌then◌else◌, replicate, ap, ◌∙◌, arith}
use Rattle.std.proofs.lemmas.Bool.{le-leb, lt-leb}
use Rattle.std.specs.Option.{option_eq}
use mathlib.Core.Bool.{beq}
use Rattle.frame_build.specs.FrameEvent.{FrameEvent, run, Mark, column, vsync_of, marks}
use Rattle.frame_build.specs.Change.{three_have, heard_at, last_heard, newer, differ}
use Rattle.frame_build.specs.State.{Sync}
use Rattle.frame_build.specs.FramesRepresent.{streak_of, IsSyncOf}

-- columns of one VSYNC lengthen the streak of that VSYNC
pub streak_of-run : (vsync : Bool) (n : ℕ) (marks : List Mark) → streak_of vsync (replicate n (column vsync) ++ marks) ≡ n + streak_of vsync marks
streak_of-run true zero marks = omega arith
streak_of-run false zero marks = omega arith
streak_of-run true (suc n) marks = ap (λ (k : ℕ). k + 1) (streak_of-run true n marks) ∙ omega arith
streak_of-run false (suc n) marks = ap (λ (k : ℕ). k + 1) (streak_of-run false n marks) ∙ omega arith

-- and end that of the other
pub streak_of-other : (vsync : Bool) (n : ℕ) (marks : List Mark) → 0 < n → streak_of (not vsync) (replicate n (column vsync) ++ marks) ≡ 0
streak_of-other vsync n marks h = grind arith

three-tests : (a b c : Bool) (n : ℕ) → (a && b && c) ≡ nat_le 3 (if a then (if b then (if c then n + 1 else 0) + 1 else 0) + 1 else 0)
three-tests a b c n = grind (arith, le-leb)

two-tests : (a b : Bool) → false ≡ nat_le 3 (if a then (if b then 0 + 1 else 0) + 1 else 0)
two-tests a b = grind arith

one-test : (a : Bool) → false ≡ nat_le 3 (if a then 0 + 1 else 0)
one-test a = grind arith

-- three columns in a row are a streak of three or more
pub three_have-streak : (vsync : Bool) (marks : List Mark) → three_have vsync marks ≡ nat_le 3 (streak_of vsync marks)
three_have-streak vsync marks = grind (arith, one-test, two-tests, three-tests)

some_if : Bool → Bool → Option Bool
some_if reported vsync = if reported then Some vsync else None

heard_at-run : (value count : ℕ) (past : List FrameEvent) → 0 < count → heard_at (run value count) past ≡ some_if (nat_le 3 (count + streak_of (vsync_of value) (marks past))) (vsync_of value)
unfolding some_if
heard_at-run value count past some = grind (arith, le-leb, three_have-streak, streak_of-run)

-- the third column in a row makes its VSYNC heard
pub heard_at-three : (value count : ℕ) (past : List FrameEvent) (streak : ℕ) → 0 < count → streak ≡ min (count + streak_of (vsync_of value) (marks past)) 3 → streak ≡ 3 → heard_at (run value count) past ≡ Some (vsync_of value)
unfolding some_if
heard_at-three value count past streak some is three =
    heard_at-run value count past some ∙ ap (λ (b : Bool). some_if b (vsync_of value)) (le-leb 3 (count + streak_of (vsync_of value) (marks past)) (omega arith))

-- and fewer do not
pub heard_at-fewer : (value count : ℕ) (past : List FrameEvent) (streak : ℕ) → 0 < count → streak ≡ min (count + streak_of (vsync_of value) (marks past)) 3 → streak < 3 → heard_at (run value count) past ≡ None
unfolding some_if
heard_at-fewer value count past streak some is fewer =
    heard_at-run value count past some ∙ ap (λ (b : Bool). some_if b (vsync_of value)) (lt-leb 3 (count + streak_of (vsync_of value) (marks past)) (omega arith))

-- a change, where the value heard before is the other one
pub differ-other : (vsync : Bool) (earlier : Option Bool) → option_eq beq earlier (Some (not vsync)) ≡ differ (Some vsync) earlier
differ-other vsync earlier = grind arith

-- the columns after a run
pub sync-run : (sync : Sync) (value count : ℕ) (past : List FrameEvent) → 0 < count → sync.level ≡ vsync_of value → sync.streak ≡ min (count + streak_of (vsync_of value) (marks past)) 3 → sync.heard ≡ newer (heard_at (run value count) past) (last_heard past) → IsSyncOf sync (run value count ∷ past)
sync-run sync value count past some level streak heard = grind (arith, streak_of-run, streak_of-other)
