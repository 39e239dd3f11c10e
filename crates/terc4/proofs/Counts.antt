-- Guard columns, by how many of their words are right.
use Rattle.std.proofs.Common.{arith, ◌≡◌, ℕ, ◌+◌, Bool, ◌&&◌, ◌==◌, ap, ◌∙◌}
use Rattle.tmds_word.specs.Column.{Column}
use Rattle.terc4.specs.Columns.{one_if, is_video_guard, is_island_guard, video_words, closing_words, island_words}

three : (a b c : Bool) → (one_if a + one_if b + one_if c == 3) ≡ (a && (b && c))
unfolding one_if
three a b c = grind arith

one_and_two : (a b c : Bool) → (one_if a + (one_if b + one_if c) == 3) ≡ (a && (b && c))
unfolding one_if
one_and_two a b c = grind arith

pub video_guard_words : (c : Column) → (video_words c == 3) ≡ is_video_guard c
unfolding video_words is_video_guard
video_guard_words c = three _ _ _

pub island_guard_words : (c : Column) → (island_words c == 3) ≡ is_island_guard c
unfolding island_words closing_words is_island_guard
island_guard_words c = one_and_two _ _ _

-- of a number that was counted
pub video_counted : (c : Column) (n : ℕ) → n ≡ video_words c → (n == 3) ≡ is_video_guard c
video_counted c n e = ap (λ m. m == 3) e ∙ video_guard_words c

pub island_counted : (c : Column) (n : ℕ) → n ≡ island_words c → (n == 3) ≡ is_island_guard c
island_counted c n e = ap (λ m. m == 3) e ∙ island_guard_words c
