-- A control column has at most one word that is no control word.
use Rattle.std.proofs.Common.{◌≡◌, ℕ, ◌+◌, ◌≤◌, Bool, true, length, arith}
use Rattle.std.specs.Prelude.{nat_le}
use Rattle.tmds_word.specs.Column.{Column}
use Rattle.terc4.specs.Tables.{is_control}
use Rattle.terc4.specs.Columns.{is_control_column, one_if}
use Rattle.period_grammar.specs.Heard.{other_word}

few : (n : ℕ) (a b c : Bool) → nat_le 2 (one_if a + one_if b + one_if c) ≡ true → length (other_word 0 n a) + (length (other_word 1 n b) + length (other_word 2 n c)) ≤ 1
unfolding one_if
few n a b c h = grind arith

pub few_words : (n u v w : ℕ) (c : Column) → u ≡ c.blue → v ≡ c.green → w ≡ c.red → is_control_column c ≡ true
    → length (other_word 0 n (is_control u)) + (length (other_word 1 n (is_control v)) + length (other_word 2 n (is_control w))) ≤ 1
unfolding is_control_column
few_words n u v w c eu ev ew h = rw (eu, ev, ew) (few n (is_control c.blue) (is_control c.green) (is_control c.red) h)
