-- Windows of what is left of a list, and the three windows of a column.
use Rattle.std.proofs.Common.{◌≡◌, ℕ, ◌+◌, ◌-◌, ◌*◌, ◌≤◌, Bool, List, take, drop, ap, ◌∙◌, sym, arith, Option, Some, None, length-drop}
use Rattle.tmds_word.specs.Bits.{number, window}
use Rattle.tmds_word.specs.Column.{Column}
use Rattle.lane_align.proofs.Controls.{window_here, window_is}
use Rattle.lane_align.proofs.Parts.{rest_piece}
use Rattle.lane_deskew.specs.Aligned.{column_from, aligned_column}
use Rattle.link_sink.specs.Sinks.{Fed}

-- a window of what is left of a list
pub rest_window : (z : ℕ) (ys : List Bool) (p w : ℕ) → z ≤ p → window ys p ≡ Some w → window (drop z ys) (p - z) ≡ Some w
rest_window z ys p w after here =
    let is = window_is ys p w here in
    let len = length-drop z ys in
    let e : z + (p - z) ≡ p = omega arith in
    let within = is.0 in
    window_here (drop z ys) (p - z) w (λ short. omega arith) (sym (ap number (rest_piece z (p - z) ys ∙ ap (λ m. take 10 (drop m ys)) e) ∙ is.1))

pub back_window : (z : ℕ) (ys : List Bool) (q w : ℕ) → window (drop z ys) q ≡ Some w → window ys (z + q) ≡ Some w
back_window z ys q w here =
    let is = window_is (drop z ys) q w here in
    let len = length-drop z ys in
    let within = is.0 in
    window_here ys (z + q) w (λ short. omega arith) (sym is.1 ∙ ap number (rest_piece z q ys))

-- a column as its three characters
pub record HasWords (blue green red : Option ℕ) (c : Column) : Type 0 where
  pub blue_is : blue ≡ Some c.blue
  pub green_is : green ≡ Some c.green
  pub red_is : red ≡ Some c.red

column_words : (o p q : Option ℕ) (c : Column) → column_from o p q ≡ Some c → HasWords o p q c
column_words None p q c h = cc
column_words (Some b) None q c h = cc
column_words (Some b) (Some g) None c h = cc
column_words (Some b) (Some g) (Some r) c h = grind arith

pub words_of_column : (xs ys zs : List Bool) (d e f j : ℕ) (c : Column) → aligned_column xs ys zs d e f j ≡ Some c
    → HasWords (window xs (d - 120 + 10 * j)) (window ys (e - 120 + 10 * j)) (window zs (f - 120 + 10 * j)) c
unfolding aligned_column
words_of_column xs ys zs d e f j c h = column_words _ _ _ c h

-- a place has one column
pub same_column : (o : Option Column) (b c : Column) → o ≡ Some b → o ≡ Some c → b ≡ c
same_column o b c h g = grind arith

-- the columns of an alignment at the edges of another one of its skew
pub column_moved : (fed : Fed) (p q r d e f n j i : ℕ) → 120 ≤ p → 120 ≤ q → 120 ≤ r → p + 10 * n ≡ d → q + 10 * n ≡ e → r + 10 * n ≡ f → j ≡ n + i
    → aligned_column fed.blue fed.green fed.red d e f i ≡ aligned_column fed.blue fed.green fed.red p q r j
unfolding aligned_column
column_moved fed p q r d e f n j i a b c x y v at =
    let blue : d - 120 + 10 * i ≡ p - 120 + 10 * j = omega arith in
    let green : e - 120 + 10 * i ≡ q - 120 + 10 * j = omega arith in
    let red : f - 120 + 10 * i ≡ r - 120 + 10 * j = omega arith in
    λ t. column_from (window fed.blue (blue t)) (window fed.green (green t)) (window fed.red (red t))
