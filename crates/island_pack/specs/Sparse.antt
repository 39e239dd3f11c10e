-- Sparse damage: columns as received, in which few words are unlike those that were sent.
use Rattle.std.specs.Prelude.{◌≡◌, ℕ, ◌+◌, ◌<◌, ◌≤◌, not, ◌==◌, List, ◌∷◌, length, take, drop, slice_index_or}
use Rattle.tmds_word.specs.Column.{Column, blues, greens, reds}
use Rattle.terc4.specs.Columns.{one_if}
use Rattle.island_pack.specs.Periods.{Period}
use Rattle.island_pack.specs.Spelling.{column_words}
use Rattle.island_pack.specs.Kinds.{first_guard, IsPayload, kinds_of, kind_at}

-- how many words of two lists are unlike
unfoldable pub unlike_words : List ℕ → List ℕ → ℕ
unlike_words (x ∷ xs) (y ∷ ys) = one_if (not (x == y)) + unlike_words xs ys
unlike_words _ _ = 0

-- of any eleven words in a row at most two are unlike
abbrev pub AreFew : List ℕ → List ℕ → Type 0
AreFew sent received = (i : ℕ) → i + 11 ≤ length sent → unlike_words (take 11 (drop i sent)) (take 11 (drop i received)) ≤ 2

abbrev pub no_column : Column
no_column = record { blue = 0; green = 0; red = 0 }

abbrev pub column_at : List Column → ℕ → Column
column_at columns i = slice_index_or columns i no_column

-- each word is a character
pub record IsNarrow (c : Column) : Type 0 where
  pub blue : c.blue < 1024
  pub green : c.green < 1024
  pub red : c.red < 1024

-- how many words of column i are unlike
abbrev pub unlike_at : List Column → List Column → ℕ → ℕ
unlike_at sent received i = unlike_words (column_words (column_at sent i)) (column_words (column_at received i))

-- few words of each column, of each pair of guard columns and of any eleven in a row are unlike, wherever they lie
pub record IsSparse (periods : List Period) (sent received : List Column) : Type 0 where
  pub same_length : length received ≡ length sent
  pub characters : (i : ℕ) → i < length received → IsNarrow (column_at received i)
  pub one_a_column : (i : ℕ) → unlike_at sent received i ≤ 1
  pub one_a_pair :
      (i : ℕ) → kind_at (kinds_of periods) i ≡ first_guard
      → unlike_at sent received i + unlike_at sent received (i + 1) ≤ 1
  pub few_blue : AreFew (blues sent) (blues received)
  pub few_green : AreFew (greens sent) (greens received)
  pub few_red : AreFew (reds sent) (reds received)

-- up to and with column f, columns other than those of pixels and packets were received as they were sent
abbrev pub SparesUntil : List Period → List Column → List Column → ℕ → Type 0
SparesUntil periods sent received f =
    (i : ℕ) → i ≤ f → (IsPayload (kind_at (kinds_of periods) i) → ⊥) → column_at received i ≡ column_at sent i

-- sparse damage of pixels and packets alone
pub record IsSparseInPayload (periods : List Period) (sent received : List Column) : Type 0 where
  pub sparse : IsSparse periods sent received
  pub spares : (f : ℕ) → SparesUntil periods sent received f
