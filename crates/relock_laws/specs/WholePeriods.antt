-- A control period that is received whole, said of the columns of a tap.
use Rattle.std.specs.Prelude.{◌≡◌, ℕ, ◌+◌, ◌-◌, ◌*◌, ◌<◌, ◌≤◌, List, length, drop, slice_index}
use Rattle.tmds_word.specs.Column.{Column}
use Rattle.tmds_word.specs.Taps.{AreNear}
use Rattle.island_pack.specs.Kinds.{control_column, kinds_of, kind_at}
use Rattle.island_pack.specs.Periods.{Period}
use Rattle.island_pack.specs.Sparse.{unlike_at}
use Rattle.link_sink.specs.Sinks.{Fed}
use Rattle.link_laws.specs.Laws.{EndsControl}
use Rattle.track_laws.specs.Laws.{Received}
use Rattle.relock_laws.specs.Doubted.{BeginsUntil}
use Rattle.relock_laws.specs.Settled.{IsAgain}
use Rattle.relock_laws.specs.RefutingSettled.{IsWholeGoodFrom}

-- a control period, of columns j to a + 11: nineteen at least. Three columns come before it, and fifteen after it that are no control
-- columns. All of these were received as they were sent
pub record IsWholeAmong (ps : List Period) (sent received : List Column) (j a : ℕ) : Type 0 where
  pub begins : BeginsUntil ps j (a + 11)
  pub ends : EndsControl ps (a + 11)
  pub long : j + 19 ≤ a + 12
  pub late : 3 ≤ j
  pub other : (k : ℕ) → a + 12 ≤ k → k < a + 27 → kind_at (kinds_of ps) k ≡ control_column → ⊥
  pub as_sent : (k : ℕ) → j ≤ k + 3 → k < a + 27 → unlike_at sent received k ≡ 0

-- a lane has any bits first, so many, and then those of a tap. The character of column a + 12 begins at a place of it: it has those of the
-- columns from three before column j on, and of fifteen more
pub record HasWholeLane (offset skew before j a place : ℕ) (many : ℕ) : Type 0 where
  pub at : place + offset + skew ≡ 10 * (a + 12) + before
  pub from : before + 10 * (a + 15) ≤ place + 10 * j
  pub upto : place + 160 ≤ many

-- a tap of columns received with sparse damage, wherever it lies, after any bits, has such a control period. Its end comes near each other
-- on any two lanes
pub record ComesWholeAgain (ps : List Period) (sent received : List Column) (offset : ℕ) (skews counts : List ℕ) (x fed : Fed) (before : List ℕ) (j a d e f : ℕ) : Type 0 where
  pub reception : Received ps sent received offset skews counts x
  pub blue_after : drop (slice_index before 0) fed.blue ≡ x.blue
  pub green_after : drop (slice_index before 1) fed.green ≡ x.green
  pub red_after : drop (slice_index before 2) fed.red ≡ x.red
  pub whole : IsWholeAmong ps sent received j a
  pub blue : HasWholeLane offset (slice_index skews 0) (slice_index before 0) j a d (length fed.blue)
  pub green : HasWholeLane offset (slice_index skews 1) (slice_index before 1) j a e (length fed.green)
  pub red : HasWholeLane offset (slice_index skews 2) (slice_index before 2) j a f (length fed.red)
  pub blue_green : AreNear d e
  pub green_red : AreNear e f
  pub blue_red : AreNear d f

-- the lanes have it whole then
abbrev pub WholeComesWhole : Type 0
WholeComesWhole =
    (ps : List Period) (sent received : List Column) (offset : ℕ) (skews counts : List ℕ) (x fed : Fed) (before : List ℕ) (j a d e f : ℕ)
    → ComesWholeAgain ps sent received offset skews counts x fed before j a d e f
    → IsAgain ps sent received offset skews counts x fed before a d e f × IsWholeGoodFrom fed d e f (a + 12 - j)
