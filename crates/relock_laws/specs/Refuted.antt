-- When an alignment is refuted: never a true one, and each other one at a good control period by which no period opens.
use Rattle.std.specs.Prelude.{◌≡◌, ◌⊎◌, ℕ, ◌+◌, ◌*◌, ◌<◌, Bool, true, false, List, length, Some}
use Rattle.tmds_word.specs.Bits.{window}
use Rattle.tmds_word.specs.Column.{Column}
use Rattle.tmds_word.specs.Taps.{HasSmallSkew}
use Rattle.terc4.specs.Tables.{is_control}
use Rattle.terc4.specs.Columns.{is_control_column}
use Rattle.island_pack.specs.Periods.{Period}
use Rattle.island_pack.specs.Sparse.{column_at, IsSparseInPayload}
use Rattle.period_grammar.specs.Heard.{neither, opened}
use Rattle.lane_deskew.specs.Triples.{IsTriple}
use Rattle.lane_deskew.specs.Aligned.{aligned_column}
use Rattle.link_sink.specs.Sinks.{Fed}
use Rattle.link_laws.specs.Laws.{ReceivedFreely, AlignsUntil}
use Rattle.track_laws.specs.Laws.{Received}
use Rattle.relock_sink.specs.Bands.{AtEdges}
use Rattle.relock_sink.specs.Rivals.{IsConfirmed, HaveSameSkew, IsRefuted, columns_before, is_guard_band}
use Rattle.relock_laws.specs.Settled.{EndsNineteen}

-- A true alignment.

-- where sparse damage lies, wherever it lies: a period opens after each control period that was received to end
abbrev pub EndsOpen : Type 0
EndsOpen =
    (ps : List Period) (sent received : List Column) → ReceivedFreely ps sent received
    → (i : ℕ) → i + 2 < length received → is_control_column (column_at received i) ≡ true → is_control_column (column_at received (i + 1)) ≡ false
    → opened (column_at received (i + 1)) (column_at received (i + 2)) ≡ neither → ⊥

-- so the alignment of a tap whose damage lies in pixels and packets alone is refuted by no edges
abbrev pub PayloadStands : Type 0
PayloadStands =
    (ps : List Period) (sent received : List Column) (offset : ℕ) (skews counts : List ℕ) (x : Fed) → Received ps sent received offset skews counts x
    → IsSparseInPayload ps sent received → HasSmallSkew skews
    → (p q r d e f : ℕ) → IsRefuted x p q r d e f → ⊥

-- nor is it where damage is sparse, wherever it lies, and spares control and guard words until a column that each lane has
abbrev pub UntilStands : Type 0
UntilStands =
    (ps : List Period) (sent received : List Column) (offset : ℕ) (skews counts : List ℕ) (x : Fed) → Received ps sent received offset skews counts x
    → HasSmallSkew skews → (until : ℕ) → AlignsUntil ps sent received offset skews counts until
    → (p q r d e f : ℕ) → IsRefuted x p q r d e f → ⊥

-- Another alignment.

-- sixteen whole characters from an edge on, the first fifteen of which are no control words
pub record GoesOn (xs : List Bool) (e : ℕ) : Type 0 where
  pub whole : (k : ℕ) → k < 16 → (w : ℕ) × (window xs (e + 10 * k) ≡ Some w)
  pub payload : (k w : ℕ) → k < 15 → window xs (e + 10 * k) ≡ Some w → is_control w ≡ false

-- a control period of nineteen characters ends at the edges of three lanes, a guard band is received whole there, and no control
-- words follow on any lane
pub record IsWholePeriod (fed : Fed) (d e f : ℕ) : Type 0 where
  pub triple : IsTriple fed.blue fed.green fed.red d e f
  pub blue : EndsNineteen fed.blue d
  pub green : EndsNineteen fed.green e
  pub red : EndsNineteen fed.red f
  pub blue_on : GoesOn fed.blue d
  pub green_on : GoesOn fed.green e
  pub red_on : GoesOn fed.red f
  pub band : AtEdges is_guard_band true fed d e f

-- by an alignment something opens with a column
pub record OpensAt (fed : Fed) (p q r j : ℕ) : Type 0 where
  pub first : Column
  pub second : Column
  pub is_first : aligned_column fed.blue fed.green fed.red p q r j ≡ Some first
  pub is_second : aligned_column fed.blue fed.green fed.red p q r (j + 1) ≡ Some second
  pub something : opened first second ≡ neither → ⊥

-- an earlier alignment with another skew is refuted there, or by it too something opens
abbrev pub PeriodRefutes : Type 0
PeriodRefutes =
    (fed : Fed) (p q r d e f : ℕ) → IsConfirmed fed p q r → IsWholePeriod fed d e f → p < d → q < e → r < f → (HaveSameSkew p q r d e f → ⊥)
    → IsRefuted fed p q r d e f ⊎ OpensAt fed p q r (12 + columns_before p q r d e f)
