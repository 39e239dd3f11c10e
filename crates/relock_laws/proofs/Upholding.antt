-- By the alignment of received columns a control period ends where one was received to end.
use Rattle.std.proofs.Common.{◌≡◌, ℕ, ◌+◌, ◌-◌, ◌<◌, ◌≤◌, List, length, ap, ◌∙◌, sym, arith, inl, inr, Some, true≢false}
use Rattle.std.proofs.lemmas.List.{length-replicate, get_or_append_left, get_or-replicate}
use Rattle.std.proofs.lemmas.Option.{slice_get-get_or, slice_get_within}
use Rattle.tmds_word.specs.Column.{Column, blues, greens, reds}
use Rattle.terc4.specs.Columns.{is_control_column}
use Rattle.lane_deskew.specs.Aligned.{aligned_column, aligned_columns}
use Rattle.lane_deskew.proofs.Listed.{columns_listed}
use Rattle.island_pack.specs.Kinds.{Kind, control_column, kind_at, EndsAt}
use Rattle.island_pack.specs.Periods.{Period}
use Rattle.island_pack.specs.Sparse.{no_column, column_at}
use Rattle.link_sink.specs.Sinks.{Fed}
use Rattle.link_laws.specs.Alternating.{IsAlternating, last, more}
use Rattle.link_laws.specs.Laws.{ReceivedFreely, EndsControl}
use Rattle.link_laws.proofs.Framing.{framing_stands}
use Rattle.link_laws.proofs.Shapes.{where_ends, ends_alone, ends_late, in_first, in_rest}
use Rattle.relock_sink.specs.Bands.{EndsPeriod}
use Rattle.relock_laws.proofs.Seen.{column_is}
use Rattle.relock_laws.proofs.Spared.{IsLaneFrom}
use Rattle.relock_laws.proofs.Windows.{words_of_column}

-- the characters of an alignment are those of received columns, from its column n on: column j is column a + j - n
pub record AreFrom (received : List Column) (x : Fed) (p q r n a : ℕ) : Type 0 where
  pub blue : IsLaneFrom (blues received) x.blue p n a
  pub green : IsLaneFrom (greens received) x.green q n a
  pub red : IsLaneFrom (reds received) x.red r n a

-- so are its columns
pub column_there : (received : List Column) (x : Fed) (p q r n a i j : ℕ) (c : Column) → AreFrom received x p q r n a → n ≤ j → i + n ≡ a + j → aligned_column x.blue x.green x.red p q r j ≡ Some c
    → (i < length received) × (column_at received i ≡ c)
column_there received x p q r n a i j c are from at is =
    let w = words_of_column x.blue x.green x.red p q r j c is in
    column_is received i c (are.blue i j c.blue from at w.blue_is) (are.green i j c.green from at w.green_is) (are.red i j c.red from at w.red_is)

own_column : (received : List Column) (x : Fed) (p q r n a i j : ℕ) → AreFrom received x p q r n a → n ≤ j → i + n ≡ a + j → j < length (aligned_columns x.blue x.green x.red p q r)
    → (i < length received) × (aligned_column x.blue x.green x.red p q r j ≡ Some (column_at received i))
own_column received x p q r n a i j are from at lt =
    let cs = aligned_columns x.blue x.green x.red p q r in
    let here = sym (columns_listed x.blue x.green x.red p q r j) ∙ slice_get-get_or cs j no_column lt in
    let is = column_there received x p q r n a i j (column_at cs j) are from at here in
    (is.0, here ∙ ap Some (sym is.1))

-- where a control period ends by it
pub ends_of : (ps : List Period) (sent received : List Column) → ReceivedFreely ps sent received → (x : Fed) (p q r n a i j : ℕ) → AreFrom received x p q r n a → n ≤ j → i + n ≡ a + j
    → EndsPeriod x p q r j → EndsControl ps i × (j + 2 < length (aligned_columns x.blue x.green x.red p q r)) × (i + 2 < length received)
ends_of ps sent received reception x p q r n a i j are from at o =
    let l = column_there received x p q r n a i j o.last are from at o.is_last in
    let g = column_there received x p q r n a (i + 1) (j + 1) o.first are (omega arith) (omega arith) o.is_first in
    let h = column_there received x p q r n a (i + 2) (j + 2) o.second are (omega arith) (omega arith) o.is_second in (
      record {
        here = (framing_stands ps sent received reception i l.0).1 (ap is_control_column l.1 ∙ o.control);
        then = λ is.
            let control = (framing_stands ps sent received reception (i + 1) g.0).0 is in
            true≢false (sym control ∙ ap is_control_column g.1 ∙ o.ends);
      },
      slice_get_within (aligned_columns x.blue x.green x.red p q r) (j + 2) o.second (columns_listed x.blue x.green x.red p q r (j + 2) ∙ o.is_second),
      h.0,
    )

-- the twelve columns up to the end of a control period are of it
pub ends_long : (kinds : List Kind) → IsAlternating kinds → (i k : ℕ) → EndsAt kinds i → k < 12 → kind_at kinds (i - k) ≡ control_column
ends_long _ (last n long) i k h lt = grind (arith, ends_alone, length-replicate, get_or_append_left, get_or-replicate)
ends_long _ (more n mid rest long m alternates) i k h lt = elim (where_ends n mid rest i m h) [
  | inl here ↦ in_first n mid rest (i - k) (omega arith)
  | inr later ↦ grind (arith, ends_late rest alternates later.at later.ends, in_rest n mid rest (later.at - k), ends_long rest alternates)
]
