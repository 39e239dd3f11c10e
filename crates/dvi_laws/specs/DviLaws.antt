-- What holds of streams without guard bands.
use Rattle.std.specs.Prelude.{◌≡◌, ℕ, ◌+◌, ◌*◌, ◌≤◌, Bool, List, [], ◌∷◌, length, take, drop}
use Rattle.tmds_word.specs.Column.{Column, blues, greens, reds}
use Rattle.tmds_word.specs.Taps.{part_of, AreNear, IsTap, HasSmallSkew}
use Rattle.island_pack.specs.Periods.{Period}
use Rattle.island_pack.specs.Kinds.{Kind, first_guard, pixel_column, kind_at, EndsAt}
use Rattle.island_pack.specs.Sparse.{column_at, unlike_at}
use Rattle.lane_align.specs.Lanes.{IsEdge}
use Rattle.lane_deskew.specs.Triples.{IsFirst}
use Rattle.lane_deskew.specs.Aligned.{aligned_columns}
use Rattle.source_end.specs.DviPeriods.{IsDviConforming, DviSpells, dvi_kinds, IsDviSparse, HasThree}
use Rattle.dvi_hearing.specs.DviHeard.{dvi_heard}
use Rattle.link_laws.specs.Laws.{BeginColumn}
use Rattle.dvi_laws.specs.DviAccount.{dvi_account}

-- what is reported of the columns received from twelve before the end of a control period on is the account. Of damage
-- only this is asked, that no column has two damaged words
abbrev pub DviLinkLaw : Type 0
DviLinkLaw =
    (ps : List Period) (sent received : List Column) → IsDviConforming ps → HasThree ps → DviSpells ps sent
    → length received ≡ length sent → ((i : ℕ) → unlike_at sent received i ≤ 1)
    → (a m : ℕ) → EndsAt (dvi_kinds ps) (a + 11) → dvi_heard (take m (drop a received)) ≡ dvi_account ps sent received a m

-- each edge in a part of a lane's bits is the end of a control period
pub record DviEnds (ps : List Period) (words : List ℕ) : Type 0 where
  pub edges : (from many e : ℕ) → IsEdge (part_of words from many) e → (i : ℕ) × EndsAt (dvi_kinds ps) i × (e + from ≡ 10 * (i + 1))

abbrev pub DviEdgesEnd : Type 0
DviEdgesEnd =
    (ps : List Period) (sent received : List Column) → IsDviConforming ps → HasThree ps → DviSpells ps sent → IsDviSparse ps sent received
    → DviEnds ps (blues received) × DviEnds ps (greens received) × DviEnds ps (reds received)

-- two ends are at least 150 bits apart, so 80 after a skew of 70
abbrev pub DviEndsApart : Type 0
DviEndsApart =
    (ps : List Period) → IsDviConforming ps → HasThree ps
    → (i j : ℕ) → EndsAt (dvi_kinds ps) i → EndsAt (dvi_kinds ps) j → (i + 1 ≤ j) → i + 15 ≤ j

-- the first full alignment of three lanes with skews of at most 70 bits is the end of one control period on all lanes
abbrev pub DviFirstEnds : Type 0
DviFirstEnds =
    (ps : List Period) (sent received : List Column) → IsDviConforming ps → HasThree ps → DviSpells ps sent → IsDviSparse ps sent received
    → (from1 from2 from3 many1 many2 many3 d e f : ℕ) → AreNear from1 from2 → AreNear from2 from3 → AreNear from1 from3
    → IsFirst (part_of (blues received) from1 many1) (part_of (greens received) from2 many2) (part_of (reds received) from3 many3) d e f
    → (i : ℕ) × EndsAt (dvi_kinds ps) i × (d + from1 ≡ 10 * (i + 1)) × (e + from2 ≡ 10 * (i + 1)) × (f + from3 ≡ 10 * (i + 1))

-- From the bits to the account: the aligned columns begin twelve columns before the end of a control period, and what is
-- reported of them is the account from there on. The lanes' edges are where the column after that period begins.
pub record IsDviAccounted (ps : List Period) (sent received aligned : List Column) (a : ℕ) : Type 0 where
  pub ends : EndsAt (dvi_kinds ps) (a + 11)
  pub columns : aligned ≡ take (length aligned) (drop a received)
  pub reported : dvi_heard aligned ≡ dvi_account ps sent received a (length aligned)

abbrev pub DviTapAccounted : Type 0
DviTapAccounted =
    (ps : List Period) (sent received : List Column) → IsDviConforming ps → HasThree ps → DviSpells ps sent → IsDviSparse ps sent received
    → (offset : ℕ) (skews counts : List ℕ) (blue green red : List Bool) → IsTap received offset skews counts blue green red → HasSmallSkew skews
    → (d e f : ℕ) → IsFirst blue green red d e f
    → (a : ℕ) × IsDviAccounted ps sent received (aligned_columns blue green red d e f) a × BeginColumn offset skews (a + 12) d e f

-- Examples.

-- a column of a kind was received unlike the one that was sent
abbrev pub HasDviUnlike : Kind → List Period → List Column → List Column → Type 0
HasDviUnlike kind ps sent received = (i : ℕ) × (kind_at (dvi_kinds ps) i ≡ kind) × (column_at received i ≡ column_at sent i → ⊥)

-- damage of a first pixel and of another one, and a tap with the greatest skew that has a first full alignment
pub record IsDviExample (ps : List Period) (sent received : List Column) (counts : List ℕ) (blue green red : List Bool) (d e f : ℕ) : Type 0 where
  pub conforming : IsDviConforming ps
  pub three : HasThree ps
  pub spelled : DviSpells ps sent
  pub sparse : IsDviSparse ps sent received
  pub first_pixel : HasDviUnlike first_guard ps sent received
  pub pixel : HasDviUnlike pixel_column ps sent received
  pub tapped : IsTap received 7 (0 ∷ 70 ∷ 35 ∷ []) counts blue green red
  pub small : HasSmallSkew (0 ∷ 70 ∷ 35 ∷ [])
  pub first : IsFirst blue green red d e f

-- there are such a stream and such a tap
abbrev pub HasDviExample : Type 0
HasDviExample =
    (ps : List Period) × (sent received : List Column) × (counts : List ℕ) × (blue green red : List Bool) × (d e f : ℕ)
    × IsDviExample ps sent received counts blue green red d e f
