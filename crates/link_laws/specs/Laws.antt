-- What holds of columns received with sparse damage: where their edges and first full alignment are, how they are cut,
-- and what is reported of them.
use Rattle.std.specs.Prelude.{◌≡◌, ◌↔◌, ℕ, ◌+◌, ◌*◌, ◌<◌, ◌≤◌, Bool, true, false, not, List, [], ◌∷◌, map, length, take, drop, slice_index}
use Rattle.tmds_word.specs.Column.{Column, blues, greens, reds}
use Rattle.tmds_word.specs.Taps.{part_of, IsTap, HasSmallSkew}
use Rattle.terc4.specs.Columns.{is_control_column, one_if}
use Rattle.lane_align.specs.Lanes.{IsEdge}
use Rattle.lane_deskew.specs.Triples.{IsFirst}
use Rattle.lane_deskew.specs.Aligned.{aligned_columns}
use Rattle.island_pack.specs.Nibbles.{header_bits, body_bits}
use Rattle.island_pack.specs.Packets.{Carries}
use Rattle.island_pack.specs.Periods.{Period, period_columns}
use Rattle.island_pack.specs.Conforming.{IsConforming}
use Rattle.island_pack.specs.Spelling.{column_words, Spells, SpellsBy, freely}
use Rattle.island_pack.specs.Kinds.{Kind, control_column, first_guard, second_guard, pixel_column, packet_column, kinds_of, kind_at, EndsAt, IsAfterControl}
use Rattle.island_pack.specs.Sparse.{column_at, IsSparse, SparesUntil, IsSparseInPayload}
use Rattle.island_pack.specs.declared.packet.Packet.{Packet}
use Rattle.period_grammar.specs.Cut.{Stretch as Cut, stretch as cut, stretches}
use Rattle.period_grammar.specs.Heard.{heard}
use Rattle.link_laws.specs.Account.{damage, account}

-- column i is the last one of a control period
abbrev pub EndsControl : List Period → ℕ → Type 0
EndsControl ps i = EndsAt (kinds_of ps) i

-- columns that spell conforming periods, and columns of them received with sparse damage, wherever it lies
pub record ReceivedOf (ps : List Period) (sent received : List Column) : Type 0 where
  pub conforming : IsConforming ps
  pub spelled : Spells ps sent
  pub sparse : IsSparse ps sent received

-- the same where bit 3 of lane 0 in packet columns is free in the columns that were sent, as a sink does not judge it. Columns
-- that a source spells are one case; columns of which no fault is reported are another, with what was received for what was sent
pub record ReceivedFreely (ps : List Period) (sent received : List Column) : Type 0 where
  pub conforming : IsConforming ps
  pub spelled : SpellsBy freely ps sent
  pub sparse : IsSparse ps sent received

-- The framing.

-- the received control columns are those of the control periods
abbrev pub FramingStands : Type 0
FramingStands =
    (ps : List Period) (sent received : List Column) → ReceivedFreely ps sent received
    → (i : ℕ) → i < length received → (kind_at (kinds_of ps) i ≡ control_column) ↔ (is_control_column (column_at received i) ≡ true)

-- each control period's columns with those of the period after it
unfoldable pub cut_as : List Period → List Column → List Cut
cut_as [] cs = []
cut_as (p ∷ []) cs = cut cs [] ∷ []
cut_as (p ∷ (q ∷ ps)) cs =
    cut (take (period_columns p) cs) (take (period_columns q) (drop (period_columns p) cs))
    ∷ cut_as ps (drop (period_columns q) (drop (period_columns p) cs))

-- the received columns are cut where the periods are
abbrev pub PeriodsStand : Type 0
PeriodsStand = (ps : List Period) (sent received : List Column) → ReceivedFreely ps sent received → stretches received ≡ cut_as ps received

-- What is reported.

-- what is reported of columns from twelve before the end of a control period on is the account. Damage may lie
-- anywhere, in the first control period too
abbrev pub LinkLaw : Type 0
LinkLaw =
    (ps : List Period) (sent received : List Column) → ReceivedFreely ps sent received
    → (a m : ℕ) → EndsControl ps (a + 11) → heard (take m (drop a received)) ≡ account ps sent received a m

-- The alignment.

-- edges of three lanes of a tap at which column i begins
pub record BeginColumn (offset : ℕ) (skews : List ℕ) (i d e f : ℕ) : Type 0 where
  pub blue : d + offset + slice_index skews 0 ≡ 10 * i
  pub green : e + offset + slice_index skews 1 ≡ 10 * i
  pub red : f + offset + slice_index skews 2 ≡ 10 * i

-- each edge in a part of a lane's bits is the end of a control period
pub record AreEnds (ps : List Period) (words : List ℕ) : Type 0 where
  pub edges : (from many e : ℕ) → IsEdge (part_of words from many) e → (i : ℕ) × EndsControl ps i × (e + from ≡ 10 * (i + 1))

-- where damage lies in pixels and packets alone
abbrev pub EdgesEnd : Type 0
EdgesEnd =
    (ps : List Period) (sent received : List Column) → ReceivedFreely ps sent received → IsSparseInPayload ps sent received
    → AreEnds ps (blues received) × AreEnds ps (greens received) × AreEnds ps (reds received)

-- where damage lies in pixels and packets alone, the first full alignment of a tap is the end of one control period on
-- all lanes
abbrev pub FirstEnds : Type 0
FirstEnds =
    (ps : List Period) (sent received : List Column) → ReceivedFreely ps sent received → IsSparseInPayload ps sent received
    → (offset : ℕ) (skews counts : List ℕ) (blue green red : List Bool) → IsTap received offset skews counts blue green red → HasSmallSkew skews
    → (d e f : ℕ) → IsFirst blue green red d e f → (i : ℕ) × EndsControl ps i × BeginColumn offset skews (i + 1) d e f

-- each lane of a tap has the bits of column i and of the twelve columns before it
pub record HoldsEnd (offset : ℕ) (skews counts : List ℕ) (i : ℕ) : Type 0 where
  pub begins : (lane : ℕ) → lane < 3 → offset + slice_index skews lane + 120 ≤ 10 * i
  pub reaches : (lane : ℕ) → lane < 3 → 10 * i + 10 ≤ offset + slice_index skews lane + slice_index counts lane

-- what is asked of damage and of a tap so that its lanes are aligned at or before column i: that column is the first one
-- after a control period, damage spares control and guard words until there, and each lane has the control words before
pub record AlignsUntil (ps : List Period) (sent received : List Column) (offset : ℕ) (skews counts : List ℕ) (i : ℕ) : Type 0 where
  pub after : IsAfterControl (kinds_of ps) i
  pub spares : SparesUntil ps sent received i
  pub holds : HoldsEnd offset skews counts i

-- there is then a first full alignment, and it is the end of one control period on all lanes, at or before that column
abbrev pub FirstUntil : Type 0
FirstUntil =
    (ps : List Period) (sent received : List Column) → ReceivedFreely ps sent received
    → (offset : ℕ) (skews counts : List ℕ) (blue green red : List Bool) → IsTap received offset skews counts blue green red → HasSmallSkew skews
    → (until : ℕ) → AlignsUntil ps sent received offset skews counts until
    → (d e f : ℕ) × IsFirst blue green red d e f × ((i : ℕ) × EndsControl ps i × (i + 1 ≤ until) × BeginColumn offset skews (i + 1) d e f)

-- From the bits to the account.

-- the account of aligned columns: they begin twelve columns before the end of a control period
pub record IsAccounted (ps : List Period) (sent received : List Column) (aligned : List Column) (a : ℕ) : Type 0 where
  pub ends : EndsControl ps (a + 11)
  pub columns : aligned ≡ take (length aligned) (drop a received)
  pub reported : heard aligned ≡ account ps sent received a (length aligned)

-- where damage spares control and guard words until a column
abbrev pub TapAccounted : Type 0
TapAccounted =
    (ps : List Period) (sent received : List Column) → ReceivedFreely ps sent received
    → (offset : ℕ) (skews counts : List ℕ) (blue green red : List Bool) → IsTap received offset skews counts blue green red → HasSmallSkew skews
    → (until : ℕ) → AlignsUntil ps sent received offset skews counts until
    → (d e f : ℕ) × IsFirst blue green red d e f
    × ((a : ℕ) × (a + 12 ≤ until) × IsAccounted ps sent received (aligned_columns blue green red d e f) a × BeginColumn offset skews (a + 12) d e f)

-- where damage lies in pixels and packets alone, and there is a first full alignment
abbrev pub PayloadAccounted : Type 0
PayloadAccounted =
    (ps : List Period) (sent received : List Column) → ReceivedFreely ps sent received → IsSparseInPayload ps sent received
    → (offset : ℕ) (skews counts : List ℕ) (blue green red : List Bool) → IsTap received offset skews counts blue green red → HasSmallSkew skews
    → (d e f : ℕ) → IsFirst blue green red d e f
    → (a : ℕ) × IsAccounted ps sent received (aligned_columns blue green red d e f) a × BeginColumn offset skews (a + 12) d e f

-- Packets.

-- how many bits of two lists are unlike
unfoldable pub wrong_bits : List Bool → List Bool → ℕ
wrong_bits (true ∷ xs) (b ∷ bs) = one_if (not b) + wrong_bits xs bs
wrong_bits (false ∷ xs) (b ∷ bs) = one_if b + wrong_bits xs bs
wrong_bits _ _ = 0

-- each block of a packet of which at most one word was received unlike has at most one wrong bit
abbrev pub OneWrongBit : Type 0
OneWrongBit =
    (p : Packet) (first : Bool) (sent received : List Column) → Carries p first (map column_words sent) → length received ≡ 32
    → damage sent received ≤ 1
    → (wrong_bits (header_bits (map column_words sent)) (header_bits (map column_words received)) ≤ 1)
    × ((b : ℕ) → b < 4 → wrong_bits (body_bits (map column_words sent) b) (body_bits (map column_words received) b) ≤ 1)

-- Examples.

-- a column of a kind was received unlike the one that was sent
abbrev pub HasUnlike : Kind → List Period → List Column → List Column → Type 0
HasUnlike kind ps sent received = (i : ℕ) × (kind_at (kinds_of ps) i ≡ kind) × (column_at received i ≡ column_at sent i → ⊥)

-- a tap of columns that has a first full alignment
pub record IsAligned (received : List Column) (counts : List ℕ) (blue green red : List Bool) (d e f : ℕ) : Type 0 where
  pub tapped : IsTap received 7 (0 ∷ 70 ∷ 35 ∷ []) counts blue green red
  pub first : IsFirst blue green red d e f

-- damage of a pixel and of a packet alone
pub record IsPayloadExample (ps : List Period) (sent received : List Column) : Type 0 where
  pub reception : ReceivedOf ps sent received
  pub alone : IsSparseInPayload ps sent received
  pub pixel : HasUnlike pixel_column ps sent received
  pub packet : HasUnlike packet_column ps sent received

-- damage of a pixel, of a packet, of a control period and of guard columns, after the column until which a
-- tap is aligned
pub record IsExample (ps : List Period) (sent received : List Column) (counts : List ℕ) (until : ℕ) : Type 0 where
  pub reception : ReceivedOf ps sent received
  pub aligns : AlignsUntil ps sent received 7 (0 ∷ 70 ∷ 35 ∷ []) counts until
  pub pixel : HasUnlike pixel_column ps sent received
  pub packet : HasUnlike packet_column ps sent received
  pub word : HasUnlike control_column ps sent received
  pub first : HasUnlike first_guard ps sent received
  pub second : HasUnlike second_guard ps sent received

-- there is such damage of both sorts, and there are such taps
abbrev pub HasPayloadExample : Type 0
HasPayloadExample =
    (ps : List Period) × (sent received : List Column) × (counts : List ℕ) × (blue green red : List Bool) × (d e f : ℕ)
    × IsPayloadExample ps sent received × IsAligned received counts blue green red d e f

abbrev pub HasExample : Type 0
HasExample =
    (ps : List Period) × (sent received : List Column) × (counts : List ℕ) × (until : ℕ) × (blue green red : List Bool) × (d e f : ℕ)
    × IsExample ps sent received counts until × IsAligned received counts blue green red d e f
