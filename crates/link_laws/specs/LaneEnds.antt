-- The ends of control periods, and the edges that a receiver finds in the bits of the lanes.
-- HDMI 1.4, section 5.1.2, and the skew between the lanes of a link, section 4.2.
use Rattle.std.specs.Prelude.{◌≡◌, ◌↔◌, ℕ, ◌+◌, ◌*◌, ◌<◌, ◌≤◌, Bool, true, false, not, ◌==◌, List, [], ◌∷◌, length, take, drop, slice_index, slice_index_or}
use Rattle.tmds_word.specs.Bits.{turns, word_bits}
use Rattle.terc4.specs.Tables.{is_control}
use Rattle.terc4.specs.Columns.{one_if}
use Rattle.lane_align.specs.Lanes.{IsEdge}
use Rattle.lane_align.specs.Laws.{marked, IsCalm}
use Rattle.tmds_word.specs.Taps.{part_of, AreNear}
use Rattle.lane_deskew.specs.Triples.{IsFirst}
use Rattle.link_laws.specs.Alternating.{IsAlternating}
use Rattle.island_pack.specs.Periods.{Period}
use Rattle.island_pack.specs.Conforming.{IsConforming}
use Rattle.island_pack.specs.Kinds.{Kind, control_column, first_guard, second_guard, pixel_column, packet_column, IsPayload, kinds_of, kind_at, EndsAt}

-- one of the two columns that open a video data period, or open or close a data island
abbrev pub IsGuard : Kind → Type 0
IsGuard control_column = ⊥
IsGuard first_guard = Unit {0}
IsGuard second_guard = Unit {0}
IsGuard pixel_column = ⊥
IsGuard packet_column = ⊥

-- the characters of one lane as they were received, with a mark for each that may have been received damaged
pub record IsReceived (kinds : List Kind) (words : List ℕ) (marks : List Bool) : Type 0 where
  pub calm : IsCalm words marks
  pub below : (i : ℕ) → i < length words → slice_index words i < 1024
  pub controls : (i : ℕ) → i < length words → kind_at kinds i ≡ control_column → is_control (slice_index words i) ≡ true
  pub guards : (i : ℕ) → i < length words → IsGuard (kind_at kinds i) → is_control (slice_index words i) ≡ false
  pub payloads :
      (i : ℕ) → i < length words → IsPayload (kind_at kinds i) → slice_index_or marks i false ≡ false
      → is_control (slice_index words i) ≡ false

-- the columns of conforming periods alternate
abbrev pub ConformingAlternate : Type 0
ConformingAlternate = (ps : List Period) → IsConforming ps → IsAlternating (kinds_of ps)

-- each edge in a part of the bits of a lane of alternating columns is the end of a control period
abbrev pub LaneEdgesEnd : Type 0
LaneEdgesEnd =
    (kinds : List Kind) (words : List ℕ) (marks : List Bool) → IsAlternating kinds → IsReceived kinds words marks
    → (from many e : ℕ) → IsEdge (part_of words from many) e
    → (i : ℕ) × (EndsAt kinds i) × (e + from ≡ 10 * (i + 1))

-- the ends of two control periods are at least 15 columns apart
abbrev pub EndsApart : Type 0
EndsApart =
    (kinds : List Kind) → IsAlternating kinds
    → (i j : ℕ) → EndsAt kinds i → EndsAt kinds j → i < j → i + 15 ≤ j

-- two lanes of one stream, with a skew of at most 70 bits and edges within 70 bits of each other: both edges are
-- the end of one and the same control period
abbrev pub OneEnd : Type 0
OneEnd =
    (kinds : List Kind) (words1 words2 : List ℕ) (marks1 marks2 : List Bool) → IsAlternating kinds
    → IsReceived kinds words1 marks1 → IsReceived kinds words2 marks2
    → (from1 from2 many1 many2 e1 e2 : ℕ) → AreNear from1 from2
    → IsEdge (part_of words1 from1 many1) e1 → IsEdge (part_of words2 from2 many2) e2 → AreNear e1 e2
    → (i : ℕ) × (EndsAt kinds i) × (e1 + from1 ≡ 10 * (i + 1)) × (e2 + from2 ≡ 10 * (i + 1))

-- the first full alignment of three lanes is the end of one control period
abbrev pub LaneFirstEnds : Type 0
LaneFirstEnds =
    (kinds : List Kind) (words1 words2 words3 : List ℕ) (marks1 marks2 marks3 : List Bool) → IsAlternating kinds
    → IsReceived kinds words1 marks1 → IsReceived kinds words2 marks2 → IsReceived kinds words3 marks3
    → (from1 from2 from3 many1 many2 many3 e1 e2 e3 : ℕ) → AreNear from1 from2 → AreNear from2 from3 → AreNear from1 from3
    → IsFirst (part_of words1 from1 many1) (part_of words2 from2 many2) (part_of words3 from3 many3) e1 e2 e3
    → (i : ℕ) × (EndsAt kinds i)
    × (e1 + from1 ≡ 10 * (i + 1)) × (e2 + from2 ≡ 10 * (i + 1)) × (e3 + from3 ≡ 10 * (i + 1))

-- the characters of one lane as they are sent
pub record IsLaneSent (kinds : List Kind) (sent : List ℕ) : Type 0 where
  pub same_length : length kinds ≡ length sent
  pub controls : (i : ℕ) → i < length sent → kind_at kinds i ≡ control_column → is_control (slice_index sent i) ≡ true
  pub others : (i : ℕ) → i < length sent → (kind_at kinds i ≡ control_column → ⊥) → turns (word_bits (slice_index sent i)) ≤ 5

-- which characters were received unlike those that were sent
unfoldable pub damaged : List ℕ → List ℕ → List Bool
damaged [] ys = []
damaged (x ∷ xs) [] = []
damaged (x ∷ xs) (y ∷ ys) = not (x == y) ∷ damaged xs ys

-- the characters as they were received: at most two in eleven unlike those that were sent, and those in payload alone
pub record IsSparseLane (kinds : List Kind) (sent received : List ℕ) : Type 0 where
  pub same_length : length received ≡ length sent
  pub below : (i : ℕ) → i < length received → slice_index received i < 1024
  pub only_payload :
      (i : ℕ) → i < length sent → (IsPayload (kind_at kinds i) → ⊥) → slice_index_or (damaged sent received) i false ≡ false
  pub few : (i : ℕ) → i + 11 ≤ length sent → marked (take 11 (drop i (damaged sent received))) ≤ 2

-- a lane that was received so meets what the other laws ask for
abbrev pub SparseReceived : Type 0
SparseReceived =
    (kinds : List Kind) (sent received : List ℕ) → IsLaneSent kinds sent → IsSparseLane kinds sent received
    → IsReceived kinds received (damaged sent received)

-- how many of three characters are control words
abbrev pub controls_of : ℕ → ℕ → ℕ → ℕ
controls_of u v w = one_if (is_control u) + one_if (is_control v) + one_if (is_control w)

-- with at most one mark in each column, the columns with two control words at least are those of control periods
abbrev pub ControlColumns : Type 0
ControlColumns =
    (kinds : List Kind) (words1 words2 words3 : List ℕ) (marks1 marks2 marks3 : List Bool)
    → IsReceived kinds words1 marks1 → IsReceived kinds words2 marks2 → IsReceived kinds words3 marks3
    → ((i : ℕ) → one_if (slice_index_or marks1 i false) + one_if (slice_index_or marks2 i false) + one_if (slice_index_or marks3 i false) ≤ 1)
    → (i : ℕ) → i < length words1 → i < length words2 → i < length words3
    → (kind_at kinds i ≡ control_column) ↔ (2 ≤ controls_of (slice_index words1 i) (slice_index words2 i) (slice_index words3 i))

-- three lanes that meet the premises, and a first full alignment of theirs
pub record IsLaneExample (ps : List Period) (words : List ℕ) (marks : List Bool) (e : ℕ) : Type 0 where
  pub conforming : IsConforming ps
  pub received : IsReceived (kinds_of ps) words marks
  pub first : IsFirst (part_of words 3 270) (part_of words 3 270) (part_of words 3 270) e e e

-- there are such lanes
abbrev pub HasLaneExample : Type 0
HasLaneExample = (ps : List Period) × (words : List ℕ) × (marks : List Bool) × (e : ℕ) × IsLaneExample ps words marks e
