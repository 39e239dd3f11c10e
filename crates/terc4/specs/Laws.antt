-- What holds of the words of the tables: their transitions in the order in which they are sent, and that the tables are disjoint.
use Rattle.std.specs.Prelude.{ℕ, ◌≡◌, ◌<◌, ◌≤◌, ◌-◌, ◌⊎◌, Bool, true, false, not, List, [], ◌∷◌, length, take, drop, slice_index, None, ◌==◌}
use Rattle.tmds_word.specs.Bits.{word_bits, turns}
use Rattle.tmds_word.specs.Column.{Column}
use Rattle.terc4.specs.Tables.{terc_words, island_guard, value_in, is_control, is_terc, is_guard}
use Rattle.terc4.specs.Columns.{is_video_guard, is_island_guard, video_words, island_words}

-- a control word has seven or eight turns (HDMI 1.4, section 5.4.2)
abbrev pub ControlTurns : Type 0
ControlTurns = (w : ℕ) → is_control w ≡ true → (turns (word_bits w) ≡ 7) ⊎ (turns (word_bits w) ≡ 8)

-- a TERC4 word has at most five
abbrev pub TercTurns : Type 0
TercTurns = (w : ℕ) → is_terc w ≡ true → turns (word_bits w) ≤ 5

-- a guard word has at most five
abbrev pub GuardTurns : Type 0
GuardTurns = (w : ℕ) → is_guard w ≡ true → turns (word_bits w) ≤ 5

-- a word of at most five turns is no control word
abbrev pub FewTurns : Type 0
FewTurns = (w : ℕ) → turns (word_bits w) ≤ 5 → is_control w ≡ false

-- no TERC4 word is a control word
abbrev pub TercApart : Type 0
TercApart = (w : ℕ) → is_terc w ≡ true → is_control w ≡ false

-- no guard word is a control word
abbrev pub GuardApart : Type 0
GuardApart = (w : ℕ) → is_guard w ≡ true → is_control w ≡ false

-- the island guard word of lanes 1 and 2 is no TERC4 word
abbrev pub IslandGuardApart : Type 0
IslandGuardApart = value_in terc_words island_guard ≡ None

-- the words of a table are distinct: equal words stand at equal places
abbrev pub AreDistinct : List ℕ → Type 0
AreDistinct words = (i j : ℕ) → i < length words → j < length words → slice_index words i ≡ slice_index words j → i ≡ j

-- ten bits that turn at every place but the first and maybe the last
pub record IsAlternating (bits : List Bool) : Type 0 where
  pub x : Bool
  pub y : Bool
  pub order : bits ≡ x ∷ x ∷ not x ∷ x ∷ not x ∷ x ∷ not x ∷ x ∷ not x ∷ y ∷ []

-- a control word in the order in which it is sent
abbrev pub ControlShape : Type 0
ControlShape = (w : ℕ) → is_control w ≡ true → IsAlternating (word_bits w)

-- the last bits of a control word are the first bits of one only where they are none, one, two or all ten
abbrev pub ControlOverlap : Type 0
ControlOverlap =
    (v w k : ℕ) → is_control v ≡ true → is_control w ≡ true → k ≤ 10
    → drop (10 - k) (word_bits v) ≡ take k (word_bits w) → (k ≤ 2) ⊎ (k ≡ 10)

-- a column opens a video period where three of its words are those that do
abbrev pub VideoGuardWords : Type 0
VideoGuardWords = (c : Column) → (video_words c == 3) ≡ is_video_guard c

-- and it opens or closes a data island where three of its words are those that do
abbrev pub IslandGuardWords : Type 0
IslandGuardWords = (c : Column) → (island_words c == 3) ≡ is_island_guard c

-- what meets the premises of each: words of each kind, and control words of which the one ends as the other begins
pub record IsExample (control terc guard minimized v w k : ℕ) : Type 0 where
  pub one : is_control control ≡ true
  pub table : is_terc terc ≡ true
  pub guards : is_guard guard ≡ true
  pub few : turns (word_bits minimized) ≤ 5
  pub first : is_control v ≡ true
  pub second : is_control w ≡ true
  pub overlap : drop (10 - k) (word_bits v) ≡ take k (word_bits w)
  pub some : 0 < k
  pub within : k ≤ 10

-- there are such words
abbrev pub HasExample : Type 0
HasExample = (control terc guard minimized v w k : ℕ) × IsExample control terc guard minimized v w k
