-- How far two lists of columns that spell the same periods agree.
use Rattle.std.specs.Prelude.{◌≡◌, ◌%◌, true, List, [], ◌∷◌}
use Rattle.tmds_word.specs.Column.{Column}
use Rattle.terc4.specs.Tables.{is_terc}
use Rattle.island_pack.specs.Kinds.{Kind, packet_column, kinds_of}
use Rattle.island_pack.specs.Nibbles.{nibble_of}
use Rattle.island_pack.specs.Periods.{Period}
use Rattle.island_pack.specs.Spelling.{SpellsBy, freely, Spells}

-- as a source spells them, periods are spelled by one list of columns at most
abbrev pub OneSpelling : Type 0
OneSpelling = (ps : List Period) (cs ds : List Column) → Spells ps cs → Spells ps ds → cs ≡ ds

-- columns of a packet: the same words on lanes 1 and 2, and on lane 0 TERC4 words that agree in bits 0 to 2
pub record AgreeButBit3 (c d : Column) : Type 0 where
  pub digit : is_terc c.blue ≡ true
  pub other_digit : is_terc d.blue ≡ true
  pub low : nibble_of c.blue % 8 ≡ nibble_of d.blue % 8
  pub green : c.green ≡ d.green
  pub red : c.red ≡ d.red

abbrev pub AgreeAs : Kind → Column → Column → Type 0
AgreeAs packet_column c d = AgreeButBit3 c d
AgreeAs _ c d = c ≡ d

-- column for column by their kinds: control, guard and pixel columns are the same, packet columns but for bit 3 of lane 0
abbrev pub Agree : List Kind → List Column → List Column → Type 0
Agree [] [] [] = Unit {0}
Agree (k ∷ ks) (c ∷ cs) (d ∷ ds) = AgreeAs k c d × Agree ks cs ds
Agree _ _ _ = ⊥

-- whatever bit 3 of lane 0 is
abbrev pub FreeSpellingsAgree : Type 0
FreeSpellingsAgree = (ps : List Period) (cs ds : List Column) → SpellsBy freely ps cs → SpellsBy freely ps ds → Agree (kinds_of ps) cs ds

-- and so with the columns that a source sends
abbrev pub FreeSpellingAgrees : Type 0
FreeSpellingAgrees = (ps : List Period) (cs ds : List Column) → SpellsBy freely ps cs → Spells ps ds → Agree (kinds_of ps) cs ds
