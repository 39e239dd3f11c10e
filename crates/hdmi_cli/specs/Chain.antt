-- Damages of whole characters of a capture that is a tap of columns: it is then the tap of the columns with these characters replaced.
use Rattle.std.specs.Prelude.{◌≡◌, ℕ, zero, suc, ◌+◌, ◌*◌, ◌<◌, ◌≤◌, Bool, List, [], ◌∷◌, ◌++◌, length, slice_index}
use Rattle.tmds_word.specs.Column.{Column}
use Rattle.tmds_word.specs.Taps.{IsTap}
use Rattle.capture_file.specs.Damage.{damaged}
use Rattle.capture_file.specs.declared.damaging.Hit.{Hit}

-- a column with the character of a lane replaced
abbrev pub hit_column : ℕ → ℕ → Column → Column
hit_column zero w c = record { blue = w; green = c.green; red = c.red }
hit_column (suc zero) w c = record { blue = c.blue; green = w; red = c.red }
hit_column (suc (suc l)) w c = record { blue = c.blue; green = c.green; red = w }

-- columns after hits, one after another: each is where a column has its character of that lane in the bits of a tap
abbrev pub AreHit : ℕ → List ℕ → List Hit → List Column → List Column → Type 0
AreHit offset skews [] columns received = columns ≡ received
AreHit offset skews (h ∷ hits) columns received =
    (before : List Column) × (c : Column) × (after : List Column) × (columns ≡ before ++ (c ∷ after)) × (h.lane < 3)
    × (h.place + (offset + slice_index skews h.lane) ≡ 10 * length before) × AreHit offset skews hits (before ++ (hit_column h.lane h.value c ∷ after)) received

-- the ten bits of each hit lie within its lane
abbrev pub AreWithin : List ℕ → List Hit → Type 0
AreWithin counts [] = Unit {0}
AreWithin counts (h ∷ hits) = (h.place + 10 ≤ slice_index counts h.lane) × AreWithin counts hits

abbrev pub HitTapIsTap : Type 0
HitTapIsTap =
    (offset : ℕ) (skews counts : List ℕ) (hits : List Hit) (columns received : List Column) (blue green red : List Bool)
    → IsTap columns offset skews counts blue green red → AreHit offset skews hits columns received → AreWithin counts hits
    → IsTap received offset skews counts (damaged 0 hits blue) (damaged 1 hits green) (damaged 2 hits red)
