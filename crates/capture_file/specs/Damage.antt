-- Damaged lanes: the ten bits from a place on are replaced by those of another character.
use Rattle.std.specs.Prelude.{ℕ, ◌+◌, Bool, true, false, List, [], ◌∷◌, ◌++◌, take, drop, ◌==◌}
use Rattle.tmds_word.specs.Bits.{word_bits}
use Rattle.capture_file.specs.declared.damaging.Hit.{Hit}

-- a lane with the ten bits from a place on replaced
abbrev pub with_word : ℕ → ℕ → List Bool → List Bool
with_word place word row = take place row ++ word_bits word ++ drop (place + 10) row

abbrev pub hit_by : Bool → Hit → List Bool → List Bool
hit_by true hit row = with_word hit.place hit.value row
hit_by false hit row = row

-- a lane after the hits that are its own, one after another
unfoldable pub damaged : ℕ → List Hit → List Bool → List Bool
damaged lane [] row = row
damaged lane (h ∷ hs) row = damaged lane hs (hit_by (h.lane == lane) h row)
