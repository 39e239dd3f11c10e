-- The parts that a relay hands on.
use Rattle.std.specs.Prelude.{◌≡◌, ℕ, List, [], ◌∷◌, ◌++◌, map}
use Rattle.source_end.specs.Raster.{Part, column, pixels, packets, gathered}
use Rattle.relay.specs.Relayed.{Data, a_line, an_island, Turn, Alternation, periods_of}

abbrev pub part_of : Data → Part
part_of (a_line bytes) = pixels bytes
part_of (an_island x) = packets x

abbrev pub parts_in : List Turn → List ℕ → List Part
parts_in [] last = map column last
parts_in (x ∷ xs) last = map column x.values ++ (part_of x.inner ∷ parts_in xs last)

-- each has some columns
abbrev pub AreSome : List Turn → Type 0
AreSome [] = Unit {0}
AreSome (x ∷ xs) = (x.values ≡ [] → ⊥) × AreSome xs

-- periods of turns are what their parts make
abbrev pub PartsGather : Type 0
PartsGather = (t : Alternation) → AreSome t.turns → (t.last ≡ [] → ⊥) → periods_of t ≡ gathered (parts_in t.turns t.last)
