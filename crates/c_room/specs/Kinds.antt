-- The kinds of receivers: the number of each, and how much room it wants.
use Rattle.std.specs.Prelude.{◌≡◌, ℕ}
use Rattle.c_room.specs.declared.kind.Kind.{Kind}
use Rattle.c_room.specs.declared.kind.Kind.TheVariants.{Link, Dvi, Track, Relock}

abbrev pub number_of : Kind → ℕ
number_of Link = 0
number_of Dvi = 1
number_of Track = 2
number_of Relock = 3

-- no kind has this number
abbrev pub IsNoKind : ℕ → Type 0
IsNoKind number = (kind : Kind) → number ≡ number_of kind → ⊥

-- with so many events and bytes of room a byte of each lane is taken
abbrev pub least_events : Kind → ℕ
least_events Link = 104
least_events Dvi = 104
least_events Track = 400
least_events Relock = 400

abbrev pub least_bytes : Kind → ℕ
least_bytes Link = 12327
least_bytes Dvi = 12327
least_bytes Track = 12622
least_bytes Relock = 12622

-- and with so many the lanes end
abbrev pub last_events : Kind → ℕ
last_events Link = 1
last_events Dvi = 1
last_events Track = 392
last_events Relock = 392

abbrev pub last_bytes : Kind → ℕ
last_bytes Link = 0
last_bytes Dvi = 0
last_bytes Track = 12614
last_bytes Relock = 12614
