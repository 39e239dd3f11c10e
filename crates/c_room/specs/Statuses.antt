-- The numbers of what a call answers.
use Rattle.std.specs.Prelude.{ℤ, pos}
use Rattle.c_room.specs.declared.status.Status.{Status}
use Rattle.c_room.specs.declared.status.Status.TheVariants.{Done, Full, Misuse, TooMany, NoMemory}

abbrev pub code_of : Status → ℤ
code_of Done = pos 0
code_of Full = pos 1
code_of Misuse = pos 2
code_of TooMany = pos 3
code_of NoMemory = pos 4

-- what an opening may answer, what a feed, and what an end
abbrev pub IsOpenStatus : Status → Type 0
IsOpenStatus Full = ⊥
IsOpenStatus TooMany = ⊥
IsOpenStatus _ = Unit {0}

abbrev pub IsFeedStatus : Status → Type 0
IsFeedStatus NoMemory = ⊥
IsFeedStatus _ = Unit {0}

abbrev pub IsEndStatus : Status → Type 0
IsEndStatus NoMemory = ⊥
IsEndStatus TooMany = ⊥
IsEndStatus _ = Unit {0}
