-- When each command reads its input and writes its output: one row for each.
use Rattle.command_line.specs.declared.command.Command.{Command}
use Rattle.command_line.specs.declared.command.Command.TheVariants.{MakeLink, MakeContent, MakeDvi, RecoverLink, RecoverContent, RecoverTrack, RecoverRelock, RecoverContentRelock, RecoverBiphase, RecoverDvi, Check, Damage, Slip, ReadBiphase, Relay, Sample}

pub data Manner : Type 0 where
  -- it reads its input to the end before it writes
  writes_last : Manner
  -- it takes all its memory before it reads, and writes while it reads
  writes_on : Manner
  -- it reads nothing
  reads_nothing : Manner

abbrev pub manner : Command → Manner
manner (MakeLink tap) = writes_last
manner (MakeContent tap) = writes_last
manner (MakeDvi tap) = writes_last
manner RecoverLink = writes_on
manner RecoverContent = writes_on
manner RecoverTrack = writes_on
manner RecoverRelock = writes_on
manner RecoverContentRelock = writes_on
manner (RecoverBiphase pair) = writes_on
manner RecoverDvi = writes_on
manner Check = writes_on
manner (Damage damages) = writes_on
manner (Slip slip) = writes_last
manner ReadBiphase = writes_on
manner Relay = writes_last
manner (Sample frames) = reads_nothing

abbrev pub writing_last : Manner → Type 0
writing_last writes_last = Unit {0}
writing_last writes_on = ⊥
writing_last reads_nothing = ⊥

abbrev pub writing_on : Manner → Type 0
writing_on writes_last = ⊥
writing_on writes_on = Unit {0}
writing_on reads_nothing = ⊥

abbrev pub reading : Manner → Type 0
reading writes_last = Unit {0}
reading writes_on = Unit {0}
reading reads_nothing = ⊥

-- the commands that write nothing before they have read all
abbrev pub WritesLast : Command → Type 0
WritesLast command = writing_last (manner command)

-- the commands that write while they read: all memory is taken before the first read
abbrev pub WritesOn : Command → Type 0
WritesOn command = writing_on (manner command)

-- the commands that read the input
abbrev pub ReadsInput : Command → Type 0
ReadsInput command = reading (manner command)
