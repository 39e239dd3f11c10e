-- Two statuses with one number are one.
use Rattle.std.proofs.Common.{◌≡◌, refl}
use Rattle.c_room.specs.declared.status.Status.{Status}
use Rattle.c_room.specs.declared.status.Status.TheVariants.{Done, Full, Misuse, TooMany, NoMemory}
use Rattle.c_room.specs.Statuses.{code_of}

pub code_is : (s t : Status) → code_of s ≡ code_of t → s ≡ t
code_is Done Done e = refl
code_is Done Full e = absurd cc
code_is Done Misuse e = absurd cc
code_is Done TooMany e = absurd cc
code_is Done NoMemory e = absurd cc
code_is Full Done e = absurd cc
code_is Full Full e = refl
code_is Full Misuse e = absurd cc
code_is Full TooMany e = absurd cc
code_is Full NoMemory e = absurd cc
code_is Misuse Done e = absurd cc
code_is Misuse Full e = absurd cc
code_is Misuse Misuse e = refl
code_is Misuse TooMany e = absurd cc
code_is Misuse NoMemory e = absurd cc
code_is TooMany Done e = absurd cc
code_is TooMany Full e = absurd cc
code_is TooMany Misuse e = absurd cc
code_is TooMany TooMany e = refl
code_is TooMany NoMemory e = absurd cc
code_is NoMemory Done e = absurd cc
code_is NoMemory Full e = absurd cc
code_is NoMemory Misuse e = absurd cc
code_is NoMemory TooMany e = absurd cc
code_is NoMemory NoMemory e = refl
