-- What the words of commands ask for.
use Rattle.capture_file.specs.declared.damaging.Hit.{Hit}
use Rattle.capture_file.specs.declared.writing.Tap.{Tap}
use Rattle.command_line.specs.declared.damage.DamageWord.{DamageWord}
use Rattle.command_line.specs.declared.tap.TapWords.{TapWords}

-- the tap that the options of `make` ask for
abbrev pub tap_asked : TapWords → Tap
tap_asked words = record { version = words.version; offset = words.offset; skews = words.skews; bits = words.bits }

-- the hit of a word
abbrev pub hit_asked : DamageWord → Hit
hit_asked word = record { lane = word.lane; place = word.place; value = word.value }
