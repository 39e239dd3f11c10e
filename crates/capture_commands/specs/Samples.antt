-- The steps of a sample, and how a command ends that writes its counts.
use Rattle.std.specs.Prelude.{◌≡◌, ◌⊎◌, ◌-◌, ◌^◌, ◌<◌, ◌≤◌, ℕ, List, length, take, All, Option}
use Rattle.std.specs.Io.KnownBytes.{Appends, Keeps}
use Rattle.outside_io.specs.Causes.{Rose}
use Rattle.tmds_word.specs.Column.{Column}
use Rattle.island_pack.specs.Periods.{Period}
use Rattle.island_pack.specs.Spelling.{Spells}
use Rattle.island_pack.specs.declared.ranges.TheConstants.{COLUMN_LIMIT}
use Rattle.source_end.specs.Content.{Frame}
use Rattle.source_end.specs.Generator.{IsGenerated}
use Rattle.source_end.specs.Raster.{raster_of}
use Rattle.capture_file.specs.BlockDamage.{AllFitLanes, IsDamagedCapture}
use Rattle.capture_file.specs.Taps.{tap_counts, tapped_capture}
use Rattle.capture_file.specs.declared.damaging.Hit.{Hit}
use Rattle.sampling.specs.Counts.{counts_text}
use Rattle.sampling.specs.Strikes.{hits_of}
use Rattle.sampling.specs.Sampled.{sample_mode, sample_tap, IsSampled}
use Rattle.sampling.specs.declared.counts.Counts.{Counts}
use Rattle.capture_commands.specs.declared.ending.Ending.{Ending}
use Rattle.capture_commands.specs.declared.ending.Ending.TheVariants.{Done, WriteFailed, NoMemory}

-- periods are the raster of the generator's content
pub record IsMade (frames : ℕ) (periods : List Period) : Type 0 where
  pub content : List Frame
  pub generated : IsGenerated frames content
  pub periods_are : periods ≡ raster_of sample_mode content

-- columns spell it, and the hits of their capture are those of the damage
pub record IsSampleSent (frames : ℕ) (sent : List Column) (hits : List Hit) : Type 0 where
  pub periods : List Period
  pub made : IsMade frames periods
  pub spelled : Spells periods sent
  pub few_columns : length sent ≤ COLUMN_LIMIT
  pub hits_are : hits ≡ hits_of sample_tap periods
  pub lanes : All (λ h. h.lane < 3) hits
  pub few_hits : length hits < 2 ^ 32 - 1
  pub fits : AllFitLanes (tap_counts sample_tap sent) hits

-- bytes are the capture of such columns
pub record IsSampleCapture (frames : ℕ) (bytes : List ℕ) (hits : List Hit) : Type 0 where
  pub sent : List Column
  pub is_sent : IsSampleSent frames sent hits
  pub bytes_are : bytes ≡ tapped_capture sent sample_tap

-- and bytes are that capture, damaged
pub record IsStruck (frames : ℕ) (damaged : List ℕ) : Type 0 where
  pub bytes : List ℕ
  pub hits : List Hit
  pub tapped : IsSampleCapture frames bytes hits
  pub damaged_is : IsDamagedCapture bytes hits damaged

-- the text of the counts of a sample was written, whole or in part
pub record IsSampleWhole (frames : ℕ) (old new : Option (List ℕ)) : Type 0 where
  pub counts : Counts
  pub sampled : IsSampled frames counts
  pub written : Appends old new (counts_text counts)

pub record IsSampleCut (frames : ℕ) (old new : Option (List ℕ)) : Type 0 where
  pub counts : Counts
  pub sampled : IsSampled frames counts
  pub gone : ℕ
  pub missing : gone < length (counts_text counts)
  pub written : Appends old new (take gone (counts_text counts))

abbrev pub SampleEnds : ℕ → Ending → Option (List ℕ) → Option (List ℕ) → ℕ → ℕ → Type 0
SampleEnds frames Done old new before after = IsSampleWhole frames old new
SampleEnds frames WriteFailed old new before after = Rose before after × IsSampleCut frames old new
SampleEnds frames NoMemory old new before after = Keeps old new
SampleEnds frames _ old new before after = ⊥

-- what `sample` has written where it ends with a status: all, a part, or nothing
abbrev pub IsSampleWritten : ℕ → ℕ → Option (List ℕ) → Option (List ℕ) → Type 0
IsSampleWritten frames status old new =
    ((status ≡ 0) × IsSampleWhole frames old new)
    ⊎ ((status ≡ 5) × IsSampleCut frames old new)
    ⊎ ((status ≡ 6) × Keeps old new)
