-- The sample: the generator's content is made into a capture, the capture is damaged and recovered, and what was
-- received is counted.
use Rattle.std.specs.Prelude.{◌≡◌, ℕ, List, [], ◌∷◌, Bool, false, None}
use Rattle.tmds_word.specs.Column.{Column}
use Rattle.island_pack.specs.Spelling.{Spells}
use Rattle.period_grammar.specs.Events.{Event}
use Rattle.link_sink.specs.Alignment.{AreReported}
use Rattle.link_sink.specs.declared.hear.Outcome.{Outcome}
use Rattle.source_end.specs.Content.{Frame}
use Rattle.source_end.specs.Generator.{IsGenerated}
use Rattle.source_end.specs.Raster.{raster_of}
use Rattle.source_end.specs.declared.mode.Mode.{Mode}
use Rattle.capture_file.specs.BlockDamage.{IsDamagedCapture}
use Rattle.capture_file.specs.Captures.{IsCaptureOf}
use Rattle.capture_file.specs.Taps.{tapped_capture}
use Rattle.capture_file.specs.declared.writing.Tap.{Tap}
use Rattle.sampling.specs.Counts.{counts_of}
use Rattle.sampling.specs.Strikes.{hits_of}
use Rattle.sampling.specs.declared.counts.Counts.{Counts}

-- video format 1
abbrev pub sample_mode : Mode
sample_mode = record { across = 640 ∷ 16 ∷ 96 ∷ 48 ∷ []; down = 480 ∷ 10 ∷ 2 ∷ 33 ∷ []; positive = false }

-- the capture begins in the midst of the first frame, and its lanes are apart
abbrev pub sample_tap : Tap
sample_tap = record { version = 1; offset = 123457; skews = 0 ∷ 70 ∷ 35 ∷ []; bits = None }

-- the ten counts of so many frames
pub record IsSampled (frames : ℕ) (counts : Counts) : Type 0 where
  pub content : List Frame
  pub generated : IsGenerated frames content
  pub sent : List Column
  pub spelled : Spells (raster_of sample_mode content) sent
  pub damaged : List ℕ
  pub damaged_is : IsDamagedCapture (tapped_capture sent sample_tap) (hits_of sample_tap (raster_of sample_mode content)) damaged
  pub blue : List Bool
  pub green : List Bool
  pub red : List Bool
  pub captured : IsCaptureOf blue green red damaged
  pub outcome : Outcome
  pub events : List Event
  pub reported : AreReported blue green red outcome events
  pub counts_are : counts ≡ counts_of outcome.columns events
