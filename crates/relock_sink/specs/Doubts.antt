-- When the alignment in use is doubted: where a guard band is received whole at other edges and by the alignment in use a control period
-- ends, whatever opens there, and that control period began by the skew of these edges too. That an alignment is let go then is this
-- project's own rule.
use Rattle.std.specs.Prelude.{◌⊎◌, ℕ}
use Rattle.alignment_search.specs.Begins.{BeginsSo}
use Rattle.link_sink.specs.Sinks.{Fed}
use Rattle.relock_sink.specs.Bands.{AreEnding}
use Rattle.relock_sink.specs.Rivals.{IsRival, IsRefuted}

-- edges of another skew at which a guard band is received whole, in whose midst a control period ends by the alignment in use
abbrev pub IsContender : Fed → (p q r d e f : ℕ) → Type 0
IsContender fed p q r d e f = IsRival AreEnding fed p q r d e f

-- and on each lane a control period begins as many bits before its edge
pub record IsDoubted (fed : Fed) (p q r d e f : ℕ) : Type 0 where
  pub contender : IsContender fed p q r d e f
  pub begins : BeginsSo fed.blue fed.green fed.red d e f

-- the alignment at the first edges is let go for the other edges
abbrev pub IsLetGo : Fed → (p q r d e f : ℕ) → Type 0
IsLetGo fed p q r d e f = IsRefuted fed p q r d e f ⊎ IsDoubted fed p q r d e f
