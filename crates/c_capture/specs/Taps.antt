-- The taps of C: the options of `make` that each stands for, and which there are.
use Rattle.std.specs.Prelude.{◌≡◌, ◌⊎◌, ◌≤◌, ℕ, zero, suc, [], ◌∷◌, Option, Some, None}
use Rattle.command_line.specs.declared.tap.TapWords.{TapWords}
use Rattle.command_line.specs.declared.tap.TheConstants.{SKEW_LIMIT}
use Rattle.c_capture.specs.declared.tap.Skews.{Skews}
use Rattle.c_capture.specs.declared.tap.LentTap.{LentTap}

-- the most bits of a lane, where they are limited
abbrev pub limit_of : ℕ → ℕ → Option ℕ
limit_of zero bits = None
limit_of (suc n) bits = Some bits

abbrev pub words_of : LentTap → TapWords
words_of tap = record { version = tap.version; offset = tap.offset; skews = tap.skews.blue ∷ tap.skews.green ∷ tap.skews.red ∷ []; bits = limit_of tap.limited tap.bits }

abbrev pub IsVersion : ℕ → Type 0
IsVersion version = (version ≡ 1) ⊎ (version ≡ 2)

-- no lane begins more bits later than the command line takes
pub record AreShort (skews : Skews) : Type 0 where
  pub blue : skews.blue ≤ SKEW_LIMIT
  pub green : skews.green ≤ SKEW_LIMIT
  pub red : skews.red ≤ SKEW_LIMIT

-- the command line takes these options
pub record IsTaken (tap : LentTap) : Type 0 where
  pub version : IsVersion tap.version
  pub skews : AreShort tap.skews
  pub limited : tap.limited ≤ 1
