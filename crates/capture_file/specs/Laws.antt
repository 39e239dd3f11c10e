-- What follows from the layout of captures.
use Rattle.std.specs.Prelude.{◌≡◌, ℕ, ◌+◌, ◌*◌, ◌^◌, ◌<◌, ◌≤◌, Bool, List, ◌++◌, length}
use Rattle.tmds_word.specs.Column.{Column}
use Rattle.tmds_word.specs.Taps.{IsTap}
use Rattle.capture_file.specs.Captures.{IsCapture, IsCaptureOf, IsFault, HasRead, StopsIn}
use Rattle.capture_file.specs.Taps.{greatest, tap_counts, tap_of, tapped_capture}
use Rattle.capture_file.specs.declared.writing.Tap.{Tap}
use Rattle.capture_file.specs.declared.fault.CaptureFault.{CaptureFault}

-- lanes are those of others
pub record AreSame (x y z u v w : List Bool) : Type 0 where
  pub blue : x ≡ u
  pub green : y ≡ v
  pub red : z ≡ w

-- bytes are the capture of one triple of lanes at most
abbrev pub OneCapture : Type 0
OneCapture = (blue green red u v w : List Bool) (bytes : List ℕ) → IsCaptureOf blue green red bytes → IsCaptureOf u v w bytes → AreSame blue green red u v w

-- a capture has no fault
abbrev pub NoFault : Type 0
NoFault = (bytes : List ℕ) (fault : CaptureFault) → IsCapture bytes → IsFault bytes fault → ⊥

-- bytes have one fault at most
abbrev pub OneFault : Type 0
OneFault = (bytes : List ℕ) (f g : CaptureFault) → IsFault bytes f → IsFault bytes g → f ≡ g

-- the header and the whole blocks of bytes before a place, and the bits that each lane has in them
pub record IsReadBefore (bytes : List ℕ) (place : ℕ) (taken : List ℕ) (blue green red : List Bool) : Type 0 where
  pub rest : List ℕ
  pub counts : List ℕ
  pub block : ℕ
  pub bytes_are : bytes ≡ taken ++ rest
  pub read : HasRead counts block (length taken) taken blue green red
  pub stops : StopsIn counts block taken place

-- they are one list of bytes, and one triple of lanes
abbrev pub OneReading : Type 0
OneReading =
    (bytes : List ℕ) (place : ℕ) (taken took : List ℕ) (blue green red u v w : List Bool)
    → IsReadBefore bytes place taken blue green red → IsReadBefore bytes place took u v w → (taken ≡ took) × AreSame blue green red u v w

-- the bits that a tap takes of columns are a tap of them, where each lane begins within them
abbrev pub TapIsTap : Type 0
TapIsTap = (columns : List Column) (tap : Tap) → tap.offset + greatest tap.skews ≤ 10 * length columns
    → IsTap columns tap.offset tap.skews (tap_counts tap columns) (tap_of columns tap).blue (tap_of columns tap).green (tap_of columns tap).red

-- and what is written of them is their capture
abbrev pub TapIsCaptured : Type 0
TapIsCaptured = (columns : List Column) (tap : Tap) → tap.offset + greatest tap.skews ≤ 10 * length columns → 10 * length columns < 2 ^ 32
    → IsCaptureOf (tap_of columns tap).blue (tap_of columns tap).green (tap_of columns tap).red (tapped_capture columns tap)
