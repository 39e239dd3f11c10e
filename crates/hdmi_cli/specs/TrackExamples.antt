-- That the premises of the clauses on slips within a line can be met: streams, taps of them, slips, and the bytes of captures.
use Rattle.std.specs.Prelude.{◌≡◌, ℕ}
use Rattle.capture_file.specs.Captures.{layout}
use Rattle.island_pack.specs.Kinds.{pixel_column}
use Rattle.link_laws.specs.Laws.{HasUnlike}
use Rattle.link_sink.specs.Sinks.{Fed}
use Rattle.hdmi_cli.specs.Headline.{TappedStream}
use Rattle.hdmi_cli.specs.TrackSlip.{LineSlip, IsSlippedTap, IsNoticed, IsFirstIn}
use Rattle.hdmi_cli.specs.TrackPasses.{HasNoLockBefore, EndsBeforeTwelve, IsLockBefore}

-- a tapped stream with a damaged pixel, one lane of which lost bits within a line, and of which something more holds; its
-- bytes are the capture in version 2 of the lanes that are left
pub record IsSlipCase (says : Type 0) (t : TappedStream) (s : LineSlip) (y : Fed) : Type 0 where
  pub bytes_are : t.bytes ≡ layout 2 y.blue y.green y.red
  pub slipped : IsSlippedTap t s y
  pub damaged : HasUnlike pixel_column t.periods t.sent t.received
  pub holds : says

abbrev pub HasSlipCase : (TappedStream → LineSlip → Fed → Type 0) → Type 0
HasSlipCase says = (t : TappedStream) × (s : LineSlip) × (y : Fed) × IsSlipCase (says t s y) t s y

-- there is one that is noticed
abbrev pub HasNoticedSlip : Type 0
HasNoticedSlip = HasSlipCase (λ t s y. IsNoticed t s)

-- one that is not, since the lane had no lock before, with a first full alignment after it
abbrev pub HasUnlockedSlip : Type 0
HasUnlockedSlip = HasSlipCase (λ t s y. HasNoLockBefore t s × ((d e f : ℕ) × IsFirstIn y d e f))

-- and one that is not, since the lane ends in the line, though it had a lock before; with a first full alignment before it
abbrev pub HasShortSlip : Type 0
HasShortSlip = HasSlipCase (λ t s y. EndsBeforeTwelve t s × ((lock : ℕ) × IsLockBefore t s lock) × ((d e f : ℕ) × IsFirstIn y d e f))
