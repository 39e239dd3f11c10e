use Rattle.std.proofs.Common.{◌∙◌, ℕ, [], ap}
use Rattle.listing_writer.specs.Texts.{counted}
use Rattle.capture_commands.specs.ContentTrackText.{content_track_faults}
use Rattle.capture_commands.proofs.track_lister.ContentTrackListerTrackLister.fault_lines.Goals as goal

pub returns : goal.returns
returns g c = λ first track_events fresh tracked.
    c.faults.ensures ∙ (tracked.1 [] fresh.0).faults ∙ ap (λ (n : ℕ). counted n (content_track_faults [] track_events)) fresh.1
