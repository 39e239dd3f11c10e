-- `recover track` of a capture of which anything may have been received after the alignment, and no lane of which has a stray.
use Rattle.std.proofs.Common.{◌≡◌, ℕ, List}
use Rattle.std.specs.Prelude.{Some}
use Rattle.command_line.specs.Commands.{IsCommand}
use Rattle.command_line.specs.declared.command.Command.TheVariants.{RecoverTrack}
use Rattle.link_sink.specs.Sinks.{Fed}
use Rattle.track_sink.specs.Epochs.{stray_rule}
use Rattle.track_sink.specs.StrayRule.{stray_is_rule}
use Rattle.capture_commands.specs.Endings.{Devices, RunEnds, Unless, status_of}
use Rattle.hdmi_cli.specs.Headline.{TappedStream, AlignsBy}
use Rattle.capture_commands.specs.Listings.{link_listing}
use Rattle.capture_commands.specs.TrackListings.{link_track_listing}
use Rattle.capture_commands.specs.Listers.{after_link, last_link, link_is_text}
use Rattle.hdmi_cli.specs.Local.{IsTappedUntil, IsHeardBy, HasNoStrays}
use Rattle.capture_commands.specs.declared.ending.Ending.{Ending}
use Rattle.hdmi_cli.proofs.Local.{headlined_here}
use Rattle.hdmi_cli.proofs.TrackHeadline.{link_events, lists_as_one}

pub tracked_locally : (words : List (List ℕ)) (ending : Ending) (before after : Devices) (status : ℕ) → RunEnds words ending before after → status ≡ status_of ending → IsCommand words RecoverTrack
    → (t : TappedStream) (until : ℕ) → IsTappedUntil t until → AlignsBy t until → HasNoStrays t → before.left ≡ Some t.bytes → Unless (IsHeardBy link_listing t until) status before after
tracked_locally words ending before after status ends is named t until tapped aligns none left =
    let x : Fed = record { blue = t.blue; green = t.green; red = t.red } in
    headlined_here link_listing after_link last_link link_is_text RecoverTrack t (lists_as_one stray_rule stray_is_rule link_track_listing link_listing link_events t.bytes x tapped.captured none) words ending before after status ends is named until tapped aligns left
