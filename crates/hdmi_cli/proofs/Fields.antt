-- The fields that `recover content` and `recover content relock` list of a raster's packets are those that were sent.
use Rattle.std.proofs.Common.{◌≡◌, ℕ, ◌+◌, List, length}
use Rattle.std.specs.Prelude.{Option, Some, None}
use Rattle.source_end.specs.declared.mode.Mode.{Mode}
use Rattle.source_end.specs.Content.{Frame}
use Rattle.source_end.specs.Raster.{raster_of}
use Rattle.source_end.specs.RasterRefusals.{raster_fault}
use Rattle.listing_laws.proofs.Said.{fields_of_content}
use Rattle.command_line.specs.declared.command.Command.{Command}
use Rattle.command_line.specs.Commands.{IsCommand}
use Rattle.link_sink.specs.Grammar.{link_grammar}
use Rattle.capture_commands.specs.Listings.{content_listing}
use Rattle.capture_commands.specs.Endings.{Devices, RunEnds, Unless, status_of}
use Rattle.capture_commands.specs.Outcome.{Does, ListsCapture, RunOutcome}
use Rattle.capture_commands.specs.declared.ending.Ending.{Ending}
use Rattle.hdmi_cli.specs.Fields.{AreFields, lines_from}
use Rattle.hdmi_cli.specs.Headline.{TappedStream, IsTapped, Aligns, FromFirst, aligned_of}
use Rattle.hdmi_cli.specs.Pictures.{ArePackets}
use Rattle.hdmi_cli.proofs.Headline.{unless_so}
use Rattle.hdmi_cli.proofs.Pictures.{packeted}

fields_are : (mode : Mode) (frames : List Frame) → raster_fault mode frames ≡ None → (t : TappedStream) → t.periods ≡ raster_of mode frames
    → (d e f a : ℕ) (old new : Option (List ℕ)) → ArePackets t d e f a old new → AreFields frames t d e f a old new
fields_are mode frames none t is d e f a old new h =
    record {
      accounted = h.accounted;
      begins = h.begins;
      written = h.written;
      fields = fields_of_content frames t.periods t.sent t.received a (length (aligned_of t d e f)) (lines_from t d e f a) h.listed h.lines (h.content mode frames none is);
    }

pub fielded : (Known : TappedStream → Type 0) → ((t : TappedStream) → Known t → Aligns t) → (this : Command)
    → ((t : TappedStream) → IsTapped t → Known t → (o : RunOutcome) → Does this t.bytes o → ListsCapture link_grammar content_listing t.bytes o)
    → (words : List (List ℕ)) (ending : Ending) (before after : Devices) (status : ℕ) → RunEnds words ending before after → status ≡ status_of ending → IsCommand words this
    → (mode : Mode) (frames : List Frame) → raster_fault mode frames ≡ None → (t : TappedStream) → t.periods ≡ raster_of mode frames → IsTapped t → Known t → before.left ≡ Some t.bytes
    → Unless (λ s old new. FromFirst t (λ d e f a. AreFields frames t d e f a old new)) status before after
fielded Known aligns this lists words ending before after status ends is named mode frames none t raster tapped known left =
    unless_so
    (λ s old new. FromFirst t (λ d e f a. ArePackets t d e f a old new))
    (λ s old new. FromFirst t (λ d e f a. AreFields frames t d e f a old new))
    status before after
    (λ h. (h.0, h.1, h.2, h.3, (h.4.0, h.4.1, fields_are mode frames none t raster h.0 h.1 h.2 h.4.0 before.held after.held h.4.2)))
    (packeted Known aligns this lists words ending before after status ends is named t tapped known left)
