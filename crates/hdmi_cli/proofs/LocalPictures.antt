-- The lines of pixels that `recover content` lists of a capture of which anything may have been received after the alignment.
use Rattle.std.proofs.Common.{◌≡◌, ℕ, ◌-◌, List, ap, ◌∙◌}
use Rattle.std.specs.Prelude.{Option, Some}
use Rattle.std.specs.List.{filter}
use Rattle.island_pack.specs.Periods.{video, columns_of}
use Rattle.period_grammar.specs.Events.{Event}
use Rattle.link_laws.specs.Local.{part_at, twelve_before}
use Rattle.listing_writer.specs.ContentText.{content_lines, content_text}
use Rattle.listing_laws.specs.ListingLaws.{tells_picture}
use Rattle.listing_laws.proofs.LocalPictures.{line_between}
use Rattle.command_line.specs.Commands.{IsCommand}
use Rattle.command_line.specs.declared.command.Command.TheVariants.{RecoverContent}
use Rattle.capture_commands.specs.Endings.{Devices, RunEnds, Unless, status_of}
use Rattle.hdmi_cli.specs.Headline.{TappedStream, AlignsBy, aligned_of}
use Rattle.capture_commands.specs.Listings.{content_listing}
use Rattle.capture_commands.specs.Listers.{after_content, last_link, content_is_text}
use Rattle.hdmi_cli.specs.Local.{IsTappedUntil, IsHeardFrom, IsHeardBy, reported_to}
use Rattle.hdmi_cli.specs.LocalPictures.{ArePicturesFrom, ArePicturesBy}
use Rattle.capture_commands.specs.declared.ending.Ending.{Ending}
use Rattle.hdmi_cli.proofs.Headline.{unless_so}
use Rattle.hdmi_cli.proofs.Local.{headlined_locally}

pictures_from : (t : TappedStream) (d e f a status : ℕ) (old new : Option (List ℕ)) → IsHeardFrom content_listing t d e f a status old new → ArePicturesFrom t d e f a old new
unfolding content_text
pictures_from t d e f a status old new h =
    record {
      columns = h.columns;
      written = h.written;
      pictures = λ front bytes back is good alone late past.
          let j = columns_of front in
          let p = video bytes in
          let aligned = aligned_of t d e f in
          let row = h.rows front p back is good alone late past in
          let law = line_between bytes (j - a) (twelve_before j t.received) (part_at j p t.sent) (part_at j p t.received) (reported_to a j aligned) row.later in
          record { more = law.0; pictures = ap (λ (ts : List Event). filter tells_picture (content_lines ts)) row.reported ∙ law.1 };
    }

pub pictured_locally : (words : List (List ℕ)) (ending : Ending) (before after : Devices) (status : ℕ) → RunEnds words ending before after → status ≡ status_of ending → IsCommand words RecoverContent
    → (t : TappedStream) (until : ℕ) → IsTappedUntil t until → AlignsBy t until → before.left ≡ Some t.bytes → Unless (λ s old new. ArePicturesBy t until old new) status before after
pictured_locally words ending before after status ends is named t until tapped aligns left =
    unless_so
    (IsHeardBy content_listing t until)
    (λ s old new. ArePicturesBy t until old new)
    status before after
    (λ h. (h.0, h.1, h.2, h.3, (h.4.0, h.4.1, pictures_from t h.0 h.1 h.2 h.4.0 status before.held after.held h.4.2)))
    (headlined_locally content_listing after_content last_link content_is_text RecoverContent (λ bytes o does. does) words ending before after status ends is named t until tapped aligns left)
