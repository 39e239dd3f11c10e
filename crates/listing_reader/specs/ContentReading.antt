-- What the text of a content listing reads as: the mode and the frames that it gives, or its first wrong line and why.
use Rattle.std.specs.Prelude.{ℕ, List, Option, Some, None}
use Rattle.source_end.specs.Content.{Frame}
use Rattle.source_end.specs.declared.mode.Mode.{Mode}
use Rattle.listing_reader.specs.declared.fault.ListCause.{ListCause}
use Rattle.listing_reader.specs.declared.fault.ListCause.TheVariants.{Order}
use Rattle.listing_reader.specs.Lines.{pieces_of}
use Rattle.listing_reader.specs.LineSteps.{Read, LineStep, tells, closes, wrong, read_lines}
use Rattle.listing_reader.specs.ContentForms.{ContentLine, mode_line, row_line, frame_line, packet_line, sample_line, end_line, fault_line, no_line, content_form_of}
use Rattle.listing_reader.specs.ContentDrafts.{ContentDraft, no_content, with_content, content_cause}

-- what the line `end` ends
abbrev pub closed_content : ContentDraft → Option Mode → LineStep ContentDraft (Mode × List Frame)
closed_content draft (Some mode) = closes (mode, draft.frames)
closed_content draft None = wrong Order

abbrev pub content_step_by : Option ListCause → ContentLine → ContentDraft → LineStep ContentDraft (Mode × List Frame)
content_step_by (Some cause) form draft = wrong cause
content_step_by None end_line draft = closed_content draft draft.mode
content_step_by None (mode_line mode) draft = tells (with_content (mode_line mode) draft)
content_step_by None (row_line bytes) draft = tells (with_content (row_line bytes) draft)
content_step_by None (frame_line width height) draft = tells (with_content (frame_line width height) draft)
content_step_by None (packet_line packet) draft = tells (with_content (packet_line packet) draft)
content_step_by None (sample_line sample) draft = tells (with_content (sample_line sample) draft)
content_step_by None fault_line draft = tells draft
content_step_by None no_line draft = tells draft

-- what a line does after what the lines before it said
unfoldable pub content_step : ContentDraft → List ℕ → LineStep ContentDraft (Mode × List Frame)
content_step draft line = content_step_by (content_cause draft (content_form_of line)) (content_form_of line) draft

unfoldable pub content_reads_as : List ℕ → Read (Mode × List Frame)
content_reads_as text = read_lines content_step 1 0 no_content (pieces_of text)
