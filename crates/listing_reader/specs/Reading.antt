-- What the text of a link listing reads as: the periods that it gives, or its first wrong line and why.
use Rattle.std.specs.Prelude.{ℕ, List, Option, Some, None}
use Rattle.island_pack.specs.Periods.{Period}
use Rattle.listing_reader.specs.declared.fault.ListCause.{ListCause}
use Rattle.listing_reader.specs.declared.fault.ListCause.TheVariants.{Fault, Form}
use Rattle.listing_reader.specs.Lines.{pieces_of}
use Rattle.listing_reader.specs.LineSteps.{Read, LineStep, tells, closes, wrong, read_lines}
use Rattle.listing_reader.specs.Forms.{LineForm, control_line, video_line, island_line, packet_line, close_line, end_line, fault_line, no_line, form_of}
use Rattle.listing_reader.specs.Drafts.{Draft, nothing_reported, with_line}
use Rattle.listing_reader.specs.Causes.{line_cause}

abbrev pub link_step_by : Option ListCause → LineForm → Draft → LineStep Draft (List Period)
link_step_by (Some cause) form draft = wrong cause
link_step_by None end_line draft = closes draft.periods
link_step_by None (control_line value count) draft = tells (with_line (control_line value count) draft)
link_step_by None (video_line bytes) draft = tells (with_line (video_line bytes) draft)
link_step_by None (island_line a b) draft = tells (with_line (island_line a b) draft)
link_step_by None (packet_line p) draft = tells (with_line (packet_line p) draft)
link_step_by None (close_line a b) draft = tells (with_line (close_line a b) draft)
link_step_by None fault_line draft = wrong Fault
link_step_by None no_line draft = wrong Form

-- what a line does after what the lines before it said
unfoldable pub link_step : Draft → List ℕ → LineStep Draft (List Period)
link_step draft line = link_step_by (line_cause draft (form_of line)) (form_of line) draft

unfoldable pub reads_as : List ℕ → Read (List Period)
reads_as text = read_lines link_step 1 0 nothing_reported (pieces_of text)
