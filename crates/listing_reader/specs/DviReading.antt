-- What the text of a listing without guard bands reads as, which has lines `c`, `v` and `end` alone: the periods that it
-- gives, or its first wrong line and why.
use Rattle.std.specs.Prelude.{ℕ, List, [], ◌∷◌, ◌++◌, Option, Some, None}
use Rattle.island_pack.specs.Periods.{Period, video}
use Rattle.source_end.specs.DviPeriods.{dvi_columns_of}
use Rattle.source_end.specs.Refusals.{dvi_push_fault, close_fault}
use Rattle.listing_reader.specs.declared.fault.ListCause.{ListCause}
use Rattle.listing_reader.specs.declared.fault.ListCause.TheVariants.{Fault, Form}
use Rattle.listing_reader.specs.Lines.{pieces_of}
use Rattle.listing_reader.specs.LineSteps.{Read, LineStep, tells, closes, wrong, read_lines}
use Rattle.listing_reader.specs.Forms.{LineForm, control_line, video_line, island_line, packet_line, close_line, end_line, fault_line, no_line, form_of}
use Rattle.listing_reader.specs.Drafts.{with_run}
use Rattle.listing_reader.specs.Causes.{caused, run_cause_after}

unfoldable pub dvi_run_cause : List Period → ℕ → ℕ → Option ListCause
dvi_run_cause periods value count = run_cause_after (dvi_columns_of periods) value count

-- why a line is refused after what the lines before it said; those of data islands are of no form here
unfoldable pub dvi_line_cause : List Period → LineForm → Option ListCause
dvi_line_cause periods fault_line = Some Fault
dvi_line_cause periods no_line = Some Form
dvi_line_cause periods (control_line value count) = dvi_run_cause periods value count
dvi_line_cause periods (video_line bytes) = caused (dvi_push_fault periods (video bytes))
dvi_line_cause periods (island_line a b) = Some Form
dvi_line_cause periods (packet_line p) = Some Form
dvi_line_cause periods (close_line a b) = Some Form
dvi_line_cause periods end_line = caused (close_fault periods)

-- what is given after a line that is taken
abbrev pub with_dvi_line : LineForm → List Period → List Period
with_dvi_line (control_line value count) periods = with_run periods (record { value = value; count = count })
with_dvi_line (video_line bytes) periods = periods ++ video bytes ∷ []
with_dvi_line (island_line a b) periods = periods
with_dvi_line (packet_line p) periods = periods
with_dvi_line (close_line a b) periods = periods
with_dvi_line end_line periods = periods
with_dvi_line fault_line periods = periods
with_dvi_line no_line periods = periods

abbrev pub dvi_step_by : Option ListCause → LineForm → List Period → LineStep (List Period) (List Period)
dvi_step_by (Some cause) form periods = wrong cause
dvi_step_by None end_line periods = closes periods
dvi_step_by None (control_line value count) periods = tells (with_dvi_line (control_line value count) periods)
dvi_step_by None (video_line bytes) periods = tells (with_dvi_line (video_line bytes) periods)
dvi_step_by None (island_line a b) periods = wrong Form
dvi_step_by None (packet_line p) periods = wrong Form
dvi_step_by None (close_line a b) periods = wrong Form
dvi_step_by None fault_line periods = wrong Fault
dvi_step_by None no_line periods = wrong Form

-- what a line does after what the lines before it said
unfoldable pub dvi_step : List Period → List ℕ → LineStep (List Period) (List Period)
dvi_step periods line = dvi_step_by (dvi_line_cause periods (form_of line)) (form_of line) periods

unfoldable pub dvi_reads_as : List ℕ → Read (List Period)
dvi_reads_as text = read_lines dvi_step 1 0 [] (pieces_of text)
