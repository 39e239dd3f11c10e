-- Why a line is refused after what the lines before it said: the first cause decides.
use Rattle.std.specs.Prelude.{ℕ, Bool, true, false, ◌&&◌, not, List, length, nat_le, nat_lt, Option, Some, None}
use Rattle.std.specs.List.{list_all}
use Rattle.island_pack.specs.declared.packet.Packet.{Packet}
use Rattle.island_pack.specs.Ranges.{is_run_in_range, are_sync_values, has_room as fits}
use Rattle.island_pack.specs.Periods.{Period, control, video, values_of, has_preamble, ISLAND_PREAMBLE}
use Rattle.source_end.specs.Refusals.{last_period, is_control_last, is_long_enough, is_in_range, push_fault, close_fault}
use Rattle.source_end.specs.declared.items.ItemFault.{ItemFault}
use Rattle.source_end.specs.declared.items.ItemFault.TheVariants.{Range as range_fault, Order as order_fault, Control as control_fault, Preamble as preamble_fault, Long as long_fault, NoMemory as no_memory}
use Rattle.listing_reader.specs.declared.fault.ListCause.{ListCause}
use Rattle.listing_reader.specs.declared.fault.ListCause.TheVariants.{Fault, Form, Range, Order, Control, Preamble, Long}
use Rattle.listing_reader.specs.Forms.{LineForm, control_line, video_line, island_line, packet_line, close_line, end_line, fault_line, no_line}
use Rattle.listing_reader.specs.Drafts.{OpenIsland, Draft, draft_columns}

abbrev pub cause_of : ItemFault → ListCause
cause_of range_fault = Range
cause_of order_fault = Order
cause_of control_fault = Control
cause_of preamble_fault = Preamble
cause_of long_fault = Long
cause_of no_memory = Long

abbrev pub caused : Option ItemFault → Option ListCause
caused None = None
caused (Some fault) = Some (cause_of fault)

-- a cause where a test fails, else what follows it
abbrev pub unless : Bool → ListCause → Option ListCause → Option ListCause
unless true cause rest = rest
unless false cause rest = Some cause

-- so many columns more are no more than a stream may have
abbrev pub has_room : Draft → ℕ → Bool
has_room draft columns = fits (draft_columns draft) columns

-- no data island is open
abbrev pub is_closed : Option OpenIsland → Bool
is_closed None = true
is_closed (Some x) = false

-- a data island is open, and has so many packets at least and at most
abbrev pub has_packets : ℕ → ℕ → Option OpenIsland → Bool
has_packets least most None = false
has_packets least most (Some x) = nat_le least (length x.packets) && nat_le (length x.packets) most

-- a run after so many columns
abbrev pub run_cause_after : ℕ → ℕ → ℕ → Option ListCause
run_cause_after columns value count =
    unless (is_run_in_range value count) Range
    (unless (fits columns count) Long
    None)

unfoldable pub run_cause : Draft → ℕ → ℕ → Option ListCause
run_cause draft value count =
    unless (is_run_in_range value count) Range
    (unless (is_closed draft.opened) Order
    (unless (has_room draft count) Long
    None))

-- inside a data island no video data period begins
abbrev pub video_cause : Draft → List ℕ → Option ListCause
video_cause draft bytes =
    unless (is_in_range (video bytes)) Range
    (unless (is_closed draft.opened) Order
    (caused (push_fault draft.periods (video bytes))))

abbrev pub announces_island : Option Period → Bool
announces_island (Some (control runs)) = has_preamble ISLAND_PREAMBLE (values_of runs)
announces_island _ = false

unfoldable pub island_cause : Draft → ℕ → ℕ → Option ListCause
island_cause draft a b =
    unless (are_sync_values a b) Range
    (unless (is_closed draft.opened && is_control_last (last_period draft.periods)) Order
    (unless (is_long_enough (last_period draft.periods)) Control
    (unless (announces_island (last_period draft.periods)) Preamble
    (unless (has_room draft 2) Long
    None))))

-- the nineteenth packet of an island is out of range
abbrev pub is_nineteenth : Option OpenIsland → Bool
is_nineteenth opened = has_packets 18 18 opened

unfoldable pub packet_cause : Draft → Packet → Option ListCause
packet_cause draft p =
    unless (list_all (λ v. nat_lt v 4) p.sync && not (is_nineteenth draft.opened)) Range
    (unless (has_packets 0 18 draft.opened) Order
    (unless (has_room draft 32) Long
    None))

unfoldable pub close_cause : Draft → ℕ → ℕ → Option ListCause
close_cause draft a b =
    unless (are_sync_values a b) Range
    (unless (has_packets 1 18 draft.opened) Order
    (unless (has_room draft 2) Long
    None))

unfoldable pub end_cause : Draft → Option ListCause
end_cause draft = unless (is_closed draft.opened) Order (caused (close_fault draft.periods))

unfoldable pub line_cause : Draft → LineForm → Option ListCause
line_cause draft fault_line = Some Fault
line_cause draft no_line = Some Form
line_cause draft (control_line value count) = run_cause draft value count
line_cause draft (video_line bytes) = video_cause draft bytes
line_cause draft (island_line a b) = island_cause draft a b
line_cause draft (packet_line p) = packet_cause draft p
line_cause draft (close_line a b) = close_cause draft a b
line_cause draft end_line = end_cause draft
