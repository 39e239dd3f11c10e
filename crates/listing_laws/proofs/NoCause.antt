-- Lines that have no cause to be refused.
use Rattle.std.proofs.Common.{◌≡◌, ℕ, ◌+◌, ◌<◌, ◌≤◌, true, not, ◌&&◌, List, ap, ◌∙◌, arith}
use Rattle.std.specs.Prelude.{None, nat_lt}
use Rattle.std.specs.List.{list_all}
use Rattle.std.proofs.lemmas.Bool.{le-leb}
use Rattle.island_pack.specs.Periods.{video}
use Rattle.island_pack.specs.declared.packet.Packet.{Packet}
use Rattle.island_pack.specs.declared.ranges.TheConstants.{COLUMN_LIMIT}
use Rattle.source_end.specs.Refusals.{last_period, is_control_last, is_long_enough, is_in_range, push_fault}
use Rattle.listing_reader.specs.Causes.{caused, line_cause, island_cause, packet_cause, close_cause, is_closed, has_packets, is_nineteenth, announces_island}
use Rattle.listing_reader.specs.declared.fault.ListCause.TheVariants.{Range, Order, Control, Preamble, Long}
use Rattle.listing_reader.specs.Drafts.{Draft, draft_columns}
use Rattle.listing_reader.specs.Forms.{control_line, video_line, island_line, packet_line, close_line, end_line}
use Rattle.listing_reader.proofs.Refused.{goes_past, run_fits, video_pushed, end_well, cause_control, cause_island, cause_packet, cause_close, cause_end}

pub run_cause_none : (draft : Draft) (value count : ℕ) → value < 64 → 1 ≤ count → count ≤ COLUMN_LIMIT → is_closed draft.opened ≡ true → draft_columns draft + count ≤ COLUMN_LIMIT → line_cause draft (control_line value count) ≡ None
run_cause_none draft value count below some small closed few = grind (arith, cause_control, run_fits, le-leb)

pub video_cause_none : (draft : Draft) (bytes : List ℕ) → is_in_range (video bytes) ≡ true → is_closed draft.opened ≡ true → push_fault draft.periods (video bytes) ≡ None → line_cause draft (video_line bytes) ≡ None
video_cause_none draft bytes range closed none = video_pushed draft bytes range closed ∙ ap caused none

pub island_cause_none : (draft : Draft) (a b : ℕ) → (nat_lt a 4 && nat_lt b 4) ≡ true → (is_closed draft.opened && is_control_last (last_period draft.periods)) ≡ true → is_long_enough (last_period draft.periods) ≡ true
    → announces_island (last_period draft.periods) ≡ true → draft_columns draft + 2 ≤ COLUMN_LIMIT → line_cause draft (island_line a b) ≡ None
unfolding island_cause
island_cause_none draft a b sync turn long announced few =
    cause_island draft a b ∙ goes_past _ Range _ sync ∙ goes_past _ Order _ turn ∙ goes_past _ Control _ long ∙ goes_past _ Preamble _ announced
    ∙ goes_past _ Long _ (le-leb (draft_columns draft + 2) COLUMN_LIMIT few)

pub packet_cause_none : (draft : Draft) (p : Packet) → (list_all (λ v. nat_lt v 4) p.sync && not (is_nineteenth draft.opened)) ≡ true → has_packets 0 18 draft.opened ≡ true → draft_columns draft + 32 ≤ COLUMN_LIMIT
    → line_cause draft (packet_line p) ≡ None
unfolding packet_cause
packet_cause_none draft p range begun few =
    cause_packet draft p ∙ goes_past _ Range _ range ∙ goes_past _ Order _ begun ∙ goes_past _ Long _ (le-leb (draft_columns draft + 32) COLUMN_LIMIT few)

pub close_cause_none : (draft : Draft) (a b : ℕ) → (nat_lt a 4 && nat_lt b 4) ≡ true → has_packets 1 18 draft.opened ≡ true → draft_columns draft + 2 ≤ COLUMN_LIMIT → line_cause draft (close_line a b) ≡ None
unfolding close_cause
close_cause_none draft a b sync some few =
    cause_close draft a b ∙ goes_past _ Range _ sync ∙ goes_past _ Order _ some ∙ goes_past _ Long _ (le-leb (draft_columns draft + 2) COLUMN_LIMIT few)

pub end_cause_none : (draft : Draft) → (is_closed draft.opened && is_control_last (last_period draft.periods)) ≡ true → is_long_enough (last_period draft.periods) ≡ true → line_cause draft end_line ≡ None
end_cause_none draft turn long = cause_end draft ∙ end_well draft turn long
