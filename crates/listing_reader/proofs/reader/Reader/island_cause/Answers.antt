use Rattle.std.proofs.Common.{ap, sym, ◌∙◌}
use Rattle.source_end.specs.Refusals.{last_period, is_long_enough}
use Rattle.listing_reader.specs.Causes.{island_cause, announces_island}
use Rattle.listing_reader.specs.Drafts.{Draft}
use Rattle.listing_reader.proofs.Refused.{stops_here, goes_past}
use Rattle.listing_reader.proofs.reader.Reader.island_cause.Goals as goal

pub returns-then-not-are_sync_values : goal.returns-then-not-are_sync_values
unfolding island_cause
returns-then-not-are_sync_values c = sym (stops_here _ _ _ (sym c.are_sync_values.ensures ∙ c.if-not-are_sync_values.true))

pub returns-then-not-is_turn : goal.returns-then-not-is_turn
unfolding island_cause
returns-then-not-is_turn c = sym (goes_past _ _ _ (sym c.are_sync_values.ensures ∙ c.if-not-are_sync_values.false) ∙ stops_here _ _ _ (sym c.is_turn.ensures ∙ c.if-not-is_turn.true))

pub returns-then-not-is_long_enough : goal.returns-then-not-is_long_enough
unfolding island_cause
returns-then-not-is_long_enough c = sym (goes_past _ _ _ (sym c.are_sync_values.ensures ∙ c.if-not-are_sync_values.false) ∙ goes_past _ _ _ (sym c.is_turn.ensures ∙ c.if-not-is_turn.false) ∙ stops_here _ _ _ (sym (ap (λ (d : Draft). is_long_enough (last_period d.periods)) c.self.view_is) ∙ sym c.is_long_enough.ensures ∙ c.if-not-is_long_enough.true))

pub returns-then-not-announces_island : goal.returns-then-not-announces_island
unfolding island_cause
returns-then-not-announces_island c = sym (goes_past _ _ _ (sym c.are_sync_values.ensures ∙ c.if-not-are_sync_values.false) ∙ goes_past _ _ _ (sym c.is_turn.ensures ∙ c.if-not-is_turn.false) ∙ goes_past _ _ _ (sym (ap (λ (d : Draft). is_long_enough (last_period d.periods)) c.self.view_is) ∙ sym c.is_long_enough.ensures ∙ c.if-not-is_long_enough.false) ∙ stops_here _ _ _ (sym (ap (λ (d : Draft). announces_island (last_period d.periods)) c.self.view_is) ∙ sym c.announces_island.ensures ∙ c.if-not-announces_island.true))

pub returns-then-not-has_room : goal.returns-then-not-has_room
unfolding island_cause
returns-then-not-has_room c = sym (goes_past _ _ _ (sym c.are_sync_values.ensures ∙ c.if-not-are_sync_values.false) ∙ goes_past _ _ _ (sym c.is_turn.ensures ∙ c.if-not-is_turn.false) ∙ goes_past _ _ _ (sym (ap (λ (d : Draft). is_long_enough (last_period d.periods)) c.self.view_is) ∙ sym c.is_long_enough.ensures ∙ c.if-not-is_long_enough.false) ∙ goes_past _ _ _ (sym (ap (λ (d : Draft). announces_island (last_period d.periods)) c.self.view_is) ∙ sym c.announces_island.ensures ∙ c.if-not-announces_island.false) ∙ stops_here _ _ _ (sym c.has_room.ensures ∙ c.if-not-has_room.true))

pub returns-else-not-has_room : goal.returns-else-not-has_room
unfolding island_cause
returns-else-not-has_room c = sym (goes_past _ _ _ (sym c.are_sync_values.ensures ∙ c.if-not-are_sync_values.false) ∙ goes_past _ _ _ (sym c.is_turn.ensures ∙ c.if-not-is_turn.false) ∙ goes_past _ _ _ (sym (ap (λ (d : Draft). is_long_enough (last_period d.periods)) c.self.view_is) ∙ sym c.is_long_enough.ensures ∙ c.if-not-is_long_enough.false) ∙ goes_past _ _ _ (sym (ap (λ (d : Draft). announces_island (last_period d.periods)) c.self.view_is) ∙ sym c.announces_island.ensures ∙ c.if-not-announces_island.false) ∙ goes_past _ _ _ (sym c.has_room.ensures ∙ c.if-not-has_room.false))
