use Rattle.std.proofs.Common.{sym, ◌∙◌}
use Rattle.listing_reader.specs.Causes.{packet_cause}
use Rattle.listing_reader.proofs.Refused.{stops_here, goes_past}
use Rattle.listing_reader.proofs.reader.Reader.packet_cause.Goals as goal

pub returns-then-not-is_in_range-clause-answer : goal.returns-then-not-is_in_range-clause-answer
unfolding packet_cause
returns-then-not-is_in_range-clause-answer c = sym (stops_here _ _ _ (sym c.is_in_range.ensures.answer ∙ c.if-not-is_in_range.true))

pub returns-then-not-is_open-clause-answer : goal.returns-then-not-is_open-clause-answer
unfolding packet_cause
returns-then-not-is_open-clause-answer c = sym (goes_past _ _ _ (sym c.is_in_range.ensures.answer ∙ c.if-not-is_in_range.false) ∙ stops_here _ _ _ (sym c.is_open.ensures ∙ c.if-not-is_open.true))

pub returns-then-not-has_room-clause-answer : goal.returns-then-not-has_room-clause-answer
unfolding packet_cause
returns-then-not-has_room-clause-answer c = sym (goes_past _ _ _ (sym c.is_in_range.ensures.answer ∙ c.if-not-is_in_range.false) ∙ goes_past _ _ _ (sym c.is_open.ensures ∙ c.if-not-is_open.false) ∙ stops_here _ _ _ (sym c.has_room.ensures ∙ c.if-not-has_room.true))

pub returns-else-not-has_room-clause-answer : goal.returns-else-not-has_room-clause-answer
unfolding packet_cause
returns-else-not-has_room-clause-answer c = sym (goes_past _ _ _ (sym c.is_in_range.ensures.answer ∙ c.if-not-is_in_range.false) ∙ goes_past _ _ _ (sym c.is_open.ensures ∙ c.if-not-is_open.false) ∙ goes_past _ _ _ (sym c.has_room.ensures ∙ c.if-not-has_room.false))
