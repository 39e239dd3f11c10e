use Rattle.std.proofs.Common.{sym, ◌∙◌}
use Rattle.listing_reader.proofs.Islands.{close_turned, closes_at}
use Rattle.listing_reader.proofs.Refused.{answers_err, answers_done}
use Rattle.listing_reader.proofs.reader.Reader.close_island.Goals as goal

pub returns-then-not-has_packet-clause-cause : goal.returns-then-not-has_packet-clause-cause
returns-then-not-has_packet-clause-cause c =
    close_turned _ c.args.self _ _ c.out_of_turn.result (sym c.has_packet.ensures ∙ c.if-not-has_packet.true)
    (λ h. c.out_of_turn.ensures.order (c.are_sync_values.ensures ∙ h)) (λ h. c.out_of_turn.ensures.range (c.are_sync_values.ensures ∙ h))

pub returns-in_err-periods-clause-cause : goal.returns-in_err-periods-clause-cause
returns-in_err-periods-clause-cause c =
    let r = c.self.inside in
    answers_err _ _ _ _ c.from_residual.result _
    (closes_at r.periods r.island c.in-Some.island c.args.self _ _ c.set_closing.new.self c.in-Some.is c.self.invariant c.self.view_is (sym c.has_packet.ensures ∙ c.if-not-has_packet.false) c.set_closing.ensures)
    c.in_err-periods.ensures.cause c.from_residual.ensures.1

pub returns-clause-cause : goal.returns-clause-cause
returns-clause-cause c =
    let r = c.self.inside in
    answers_done _ _ _ _ c.in_ok-periods.periods _
    (closes_at r.periods r.island c.in-Some.island c.args.self _ _ c.set_closing.new.self c.in-Some.is c.self.invariant c.self.view_is (sym c.has_packet.ensures ∙ c.if-not-has_packet.false) c.set_closing.ensures)
    c.in_ok-periods.ensures.cause
