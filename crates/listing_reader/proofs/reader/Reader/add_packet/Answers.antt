use Rattle.std.proofs.Common.{subst, sym, ◌∙◌}
use Rattle.listing_reader.specs.Reported.{MayStand}
use Rattle.listing_reader.proofs.Islands.{grows_at}
use Rattle.listing_reader.proofs.Refused.{answers_cause, answers_ok, cause_packet}
use Rattle.listing_reader.proofs.reader.Reader.add_packet.Goals as goal
use Rattle.listing_reader.proofs.reader.Reader.add_packet.Goals.{in-Some-island+in_ok-push, in_default-island}

pub returns-in-Some-clause-cause : goal.returns-in-Some-clause-cause
returns-in-Some-clause-cause c = answers_cause _ _ c.in-Some.cause (cause_packet c.args.self c.args.packet ∙ sym c.packet_cause.ensures.answer ∙ c.in-Some.is)

pub invariant_of-reader : goal.invariant_of-reader
invariant_of-reader c =
    let r = c.reader.inside in
    let none = sym c.packet_cause.ensures.answer ∙ c.in_default.is in
    elim c.match-reader.branch [
      | in-Some-island+in_ok-push w ↦
          subst (λ now. MayStand now.periods now.island) (sym w.reader-inside-is)
          (grows_at r.periods r.island w.in-Some-island.island c.args.self c.args.packet w.push.new.self w.in-Some-island.is c.reader.invariant c.reader.view_is none (c.packet_cause.ensures.packet c.in_default.is) w.in_ok-push.ensures.ok)
      | in_default-island w ↦ subst (λ now. MayStand now.periods now.island) (sym w.reader-inside-is) c.reader.invariant
    ]

pub returns-clause-cause : goal.returns-clause-cause
returns-clause-cause c = answers_ok _ _ (cause_packet c.args.self c.args.packet ∙ sym c.packet_cause.ensures.answer ∙ c.in_default.is)
