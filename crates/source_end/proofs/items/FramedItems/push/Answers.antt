use Rattle.std.proofs.Common.{◌≡◌, [], ◌∷◌, map, ap, sym, ◌∙◌, None}
use Rattle.std.proofs.lemmas.List.{map-append}
use Rattle.source_end.specs.ItemPeriods.{period_of}
use Rattle.source_end.specs.Refusals.{last_period}
use Rattle.source_end.proofs.Faults.{answers, answers_ok, answers_err}
use Rattle.source_end.proofs.Framed.{framed_fault, more_kept}
use Rattle.source_end.proofs.items.FramedItems.push.Goals as goal
use Rattle.source_end.proofs.items.FramedItems.push.Goals.{in-Ok, in-Err}

pub returns-in-Some-clause-fault : goal.returns-in-Some-clause-fault
returns-in-Some-clause-fault g c =
    let rules = g.F.Framing.rules in
    let p = period_of c.args.item in
    let found = framed_fault _ _ _ c.lawful.ensures c.args.self.now (map period_of c.as_slice-2.result.now) p c.is_announced-announced.result c.has_room-room.result c.self.inside.columns c.columns-columns.result
    (ap (map period_of) c.as_slice-2.ensures.value ∙ c.self.view_is)
    (c.is_announced-announced.ensures ∙ ap (λ xs. rules.is_announced (last_period (map period_of xs)) p) (c.as_slice.ensures.value ∙ sym c.as_slice-2.ensures.value))
    c.has_room-room.ensures
    (c.self.invariant.1 ∙ ap rules.columns_of c.self.view_is)
    c.columns-columns.ensures in
    answers c.in-Some.fault (rules.push_fault c.args.self.now p) (sym (c.first_fault.ensures.answer ∙ found) ∙ c.in-Some.is)

pub invariant_of-self : goal.invariant_of-self
invariant_of-self g c =
    let rules = g.F.Framing.rules in
    let p = period_of c.args.item in
    let items = c.self.inside.list.items in
    let found = framed_fault _ _ _ c.lawful.ensures (map period_of items) (map period_of c.as_slice-2.result.now) p c.is_announced-announced.result c.has_room-room.result c.self.inside.columns c.columns-columns.result
    (ap (map period_of) c.as_slice-2.ensures.value)
    (c.is_announced-announced.ensures ∙ ap (λ xs. rules.is_announced (last_period (map period_of xs)) p) (c.as_slice.ensures.value ∙ sym c.as_slice-2.ensures.value))
    c.has_room-room.ensures
    c.self.invariant.1
    c.columns-columns.ensures in
    let kept = more_kept _ _ _ c.lawful.ensures (map period_of items) (map period_of c.push.new.self.items) p c.self.inside.columns c.columns-columns.result c.self.invariant.0 c.self.invariant.1 c.columns-columns.ensures
    c.requires c.first_fault.ensures.whole (sym (c.first_fault.ensures.answer ∙ found) ∙ c.in_default.is)
    (ap (map period_of) c.in-Ok.ensures.items ∙ map-append period_of items (c.args.item ∷ [])) in
    (kept.conforming, kept.columns, kept.few)

pub returns-clause-fault : goal.returns-clause-fault
returns-clause-fault g c =
    let rules = g.F.Framing.rules in
    let p = period_of c.args.item in
    let found = framed_fault _ _ _ c.lawful.ensures c.args.self.now (map period_of c.as_slice-2.result.now) p c.is_announced-announced.result c.has_room-room.result c.self.inside.columns c.columns-columns.result
    (ap (map period_of) c.as_slice-2.ensures.value ∙ c.self.view_is)
    (c.is_announced-announced.ensures ∙ ap (λ xs. rules.is_announced (last_period (map period_of xs)) p) (c.as_slice.ensures.value ∙ sym c.as_slice-2.ensures.value))
    c.has_room-room.ensures
    (c.self.invariant.1 ∙ ap rules.columns_of c.self.view_is)
    c.columns-columns.ensures in
    let none : rules.push_fault c.args.self.now p ≡ None = sym (c.first_fault.ensures.answer ∙ found) ∙ c.in_default.is in
    elim c.match-push.branch [
      | in-Ok w ↦ answers_ok c.match-push.result (rules.push_fault c.args.self.now p) none w.result-is
      | in-Err w ↦ answers_err c.match-push.result (rules.push_fault c.args.self.now p) none w.result-is
    ]
