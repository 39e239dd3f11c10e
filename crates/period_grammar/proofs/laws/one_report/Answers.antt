use Rattle.std.proofs.Common.{◌∙◌, sym, ap, map, length}
use Rattle.std.proofs.lemmas.List.{append_cancel_left}
use Rattle.period_grammar.specs.Events.{all_at, event_of}
use Rattle.period_grammar.specs.Heard.{heard_so_far}
use Rattle.period_grammar.proofs.Hearings.{events_at}
use Rattle.period_grammar.proofs.laws.one_report.Goals as goal

pub returns-clause-column : goal.returns-clause-column
returns-clause-column c = λ cs d xs ys one other.
    let n = length cs in
    let same = append_cancel_left (heard_so_far cs) (all_at n xs) (all_at n ys) (sym one ∙ other) in
    sym (events_at n xs) ∙ ap (map event_of) same ∙ events_at n ys

pub returns-clause-end : goal.returns-clause-end
returns-clause-end c = λ cs xs ys one other. append_cancel_left (map event_of (heard_so_far cs)) xs ys (sym one ∙ other)
