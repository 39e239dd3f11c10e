-- Of columns a hearing has one answer.
use Rattle.std.proofs.Common.{length, map, ap, sym, ◌∙◌}
use Rattle.std.proofs.lemmas.List.{append_cancel_left}
use Rattle.period_grammar.specs.Events.{all_at, event_of}
use Rattle.period_grammar.proofs.Hearings.{events_at}
use Rattle.dvi_hearing.specs.DviHeard.{dvi_so_far}
use Rattle.dvi_hearing.specs.Laws.{OneReport, OneEnd}

pub one_report : OneReport
one_report cs c us vs a b =
    let same = append_cancel_left (dvi_so_far cs) (all_at (length cs) us) (all_at (length cs) vs) (sym a ∙ b) in
    sym (events_at (length cs) us) ∙ ap (map event_of) same ∙ events_at (length cs) vs

pub one_end : OneEnd
one_end cs us vs a b = append_cancel_left (map event_of (dvi_so_far cs)) us vs (sym a ∙ b)
