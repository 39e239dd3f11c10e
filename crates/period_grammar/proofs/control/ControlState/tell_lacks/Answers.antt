use Rattle.period_grammar.proofs.control.ControlState.tell_lacks.Goals as goal

pub returns-clause-reported : goal.returns-clause-reported
returns-clause-reported c control bytes was = c.tell_short.ensures.reported control c.args.bits bytes was (c.has_preamble.ensures control was)
