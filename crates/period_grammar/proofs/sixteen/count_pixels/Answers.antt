use Rattle.period_grammar.proofs.Fronts.{all_pixels, some_pixels}
use Rattle.period_grammar.proofs.sixteen.count_pixels.Goals as goal

pub returns-then-controls-eq0 : goal.returns-then-controls-eq0
returns-then-controls-eq0 c = λ cs long e. all_pixels c.args.controls cs long e c.if-controls-eq0.true

pub returns-else-controls-eq0 : goal.returns-else-controls-eq0
returns-else-controls-eq0 c = λ cs long e. some_pixels c.args.controls cs long e c.if-controls-eq0.false
