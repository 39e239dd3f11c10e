use Rattle.period_grammar.proofs.Eights.{all_alike, some_alike}
use Rattle.period_grammar.proofs.control.first_unlike.Goals as goal

pub returns-then-unlike-eq0 : goal.returns-then-unlike-eq0
returns-then-unlike-eq0 c = λ other cs long e. all_alike c.args.unlike other cs long e c.if-unlike-eq0.true

pub returns-else-unlike-eq0 : goal.returns-else-unlike-eq0
returns-else-unlike-eq0 c = λ other cs long e. some_alike c.args.unlike other cs long e c.if-unlike-eq0.false
