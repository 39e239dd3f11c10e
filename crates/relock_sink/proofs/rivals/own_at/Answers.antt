use Rattle.std.proofs.lemmas.Bool.{MatchBool-at_true, MatchBool-at_false}
use Rattle.relock_sink.specs.Judges.{IsOpening}
use Rattle.relock_sink.proofs.Rivalry.{confirmed_at, never_at}
use Rattle.relock_sink.proofs.rivals.own_at.Goals as goal

pub returns-then-is_opening : goal.returns-then-is_opening
returns-then-is_opening c = λ fed lent first long.
    confirmed_at fed c.args.edges first (MatchBool-at_true (IsOpening fed c.args.edges) (IsOpening fed c.args.edges → ⊥) c.if-is_opening.true (c.is_opening.ensures fed lent))

pub returns-else-is_opening : goal.returns-else-is_opening
returns-else-is_opening c = λ fed lent first long.
    never_at fed c.args.edges first long (MatchBool-at_false (IsOpening fed c.args.edges) (IsOpening fed c.args.edges → ⊥) c.if-is_opening.false (c.is_opening.ensures fed lent))
