-- The one event of one note pushed onto none.
use Rattle.std.proofs.Common.{◌≡◌, ◌≤◌, List, [], ◌∷◌, ◌++◌, length, ap, arith}
use Rattle.period_grammar.specs.Noted.{events, noted, Lent}
use Rattle.period_grammar.specs.declared.event_queue.QueuedEvent.{QueuedEvent}

pub pushed : (bytes : Lent) (note : QueuedEvent) (was now : List QueuedEvent) → length was ≤ 0 → now ≡ was ++ note ∷ [] → events bytes now ≡ noted bytes note ∷ []
pushed bytes note [] now room e = ap (events bytes) e
pushed bytes note (n ∷ was) now room e = absurd (omega arith)
