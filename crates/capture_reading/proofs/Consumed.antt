-- What was taken of a source begins what it had left: the lemma of sources, by a name that a tactic of this crate can cite.
use Rattle.std.proofs.Common.{ℕ, List}
use Rattle.std.specs.Prelude.{Option}
use Rattle.outside_io.proofs.Consumed.{Takes}
use Rattle.outside_io.proofs.Consumed as source

pub takes_none : (left : Option (List ℕ)) → Takes left left
takes_none left = source.takes_none left
