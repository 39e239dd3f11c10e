-- What was taken of a source begins what it had left: nothing, and what was taken in two steps.
use Rattle.std.proofs.Common.{ℕ, List, [], ◌++◌}
use Rattle.std.specs.Prelude.{Option}
use Rattle.std.specs.Io.KnownBytes.{Consumes}
use Rattle.std.proofs.KnownBytes.{Consumes-nil, Consumes-trans}

-- bytes were taken of the source
abbrev pub Takes : Option (List ℕ) → Option (List ℕ) → Type 0
Takes left rest = (taken : List ℕ) × Consumes left rest taken

pub takes_none : (left : Option (List ℕ)) → Takes left left
takes_none left = ([], Consumes-nil left)

pub takes_more : (left between rest : Option (List ℕ)) → Takes left between → Takes between rest → Takes left rest
takes_more left between rest first then = (first.0 ++ then.0, Consumes-trans left between rest first.0 then.0 first.1 then.1)
