-- What later edges say of the alignment in use.
use Rattle.std.specs.Prelude.{ℕ, List, slice_index}
use Rattle.link_sink.specs.Sinks.{Fed}
use Rattle.relock_sink.specs.Doubts.{IsContender}
use Rattle.relock_sink.specs.Judges.{Refutes}
use Rattle.relock_sink.specs.declared.rival.Verdict.{Verdict}
use Rattle.relock_sink.specs.declared.rival.Verdict.TheVariants.{Nothing, Contended, Refuted}

abbrev pub Contends : Fed → List ℕ → List ℕ → Type 0
Contends fed own edges = IsContender fed (slice_index own 0) (slice_index own 1) (slice_index own 2) (slice_index edges 0) (slice_index edges 1) (slice_index edges 2)

-- a verdict is what edges say
abbrev pub Says : Verdict → Fed → List ℕ → List ℕ → Type 0
Says Nothing fed own edges = Contends fed own edges → ⊥
Says Contended fed own edges = Contends fed own edges × (Refutes fed own edges → ⊥)
Says Refuted fed own edges = Refutes fed own edges
