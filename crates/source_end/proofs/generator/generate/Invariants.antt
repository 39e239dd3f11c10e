use Rattle.std.proofs.Common.{◌≡◌}
use Rattle.source_end.specs.Generator.{first_frames}
use Rattle.source_end.proofs.generator.generate.Given as goal

abbrev pub invariant-loop-f : goal.invariant-loop-f
invariant-loop-f l = l.content ≡ first_frames l.avi l.audio l.f
