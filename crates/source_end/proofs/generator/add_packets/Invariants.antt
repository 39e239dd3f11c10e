use Rattle.std.proofs.Common.{◌≡◌, length, [], ◌∷◌}
use Rattle.source_end.specs.Generator.{clock_packet, first_sounds, Adds}
use Rattle.source_end.proofs.generator.add_packets.Given as goal

abbrev pub invariant-loop-i : goal.invariant-loop-i
invariant-loop-i l = record {
  count : length l.content ≡ length l.fn.content;
  added : Adds l.fn.content l.content (l.avi ∷ (clock_packet ∷ (l.audio ∷ first_sounds l.f l.i))) [];
}
