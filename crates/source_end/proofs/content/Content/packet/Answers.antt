use Rattle.std.proofs.Common.{arith}
use Rattle.std.proofs.lemmas.List.{length-set}
use Rattle.source_end.proofs.Gathered.{on_ok}
use Rattle.source_end.proofs.Contents.{last_set, set_content, packet_content, kept_or}
use Rattle.source_end.proofs.content.Content.packet.Goals as goal

pub invariant_of-self : goal.invariant_of-self
invariant_of-self c = grind (arith, kept_or, packet_content, length-set, set_content)

pub returns-clause-ok : goal.returns-clause-ok
returns-clause-ok c = grind (arith, on_ok, last_set)
