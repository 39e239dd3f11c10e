use Rattle.std.proofs.Common.{arith}
use Rattle.std.proofs.lemmas.Bool.{eqb-true, eq-eqb}
use Rattle.capture_file.proofs.Packs.{spared_whole, spared_last, last_spared}
use Rattle.capture_file.proofs.chunk.is_padded.Goals as goal

pub returns-then-spare-eq0-clause-spared : goal.returns-then-spare-eq0-clause-spared
returns-then-spare-eq0-clause-spared c =
    (λ _. spared_whole c.args.part.now c.args.count (λ i. (c.type_inv.part i).fits) c.requires.size c.if-spare-eq0.true, λ _. eq-eqb _ _ c.if-spare-eq0.true)

pub returns-else-spare-eq0-clause-spared : goal.returns-else-spare-eq0-clause-spared
returns-else-spare-eq0-clause-spared c = grind (arith, spared_last, eqb-true, eq-eqb, last_spared)
