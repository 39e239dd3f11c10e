use Rattle.std.proofs.Common.{ap}
use Rattle.std.specs.Prelude.{slice_index_or}
use Rattle.bch_block.specs.declared.Verdict.TheVariants.{Clean}
use Rattle.island_pack.proofs.packet.PacketRef.verdict.Goals as goal

pub returns : goal.returns
returns c = ap (λ k. slice_index_or c.args.self.now.verdicts.now.blocks k Clean) c.from.ensures
