use Rattle.std.proofs.Common.{◌*◌, [], ◌∷◌, take, drop, slice_index}
use Rattle.tmds_word.specs.Bits.{bits_of as number_bits}
use Rattle.island_pack.specs.Packets.{BeginsWith}
use Rattle.island_pack.proofs.Parts.{each_body}
use Rattle.island_pack.proofs.laying.blocks_of.Goals as goal

pub returns-clause-bodies : goal.returns-clause-bodies
returns-clause-bodies c =
    let blocks = c.body_block.result ∷ c.body_block-2.result ∷ c.body_block-3.result ∷ c.body_block-4.result ∷ [] in
    each_body (λ b. BeginsWith (number_bits 64 (slice_index blocks b)) (take 7 (drop (7 * b) c.args.packet.now.bodies)))
    c.body_block.ensures.block c.body_block-2.ensures.block c.body_block-3.ensures.block c.body_block-4.ensures.block
