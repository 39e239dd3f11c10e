use Rattle.std.proofs.Common.{◌+◌, ◌*◌}
use Rattle.island_pack.proofs.Apart.{two_apart}
use Rattle.island_pack.proofs.taking.sync_row.Goals as goal

pub returns : goal.returns
returns c = λ k lt.
    two_apart c.to_le_bytes.result k _ _ _ (λ j. c.apart.ensures.value j + 2 * c.apart-2.ensures.value j) c.to_le_bytes.ensures lt
