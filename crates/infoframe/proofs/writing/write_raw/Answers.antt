use Rattle.std.proofs.Common.{[], arith}
use Rattle.std.proofs.lemmas.List.{length-take}
use Rattle.infoframe.proofs.Bounds.{raw_bounds}
use Rattle.infoframe.proofs.Writings.{raw_written}
use Rattle.infoframe.proofs.writing.write_raw.Goals as goal

pub shared_ref_as_front-lay : goal.shared_ref_as_front-lay
shared_ref_as_front-lay c =
    let few = (raw_bounds _ _ _ _ c.requires).few in
    omega (arith, c.from.ensures)

pub lay-requires : goal.lay-requires
lay-requires c =
    let few = (raw_bounds _ _ _ _ c.requires).few in
    simp length-take (omega (arith, c.from.ensures))

pub returns-clause-written : goal.returns-clause-written
returns-clause-written c = grind (arith, raw_written, raw_bounds)
