use Rattle.std.proofs.Common.{ℕ, List, ◌++◌, ap₂, sym}
use Rattle.island_pack.proofs.Parts.{seven}
use Rattle.island_pack.proofs.taking.joined.Goals as goal

pub returns : goal.returns
returns c =
    let join : List ℕ → List ℕ → List ℕ = λ xs ys. xs ++ ys in
    sym (ap₂ join (ap₂ join (ap₂ join (seven c.args.a.now c.told-a) (seven c.args.b.now c.told-b)) (seven c.args.c.now c.told-c)) (seven c.args.d.now c.told-d))
