use Rattle.std.proofs.Common.{ℕ, ◌+◌, List, [], ◌∷◌, ◌++◌, take, set, length-set, ap, sym, ◌∙◌, arith}
use Rattle.std.proofs.lemmas.List.{drop-set-lt}
use Rattle.std.proofs.lemmas.Grind.{get_or_default_zero}
use Rattle.island_pack.proofs.Parts.{three}
use Rattle.island_pack.proofs.KeptColumns.{kept_of, length-kept_of, set_kept, behind_kept}
use Rattle.island_pack.proofs.packet_columns.PacketColumns.put.Goals as goal

pub returns-clause-long : goal.returns-clause-long
unfolding kept_of
returns-clause-long c =
    let kept = c.self.inside in
    let at = c.args.at in
    let blue = length-set kept.blue at c.value.result in
    let green = length-set kept.green at c.value-2.result in
    let red = length-set kept.red at c.value-3.result in
    let all = length-kept_of (set kept.blue at c.value.result) (set kept.green at c.value-2.result) (set kept.red at c.value-3.result) (omega arith) (omega arith) in
    omega (arith, all)

pub returns-clause-put : goal.returns-clause-put
unfolding kept_of
returns-clause-put c =
    let kept = c.self.inside in
    set_kept kept.blue kept.green kept.red c.args.self.now c.args.at _ _ _ _ _ _ c.self.view_is (omega arith) (omega arith) (omega arith) (omega (arith, c.requires))
    (c.value.ensures.value ∙ get_or_default_zero c.args.column.now 0 _ (omega (arith, c.told-column))) (c.value-2.ensures.value ∙ get_or_default_zero c.args.column.now 1 _ (omega (arith, c.told-column))) (c.value-3.ensures.value ∙ get_or_default_zero c.args.column.now 2 _ (omega (arith, c.told-column)))

pub returns-clause-own : goal.returns-clause-own
unfolding kept_of
returns-clause-own c =
    let kept = c.self.inside in
    set_kept kept.blue kept.green kept.red c.args.self.now c.args.at _ _ _ _ _ _ c.self.view_is (omega arith) (omega arith) (omega arith) (omega (arith, c.requires))
    (c.value.ensures.value ∙ get_or_default_zero c.args.column.now 0 _ (omega (arith, c.told-column))) (c.value-2.ensures.value ∙ get_or_default_zero c.args.column.now 1 _ (omega (arith, c.told-column))) (c.value-3.ensures.value ∙ get_or_default_zero c.args.column.now 2 _ (omega (arith, c.told-column)))
    ∙ ap (λ (w : List ℕ). take c.args.at c.args.self.now ++ w ∷ []) (sym (three c.args.column.now (omega (arith, c.told-column))))

pub returns-clause-behind : goal.returns-clause-behind
unfolding kept_of
returns-clause-behind c =
    let kept = c.self.inside in
    let at = c.args.at in
    behind_kept kept.blue kept.green kept.red _ _ _ c.args.self.now (at + 1) c.self.view_is
    (drop-set-lt (at + 1) kept.blue at c.value.result (omega arith)) (drop-set-lt (at + 1) kept.green at c.value-2.result (omega arith)) (drop-set-lt (at + 1) kept.red at c.value-3.result (omega arith))
