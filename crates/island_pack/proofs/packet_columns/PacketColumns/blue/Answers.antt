use Rattle.std.proofs.Common.{ℕ, List, [], length, ap, sym, ◌∙◌, arith, slice_index}
use Rattle.std.specs.Prelude.{slice_index_or}
use Rattle.std.proofs.lemmas.Grind.{get_or_default_zero}
use Rattle.island_pack.proofs.KeptColumns.{kept_of, kept_at, length-kept_of}
use Rattle.island_pack.proofs.packet_columns.PacketColumns.blue.Goals as goal

pub returns-clause-value : goal.returns-clause-value
unfolding kept_of
returns-clause-value c =
    let kept = c.self.inside in
    let at = c.args.at in
    c.of.ensures ∙ get_or_default_zero kept.blue at _ (omega (arith, c.requires))
    ∙ sym (ap (λ w. slice_index w 0) (kept_at kept.blue kept.green kept.red at (omega arith) (omega arith) (omega (arith, c.requires))))
    ∙ ap (λ (ws : List (List ℕ)). slice_index (slice_index_or ws at []) 0) c.self.view_is

pub returns-clause-columns : goal.returns-clause-columns
unfolding kept_of
returns-clause-columns c =
    let kept = c.self.inside in
    let all = ap (λ (ws : List (List ℕ)). length ws) (sym c.self.view_is) ∙ length-kept_of kept.blue kept.green kept.red (omega arith) (omega arith) in
    omega (arith, all)
