use Rattle.std.proofs.Common.{ℕ, List, [], ap, sym, ◌∙◌, arith, slice_index}
use Rattle.std.specs.Prelude.{slice_index_or}
use Rattle.std.proofs.lemmas.Grind.{get_or_default_zero}
use Rattle.island_pack.proofs.KeptColumns.{kept_of, kept_at}
use Rattle.island_pack.proofs.packet_columns.PacketColumns.red.Goals as goal

pub returns : goal.returns
unfolding kept_of
returns c =
    let kept = c.self.inside in
    let at = c.args.at in
    c.of.ensures ∙ get_or_default_zero kept.red at _ (omega (arith, c.requires))
    ∙ sym (ap (λ w. slice_index w 2) (kept_at kept.blue kept.green kept.red at (omega arith) (omega arith) (omega (arith, c.requires))))
    ∙ ap (λ (ws : List (List ℕ)). slice_index (slice_index_or ws at []) 2) c.self.view_is
