use Rattle.std.proofs.Common.{ℕ, ◌||◌, List, ap, sym, ◌∙◌, arith}
use Rattle.std.specs.List.{list_any}
use Rattle.terc4.specs.Tables.{is_control}
use Rattle.island_pack.specs.Spelling.{has_control}
use Rattle.island_pack.proofs.KeptColumns.{kept_of, any_kept}
use Rattle.island_pack.proofs.packet_columns.PacketColumns.has_control.Goals as goal

pub returns-then-has_control : goal.returns-then-has_control
unfolding kept_of
returns-then-has_control c =
    let kept = c.self.inside in
    c.if-has_control.true ∙ ap (λ b. b || list_any is_control kept.red) c.if-has_control.ensures
    ∙ sym (any_kept kept.blue kept.green kept.red (omega arith) (omega arith)) ∙ ap (λ (ws : List (List ℕ)). list_any has_control ws) c.self.view_is

pub returns-else-has_control : goal.returns-else-has_control
unfolding kept_of
returns-else-has_control c =
    let kept = c.self.inside in
    c.has_control-else-has_control.ensures ∙ ap (λ b. b || list_any is_control kept.red) c.if-has_control.ensures
    ∙ sym (any_kept kept.blue kept.green kept.red (omega arith) (omega arith)) ∙ ap (λ (ws : List (List ℕ)). list_any has_control ws) c.self.view_is
