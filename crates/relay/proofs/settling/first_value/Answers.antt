use Rattle.std.proofs.Common.{ap, sym, ◌∙◌}
use Rattle.std.specs.Prelude.{Some}
use Rattle.std.specs.Option.{option_copied}
use Rattle.std.specs.List.{slice_get}
use Rattle.island_pack.specs.Periods.{ControlRun}
use Rattle.relay.proofs.Changing.{first_longest, first_longest_none}
use Rattle.relay.proofs.settling.first_value.Goals as goal

pub returns-in-Some : goal.returns-in-Some
returns-in-Some c values e =
    let x : ControlRun = record { value = c.run.inside.value; count = c.run.inside.count } in
    first_longest values x (ap (λ rs. slice_get rs 0) (sym e) ∙ sym c.first.ensures.value ∙ ap option_copied c.in-Some.is ∙ ap Some (sym c.run.view_is))

pub returns-in-None : goal.returns-in-None
returns-in-None c values e = first_longest_none values (ap (λ rs. slice_get rs 0) (sym e) ∙ sym c.first.ensures.value ∙ ap option_copied c.in-None.is)
