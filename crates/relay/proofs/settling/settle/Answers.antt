use Rattle.std.proofs.Common.{ℕ, ◌≡◌, ap, ap₂, sym, ◌∙◌, ◌++◌, ◌-◌, length, List, subst, replicate, max}
use Rattle.std.proofs.lemmas.List.{length-replicate}
use Rattle.island_pack.specs.Periods.{values_of}
use Rattle.island_pack.proofs.Runs.{values_longest}
use Rattle.source_end.proofs.Gathered.{on_ok}
use Rattle.relay.specs.Relayed.{filled, lengthened}
use Rattle.relay.specs.Changed.{changed_from}
use Rattle.relay.specs.Handed.{Took}
use Rattle.relay.proofs.Changing.{some_again, changed_both}
use Rattle.relay.proofs.Conforming.{length-lengthened}
use Rattle.relay.proofs.Handing.{took_both}
use Rattle.relay.proofs.settling.settle.Goals as goal

pub returns : goal.returns
returns c values e n =
    let v = c.first_value.result in
    let m = c.saturating_sub.result in
    let ctl = c.args.ctl in
    let k = c.at_least_twelve.result - c.args.changed in
    let us = replicate m v in
    let whole = lengthened (filled values) in
    let runs = c.in_ok-runs.runs in
    let old = c.args.out.now in
    let mid = c.hand_on.new.out in
    let now = c.hand_on_all.new.out in
    let is = c.in_ok-runs.ensures ∙ e in
    let w : whole ≡ us ++ values = c.first_value.ensures values (c.as_slice.ensures ∙ is) ∙ ap (λ i. replicate i v ++ values) (ap (λ i. 12 - i) (sym n) ∙ sym c.saturating_sub.ensures) in
    let few = length-replicate m v in
    let long = length-lengthened values in
    let size : k ≡ length whole - c.args.changed = ap (λ i. i - c.args.changed) (c.at_least_twelve.ensures ∙ ap (λ i. max 12 i) n ∙ sym long) in
    let first = subst (λ xs. Took old mid xs) (sym (some_again ctl k v m)) c.in_ok-left.ensures.taken in
    let left : c.in_ok-left.left ≡ k - length us = c.in_ok-left.ensures.left ∙ ap (λ i. k - i) (sym few) in
    let reception : values_of c.as_slice-2.result.now ≡ values = ap values_of (c.as_slice-2.ensures ∙ is) ∙ values_longest values in
    let all = ap₂ (λ (i : ℕ) (xs : List ℕ). changed_from ctl k us ++ changed_from ctl i xs) left reception ∙ sym (changed_both ctl k us values) ∙ ap₂ (λ (i : ℕ) (xs : List ℕ). changed_from ctl i xs) size (sym w) in
    on_ok c.hand_on_all.result _ _
    (λ (second : Took mid now (changed_from ctl c.in_ok-left.left (values_of c.as_slice-2.result.now))).
    subst (λ xs. Took old now xs) all (took_both old mid now (changed_from ctl k us) (changed_from ctl c.in_ok-left.left (values_of c.as_slice-2.result.now)) first second))
    c.hand_on_all.ensures
