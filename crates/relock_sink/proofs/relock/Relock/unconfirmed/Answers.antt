use Rattle.std.proofs.Common.{true, refl, ◌∙◌, arith}
use Rattle.track_sink.specs.Feds.{same_grows}
use Rattle.relock_sink.specs.declared.relock.Relock.{Relock}
use Rattle.relock_sink.proofs.Judging.{judged_by, none_here, first_found, edges_lent}
use Rattle.relock_sink.proofs.Places.{far_edges}
use Rattle.relock_sink.proofs.relock.Relock.unconfirmed.Goals as goal

pub seek-requires-clause-searched : goal.seek-requires-clause-searched
seek-requires-clause-searched c =
    let l = c.requires.lent in
    (l.0.blue, l.0.green, l.0.red, c.parts_of.ensures.parts l.0 l.1, l.2.1 l.0 (same_grows l.0))

pub doubt_at-requires-clause-base : goal.doubt_at-requires-clause-base
doubt_at-requires-clause-base c =
    let l = c.requires.lent in
    let found = c.in-Some.ensures.found l.0.blue l.0.green l.0.red (c.parts_of.ensures.parts l.0 l.1) (l.2.1 l.0 (same_grows l.0)) in
    edges_lent l.0 c.in-Some.edges c.args.self.now.alignment.limit c.args.lanes.base (first_found c.args.self.now l.0 c.in-Some.edges l.2.0 found) c.in-Some.ensures.within.0 c.requires.from

pub doubt_at-requires-clause-small : goal.doubt_at-requires-clause-small
doubt_at-requires-clause-small c =
    let l = c.requires.lent in
    let before = c.in-Some.ensures.within.1 in
    let small = l.1.small in
    let long = l.3 in
    omega arith

pub doubt_at-requires-clause-far : goal.doubt_at-requires-clause-far
doubt_at-requires-clause-far c =
    let l = c.requires.lent in
    let found = c.in-Some.ensures.found l.0.blue l.0.green l.0.red (c.parts_of.ensures.parts l.0 l.1) (l.2.1 l.0 (same_grows l.0)) in
    let far = far_edges l.0 c.in-Some.edges (first_found c.args.self.now l.0 c.in-Some.edges l.2.0 found).triple in
    omega arith

pub returns-in-Some-clause-found : goal.returns-in-Some-clause-found
returns-in-Some-clause-found c = λ fed lent whatever long.
    let now : Relock = record { strays = c.args.self.now.strays; alignment = c.seek.new.self; is_judged = true } in
    let found = c.in-Some.ensures.found fed.blue fed.green fed.red (c.parts_of.ensures.parts fed lent) (whatever.1 fed (same_grows fed)) in
    judged_by now fed c.args.limit c.in-Some.edges c.doubt_at.result refl (first_found c.args.self.now fed c.in-Some.edges whatever.0 found) c.in-Some.ensures.within.1 long (c.doubt_at.ensures fed lent)

pub returns-in-None-clause-found : goal.returns-in-None-clause-found
returns-in-None-clause-found c = λ fed lent whatever long.
    let now : Relock = record { strays = c.args.self.now.strays; alignment = c.seek.new.self; is_judged = c.args.self.now.is_judged } in
    none_here now fed c.args.limit c.requires.open (c.in-None.ensures.past ∙ whatever.0) c.in-None.ensures.limit long
    (c.seek.ensures.searched fed.blue fed.green fed.red (c.parts_of.ensures.parts fed lent) (whatever.1 fed (same_grows fed)))
