use Rattle.std.proofs.Common.{◌+◌, ◌*◌, arith, subst, sym, refl}
use Rattle.lane_align.specs.Lanes.{HasControl}
use Rattle.lane_align.proofs.Controls.{run_within}
use Rattle.lane_align.proofs.Edges.{Begins, Counts, counts_none, counts_one, counts_again, no_edge_more, control_no_edge, few_no_edge, edge_found, edge_at, no_edge_at_all}
use Rattle.lane_tests.proofs.tests.reference.next_edge.Goals as goal
use Rattle.lane_tests.proofs.tests.reference.next_edge.Goals.{then-has_control, else-has_control+else-run-ge-RUN}

pub first_word-first-requires : goal.first_word-first-requires
first_word-first-requires c =
    let within = run_within c.args.row.now c.args.lock c.requires.run in
    omega arith

pub overflow_add-run : goal.overflow_add-run
overflow_add-run c =
    let few = c.loop-i.invariant.counts.within in
    omega arith

pub loop-i-init : goal.loop-i-init
loop-i-init c =
    let e = c.first_word-first.ensures in
    let begins : Begins c.args.lock c.args.from c.first_word-first.result = record { aligned = e.aligned; past = e.past; reach = e.reach; least = e.least } in
    let xs = c.args.row.now in
    record {
      counts = counts_none xs c.first_word-first.result 0 refl;
      none = λ p after lt edge. let far = (edge_at xs c.args.lock c.args.from c.first_word-first.result p c.requires begins after edge).0 in omega arith;
    }

pub loop-i-preserved : goal.loop-i-preserved
loop-i-preserved c =
    let xs = c.args.row.now in
    let e = c.first_word-first.ensures in
    let begins : Begins c.args.lock c.args.from c.first_word-first.result = record { aligned = e.aligned; past = e.past; reach = e.reach; least = e.least } in
    let first = c.first_word-first.result in
    let i = c.loop-i.i in
    let run = c.loop-i.run in
    let was = c.loop-i.invariant in
    elim c.if-has_control.branch [
      | then-has_control w ↦
          let here = c.has_control.ensures.0 w.if-has_control.true in
          record {
            counts = subst (Counts xs first (i + 1)) (sym w.run-is) (counts_one xs first i run was.counts here);
            none = no_edge_more xs c.args.lock c.args.from first i c.requires begins was.none (λ after. control_no_edge xs (first + 10 * i) here);
          }
      | else-has_control+else-run-ge-RUN w ↦
          let not : HasControl xs (first + 10 * i) → ⊥ = λ has. let t = c.has_control.ensures.1 has in let f = w.if-has_control.false in cc in
          record {
            counts = subst (Counts xs first (i + 1)) (sym w.run-is) (counts_again xs first i not);
            none = no_edge_more xs c.args.lock c.args.from first i c.requires begins was.none
                (few_no_edge xs c.args.lock c.args.from first i run c.requires begins was.counts w.if-run-ge-RUN.false);
          }
    ]

pub returns-then-run-ge-RUN : goal.returns-then-run-ge-RUN
returns-then-run-ge-RUN c =
    let e = c.first_word-first.ensures in
    let begins : Begins c.args.lock c.args.from c.first_word-first.result = record { aligned = e.aligned; past = e.past; reach = e.reach; least = e.least } in
    let xs = c.args.row.now in
    let first = c.first_word-first.result in
    let i = c.loop-i.i in
    let not : HasControl xs (first + 10 * i) → ⊥ = λ has. let t = c.has_control.ensures.1 has in let f = c.if-has_control.false in cc in
    edge_found xs c.args.lock c.args.from first i c.loop-i.run c.requires begins c.loop-i.invariant.counts c.if-run-ge-RUN.true (omega arith) not c.loop-i.invariant.none

pub returns : goal.returns
returns c =
    let e = c.first_word-first.ensures in
    let begins : Begins c.args.lock c.args.from c.first_word-first.result = record { aligned = e.aligned; past = e.past; reach = e.reach; least = e.least } in
    no_edge_at_all c.args.row.now c.args.lock c.args.from c.first_word-first.result c.loop-i.i c.requires begins (omega arith) c.loop-i.invariant.none
