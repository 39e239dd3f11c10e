use Rattle.std.proofs.Common.{slice_index, subst}
use Rattle.alignment_search.proofs.Beginning.{HasBits, begin_alike, begin_apart, begin_nowhere}
use Rattle.alignment_search.proofs.finder.AlignmentFinder.begins_so.Goals as goal

pub returns-then-are_so_many : goal.returns-then-are_so_many
returns-then-are_so_many c = λ xs ys zs begun.
    begin_alike xs ys zs (slice_index c.args.edges 0) (slice_index c.args.edges 1) (slice_index c.args.edges 2) c.in-Some.bits c.bits_before-in-Some.result c.bits_before-then-are_so_many.result
    c.are_so_many-then-are_so_many.result (subst (HasBits xs (slice_index c.args.edges 0)) c.in-Some.is (c.bits_before.ensures xs begun.blue)) (c.bits_before-in-Some.ensures ys begun.green)
    (c.bits_before-then-are_so_many.ensures zs begun.red) (λ is. (c.are_so_many.ensures.0 c.if-are_so_many.true, c.are_so_many-then-are_so_many.ensures.0 is)) (λ b d. c.are_so_many-then-are_so_many.ensures.1 d)

pub returns-else-are_so_many : goal.returns-else-are_so_many
returns-else-are_so_many c = λ xs ys zs begun.
    begin_apart xs ys zs (slice_index c.args.edges 0) (slice_index c.args.edges 1) (slice_index c.args.edges 2) c.in-Some.bits c.bits_before-in-Some.result c.are_so_many.result
    (subst (HasBits xs (slice_index c.args.edges 0)) c.in-Some.is (c.bits_before.ensures xs begun.blue)) (c.bits_before-in-Some.ensures ys begun.green) c.if-are_so_many.false c.are_so_many.ensures.1

pub returns-in-None : goal.returns-in-None
returns-in-None c = λ xs ys zs begun.
    begin_nowhere xs ys zs (slice_index c.args.edges 0) (slice_index c.args.edges 1) (slice_index c.args.edges 2) (subst (HasBits xs (slice_index c.args.edges 0)) c.in-None.is (c.bits_before.ensures xs begun.blue))
