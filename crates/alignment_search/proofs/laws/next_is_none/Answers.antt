use Rattle.std.proofs.Common.{slice_index}
use Rattle.alignment_search.proofs.laws.next_is_none.Goals as goal

pub returns : goal.returns
returns c = λ xs ys zs past limit edges none next. none (slice_index edges 0) (slice_index edges 1) (slice_index edges 2) next.triple next.after
