use Rattle.std.proofs.Common.{slice_index, arith}
use Rattle.alignment_search.proofs.Alignments.{same_greatest}
use Rattle.alignment_search.proofs.laws.one_next_alignment.Goals as goal

pub returns : goal.returns
returns c = λ xs ys zs past edges other next as_well.
    let d = slice_index edges 0 in
    let e = slice_index edges 1 in
    let f = slice_index edges 2 in
    let p = slice_index other 0 in
    let q = slice_index other 1 in
    let r = slice_index other 2 in
    let up = next.least p q r as_well.triple as_well.after in
    let down = as_well.least d e f next.triple next.after in
    same_greatest xs ys zs d e f p q r next.triple as_well.triple (omega arith)
