use Rattle.std.proofs.Common.{◌≡◌, ◌∙◌, sym, arith, Some, None}
use Rattle.tmds_word.specs.Column.{column_of}
use Rattle.lane_deskew.proofs.Columns.{no_answer}
use Rattle.relock_sink.proofs.columns.doubt_at.Goals as goal

pub returns-in_err-next : goal.returns-in_err-next
returns-in_err-next c = λ fed lent.
    no_answer _ _ _ c.from_residual-in_err-next.ensures (λ g h here next. let e : None ≡ Some h = sym (c.in_err-next.ensures fed lent) ∙ next in cc)

pub returns-then-is_announced : goal.returns-then-is_announced
returns-then-is_announced c = λ fed lent g h here next.
    let e : Some (column_of c.in_ok-here.here) ≡ Some g = sym (c.in_ok-here.ensures fed lent) ∙ here in
    let f : Some (column_of c.in_ok-next.next) ≡ Some h = sym (c.in_ok-next.ensures fed lent) ∙ next in
    let t = c.is_announced.ensures in
    let u = c.if-is_announced.true in
    cc

pub returns-else-is_announced : goal.returns-else-is_announced
returns-else-is_announced c = λ fed lent. record {
  columns = record {
    here = column_of c.in_ok-here.here;
    next = column_of c.in_ok-next.next;
    is_here = c.in_ok-here.ensures fed lent;
    is_next = c.in_ok-next.ensures fed lent;
    so = sym c.is_announced.ensures ∙ c.if-is_announced.false;
  };
  at = omega (arith, c.min.ensures, c.min-else-is_announced.ensures);
}
