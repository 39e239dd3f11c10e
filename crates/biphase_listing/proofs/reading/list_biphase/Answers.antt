use Rattle.std.proofs.Common.{arith, rules}
use Rattle.std.proofs.lemmas.Result.{err_from_is_err_and}
use Rattle.outside_io.proofs.Consumed.{takes_none, takes_more}
use Rattle.biphase_listing.proofs.Ends.{last_unwritten, none_listed, whole_listed}
use Rattle.biphase_listing.proofs.reading.list_biphase.Goals as goal

pub loop-init : goal.loop-init
loop-init g c = grind (arith, none_listed, takes_none)

pub returns-in_err-list_next-clause-stopped : goal.returns-in_err-list_next-clause-stopped
returns-in_err-list_next-clause-stopped g c =
    let p = err_from_is_err_and c.from_residual.result c.from_residual.ensures.1 in
    rw (p.1, p.2) (c.in_err-list_next.ensures.stopped _ _ c.loop.invariant.listed)

pub returns-in-Ok-clause-whole : goal.returns-in-Ok-clause-whole
returns-in-Ok-clause-whole g c =
    let e = c.in_ok-list_next.ensures in
    whole_listed _ _ _ _ _ _ c.list_next.new.frames.count (e.more _ _ c.loop.invariant.listed) e.few (e.ended c.if-branch.false) c.in-Ok.ensures.whole

pub returns-in-Err-clause-stopped : goal.returns-in-Err-clause-stopped
returns-in-Err-clause-stopped g c =
    let e = c.in_ok-list_next.ensures in
    last_unwritten _ _ _ _ _ _ c.list_next.new.frames.count c.in-Err.field-0.gone (e.more _ _ c.loop.invariant.listed) e.few (e.ended c.if-branch.false) c.in-Err.ensures.missing c.in-Err.ensures.part

pub returns-in_err-list_next-clause-taken : goal.returns-in_err-list_next-clause-taken
returns-in_err-list_next-clause-taken g c = takes_more _ _ _ c.loop.invariant.taken c.list_next.ensures.taken

pub returns-in-Ok-clause-taken : goal.returns-in-Ok-clause-taken
returns-in-Ok-clause-taken g c = takes_more _ _ _ c.loop.invariant.taken c.list_next.ensures.taken

pub returns-in-Err-clause-taken : goal.returns-in-Err-clause-taken
returns-in-Err-clause-taken g c = takes_more _ _ _ c.loop.invariant.taken c.list_next.ensures.taken

pub loop-preserved : goal.loop-preserved
loop-preserved g c =
    let e = c.in_ok-list_next.ensures in
    record {
      few = e.few;
      listed = e.more _ _ c.loop.invariant.listed;
      taken = takes_more _ _ _ c.loop.invariant.taken c.list_next.ensures.taken;
      input_later = search rules;
      output_later = search rules;
    }
