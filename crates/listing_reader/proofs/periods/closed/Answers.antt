use Rattle.std.proofs.lemmas.Result.{err_from_is_err_and}
use Rattle.listing_reader.proofs.FramedOpen.{framed_closes, only_memory}
use Rattle.listing_reader.proofs.periods.closed.Goals as goal

pub push-requires : goal.push-requires
push-requires g c = c.lawful.ensures.carries_control _

pub returns-in_err-push-clause-err : goal.returns-in_err-push-clause-err
returns-in_err-push-clause-err g c =
    let p = err_from_is_err_and c.from_residual.result c.from_residual.ensures.1 in
    rw p.1 (only_memory _ _ _ p.0 (framed_closes _ _ _ c.lawful.ensures c.args.items c.args.runs c.requires.turn c.requires.in_range c.requires.few) c.in_err-push.ensures.fault p.2)
