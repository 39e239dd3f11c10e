use Rattle.std.proofs.Common.{[], sym, subst}
use Rattle.std.proofs.lemmas.Result.{err_from_is_err_and}
use Rattle.capture_file.specs.Captures.{HasRead}
use Rattle.capture_file.proofs.Judged.{says_read}
use Rattle.capture_file.proofs.Standing.{says_end, says_inside, end_part}
use Rattle.capture_file.proofs.chunk.Chunks.read_next.Goals as goal

pub returns-in_err-read_end-clause-err : goal.returns-in_err-read_end-clause-err
returns-in_err-read_end-clause-err g c bytes taken x y z e s =
    let a = c.args.heading in
    let p = err_from_is_err_and c.from_residual.result c.from_residual.ensures.1 in
    rw (p.1, p.2) (says_end a.version a.bits c.args.j c.block_place-place.result taken bytes x y z c.in_err-read_end.field-0.0 s (c.is_past.ensures.past.0 c.if-is_past.true) c.block_place-place.ensures.place (c.in_err-read_end.ensures.err bytes e))

pub read-requires-clause-below : goal.read-requires-clause-below
read-requires-clause-below g c = c.is_past.ensures.below c.if-is_past.false

pub returns-in_err-read-clause-err : goal.returns-in_err-read-clause-err
returns-in_err-read-clause-err g c bytes taken x y z e s =
    let a = c.args.heading in
    let p = err_from_is_err_and c.from_residual-in_err-read.result c.from_residual-in_err-read.ensures.1 in
    let s' = subst (λ n. HasRead a.bits c.args.j n taken x y z) (sym c.block_place-place.ensures.place) s in
    rw (p.1, p.2) (says_inside a.version a.bits c.args.j c.block_place-place.result taken bytes x y z c.in_err-read.field-0.0 s c.block_place-place.ensures.place (c.in_err-read.ensures.err bytes taken x y z e s') c.in_err-read.ensures.within)

pub returns-in_err-read_end-clause-part : goal.returns-in_err-read_end-clause-part
returns-in_err-read_end-clause-part g c =
    let p = err_from_is_err_and c.from_residual.result c.from_residual.ensures.1 in
    rw (p.1, p.2) (says_read _ _ c.in_err-read_end.field-0.0 (λ none. ([], end_part c.args.heading.bits c.args.j (c.is_past.ensures.past.0 c.if-is_past.true), none)) c.in_err-read_end.ensures.part)
