use Rattle.std.proofs.lemmas.Result.{err_from_is_err_and}
use Rattle.capture_file.proofs.capture_reader.CaptureReader.advance.Goals as goal

pub returns-in_err-read_next-clause-err : goal.returns-in_err-read_next-clause-err
returns-in_err-read_next-clause-err g c bytes taken x y z e s =
    let p = err_from_is_err_and c.from_residual.result c.from_residual.ensures.1 in
    rw (p.1, p.2) (c.in_err-read_next.ensures.err bytes taken x y z e s)
