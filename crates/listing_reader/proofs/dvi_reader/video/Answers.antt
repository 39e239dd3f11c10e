use Rattle.std.proofs.Common.{sym, subst}
use Rattle.std.specs.Prelude.{Option}
use Rattle.listing_reader.specs.declared.fault.ListCause.{ListCause}
use Rattle.listing_reader.specs.Reported.{AnswersCause}
use Rattle.listing_reader.proofs.DviCauses.{dvi_unread, dvi_pixels_pushed}
use Rattle.listing_reader.proofs.dvi_reader.video.Goals as goal

pub returns-in_err-pixels-clause-cause : goal.returns-in_err-pixels-clause-cause
returns-in_err-pixels-clause-cause c = dvi_unread _ c.args.periods c.args.digits.now c.from_residual.result _ c.in_err-pixels.ensures.err c.from_residual.ensures.1

pub returns-clause-cause : goal.returns-clause-cause
returns-clause-cause c =
    subst (λ (s : Option ListCause). AnswersCause s c.push.result) (sym (dvi_pixels_pushed c.args.periods c.args.digits.now c.in_ok-pixels.pixels c.in_ok-pixels.ensures.ok)) c.push.ensures.cause
