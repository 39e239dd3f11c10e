use Rattle.std.proofs.Common.{arith, ◌≡◌, sym, subst, length, take}
use Rattle.std.proofs.lemmas.Grind.{common_steps}
use Rattle.std.specs.Io.KnownBytes.{IsAtEnd}
use Rattle.capture_file.specs.Captures.{IsEarlyFault}
use Rattle.capture_file.proofs.Judged.{first_part}
use Rattle.capture_file.proofs.Marks.{consumed}
use Rattle.capture_file.proofs.heading.read_first.Goals as goal

pub returns-in-Err-judge_first-clause-err : goal.returns-in-Err-judge_first-clause-err
returns-in-Err-judge_first-clause-err g c bytes e =
    let head = c.read_full.new.into in
    let len : length head ≡ 8 = grind (arith, common_steps, c.read_full.auto.into) in
    let s = consumed _ _ bytes (take c.in-Ok.count head) e c.in-Ok.ensures.bytes in
    subst (λ bs. IsEarlyFault bs c.in-Err-judge_first.fault) (sym s.1) (c.in-Err-judge_first.ensures.err s.0 (λ less. subst (λ o. IsAtEnd o) s.2 (c.in-Ok.ensures.end (omega (arith, less, len)))))

-- what arrived before a failed read
pub returns-in-Ok-judge_mark-clause-part : goal.returns-in-Ok-judge_mark-clause-part
returns-in-Ok-judge_mark-clause-part g c =
    let head = c.read_full.new.into in
    let len : length head ≡ 8 = grind (arith, common_steps, c.read_full.auto.into) in
    (take c.in-Err.got.arrived head, first_part head c.in-Err.got.arrived len (omega (arith, len, c.in-Err.ensures.missing)) c.in-Ok-judge_mark.ensures.begins, c.in-Err.ensures.part)

pub returns-in-Err-judge_mark-clause-err : goal.returns-in-Err-judge_mark-clause-err
returns-in-Err-judge_mark-clause-err g c bytes e =
    let s = consumed _ _ bytes (take c.in-Err.got.arrived c.read_full.new.into) e c.in-Err.ensures.part in
    subst (λ bs. IsEarlyFault bs c.in-Err-judge_mark.fault) (sym s.1) (c.in-Err-judge_mark.ensures.err s.0)
