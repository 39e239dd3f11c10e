use Rattle.std.proofs.Common.{arith, ◌≡◌, ◌++◌, ◌∷◌, [], refl, sym, subst, length, take}
use Rattle.std.specs.Prelude.{codes}
use Rattle.std.proofs.lemmas.Grind.{common_steps}
use Rattle.std.specs.Io.KnownBytes.{IsAtEnd}
use Rattle.capture_file.specs.Layout.{high_first}
use Rattle.capture_file.specs.Captures.{IsEarlyFault}
use Rattle.capture_file.proofs.Judged.{later_part}
use Rattle.capture_file.proofs.Marks.{consumed}
use Rattle.capture_file.proofs.heading.read_second.Goals as goal

pub returns-in-Err-clause-err : goal.returns-in-Err-clause-err
returns-in-Err-clause-err g c bytes e =
    let more = c.read_full.new.into in
    let len : length more ≡ 8 = grind (arith, common_steps, c.read_full.auto.into) in
    let s = consumed _ _ bytes (take c.in-Ok.count more) e c.in-Ok.ensures.bytes in
    subst (λ bs. IsEarlyFault (((codes "TMC" ++ 50 ∷ []) ++ high_first c.args.bits) ++ bs) c.in-Err.fault) (sym s.1)
    (c.in-Err.ensures.err c.args.bits s.0 c.ranges.bits.fits (λ less. subst (λ o. IsAtEnd o) s.2 (c.in-Ok.ensures.end (omega (arith, less, len)))))

pub returns-in_default-clause-part : goal.returns-in_default-clause-part
returns-in_default-clause-part g c =
    let more = c.read_full.new.into in
    let arrived = c.in_default.field-0.arrived in
    let len : length more ≡ 8 = grind (arith, common_steps, c.read_full.auto.into) in (
      take arrived more,
      later_part ((codes "TMC" ++ 50 ∷ []) ++ high_first c.args.bits) more c.args.bits arrived c.ranges.bits.fits refl len c.know_bytes.ensures (omega (arith, len, c.in_default.ensures.missing)),
      c.in_default.ensures.part,
    )
