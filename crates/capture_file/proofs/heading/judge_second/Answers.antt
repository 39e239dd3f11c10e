use Rattle.std.proofs.Common.{arith, ◌++◌, ◌∷◌, [], ◌∙◌, take, ap, refl, append-nil}
use Rattle.std.specs.Prelude.{codes}
use Rattle.std.proofs.lemmas.List.{take_all}
use Rattle.capture_file.specs.Layout.{high_first}
use Rattle.capture_file.proofs.Judged.{second_early, more_is}
use Rattle.capture_file.proofs.heading.judge_second.Goals as goal

pub returns-then-count-lt8-clause-err : goal.returns-then-count-lt8-clause-err
returns-then-count-lt8-clause-err c bits rest small end =
    let more = c.args.more.now in
    let first = take c.args.count more in
    second_early ((codes "TMC" ++ 50 ∷ []) ++ high_first bits) more (first ++ rest) bits c.args.count small refl c.told-more c.fits-more c.if-count-lt8.true
    (ap (λ xs. first ++ xs) (end c.if-count-lt8.true) ∙ append-nil first)

pub returns-clause-ok : goal.returns-clause-ok
returns-clause-ok c =
    take_all c.args.count c.args.more.now (omega (arith, c.told-more, c.if-count-lt8.false))
    ∙ more_is c.args.more.now c.from_be_bytes.result c.from_be_bytes-2.result c.told-more c.fits-more c.from_be_bytes.ensures c.from_be_bytes-2.ensures
