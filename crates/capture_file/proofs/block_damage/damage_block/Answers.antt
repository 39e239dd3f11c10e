use Rattle.std.proofs.Common.{◌++◌, sym, subst}
use Rattle.capture_file.specs.Layout.{packed}
use Rattle.capture_file.specs.Captures.{IsFault, StopsIn, SaysOf, place_of}
use Rattle.capture_file.specs.Refusals.{refused}
use Rattle.capture_file.specs.BlockDamage.{SaysFault}
use Rattle.capture_file.specs.declared.fault.CaptureFault.{CaptureFault}
use Rattle.capture_file.specs.declared.fault.CaptureError.{CaptureError}
use Rattle.capture_file.specs.declared.fault.CaptureError.TheVariants.{Bad, Read}
use Rattle.capture_file.proofs.Halfways.{halfway_more, halfway_cut}
use Rattle.capture_file.proofs.block_damage.damage_block.Goals as goal

fault_of : (p : CaptureFault → Type 0) (e : CaptureError) → SaysOf p e → SaysFault p (refused e)
fault_of p (Bad fault) h = h
fault_of p Read h = h

pub returns-in-Err-clause-err : goal.returns-in-Err-clause-err
returns-in-Err-clause-err g c bytes taken before e h =
    let a = c.args.heading in
    let p = λ (fault : CaptureFault). IsFault (taken ++ bytes) fault × StopsIn a.bits c.args.j taken (place_of fault) in
    subst (λ r. SaysFault p r) (sym c.from.ensures) (fault_of p c.in-Err.error (c.in-Err.ensures.err bytes taken h.front.blue h.front.green h.front.red e h.front.read))

pub returns-in-Ok-clause-ok : goal.returns-in-Ok-clause-ok
returns-in-Ok-clause-ok g c taken before h = λ _.
    let o = c.read_next.new.self in
    let n = c.hit_all.new.self in
    let e = c.in-Ok-true.ensures in
    let t = c.in-Ok-true.field-0-test in (
      (packed o.blue ++ packed o.green) ++ packed o.red,
      e.ok t,
      halfway_more c.args.heading.version c.args.heading.bits c.args.hits.now c.args.j taken before _ _ o.blue o.green o.red n.blue n.green n.red c.requires.fits (e.blue t) (e.green t) (e.red t)
          c.hit_all.ensures.blue c.hit_all.ensures.green c.hit_all.ensures.red c.in-Ok.ensures.whole h,
    )

pub returns-in-Err-write-clause-cut : goal.returns-in-Err-write-clause-cut
returns-in-Err-write-clause-cut g c taken before h same =
    let o = c.read_next.new.self in
    let n = c.hit_all.new.self in
    let e = c.in-Ok-true.ensures in
    let t = c.in-Ok-true.field-0-test in (
      (packed o.blue ++ packed o.green) ++ packed o.red,
      e.ok t,
      halfway_cut c.args.heading.version c.args.heading.bits c.args.hits.now c.args.j c.in-Err-write.field-0.gone taken before _ _ o.blue o.green o.red n.blue n.green n.red c.requires.fits (e.blue t) (e.green t) (e.red t)
          c.hit_all.ensures.blue c.hit_all.ensures.green c.hit_all.ensures.red c.in-Err-write.ensures.missing c.in-Err-write.ensures.part h,
    )
