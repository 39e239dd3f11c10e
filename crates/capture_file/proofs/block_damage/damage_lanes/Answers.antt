use Rattle.std.proofs.Common.{arith, ◌≡◌, ◌+◌, ◌++◌, [], sym, ap, subst, append_assoc, append-nil}
use Rattle.std.specs.Prelude.{Result, Err}
use Rattle.std.proofs.KnownBytes.{Consumes-nil, Consumes-trans}
use Rattle.capture_file.specs.BlockDamage.{Halfway, CutIn}
use Rattle.capture_file.specs.declared.damaging.DamageError.{DamageError}
use Rattle.capture_file.specs.declared.damaging.DamageError.TheVariants.{Read, Write}
use Rattle.capture_file.proofs.Marks.{consumed}
use Rattle.outside_io.proofs.Consumed.{takes_none, takes_more}
use Rattle.capture_file.proofs.Halfways.{halfway_kept, late_fault}
use Rattle.capture_file.proofs.block_damage.damage_lanes.Goals as goal

not_write : (e : DamageError) (r : Result (Unit {0}) DamageError) → r ≡ Err e → r ≡ Err Read → e ≡ Write → ⊥
not_write e r own is w = cc

pub loop-j-init : goal.loop-j-init
loop-j-init g c = record {
  went = λ taken before h. ([], Consumes-nil _, subst (λ bs. Halfway c.args.heading.version c.args.heading.bits c.args.hits.now 0 bs before (g.K.Sink.held c.args.out.now)) (sym (append-nil taken)) h);
  taken = takes_none _;
  input_later = omega arith;
  few = omega arith;
  output_later = omega arith;
}

pub loop-j-preserved : goal.loop-j-preserved
loop-j-preserved g c =
    let i = c.loop-j.invariant in
    let e = c.in-Ok-true.ensures in
    let t = c.in-Ok-true.field-0-test in
    record {
      went = λ taken before h.
          let w = i.went taken before h in
          let b = e.ok (taken ++ w.0) before w.2 t in (
            w.0 ++ b.0,
            Consumes-trans _ _ _ w.0 b.0 w.1 b.1,
            subst (λ bs. Halfway c.args.heading.version c.args.heading.bits c.args.hits.now (c.loop-j.j + 1) bs before (g.K.Sink.held c.damage_block.new.out)) (append_assoc taken w.0 b.0) b.2,
          );
      taken = takes_more _ _ _ i.taken e.taken;
      input_later = omega (arith, i.input_later, e.input_later);
      few = omega (arith, e.below t);
      output_later = omega (arith, i.output_later, e.output_later);
    }

pub returns-in-Ok-false-clause-done : goal.returns-in-Ok-false-clause-done
returns-in-Ok-false-clause-done g c bytes taken before e h = grind (arith, consumed, Consumes-trans, append-nil)

pub returns-in-Err-clause-err : goal.returns-in-Err-clause-err
returns-in-Err-clause-err g c bytes taken before e h =
    let a = c.args.heading in
    let w = c.loop-j.invariant.went taken before h in
    let s = consumed _ _ bytes w.0 e w.1 in
    let n = c.in-Err.ensures in
    late_fault a.version a.bits c.args.hits.now c.loop-j.j bytes taken w.0 s.0 before (g.K.Sink.held c.loop-j.out) (g.K.Sink.held c.damage_block.new.out) c.in-Err.error s.1 w.2 n.unwritten (n.err s.0 (taken ++ w.0) before s.2 w.2)

pub returns-in-Err-clause-part : goal.returns-in-Err-clause-part
returns-in-Err-clause-part g c taken before h is =
    let a = c.args.heading in
    let w = c.loop-j.invariant.went taken before h in
    grind (arith, halfway_kept, not_write, Consumes-trans)

pub returns-in-Err-clause-cut : goal.returns-in-Err-clause-cut
returns-in-Err-clause-cut g c taken before h is =
    let a = c.args.heading in
    let w = c.loop-j.invariant.went taken before h in
    let same : c.in-Err.error ≡ Write = cc in
    let p = c.in-Err.ensures.cut (taken ++ w.0) before w.2 (ap Err same) in
    (c.loop-j.j, w.0 ++ p.0, Consumes-trans _ _ _ w.0 p.0 w.1 p.1, subst (λ bs. CutIn a.version a.bits c.args.hits.now c.loop-j.j bs before (g.K.Sink.held c.damage_block.new.out)) (append_assoc taken w.0 p.0) p.2)

pub returns-in-Err-clause-taken : goal.returns-in-Err-clause-taken
returns-in-Err-clause-taken g c = takes_more _ _ _ c.loop-j.invariant.taken c.in-Err.ensures.taken

pub returns-in-Ok-false-clause-taken : goal.returns-in-Ok-false-clause-taken
returns-in-Ok-false-clause-taken g c = takes_more _ _ _ c.loop-j.invariant.taken c.in-Ok-false.ensures.taken
