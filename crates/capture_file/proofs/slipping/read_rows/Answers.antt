use Rattle.std.proofs.Common.{arith, ◌≡◌, ◌++◌, [], ℕ, List, Bool, length, ◌∙◌, sym, ap, subst, append_assoc, append-nil}
use Rattle.std.specs.Prelude.{Err}
use Rattle.std.proofs.KnownBytes.{Consumes-nil, Consumes-trans}
use Rattle.capture_file.specs.Captures.{BeginsCapture, IsFault, IsCaptureOf, Stands, StopsIn, header_of, place_of}
use Rattle.capture_file.specs.declared.slipping.SlipError.TheVariants.{Read, Place, Write, NoMemory as WantsMemory}
use Rattle.capture_file.proofs.Marks.{consumed}
use Rattle.capture_file.proofs.Standing.{stands_head}
use Rattle.outside_io.proofs.Consumed.{takes_more}
use Rattle.capture_file.proofs.Takings.{ended}
use Rattle.capture_file.proofs.SlippedLanes.{faulty_as}
use Rattle.capture_file.proofs.slipping.read_rows.Goals as goal

-- no rows, and a header alone
none_read : (version : ℕ) (counts taken : List ℕ) (x y z : List Bool) → x ≡ [] → y ≡ [] → z ≡ [] → Stands version counts 0 taken [] [] [] → Stands version counts 0 (taken ++ []) x y z
none_read version counts taken x y z ex ey ez s =
    subst (λ bs. Stands version counts 0 bs x y z) (sym (append-nil taken))
    (subst (λ r. Stands version counts 0 taken x y r) (sym ez) (subst (λ r. Stands version counts 0 taken x r []) (sym ey) (subst (λ r. Stands version counts 0 taken r [] []) (sym ex) s)))

pub loop-j-init : goal.loop-j-init
loop-j-init g c =
    let a = c.args.heading in
    let e = c.new-rows.ensures in
    record {
      blue = rw e.blue (omega arith);
      green = rw e.green (omega arith);
      red = rw e.red (omega arith);
      went = ([], Consumes-nil _, none_read a.version a.bits (header_of a.version a.bits) _ _ _ e.blue e.green e.red (stands_head a.version a.bits c.requires.said));
      few = omega arith;
      later = omega arith;
    }

pub loop-j-preserved : goal.loop-j-preserved
loop-j-preserved g c =
    let a = c.args.heading in
    let head = header_of a.version a.bits in
    let i = c.loop-j.invariant in
    let e = c.in-Ok-true.ensures in
    let t = c.in-Ok-true.field-0-test in
    let n = c.read_block.new.self in
    let b = e.ok (head ++ i.went.0) i.went.2 t in
    record {
      blue = e.blue t;
      green = e.green t;
      red = e.red t;
      went = grind (arith, Consumes-trans, append_assoc);
      few = omega (arith, e.below t);
      later = omega (arith, i.later, e.later);
    }

pub returns-in-Err : goal.returns-in-Err
returns-in-Err g c = record {
  blue = tt;
  green = tt;
  red = tt;
  ok = tt;
  ended = tt;
  err = λ bytes e.
      let a = c.args.heading in
      let head = header_of a.version a.bits in
      let w = c.loop-j.invariant.went in
      let s = consumed _ _ bytes w.0 e w.1 in
      let all : (head ++ w.0) ++ s.0 ≡ head ++ bytes = append_assoc head w.0 s.0 ∙ ap (λ xs. head ++ xs) (sym s.1) in
      faulty_as (λ fault. IsFault ((head ++ w.0) ++ s.0) fault × StopsIn a.bits c.loop-j.j (head ++ w.0) (place_of fault)) (λ fault. IsFault (head ++ bytes) fault) c.in-Err.error (λ fault h. subst (λ bs. IsFault bs fault) all h.0)
      (c.in-Err.ensures.err s.0 (head ++ w.0) s.2 w.2);
  part = λ lane place count is fits.
      let a = c.args.heading in
      let head = header_of a.version a.bits in
      let w = c.loop-j.invariant.went in
      let same : c.in-Err.error ≡ Read = cc in
      let p = c.in-Err.ensures.part (ap Err same) in (
        w.0 ++ p.0,
        Consumes-trans _ _ _ w.0 p.0 w.1 p.2,
        subst (λ bs. BeginsCapture bs) (append_assoc head w.0 p.0) (p.1.begins _ _ _ _ _ w.2),
        record {
          version = a.version;
          counts = a.bits;
          block = c.loop-j.j;
          taken = head ++ w.0;
          more = p.0;
          blue = c.loop-j.rows.blue;
          green = c.loop-j.rows.green;
          red = c.loop-j.rows.red;
          read_is = sym (append_assoc head w.0 p.0);
          stands = w.2;
          short = p.1.short;
          fits = fits;
        },
      );
  full = λ is.
      let w = c.loop-j.invariant.went in
      let same : c.in-Err.error ≡ WantsMemory = cc in
      let p = c.in-Err.ensures.full (ap Err same) in
      (w.0 ++ p.0, Consumes-trans _ _ _ w.0 p.0 w.1 p.1);
  unplaced = λ is. let same : c.in-Err.error ≡ Place = cc in c.in-Err.ensures.unplaced (ap Err same);
  taken = takes_more _ _ _ (c.loop-j.invariant.went.0, c.loop-j.invariant.went.1) c.in-Err.ensures.taken;
  unwritten = λ is. let same : c.in-Err.error ≡ Write = cc in c.in-Err.ensures.unwritten (ap Err same);
  caused = grind arith;
  later = omega (arith, c.loop-j.invariant.later, c.in-Err.ensures.later);
}

pub returns-in-Ok-false : goal.returns-in-Ok-false
returns-in-Ok-false g c = record {
  blue =
      let n = c.in-Ok-false.ensures.none c.in-Ok-false.field-0-test in
      let same = ap (λ rows. length rows.blue) n.3 in omega (arith, n.0, c.loop-j.invariant.blue);
  green =
      let n = c.in-Ok-false.ensures.none c.in-Ok-false.field-0-test in
      let same = ap (λ rows. length rows.green) n.3 in omega (arith, n.0, c.loop-j.invariant.green);
  red =
      let n = c.in-Ok-false.ensures.none c.in-Ok-false.field-0-test in
      let same = ap (λ rows. length rows.red) n.3 in omega (arith, n.0, c.loop-j.invariant.red);
  ok =
      let a = c.args.heading in
      let r = c.read_block.new.self in
      let n = c.in-Ok-false.ensures.none c.in-Ok-false.field-0-test in
      let w = c.loop-j.invariant.went in
      let stands = subst (λ rows. Stands a.version a.bits c.loop-j.j (header_of a.version a.bits ++ w.0) rows.blue rows.green rows.red) (sym n.3) w.2 in
      (w.0 ++ [], Consumes-trans _ _ _ w.0 [] w.1 n.1, subst (λ bs. IsCaptureOf r.blue r.green r.red (header_of a.version a.bits ++ bs)) (sym (append-nil w.0)) (ended a.bits c.loop-j.j _ _ r.blue r.green r.red stands n.0).holds);
  ended = (c.in-Ok-false.ensures.none c.in-Ok-false.field-0-test).2;
  err = λ bytes e. tt;
  part = λ lane place count h. cc;
  full = λ h. cc;
  unplaced = λ h. cc;
  taken = takes_more _ _ _ (c.loop-j.invariant.went.0, c.loop-j.invariant.went.1) c.in-Ok-false.ensures.taken;
  unwritten = λ h. cc;
  caused = λ h. cc;
  later = omega (arith, c.loop-j.invariant.later, c.in-Ok-false.ensures.later);
}
