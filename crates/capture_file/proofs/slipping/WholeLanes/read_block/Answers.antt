use Rattle.std.proofs.Common.{arith, ◌≡◌, ◌+◌, ◌++◌, List, Bool, ℕ, length, length-append, ap, sym, subst}
use Rattle.capture_file.specs.Layout.{packed}
use Rattle.capture_file.specs.Captures.{Stands, StopsIn, IsFault, place_of}
use Rattle.capture_file.specs.Slips.{SaysFaulty}
use Rattle.capture_file.specs.declared.fault.CaptureFault.{CaptureFault}
use Rattle.capture_file.proofs.Standing.{stands_more}
use Rattle.capture_file.proofs.SlippedLanes.{faulty_of}
use Rattle.capture_file.proofs.slipping.WholeLanes.read_block.Goals as goal

pub returns-in-Err : goal.returns-in-Err
returns-in-Err g c = record {
  below = tt;
  blue = tt;
  green = tt;
  red = tt;
  ok = λ taken s. tt;
  none = tt;
  err = λ bytes taken e s.
      let a = c.args.heading in
      let o = c.args.self.now in
      let p = λ (fault : CaptureFault). IsFault (taken ++ bytes) fault × StopsIn a.bits c.args.j taken (place_of fault) in
      subst (λ r. SaysFaulty p r) (sym c.from.ensures) (faulty_of p c.in-Err.error (c.in-Err.ensures.err bytes taken o.blue o.green o.red e s));
  part = grind arith;
  full = grind arith;
  taken = c.in-Err.ensures.taken;
  unplaced = grind arith;
  unwritten = grind arith;
  caused = grind arith;
  later = c.in-Err.ensures.later;
}

-- a block after the blocks before it
more : (version : ℕ) (counts : List ℕ) (j : ℕ) (taken : List ℕ) (x y z a b d u v w : List Bool) → u ≡ x ++ a → v ≡ y ++ b → w ≡ z ++ d
    → Stands version counts (j + 1) (taken ++ ((packed a ++ packed b) ++ packed d)) (x ++ a) (y ++ b) (z ++ d) → Stands version counts (j + 1) (taken ++ ((packed a ++ packed b) ++ packed d)) u v w
more version counts j taken x y z a b d u v w eu ev ew s =
    let all = taken ++ ((packed a ++ packed b) ++ packed d) in
    subst (λ r. Stands version counts (j + 1) all u v r) (sym ew) (subst (λ r. Stands version counts (j + 1) all u r (z ++ d)) (sym ev) (subst (λ r. Stands version counts (j + 1) all r (y ++ b) (z ++ d)) (sym eu) s))

pub returns-in-Ok : goal.returns-in-Ok
returns-in-Ok g c = record {
  below = λ _. c.in-Ok-true.ensures.below c.in-Ok-true.field-0-test;
  blue = λ _. let more = ap length c.in-Ok.ensures.blue in omega (arith, length-append c.args.self.now.blue c.read_next.new.self.blue, c.requires.blue, c.in-Ok-true.ensures.blue c.in-Ok-true.field-0-test);
  green = λ _. let more = ap length c.in-Ok.ensures.green in omega (arith, length-append c.args.self.now.green c.read_next.new.self.green, c.requires.green, c.in-Ok-true.ensures.green c.in-Ok-true.field-0-test);
  red = λ _. let more = ap length c.in-Ok.ensures.red in omega (arith, length-append c.args.self.now.red c.read_next.new.self.red, c.requires.red, c.in-Ok-true.ensures.red c.in-Ok-true.field-0-test);
  ok = λ taken s.
      λ _.
      let a = c.args.heading in
      let o = c.args.self.now in
      let n = c.push.new.self in
      let k = c.read_next.new.self in
      let e = c.in-Ok-true.ensures in
      let t = c.in-Ok-true.field-0-test in (
        (packed k.blue ++ packed k.green) ++ packed k.red,
        e.ok t,
        more a.version a.bits c.args.j taken o.blue o.green o.red k.blue k.green k.red n.blue n.green n.red c.in-Ok.ensures.blue c.in-Ok.ensures.green c.in-Ok.ensures.red
            (stands_more a.version a.bits c.args.j taken o.blue o.green o.red k.blue k.green k.red s (e.blue t) (e.green t) (e.red t)),
      );
  none = λ h. cc;
  err = λ bytes taken e s. tt;
  part = λ h. cc;
  full = λ h. cc;
  taken = c.in-Ok-true.ensures.taken;
  unplaced = λ h. cc;
  unwritten = λ h. cc;
  caused = λ h. cc;
  later = c.in-Ok-true.ensures.later;
}
