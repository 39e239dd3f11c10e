use Rattle.std.proofs.Common.{◌+◌, drop, arith, subst, sym, Some}
use Rattle.tmds_word.specs.Bits.{bytes_bits}
use Rattle.lane_track.specs.Scouts.{HasSought}
use Rattle.lane_track.proofs.Seeking.{no_lock_yet, lock_here}
use Rattle.lane_track.proofs.scout.Scout.seek.Goals as goal

pub returns-in-Some-clause-sought : goal.returns-in-Some-clause-sought
returns-in-Some-clause-sought c = rw c.in-Some.is c.stray_in.ensures.sought

pub returns-in-None-next_past-clause-sought : goal.returns-in-None-next_past-clause-sought
returns-in-None-next_past-clause-sought c =
    rw c.in-None.is (λ xs count holds long was. no_lock_yet (drop c.args.skip (bytes_bits c.args.bytes.now)) xs c.args.base count c.args.from c.args.until holds long was c.in-None-next_past.ensures)

pub returns-in-Some-next_past-clause-sought : goal.returns-in-Some-next_past-clause-sought
returns-in-Some-next_past-clause-sought c =
    rw c.in-None.is
    (λ xs count holds long was.
    let before = c.in-Some-next_past.ensures.other.before in
    c.stray_in-in-Some-next_past.ensures.sought xs count holds long
    (subst (λ n. HasSought xs (c.args.base + c.min-next.result) (Some (c.args.base + n))) (sym c.from.ensures)
    (lock_here (drop c.args.skip (bytes_bits c.args.bytes.now)) xs c.args.base count c.args.from c.args.until c.in-Some-next_past.p c.min-next.result holds long was c.in-Some-next_past.ensures
    (omega (arith, c.min-next.ensures, before)) (omega (arith, c.min-next.ensures)))))
