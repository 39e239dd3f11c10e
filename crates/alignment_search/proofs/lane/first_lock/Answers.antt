use Rattle.std.proofs.Common.{◌≡◌, ◌+◌, ◌-◌, ◌≤◌, min, sym, subst, arith}
use Rattle.tmds_word.specs.Bits.{bytes_bits}
use Rattle.lane_align.specs.Lanes.{IsLock}
use Rattle.alignment_search.proofs.Locks.{none_left, none_found, lock_found}
use Rattle.alignment_search.proofs.lane.first_lock.Goals as goal

pub returns-then-from-base-clause-found : goal.returns-then-from-base-clause-found
returns-then-from-base-clause-found c = λ xs part none.
    let count = c.args.part.count in
    let is : c.min-last.result ≡ min (count - 119) (c.args.until - c.args.base) = omega (arith, c.min-last.ensures, c.from.ensures, c.saturating_sub-places.ensures) in
    let few : c.min-last.result ≤ c.args.from - c.args.base = let h = c.if-from-base.true in omega (arith, c.from-2.ensures) in
    none_left (bytes_bits c.args.part.bytes.now) xs c.args.part.skip count c.args.base part.bits c.args.from c.args.until c.min-last.result part.many c.requires.after is none few

pub returns-in-Some-clause-found : goal.returns-in-Some-clause-found
returns-in-Some-clause-found c = λ xs part none.
    let count = c.args.part.count in
    let is : c.min-last.result ≡ min (count - 119) (c.args.until - c.args.base) = omega (arith, c.min-last.ensures, c.from.ensures, c.saturating_sub-places.ensures) in
    subst (λ n. IsLock xs (c.args.base + n) × (c.args.from ≤ c.args.base + n)) (sym c.from-in-Some.ensures)
    (lock_found (bytes_bits c.args.part.bytes.now) xs c.args.part.skip count c.args.base part.bits c.args.from c.args.until c.min-last.result part.many c.requires.after is none
    c.in-Some.place c.requires.order c.in-Some.ensures)

pub returns-in-None-clause-found : goal.returns-in-None-clause-found
returns-in-None-clause-found c = λ xs part none.
    let count = c.args.part.count in
    let is : c.min-last.result ≡ min (count - 119) (c.args.until - c.args.base) = omega (arith, c.min-last.ensures, c.from.ensures, c.saturating_sub-places.ensures) in
    none_found (bytes_bits c.args.part.bytes.now) xs c.args.part.skip count c.args.base part.bits c.args.from c.args.until c.min-last.result part.many c.requires.after is none c.in-None.ensures
