use Rattle.std.proofs.Common.{◌≡◌, ◌+◌, ◌-◌, min, subst, sym, arith}
use Rattle.lane_track.specs.Strays.{IsFirstStray}
use Rattle.lane_track.specs.Scouts.{HasSought}
use Rattle.track_sink.proofs.Looking.{holds_rest, sought_none, sought_all}
use Rattle.track_sink.proofs.strays.seek_lane.Goals as goal

pub returns-then-last-from-clause-sought : goal.returns-then-last-from-clause-sought
returns-then-last-from-clause-sought c = λ xs lent was.
    let e : c.min-last.result ≡ min (c.args.lane.count - 119) (c.args.until - c.args.base) = omega (arith, c.min-last.ensures, c.from.ensures, c.saturating_sub.ensures) in
    sought_none xs c.args.lane.count c.args.base c.args.from c.args.until c.min-last.result c.args.scout.now.lock lent.many c.requires.after c.requires.order e c.if-last-from.true was

pub returns-in-Some-clause-sought : goal.returns-in-Some-clause-sought
returns-in-Some-clause-sought c = λ xs lent was.
    let some = c.if-last-from.false in
    let e : c.min-last.result ≡ min (c.args.lane.count - 119) (c.args.until - c.args.base) = omega (arith, c.min-last.ensures, c.from.ensures, c.saturating_sub.ensures) in
    let holds = holds_rest c.args.lane xs c.args.base lent (omega (arith, some, e)) in
    let from : c.args.from ≡ c.args.base + (c.args.from - c.args.base) = let after = c.requires.after in omega arith in
    subst (λ n. IsFirstStray xs (c.args.base + n)) (sym c.from-in-Some.ensures)
    (c.in-Some.ensures.sought xs c.args.lane.count holds (omega (arith, some, e)) (subst (λ n. HasSought xs n c.args.scout.now.lock) from was))

pub returns-in-None-clause-sought : goal.returns-in-None-clause-sought
returns-in-None-clause-sought c = λ xs lent was.
    let some = c.if-last-from.false in
    let e : c.min-last.result ≡ min (c.args.lane.count - 119) (c.args.until - c.args.base) = omega (arith, c.min-last.ensures, c.from.ensures, c.saturating_sub.ensures) in
    let holds = holds_rest c.args.lane xs c.args.base lent (omega (arith, some, e)) in
    let from : c.args.from ≡ c.args.base + (c.args.from - c.args.base) = let after = c.requires.after in omega arith in
    sought_all xs c.args.lane.count c.args.base c.args.until c.min-last.result c.seek.new.self.lock lent.many (let h = c.requires.after in let k = c.requires.order in omega arith) (omega (arith, some)) e
    (c.in-None.ensures.sought xs c.args.lane.count holds (omega (arith, some, e)) (subst (λ n. HasSought xs n c.args.scout.now.lock) from was))
