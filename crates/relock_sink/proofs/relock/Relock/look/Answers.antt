use Rattle.std.proofs.Common.{sym, subst, arith}
use Rattle.track_sink.specs.Epochs.{front_of}
use Rattle.track_sink.specs.declared.strays.Strays.{Strays}
use Rattle.relock_sink.proofs.Fronts.{sought_front}
use Rattle.relock_sink.proofs.Judging.{is_seeking, IsFirstSlip, until_within, until_after, doubt_first, none_first, limit_rises}
use Rattle.relock_sink.proofs.relock.Relock.look.Goals as goal

pub next_end-slip-requires-clause-lent : goal.next_end-slip-requires-clause-lent
next_end-slip-requires-clause-lent c =
    let l = c.requires.lent in
    let more = c.requires.more in
    (front_of c.args.shown l.0, c.front.ensures.lent l.0 l.1, sought_front c.args.self.now.strays c.args.shown l.0 (omega arith) l.2.sought)

pub overflow_add-until : goal.overflow_add-until
overflow_add-until c =
    let l = c.requires.lent in
    let more = c.requires.more in
    let slip = c.next_end-slip.ensures.found (front_of c.args.shown l.0) (c.front.ensures.lent l.0 l.1) (sought_front c.args.self.now.strays c.args.shown l.0 (omega arith) l.2.sought) in
    let h = until_within l.0 c.args.shown l.3 c.next_end-slip.new.self c.next_end-slip.result c.until_of-until.result (omega arith) slip c.until_of-until.ensures in
    let fits = c.ranges.shown.fits in
    omega arith

pub unconfirmed-requires-clause-lent : goal.unconfirmed-requires-clause-lent
unconfirmed-requires-clause-lent c =
    let l = c.requires.lent in
    let more = c.requires.more in
    let slip = c.next_end-slip.ensures.found (front_of c.args.shown l.0) (c.front.ensures.lent l.0 l.1) (sought_front c.args.self.now.strays c.args.shown l.0 (omega arith) l.2.sought) in
    let h = until_within l.0 c.args.shown l.3 c.next_end-slip.new.self c.next_end-slip.result c.until_of-until.result (omega arith) slip c.until_of-until.ensures in
    let long = l.3 in
    (l.0, l.1, (is_seeking c.args.self.now l.0 c.requires.open l.2).searched, omega arith)

pub unconfirmed-requires-clause-rises : goal.unconfirmed-requires-clause-rises
unconfirmed-requires-clause-rises c =
    let l = c.requires.lent in
    let more = c.requires.more in
    let sought = sought_front c.args.self.now.strays c.args.shown l.0 (omega arith) l.2.sought in
    let slip = c.next_end-slip.ensures.found (front_of c.args.shown l.0) (c.front.ensures.lent l.0 l.1) sought in
    limit_rises c.args.self.now l.0 c.until_of-until.result (is_seeking c.args.self.now l.0 c.requires.open l.2)
    (until_after l.0 c.args.shown l.3 c.args.self.now.strays c.next_end-slip.new.self c.next_end-slip.result c.until_of-until.result sought more slip c.until_of-until.ensures)

pub returns-in-Some : goal.returns-in-Some
returns-in-Some c = record {
  found = λ fed lent watched long.
      let more = c.requires.more in
      let slip = c.next_end-slip.ensures.found (front_of c.args.shown fed) (c.front.ensures.lent fed lent) (sought_front c.args.self.now.strays c.args.shown fed (omega arith) watched.sought) in
      let h = until_within fed c.args.shown long c.next_end-slip.new.self c.next_end-slip.result c.until_of-until.result (omega arith) slip c.until_of-until.ensures in
      let doubt = c.in-Some.ensures.found fed lent (is_seeking c.args.self.now fed c.requires.open watched).searched (omega arith) in
      doubt_first fed c.args.shown long c.next_end-slip.new.self c.next_end-slip.result c.until_of-until.result c.in-Some.place (omega arith) slip c.until_of-until.ensures doubt;
}

pub returns-in-None : goal.returns-in-None
returns-in-None c = record {
  found = λ fed lent watched long.
      let more = c.requires.more in
      let slip = c.next_end-slip.ensures.found (front_of c.args.shown fed) (c.front.ensures.lent fed lent) (sought_front c.args.self.now.strays c.args.shown fed (omega arith) watched.sought) in
      let h = until_within fed c.args.shown long c.next_end-slip.new.self c.next_end-slip.result c.until_of-until.result (omega arith) slip c.until_of-until.ensures in
      let none = c.in-None.ensures.found fed lent (is_seeking c.args.self.now fed c.requires.open watched).searched (omega arith) in
      let same = sym c.unconfirmed.ensures.strays in
      let now : IsFirstSlip fed c.args.shown long c.unconfirmed.new.self.strays c.next_end-slip.result = subst (λ (w : Strays). IsFirstSlip fed c.args.shown long w c.next_end-slip.result) same slip in
      none_first fed c.args.shown long c.unconfirmed.new.self c.next_end-slip.result c.until_of-until.result (omega arith) now c.until_of-until.ensures none;
}
