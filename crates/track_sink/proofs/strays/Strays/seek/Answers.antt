use Rattle.std.proofs.Common.{Option, sym, subst}
use Rattle.std.specs.Prelude.{MatchOption}
use Rattle.track_sink.specs.Seeking.{AreSought, StrayAt}
use Rattle.track_sink.specs.declared.strays.Strays.{Strays}
use Rattle.track_sink.specs.declared.watch.End.{End}
use Rattle.track_sink.proofs.Looking.{first_end}
use Rattle.track_sink.proofs.strays.Strays.seek.Goals as goal

pub returns-clause-sought : goal.returns-clause-sought
returns-clause-sought c = λ fed lent was.
    let w = c.args.self.now in
    let now : Strays = record w { blue = c.seek_lane-blue.new.scout; green = c.seek_lane-green.new.scout; red = c.seek_lane-red.new.scout } in
    let P : Option End → Type 0 = λ found. MatchOption found (AreSought now c.args.until fed) (λ end. StrayAt fed end) in
    subst P (sym c.last_of.ensures)
    (first_end fed now w.seen c.args.until c.end_of-before_blue.result c.end_of-before_green.result _ _ _ was.blue was.green was.red c.requires.order
    c.seek_lane-blue.result c.seek_lane-green.result c.seek_lane-red.result
    (c.seek_lane-blue.ensures.sought fed.blue lent.blue was.blue) c.seek_lane-blue.ensures.within c.end_of-before_blue.ensures.end
    (c.seek_lane-green.ensures.sought fed.green lent.green was.green) c.seek_lane-green.ensures.within c.end_of-before_green.ensures.end
    (c.seek_lane-red.ensures.sought fed.red lent.red was.red) c.seek_lane-red.ensures.within)
