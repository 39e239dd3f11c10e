use Rattle.std.proofs.Common.{ap, subst, ◌∙◌, arith}
use Rattle.source_end.proofs.Streams.{Spells-length}
use Rattle.capture_file.specs.BlockDamage.{AllFitLanes}
use Rattle.capture_file.specs.Taps.{tap_counts}
use Rattle.capture_file.specs.declared.writing.Tap.{Tap}
use Rattle.sampling.specs.Strikes.{hits_of}
use Rattle.capture_commands.proofs.commands.sample.sent.Goals as goal

pub returns-clause-sent : goal.returns-clause-sent
returns-clause-sent c =
    let ps = c.in_ok-stream.stream in
    let columns = c.in_ok-lanes.lanes.columns in
    let long = Spells-length ps columns c.in_ok-lanes.ensures in
    let struck = c.in_ok-hits.ensures in
    record {
      periods = ps;
      made = c.in_ok-stream.ensures;
      spelled = c.in_ok-lanes.ensures;
      few_columns = omega (arith, long, c.columns.ensures.value, c.columns.ensures.few);
      hits_are = struck.hits ∙ ap (λ (t : Tap). hits_of t ps) c.tap.ensures;
      lanes = struck.lanes;
      few_hits = struck.few;
      fits = subst (λ (t : Tap). AllFitLanes (tap_counts t columns) c.in_ok-hits.hits.items) c.tap.ensures (struck.fits columns long);
    }
