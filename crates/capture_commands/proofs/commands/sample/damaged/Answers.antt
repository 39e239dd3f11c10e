use Rattle.std.proofs.Common.{arith, List, Some, Err, ap, subst, ◌∙◌}
use Rattle.capture_file.specs.BlockDamage.{IsMisplacedLane}
use Rattle.capture_file.specs.declared.damaging.Hit.{Hit}
use Rattle.capture_file.proofs.OneCapture.{no_fault}
use Rattle.capture_commands.proofs.Samples.{bad_of, placed, tapped_is_capture}
use Rattle.capture_commands.proofs.commands.sample.damaged.Goals as goal

pub unreachable-requires : goal.unreachable-requires
unreachable-requires c = grind (arith, bad_of, no_fault, tapped_is_capture)

pub unreachable-requires-in-Err-Place : goal.unreachable-requires-in-Err-Place
unreachable-requires-in-Err-Place c =
    let bytes = c.in_ok-capture.capture.held in
    let hits = c.in_ok-capture.hits.items in
    let i = c.in-Err-Place.field-0-0 in
    let left = Some c.new.result.rest.now in
    let rest = Some c.damage.new.source.rest.now in
    placed c.args.frames bytes hits left rest i c.in_ok-capture.ensures (ap Some (c.new.ensures ∙ c.bytes-2.ensures))
    (subst (λ (hs : List Hit). IsMisplacedLane left rest hs i) c.as_slice.ensures.value (c.in-Err-Place.ensures.place i (ap Err c.in-Err-Place.field-0-is)).0)
