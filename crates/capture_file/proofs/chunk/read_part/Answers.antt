use Rattle.std.proofs.Common.{arith, ◌≡◌, ◌<◌, ◌∙◌, ◌++◌, [], length, ap, take, subst, append-nil, length-take-le}
use Rattle.std.proofs.lemmas.Grind.{common_steps}
use Rattle.std.specs.Io.KnownBytes.{IsAtEnd}
use Rattle.capture_file.proofs.Rooms.{none_packed}
use Rattle.std.proofs.lemmas.List.{take_all}
use Rattle.capture_file.proofs.Marks.{consumed, clash, take_bytes}
use Rattle.capture_file.proofs.Stops.{padding_stops, short_piece}
use Rattle.capture_file.proofs.chunk.read_part.Goals as goal

pub returns-else-is_padded-clause-err : goal.returns-else-is_padded-clause-err
returns-else-is_padded-clause-err g c bytes front e w at =
    let part = c.read_full.new.into in
    let all : take c.in-Ok.read part ≡ part = take_all c.in-Ok.read part (omega (arith, c.if-read-size.false, c.in-Ok.ensures.bound)) in
    let s = consumed _ _ bytes (take c.in-Ok.read part) e c.in-Ok.ensures.bytes in
    padding_stops front bytes part s.0 c.args.count c.args.place (w (omega (arith, c.if-count-eq0.false))) at (s.1 ∙ ap (λ xs. xs ++ s.0) all) (c.read_full.auto.into ∙ c.requires.size) (omega (arith, c.if-count-eq0.false)) c.is_padded.ensures.bytes (λ h. clash _ (c.is_padded.ensures.spared.1 h) c.if-is_padded.false)

pub returns-then-count-eq0-clause-spared : goal.returns-then-count-eq0-clause-spared
returns-then-count-eq0-clause-spared g c = none_packed c.args.count c.args.part.now c.if-count-eq0.true c.requires.size

pub returns-then-read-size-clause-err : goal.returns-then-read-size-clause-err
returns-then-read-size-clause-err g c bytes front e w at =
    let part = c.read_full.new.into in
    let read = take c.in-Ok.read part in
    let s = consumed _ _ bytes read e c.in-Ok.ensures.bytes in
    let none : s.0 ≡ [] = subst (λ o. IsAtEnd o) s.2 (c.in-Ok.ensures.end c.if-read-size.true) in
    grind (arith, length-take-le, short_piece, append-nil, take_bytes)

pub returns-then-count-eq0-clause-ok : goal.returns-then-count-eq0-clause-ok
returns-then-count-eq0-clause-ok c = grind (arith, common_steps)

pub returns-then-is_padded-clause-ok : goal.returns-then-is_padded-clause-ok
returns-then-is_padded-clause-ok c = grind (arith, common_steps)

pub returns-in_default-clause-part : goal.returns-in_default-clause-part
returns-in_default-clause-part g c =
    let part = c.read_full.new.into in
    let arrived = c.in_default.field-0.arrived in
    let less : arrived < length part = c.in_default.ensures.missing in (
      take arrived part,
      omega (arith, less, length-take-le arrived part (omega arith), c.read_full.auto.into, c.requires.size),
      take_bytes arrived part (λ i. (c.type_inv.part i).fits),
      c.in_default.ensures.part,
    )
