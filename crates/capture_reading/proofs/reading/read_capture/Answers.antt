use Rattle.std.proofs.Common.{rules, sym, subst}
use Rattle.std.proofs.lemmas.Result.{err_from_is_err_and}
use Rattle.capture_reading.specs.Reading.{IsCausedBy, IsUntaken, IsReadWhole, StopsShort}
use Rattle.capture_reading.specs.declared.reading.ReadCaptureError.{ReadCaptureError}
use Rattle.outside_io.proofs.Consumed.{Takes, takes_more}
use Rattle.capture_reading.proofs.BlockReading.{carried, caused_later, heard_head, heard_whole, headless, unended}
use Rattle.capture_reading.proofs.reading.read_capture.Goals as goal

pub returns-in-Ok-clause-heard : goal.returns-in-Ok-clause-heard
returns-in-Ok-clause-heard g c =
    let k = g.K.BlockSink in
    let left = g.S.Source.left in
    let old = c.new-reader.result.source.now in
    let r = c.open.new.self in
    let new = c.read_blocks.new.reader.source.now in
    let ear = c.args.ear.now in
    let head = heard_head k.heard r.version r.bits r.block (left old) (left r.source.now) c.args.sink.now ear c.requires.fresh c.in_default.ensures.ok in
    let h = heard_whole k.heard k.whole (left old) (left new) c.read_blocks.new.sink c.in-Ok.outcome ear c.read_blocks.new.ear c.end.new.ear
    (c.in_ok-read_blocks.ensures.whole (left old) ear head) c.in_ok-read_blocks.ensures.ended (λ fed. c.in-Ok.ensures.heard fed ear) in
    subst (λ x. IsReadWhole k.whole (left x) c.in-Ok.outcome ear c.end.new.ear) c.new-reader.ensures.source h

pub returns-in-Err-end-clause-short : goal.returns-in-Err-end-clause-short
returns-in-Err-end-clause-short g c =
    let k = g.K.BlockSink in
    let left = g.S.Source.left in
    let old = c.new-reader.result.source.now in
    let r = c.open.new.self in
    let new = c.read_blocks.new.reader.source.now in
    let ear = c.args.ear.now in
    let then = c.end.new.ear in
    let head = heard_head k.heard r.version r.bits r.block (left old) (left r.source.now) c.args.sink.now ear c.requires.fresh c.in_default.ensures.ok in
    let whole = c.in_ok-read_blocks.ensures.whole (left old) ear head in
    carried (λ x y. IsUntaken k.stops k.stops_last (left x) (left y) ear then) old c.args.input.now new _ (sym c.new-reader.ensures.source) (search rules)
    (unended k.heard k.stops k.stops_last (left old) (left new) c.read_blocks.new.sink ear c.read_blocks.new.ear then whole c.in_ok-read_blocks.ensures.ended (λ fed. c.in-Err-end.ensures.stopped fed ear))

pub returns-in-Err-clause-short : goal.returns-in-Err-clause-short
returns-in-Err-clause-short g c =
    let k = g.K.BlockSink in
    let left = g.S.Source.left in
    let e = c.in-Err.ensures in
    let old = c.new-reader.result.source.now in
    let new = c.open.new.self.source.now in
    let ear = c.args.ear.now in
    let so = g.met.K.BlockSink.reported c.args.sink.now _ ear ear c.requires.fresh in
    let short = subst (λ (r : ReadCaptureError). StopsShort k.so_far k.stops k.stops_last (left old) (left new) ear ear r) c.refused.ensures.refused
    (headless k.so_far k.stops k.stops_last (left old) (left new) ear c.in-Err.error so e.err e.part) in
    carried (λ x y. StopsShort k.so_far k.stops k.stops_last (left x) (left y) ear ear c.refused.result) old c.args.input.now new _ (sym c.new-reader.ensures.source) (search rules) short

pub returns-in_err-read_blocks : goal.returns-in_err-read_blocks
returns-in_err-read_blocks g c =
    let k = g.K.BlockSink in
    let left = g.S.Source.left in
    let p = err_from_is_err_and c.from_residual.result c.from_residual.ensures.1 in
    let old = c.new-reader.result.source.now in
    let r = c.open.new.self in
    let new = c.read_blocks.new.reader.source.now in
    let ear = c.args.ear.now in
    let then = c.read_blocks.new.ear in
    let e = c.in_err-read_blocks.field-0.0 in
    let was = sym c.new-reader.ensures.source in
    let head = heard_head k.heard r.version r.bits r.block (left old) (left r.source.now) c.args.sink.now ear c.requires.fresh c.in_default.ensures.ok in
    let short = c.in_err-read_blocks.ensures.short (left old) ear head in
    let cause = caused_later (g.S.Source.faults old) (g.S.Source.faults r.source.now) (g.S.Source.faults new) (k.faults ear) (k.faults then) e c.open.ensures.later c.in_err-read_blocks.ensures.caused in
    record {
      heard = rw p.1 tt;
      ended = rw p.1 tt;
      short = rw (p.1, p.2) (carried (λ x y. StopsShort k.so_far k.stops k.stops_last (left x) (left y) ear then e) old c.args.input.now new _ was (search rules) short);
      caused = rw (p.1, p.2) (carried (λ x y. IsCausedBy (g.S.Source.faults x) (g.S.Source.faults y) (k.faults ear) (k.faults then) e) old c.args.input.now new _ was (search rules) cause);
      taken = carried (λ x y. Takes (left x) (left y)) old c.args.input.now new _ was (search rules) (takes_more _ _ _ c.open.ensures.taken c.read_blocks.ensures.taken);
      input_later = search rules;
      ear_later = search rules;
    }

pub returns-in-Err-clause-taken : goal.returns-in-Err-clause-taken
returns-in-Err-clause-taken g c =
    let left = g.S.Source.left in
    carried (λ x y. Takes (left x) (left y)) c.new-reader.result.source.now c.args.input.now c.open.new.self.source.now _ (sym c.new-reader.ensures.source) (search rules) c.open.ensures.taken

pub returns-in-Ok-clause-taken : goal.returns-in-Ok-clause-taken
returns-in-Ok-clause-taken g c =
    let left = g.S.Source.left in
    carried (λ x y. Takes (left x) (left y)) c.new-reader.result.source.now c.args.input.now c.read_blocks.new.reader.source.now _ (sym c.new-reader.ensures.source) (search rules)
    (takes_more _ _ _ c.open.ensures.taken c.read_blocks.ensures.taken)

pub returns-in-Err-end-clause-taken : goal.returns-in-Err-end-clause-taken
returns-in-Err-end-clause-taken g c =
    let left = g.S.Source.left in
    carried (λ x y. Takes (left x) (left y)) c.new-reader.result.source.now c.args.input.now c.read_blocks.new.reader.source.now _ (sym c.new-reader.ensures.source) (search rules)
    (takes_more _ _ _ c.open.ensures.taken c.read_blocks.ensures.taken)
