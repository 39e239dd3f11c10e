use Rattle.std.proofs.Common.{◌∙◌, ap}
use Rattle.period_grammar.specs.Lending.{fault_event}
use Rattle.listing_writer.specs.ContentText.{frame_events}
use Rattle.period_grammar.specs.declared.event.Fault.{Fault}
use Rattle.sampling.proofs.LineKinds.{kinds_at, faulted, symbols_kinds, mended_kinds, code_kinds, plain_kinds, fault_unlisted}
use Rattle.sampling.proofs.Counting.{counted_more, counted_none, unlisted, still}
use Rattle.sampling.proofs.counter.Counter.fault.Goals as goal

pub returns-in-Symbols : goal.returns-in-Symbols
returns-in-Symbols c before was =
    let event = fault_event c.args.fault in
    counted_more c.args.self.now _ before event (faulted 1 0 0) was
    (ap (λ (fault : Fault). kinds_at before (fault_event fault)) c.in-Symbols.is ∙ symbols_kinds before c.in-Symbols.column c.in-Symbols.count)
    (c.hear_fault.ensures (frame_events before) was.heard) (unlisted c.args.self.now.pictures before event was.pictures (fault_unlisted (frame_events before) c.args.fault))
    (record {
      frames = still _ _ was.frames;
      rows = still _ _ was.rows;
      packets = still _ _ was.packets;
      samples = still _ _ was.samples;
      symbols = c.saturating_add-self.ensures;
      mended = still _ _ was.mended;
      code = still _ _ was.code;
    })

pub returns-in-Mended : goal.returns-in-Mended
returns-in-Mended c before was =
    let event = fault_event c.args.fault in
    counted_more c.args.self.now _ before event (faulted 0 1 0) was
    (ap (λ (fault : Fault). kinds_at before (fault_event fault)) c.in-Mended.is ∙ mended_kinds before c.in-Mended.column c.in-Mended.block c.in-Mended.bit)
    (c.hear_fault.ensures (frame_events before) was.heard) (unlisted c.args.self.now.pictures before event was.pictures (fault_unlisted (frame_events before) c.args.fault))
    (record {
      frames = still _ _ was.frames;
      rows = still _ _ was.rows;
      packets = still _ _ was.packets;
      samples = still _ _ was.samples;
      symbols = still _ _ was.symbols;
      mended = c.saturating_add-self-in-Mended.ensures;
      code = still _ _ was.code;
    })

pub returns-in-Code : goal.returns-in-Code
returns-in-Code c before was =
    let event = fault_event c.args.fault in
    counted_more c.args.self.now _ before event (faulted 0 0 1) was
    (ap (λ (fault : Fault). kinds_at before (fault_event fault)) c.in-Code.is ∙ code_kinds before c.in-Code.lane c.in-Code.column)
    (c.hear_fault.ensures (frame_events before) was.heard) (unlisted c.args.self.now.pictures before event was.pictures (fault_unlisted (frame_events before) c.args.fault))
    (record {
      frames = still _ _ was.frames;
      rows = still _ _ was.rows;
      packets = still _ _ was.packets;
      samples = still _ _ was.samples;
      symbols = still _ _ was.symbols;
      mended = still _ _ was.mended;
      code = c.saturating_add-self-in-Code.ensures;
    })

pub returns-in_default : goal.returns-in_default
returns-in_default c before was =
    counted_none c.args.self.now c.hear_fault.new.heard before (fault_event c.args.fault) was
    (plain_kinds before c.args.fault c.in_default.not-Symbols c.in_default.not-Mended c.in_default.not-Code) (fault_unlisted (frame_events before) c.args.fault)
    (c.hear_fault.ensures (frame_events before) was.heard)
