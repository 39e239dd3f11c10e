use Rattle.std.proofs.Common.{◌∙◌, Bool, cond, [], ◌∷◌, ◌++◌, ap, sym, subst}
use Rattle.period_grammar.specs.Events.{line}
use Rattle.frame_build.specs.declared.LineNote.{LineNote}
use Rattle.listing_writer.specs.ContentText.{frame_event_of, frame_events, lines_at, row_lines}
use Rattle.listing_writer.specs.Listed as pictures
use Rattle.sampling.specs.Tallies.{Shows}
use Rattle.sampling.proofs.LineKinds.{kinds_of, pictured, one_row, no_row}
use Rattle.sampling.proofs.Counting.{counted_more, counted_none, still, row_listed}
use Rattle.sampling.proofs.counter.Counter.line.Goals as goal

pub returns-then-note : goal.returns-then-note
unfolding frame_event_of lines_at
returns-then-note c before was =
    let pixels = c.args.pixels.now in
    let note = c.line-note.result in
    let at = c.line-note.ensures.note (frame_events before) was.heard in
    counted_more c.args.self.now _ before (line pixels) (pictured 0 1) was
    (ap (λ (m : LineNote). kinds_of 0 (row_lines pixels m)) (sym at) ∙ one_row pixels note c.if-note.true)
    (c.line-note.ensures.stands (frame_events before) was.heard)
    (subst (λ (m : LineNote). Shows c.row.new.self (pictures.listed before ++ pictures.listed_rows pixels m)) at
    (row_listed c.row.new.self (pictures.listed before) pixels note c.if-note.true (c.row.ensures (pictures.listed before) note was.pictures)))
    (record {
      frames = still _ _ was.frames;
      rows = c.saturating_add-self.ensures;
      packets = still _ _ was.packets;
      samples = still _ _ was.samples;
      symbols = still _ _ was.symbols;
      mended = still _ _ was.mended;
      code = still _ _ was.code;
    })

pub returns-else-note : goal.returns-else-note
unfolding frame_event_of lines_at
returns-else-note c before was =
    let pixels = c.args.pixels.now in
    let note = c.line-note.result in
    let at = c.line-note.ensures.note (frame_events before) was.heard in
    counted_none c.args.self.now c.line-note.new.self before (line pixels) was
    (ap (λ (m : LineNote). kinds_of 0 (row_lines pixels m)) (sym at) ∙ no_row pixels note c.if-note.false)
    (ap (λ (m : LineNote). pictures.listed_rows pixels m) (sym at) ∙ ap (λ (counts : Bool). cond counts (pictures.row pixels note ∷ []) []) c.if-note.false)
    (c.line-note.ensures.stands (frame_events before) was.heard)
