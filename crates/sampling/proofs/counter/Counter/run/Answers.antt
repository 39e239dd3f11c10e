use Rattle.std.proofs.Common.{◌∙◌, ◌++◌, Option, ap, sym, subst}
use Rattle.period_grammar.specs.Events.{run}
use Rattle.frame_build.specs.declared.FrameNote.{FrameNote}
use Rattle.listing_writer.specs.ContentText.{frame_event_of, frame_events, last_vic, lines_at, frame_lines}
use Rattle.listing_writer.specs.Listed as pictures
use Rattle.sampling.specs.Tallies.{Shows}
use Rattle.sampling.proofs.LineKinds.{kinds_of, pictured, one_frame, no_frame}
use Rattle.sampling.proofs.Counting.{counted_more, counted_none, still, is_frame, no_frame as is_none}
use Rattle.sampling.proofs.counter.Counter.run.Goals as goal

pub returns-then-is_some : goal.returns-then-is_some
unfolding frame_event_of lines_at
returns-then-is_some c before was =
    let reported = is_frame c.run.result (sym c.is_some.ensures ∙ c.if-is_some.true) in
    let at = sym reported.1 ∙ c.run.ensures.frame (frame_events before) was.heard in
    counted_more c.args.self.now _ before (run c.args.value c.args.count) (pictured 1 0) was
    (ap (λ (frame : Option FrameNote). kinds_of 0 (frame_lines (last_vic before) frame)) (sym at) ∙ one_frame (last_vic before) reported.0)
    (c.run.ensures.stands (frame_events before) was.heard)
    (subst (λ (frame : Option FrameNote). Shows c.frame.new.self (pictures.listed before ++ pictures.listed_frames frame)) at (c.frame.ensures (pictures.listed before) reported.0 was.pictures))
    (record {
      frames = c.saturating_add-self.ensures;
      rows = still _ _ was.rows;
      packets = still _ _ was.packets;
      samples = still _ _ was.samples;
      symbols = still _ _ was.symbols;
      mended = still _ _ was.mended;
      code = still _ _ was.code;
    })

pub returns-else-is_some : goal.returns-else-is_some
unfolding frame_event_of lines_at
returns-else-is_some c before was =
    let at = sym (is_none c.run.result (sym c.is_some.ensures ∙ c.if-is_some.false)) ∙ c.run.ensures.frame (frame_events before) was.heard in
    counted_none c.args.self.now c.run.new.self before (run c.args.value c.args.count) was
    (ap (λ (frame : Option FrameNote). kinds_of 0 (frame_lines (last_vic before) frame)) (sym at) ∙ no_frame (last_vic before))
    (ap pictures.listed_frames (sym at)) (c.run.ensures.stands (frame_events before) was.heard)
