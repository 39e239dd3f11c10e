use Rattle.std.proofs.Common.{◌∙◌, ◌++◌, List, ap, sym, subst, append-nil, arith}
use Rattle.audio_packets.specs.declared.sample.SampleNote.{SampleNote}
use Rattle.audio_out.specs.Frames.{bytes_in}
use Rattle.biphase_listing.proofs.Streaming.{Framed, framed_none, framed_more}
use Rattle.biphase_listing.proofs.lister.frames_of.Goals as goal

pub loop-note-init : goal.loop-note-init
loop-note-init c = grind (arith, Framed, framed_none)

pub loop-note-preserved-in-Some-push : goal.loop-note-preserved-in-Some-push
loop-note-preserved-in-Some-push c =
    let f = subst (λ (left : List SampleNote). Framed c.args.notes left c.args.encoder.now c.loop-note.encoder c.loop-note.frames.items) c.in-Some.ensures.steps c.loop-note.invariant.framed in
    record {
      next = tt;
      finite = tt;
      framed =
          framed_more c.args.notes c.next.new.self c.in-Some.note c.args.encoder.now c.loop-note.encoder c.push.new.self c.loop-note.frames.items c.put_frame.new.frames.items c.push.result f
          (c.put_frame.ensures.items ∙ ap (λ r. c.loop-note.frames.items ++ bytes_in r) (sym c.in-Some-push.is)) (omega (arith, c.put_frame.ensures.len))
          c.push.ensures.stands c.push.ensures.written;
    }

pub loop-note-preserved : goal.loop-note-preserved
loop-note-preserved c =
    let f = subst (λ (left : List SampleNote). Framed c.args.notes left c.args.encoder.now c.loop-note.encoder c.loop-note.frames.items) c.in-Some.ensures.steps c.loop-note.invariant.framed in
    record {
      next = tt;
      finite = tt;
      framed =
          framed_more c.args.notes c.next.new.self c.in-Some.note c.args.encoder.now c.loop-note.encoder c.push.new.self c.loop-note.frames.items c.loop-note.frames.items c.push.result f
          (sym (append-nil c.loop-note.frames.items) ∙ ap (λ r. c.loop-note.frames.items ++ bytes_in r) (sym c.in_default.is)) (omega arith)
          c.push.ensures.stands c.push.ensures.written;
    }
