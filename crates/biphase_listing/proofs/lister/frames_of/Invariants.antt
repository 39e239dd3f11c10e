use Rattle.biphase_listing.proofs.Streaming.{Framed}
use Rattle.biphase_listing.proofs.lister.frames_of.Given as goal

abbrev pub invariant-loop-note : goal.invariant-loop-note
invariant-loop-note l = record {
  next : (goal.iterator-loop-note).can_next l.note-iterator;
  finite : (goal.iterator-loop-note).is_finite l.note-iterator;
  framed : Framed l.fn.notes l.note-iterator l.initial.encoder l.encoder l.frames.items;
}
