use Rattle.std.proofs.Common.{◌∷◌, [], ◌++◌, subst, sym}
use Rattle.period_grammar.specs.Lending.{fault_event}
use Rattle.period_grammar.specs.declared.event.Fault.{Fault}
use Rattle.frame_build.specs.FrameEvent.{FrameEvent}
use Rattle.frame_build.specs.FramesRepresent.{FramesRepresent}
use Rattle.listing_writer.specs.ContentText.{frame_event_of}
use Rattle.listing_writer.proofs.ContentCases.{parts_lines}
use Rattle.listing_writer.proofs.content_state.hear_fault.Goals as goal

pub returns-in-Word : goal.returns-in-Word
unfolding frame_event_of
returns-in-Word c reported stands =
    subst (λ (fault : Fault). FramesRepresent c.args.frames.now (reported ++ frame_event_of (fault_event fault) ∷ [])) (sym c.in-Word.is)
    (c.word_faults_change_nothing.ensures.states c.args.frames.now reported stands)

pub returns-in_default : goal.returns-in_default
returns-in_default c reported stands =
    subst (λ (frame_event : FrameEvent). FramesRepresent c.other.new.self (reported ++ frame_event ∷ [])) (sym (parts_lines c.args.fault c.in_default.not-Word))
    (c.other.ensures reported stands)
