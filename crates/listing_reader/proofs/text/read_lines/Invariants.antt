use Rattle.std.proofs.Common.{◌≡◌, ℕ, ◌-◌, ◌<◌, ◌≤◌, List}
use Rattle.std.specs.Prelude.{Some}
use Rattle.listing_reader.specs.Lines.{pieces_of}
use Rattle.listing_reader.specs.LineSteps.{read_lines}
use Rattle.listing_reader.specs.Leaves.{IsPlace}
use Rattle.outside_io.proofs.Consumed.{Takes}
use Rattle.listing_reader.proofs.Leaving.{IsReadFrom}
use Rattle.listing_reader.proofs.text.read_lines.Given as goal

abbrev pub invariant-loop-lines : goal.invariant-loop-lines
invariant-loop-lines g l =
    let step = g.T.Teller.step in record {
      reported : (text : List ℕ) → g.S.Source.left l.initial.source ≡ Some text
          → IsReadFrom step (read_lines step 1 0 l.initial.reported (pieces_of text)) l.place.line l.place.bytes l.reported (g.S.Source.left l.source) l.lines;
      taken : Takes (g.S.Source.left l.initial.source) (g.S.Source.left l.source);
      place : IsPlace l.place.line l.place.bytes;
      few : g.T.Teller.lines l.reported < l.place.line;
      later : g.S.Source.faults l.initial.source ≤ g.S.Source.faults l.source;
    }

abbrev pub decreases-loop-lines : goal.decreases-loop-lines
decreases-loop-lines g l = 4294967295 - l.place.bytes
