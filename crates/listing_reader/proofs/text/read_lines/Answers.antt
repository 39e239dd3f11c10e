use Rattle.std.proofs.Common.{rules, arith}
use Rattle.outside_io.proofs.Consumed.{takes_more}
use Rattle.listing_reader.proofs.text.read_lines.Goals as goal

pub returns-in_err-more-clause-taken : goal.returns-in_err-more-clause-taken
returns-in_err-more-clause-taken g c = takes_more _ _ _ c.loop-lines.invariant.taken c.next_line.ensures.taken

pub returns-in-End-clause-taken : goal.returns-in-End-clause-taken
returns-in-End-clause-taken g c = takes_more _ _ _ c.loop-lines.invariant.taken (takes_more _ _ _ c.next_line.ensures.taken c.finish.ensures.taken)

pub loop-lines-preserved : goal.loop-lines-preserved
loop-lines-preserved g c = record {
  reported = search rules;
  taken = takes_more _ _ _ c.loop-lines.invariant.taken c.next_line.ensures.taken;
  place = search rules;
  few = search rules;
  later = search rules;
}

pub loop-lines-smaller : goal.loop-lines-smaller
loop-lines-smaller c = grind arith
