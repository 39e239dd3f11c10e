use Rattle.std.proofs.Common.{◌≡◌, ◌∙◌, ◌++◌, ap, arith, subst, take, length}
use Rattle.std.proofs.lemmas.List.{take_all}
use Rattle.tmds_word.specs.Bits.{bytes_bits}
use Rattle.lane_align.specs.Words.{lane_words}
use Rattle.lane_align.specs.Aligners.{AlignerRepresents}
use Rattle.lane_align.proofs.Fives.{taken_byte}
use Rattle.lane_align.proofs.aligner.LaneAligner.cut_bytes.Goals as goal

pub loop-i-init : goal.loop-i-init
loop-i-init c = grind arith

pub loop-i-preserved : goal.loop-i-preserved
loop-i-preserved c =
    let e = c.byte-next.ensures in
    record {
      taken = taken_byte c.args.self.now c.loop-i.self c.byte-next.new.self c.args.bytes.now _ c.loop-i.row c.byte-next.new.row c.loop-i.i c.args.at c.loop-i.next c.byte-next.result (length c.args.row.now)
          c.loop-i.invariant.taken (omega arith) e.fed e.length e.lock e.room e.small e.stands e.words;
    }

-- all bytes were taken
all_taken : (c : goal.After-loop-i) → take c.loop-i.i c.args.bytes.now ≡ c.args.bytes.now
all_taken c = take_all c.loop-i.i c.args.bytes.now c.loop-i-test.false

pub returns-clause-stands : goal.returns-clause-stands
returns-clause-stands c xs stands = subst (λ bs. AlignerRepresents c.loop-i.self (xs ++ bytes_bits bs)) (all_taken c) (c.loop-i.invariant.taken.stands xs stands)

pub returns-clause-words : goal.returns-clause-words
returns-clause-words c xs ws stands all = c.loop-i.invariant.taken.words xs ws stands all ∙ ap (λ bs. lane_words c.loop-i.self.lock (xs ++ bytes_bits bs)) (all_taken c)
