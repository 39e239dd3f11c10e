use Rattle.std.proofs.Common.{arith, ℕ, ◌<◌, ◌+◌, ◌*◌, ◌/◌, get_or, length, sym, subst, ◌∙◌, [], ◌∷◌, ◌++◌}
use Rattle.tmds_code.specs.Pasts.{IsCoderAfter}
use Rattle.std.proofs.lemmas.List.{length-set}
use Rattle.source_end.specs.LineCoding.{byte_of}
use Rattle.source_end.proofs.LineCodings.{goes_more, goes_through}
use Rattle.column_rows.proofs.Filled.{part_byte}
use Rattle.column_rows.proofs.rows.code_row.Goals as goal

pub loop-i-preserved : goal.loop-i-preserved
loop-i-preserved c =
    let was = c.loop-i.invariant in
    let bytes = c.args.bytes.now in
    let i = c.loop-i.i in
    let lt : i < length bytes / 3 = omega (arith, c.requires.pixels, c.loop-i-test.true) in
    let room : i < length c.loop-i.row = omega (arith, c.loop-i-test.true, was.size) in
    record {
      size = length-set c.loop-i.row i c.value.result ∙ was.size;
      lane = goes_more c.new-coder.result c.loop-i.coder c.next.new.self bytes c.loop-i.row i _ c.value.result (byte_of c.args.part) lt room was.lane (λ past sent h. subst (λ (w : ℕ). IsCoderAfter c.next.new.self (past ++ get_or bytes (3 * i + c.args.part) 0 ∷ []) (sent ++ w ∷ [])) (sym c.value.ensures.value) (c.next.ensures.stands past sent h)) (part_byte bytes i c.args.part c.requires.part);
    }

pub returns-clause-coded : goal.returns-clause-coded
returns-clause-coded c =
    let was = c.loop-i.invariant in
    (goes_through c.new-coder.result c.loop-i.coder c.args.bytes.now c.loop-i.row c.loop-i.i (byte_of c.args.part) (omega (arith, c.requires.pixels, c.loop-i-test.false)) (omega (arith, c.loop-i-test.false, was.size)) was.lane [] [] c.new-coder.ensures).lane
