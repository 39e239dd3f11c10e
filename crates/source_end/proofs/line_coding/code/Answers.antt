use Rattle.std.proofs.Common.{arith, ◌<◌, ◌≤◌, ◌+◌, ◌*◌, List, ℕ, [], ◌∙◌, sym, subst, refl, length, map, take, get_or}
use Rattle.tmds_word.specs.Bits.{bytes_bits}
use Rattle.tmds_word.specs.Words.{all_words}
use Rattle.island_pack.specs.Periods.{pixels_of}
use Rattle.source_end.specs.LineCoding.{GoesOn, byte_of}
use Rattle.source_end.proofs.LineCodings.{goes_nowhere, goes_four, packed_four, none_packed, character_below, all_packed}
use Rattle.source_end.proofs.line_coding.code.Goals as goal

pub loop-i-init : goal.loop-i-init
loop-i-init c = record {
  size = refl;
  coded = subst (λ (ws : List ℕ). GoesOn c.args.coder c.args.coder [] ws) (sym (none_packed c.args.into.now)) (goes_nowhere c.args.coder);
}

pub loop-i-preserved : goal.loop-i-preserved
loop-i-preserved c =
    let was = c.loop-i.invariant in
    let bytes = c.args.bytes.now in
    let part = c.args.part in
    let i = c.loop-i.i in
    let at = 12 * i + part in
    let into = c.loop-i.into in
    let fits : (j : ℕ) → get_or bytes j 0 < 256 = λ j. (c.type_inv.bytes j).fits in
    let a = c.next.result in
    let b = c.next-in-loop-i.result in
    let d = c.next-in-loop-i-2.result in
    let e = c.next-in-loop-i-3.result in
    let room : 5 * i + 5 ≤ length into = omega (arith, was.size, c.requires.room, c.loop-i-test.true) in
    let same =
    packed_four into c.pack_four.new.into i a b d e room (character_below _ _ a c.next.ensures.coded (fits at)) (character_below _ _ b c.next-in-loop-i.ensures.coded (fits (at + 3)))
    (character_below _ _ d c.next-in-loop-i-2.ensures.coded (fits (at + 6))) (character_below _ _ e c.next-in-loop-i-3.ensures.coded (fits (at + 9))) c.pack_four.ensures.bits in
    record {
      size = c.pack_four.ensures.size ∙ was.size;
      coded =
          subst (λ (ws : List ℕ). GoesOn c.args.coder c.next-in-loop-i-3.new.self (map (byte_of part) (take (4 * (i + 1)) (pixels_of bytes))) ws) (sym same)
          (goes_four c.args.coder c.loop-i.coder c.next.new.self c.next-in-loop-i.new.self c.next-in-loop-i-2.new.self c.next-in-loop-i-3.new.self bytes (all_words (bytes_bits (take (5 * i) into))) i part at a b d e
          c.requires.part c.loop-i-test.true refl was.coded c.next.ensures.stands c.next-in-loop-i.ensures.stands c.next-in-loop-i-2.ensures.stands c.next-in-loop-i-3.ensures.stands);
    }

pub returns-clause-coded : goal.returns-clause-coded
returns-clause-coded c =
    let was = c.loop-i.invariant in
    all_packed c.args.coder c.loop-i.coder c.args.bytes.now c.loop-i.into c.loop-i.i (byte_of c.args.part) (omega (arith, c.requires.whole, c.loop-i-test.false)) (omega (arith, was.size, c.requires.room, c.loop-i-test.false)) was.coded
