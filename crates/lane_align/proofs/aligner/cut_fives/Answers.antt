use Rattle.std.proofs.Common.{◌≡◌, ◌+◌, ◌-◌, ◌*◌, ◌/◌, ◌%◌, ◌^◌, ◌∙◌, ◌++◌, ap, sym, arith, take, append-nil}
use Rattle.tmds_word.specs.Bits.{bytes_bits, number}
use Rattle.lane_align.specs.Words.{words_in}
use Rattle.lane_align.proofs.Cutting.{no_words}
use Rattle.lane_align.proofs.Fives.{group_written}
use Rattle.lane_align.proofs.TwoGroups.{groups_written}
use Rattle.lane_align.proofs.aligner.cut_fives.Goals as goal

pub loop-i-preserved : goal.loop-i-preserved
loop-i-preserved c =
    let was = c.loop-i.invariant in
    let same = was.same in
    record {
      written = groups_written c.loop-i.row c.write_eight.new.row _ (number (bytes_bits c.args.bytes.now)) c.args.from c.loop-i.i c.args.groups c.args.at c.eight_bytes-low.result c.eight_bytes-high.result c.requires.from
          (omega (arith, c.loop-i-test.true)) c.eight_bytes-low.ensures c.eight_bytes-high.ensures (omega (arith, c.loop-i-test.true, c.requires.room, same)) c.write_eight.ensures.row was.written;
      same = c.write_eight.ensures.length ∙ was.same;
    }

pub returns-then-groups-eq1-clause-row : goal.returns-then-groups-eq1-clause-row
returns-then-groups-eq1-clause-row c =
    let big = number (bytes_bits c.args.bytes.now) in
    let at = c.args.at in
    let row = c.loop-i.row in
    let after = c.write_four.new.row in
    let r = c.args.from in
    let g = c.eight_bytes.result in
    let i = 2 * c.loop-i.i in
    let last : c.args.groups - 1 ≡ i = omega (arith, c.loop-i-test.false, c.if-groups-eq1.true, c.loop-i.auto.i-end) in
    let all : c.args.groups ≡ i + 1 = omega (arith, last, c.if-groups-eq1.true) in
    let none : 4 * (c.args.groups - (i + 1)) ≡ 0 = omega (arith, all) in
    let is = c.eight_bytes.ensures ∙ ap (λ m. (big / 2 ^ (8 * (5 * m))) % 18446744073709551616) last in
    let written : take (at + 4 * i + 4) after ≡ take (at + 4 * i) row ++ words_in 4 (g / 2 ^ r) =
    ap (λ m. take (at + 4 * m + 4) after) (sym last) ∙ c.write_four.ensures.row ∙ ap (λ m. take (at + 4 * m) row ++ words_in 4 (g / 2 ^ r)) last in
    ap (λ n. take (at + 4 * n) after) all ∙ sym (append-nil (take (at + 4 * (i + 1)) after))
    ∙ ap (λ ws. take (at + 4 * (i + 1)) after ++ ws) (sym (no_words (big / 2 ^ (r + 40 * (i + 1))) _ none))
    ∙ group_written row after _ big r i c.args.groups at g c.requires.from (omega (arith, all)) is written c.loop-i.invariant.written

pub returns-else-groups-eq1-clause-row : goal.returns-else-groups-eq1-clause-row
returns-else-groups-eq1-clause-row c = grind (arith, append-nil, no_words)
