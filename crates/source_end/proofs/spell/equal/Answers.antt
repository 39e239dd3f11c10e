use Rattle.std.proofs.Common.{◌≡◌, ◌≤◌, ◌*◌, ℕ, [], take, replicate, refl, subst, ◌∙◌, arith}
use Rattle.tmds_word.specs.Bits.{bytes_bits}
use Rattle.tmds_word.specs.Words.{all_words}
use Rattle.source_end.proofs.LineCodings.{none_packed, four_more, equal_front}
use Rattle.source_end.proofs.spell.equal.Goals as goal

pub loop-i-init : goal.loop-i-init
loop-i-init c = record { long = refl; packed = none_packed [] }

pub loop-i-preserved : goal.loop-i-preserved
loop-i-preserved c =
    let was = c.loop-i.invariant in
    record {
      long = c.pack_four.ensures.size ∙ was.long;
      packed = four_more c.loop-i.bytes c.pack_four.new.into c.loop-i.i c.args.word (omega (arith, was.long, c.requires, c.loop-i-test.true)) (omega (arith, c.value-value.ensures.value, c.value-value.ensures.below)) was.packed c.pack_four.ensures.bits;
    }

pub returns : goal.returns
returns c = λ m le.
    let bytes = c.loop-i.bytes in
    let was = c.loop-i.invariant in
    let all : c.loop-i.i ≡ c.args.groups = omega (arith, c.loop-i-test.false, c.loop-i.auto.i-end) in
    equal_front bytes c.args.word m c.args.groups le (omega (arith, was.long, c.requires)) (subst (λ k. all_words (bytes_bits (take (5 * k) bytes)) ≡ replicate (4 * k) c.args.word) all was.packed)
