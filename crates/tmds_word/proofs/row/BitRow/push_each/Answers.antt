use Rattle.std.proofs.Common.{arith, ◌∙◌}
use Rattle.tmds_word.proofs.Fives.{no_more_words, word_after, length-more}
use Rattle.tmds_word.proofs.row.BitRow.push_each.Goals as goal

pub loop-word-init : goal.loop-word-init
loop-word-init c = no_more_words c.args.self.now

pub push_word-requires : goal.push_word-requires
push_word-requires c = omega (arith, c.requires, c.loop-word-test.true, length-more c.args.self.now c.loop-word.self c.args.words.now c.loop-word.word-index c.loop-word.invariant (omega (arith, c.loop-word-test.true)))

pub loop-word-preserved : goal.loop-word-preserved
loop-word-preserved c = c.in_ok-push_word.ensures.ok ∙ word_after c.args.self.now c.loop-word.self c.args.words.now c.loop-word.word-index c.word-item.result _ c.loop-word.invariant c.loop-word-test.true c.word-item.is
