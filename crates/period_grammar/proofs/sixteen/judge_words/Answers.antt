use Rattle.period_grammar.proofs.sixteen.judge_words.Goals as goal

pub returns-clause-bytes : goal.returns-clause-bytes
returns-clause-bytes c = c.judge_sixteen-wrong.ensures.bytes c.args.words.now c.parts_of.ensures

pub returns-clause-wrong : goal.returns-clause-wrong
returns-clause-wrong c = c.judge_sixteen-wrong.ensures.wrong c.args.words.now c.parts_of.ensures

pub returns-clause-ones : goal.returns-clause-ones
returns-clause-ones c = c.judge_sixteen-wrong.ensures.ones c.args.words.now c.parts_of.ensures

pub returns-clause-controls : goal.returns-clause-controls
returns-clause-controls c = c.controls_of.ensures c.args.words.now c.parts_of.ensures

pub returns-clause-words : goal.returns-clause-words
returns-clause-words c = c.parts_of.ensures.small
