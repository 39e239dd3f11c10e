use Rattle.audio_out.proofs.blocks.Blocks.push.Goals as goal

pub returns-clause-answers : goal.returns-clause-answers
returns-clause-answers c = λ past was. c.status.ensures _ (c.take.ensures.stands past was)
