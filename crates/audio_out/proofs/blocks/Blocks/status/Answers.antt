use Rattle.std.proofs.Common.{◌∙◌, sym}
use Rattle.audio_out.proofs.Runs.{status_is, not_full}
use Rattle.audio_out.proofs.blocks.Blocks.status.Goals as goal

pub returns-then-is_full : goal.returns-then-is_full
returns-then-is_full c = λ past was. sym c.whole.ensures ∙ status_is past c.args.self.now was

pub returns-else-is_full : goal.returns-else-is_full
returns-else-is_full c = λ past was. sym (not_full c.args.self.now (sym c.is_full.ensures ∙ c.if-is_full.false)) ∙ status_is past c.args.self.now was
