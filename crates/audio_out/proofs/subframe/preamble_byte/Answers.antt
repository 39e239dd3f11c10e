use Rattle.std.proofs.Common.{ap, sym, ◌∙◌}
use Rattle.audio_out.specs.Subframes.{preamble}
use Rattle.audio_out.specs.declared.subframe.Mark.TheVariants.{B, M, W}
use Rattle.audio_out.proofs.Marked.{mark_bits}
use Rattle.audio_out.proofs.subframe.preamble_byte.Goals as goal

pub returns-in-B : goal.returns-in-B
returns-in-B c = mark_bits B ∙ ap preamble (sym c.in-B.is)

pub returns-in-M : goal.returns-in-M
returns-in-M c = mark_bits M ∙ ap preamble (sym c.in-M.is)

pub returns-in-W : goal.returns-in-W
returns-in-W c = mark_bits W ∙ ap preamble (sym c.in-W.is)
