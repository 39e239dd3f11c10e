use Rattle.std.proofs.Common.{List}
use Rattle.std.specs.Prelude.{Result}
use Rattle.island_pack.specs.Periods.{Period}
use Rattle.source_end.specs.Content.{Frame}
use Rattle.source_end.specs.declared.mode.Mode.{Mode}
use Rattle.source_end.specs.declared.refusal.RasterFault.{RasterFault}
use Rattle.listing_reader.proofs.OneAnswer.{one_answer}
use Rattle.listing_reader.proofs.laws.one_answer.Goals as goal

pub returns-clause-link : goal.returns-clause-link
returns-clause-link c = one_answer (List Period)

pub returns-clause-content : goal.returns-clause-content
returns-clause-content c = one_answer (Result (Mode × List Frame) RasterFault)
