use Rattle.std.proofs.Common.{rules, ◌-◌, refl, sym, ap, ◌∙◌}
use borrow.Author.Tests.{tests}
use Rattle.std.specs.List.{find}
use Rattle.std.proofs.lemmas.Iterator.{YieldsList-from_range}
use Rattle.std.proofs.lemmas.Iterator.Search.{find_from_yields_List}
use Rattle.bch_block.specs.Bits.{bit}
use Rattle.audio_packets.proofs.Searches.{option_map-same, drop-places}
use Rattle.audio_packets.proofs.reading.present_from.Goals as goal

pub returns-clause-value : goal.returns-clause-value
returns-clause-value c =
    sym (option_map-same c.find.result)
    ∙ find_from_yields_List (bit c.args.mask) _ _ c.find.result c.find.ensures.ran (YieldsList-from_range c.args.place 4 (4 - c.args.place) refl refl) (λ x b q k. search (rules, tests))
    ∙ ap (find (bit c.args.mask)) (sym (drop-places c.args.place c.requires))
