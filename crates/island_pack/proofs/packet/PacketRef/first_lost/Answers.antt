use Rattle.std.proofs.Common.{◌≡◌, Option, rules, refl, sym, ◌∙◌, arith}
use Rattle.std.specs.Option.{option_map}
use borrow.Author.Tests.{tests}
use Rattle.std.proofs.lemmas.Iterator.{YieldsList-from_range}
use Rattle.std.proofs.lemmas.Iterator.Search.{find_from_yields_List}
use Rattle.bch_block.specs.Repair.{is_lost}
use Rattle.island_pack.specs.Taken.{verdict_on, first_lost}
use Rattle.island_pack.proofs.packet.PacketRef.first_lost.Goals as goal

option_map-same : {T : Type 0} (o : Option T) → option_map (λ x. x) o ≡ o
option_map-same o = grind arith

pub returns : goal.returns
unfolding first_lost
returns c =
    sym (option_map-same c.find.result)
    ∙ find_from_yields_List (λ block. is_lost (verdict_on c.args.self.now.verdicts.now block)) _ _ c.find.result c.find.ensures.ran (YieldsList-from_range 0 5 5 refl refl) (λ x b q k. search (rules, tests))
