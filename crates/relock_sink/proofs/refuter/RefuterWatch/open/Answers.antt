use Rattle.std.proofs.Common.{refl}
use Rattle.relock_sink.specs.declared.refuter.Refuter.{Refuter}
use Rattle.relock_sink.proofs.Refuters.{looked_new}
use Rattle.relock_sink.proofs.refuter.RefuterWatch.open.Goals as goal

pub returns-clause-looked : goal.returns-clause-looked
returns-clause-looked c = λ fed.
    let now : Refuter = record { relock = c.open.result; rivals = c.new.result; shown = 0 } in
    looked_new now fed refl c.open.ensures.looked (c.new.ensures.sought fed) c.new.ensures.limit
