use Rattle.std.proofs.Common.{refl}
use Rattle.relock_sink.specs.declared.refuter.Refuter.{Refuter}
use Rattle.relock_sink.proofs.Refuters.{looked_new}
use Rattle.relock_sink.proofs.refuter.RefuterWatch.restart.Goals as goal

pub returns-clause-looked : goal.returns-clause-looked
returns-clause-looked c = λ fed.
    let now : Refuter = record { relock = c.restart.new.self; rivals = c.new-self.result; shown = 0 } in
    looked_new now fed refl c.restart.ensures.looked (c.new-self.ensures.sought fed) c.new-self.ensures.limit
