use Rattle.std.proofs.Common.{ap, refl, ◌∙◌}
use Rattle.source_end.proofs.RasterFrames.{parted_taken}
use Rattle.source_end.proofs.gathering.Gathering.take_items.Goals as goal

pub returns-clause-parted : goal.returns-clause-parted
returns-clause-parted c parts h =
    parted_taken c.args.self.now (record { items = c.replace.new.dest; period = c.args.self.now.period; alloc = c.args.self.now.alloc }) c.replace.result.items parts h
    (ap (λ v. v.items) c.replace.ensures.value) (ap (λ v. v.items) c.replace.ensures.after ∙ c.new-none.ensures.items) refl
