use Rattle.std.proofs.Common.{ℕ, List, ne_eqb, slice_index, ◌∙◌, ap}
use Rattle.biphase_listing.proofs.Streaming.{lists_no_sound, none_counted, other_faults, other_samples}
use Rattle.biphase_listing.proofs.lister.BiphaseLister.packet.Goals as goal

pub returns-else-header-eq2-clause-ok : goal.returns-else-header-eq2-clause-ok
returns-else-header-eq2-clause-ok g c = λ reported recalls.
    let p = c.args.packet.packet.now in
    let v = c.args.packet.verdicts.now in
    let other = ne_eqb _ 2 (λ e. c.if-header-eq2.false (ap (λ (header : List ℕ). slice_index header 0) c.header.ensures ∙ e)) in
    lists_no_sound c.args.self.now.pair reported _ _ _ _ _ (other_samples p v c.args.column c.args.self.now.pair other)
    (none_counted c.args.self.now.faults _ (other_faults p v c.args.column other)) recalls
