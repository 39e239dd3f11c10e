use Rattle.std.proofs.Common.{◌∙◌, ℕ, List, inl, refl, ap, sym, arith}
use Rattle.std.specs.Prelude.{slice_index}
use Rattle.std.proofs.lemmas.Iterator.Consumers.{YieldsList-from_first, count_from_yields_List}
use Rattle.listing_writer.proofs.ContentNotes.{samples_short}
use Rattle.sampling.proofs.LineKinds.{samples_read, packet_samples, no_samples, all_samples}
use Rattle.sampling.proofs.counter.sample_count.Goals as goal

pub returns-then-header-ne2 : goal.returns-then-header-ne2
returns-then-header-ne2 c column = grind (arith, no_samples, packet_samples)

pub count-requires-clause-fits : goal.count-requires-clause-fits
count-requires-clause-fits c = inl (omega (arith, samples_short c.args.packet.packet.now c.args.packet.verdicts.now c.in-Ok.notes c.in-Ok.ensures))

pub returns-in-Ok : goal.returns-in-Ok
returns-in-Ok c column =
    let p = c.args.packet.packet.now in
    let v = c.args.packet.verdicts.now in
    count_from_yields_List c.in-Ok.notes c.count.result c.count.ensures.ran (YieldsList-from_first (λ x. x) (λ s. s) c.in-Ok.notes refl)
    ∙ ap samples_read c.in-Ok.ensures
    ∙ all_samples p v (ap (λ (header : List ℕ). slice_index header 0) (sym c.header.ensures) ∙ c.if-header-ne2.false)
    ∙ sym (packet_samples p v column)

pub returns-in-Err : goal.returns-in-Err
returns-in-Err c column = grind (arith, samples_read, all_samples, packet_samples)
