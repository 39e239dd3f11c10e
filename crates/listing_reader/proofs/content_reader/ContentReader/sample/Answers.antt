use Rattle.std.proofs.Common.{◌≡◌, [], ◌∷◌, ◌++◌, length, ap, sym, subst, arith, length-append, All}
use Rattle.std.proofs.lemmas.Grind.{common_steps}
use Rattle.std.proofs.lemmas.List.Elements.{All-append}
use Rattle.audio_packets.specs.Samples.{IsSample}
use Rattle.audio_packets.specs.declared.sample.Sample.{Sample}
use Rattle.listing_reader.proofs.content_reader.ContentReader.sample.Goals as goal

one : (s : Sample) → IsSample s → All IsSample (s ∷ [])
one s fit = grind arith

pub invariant_of-reader : goal.invariant_of-reader
invariant_of-reader c =
    let r = c.reader.inside in
    let inv = c.reader.invariant in
    let s = c.in-Some.sample in
    let is : c.push_sample.new.samples.items ≡ r.samples.items ++ s ∷ [] = c.in_ok-push_sample.ensures in
    let fit : IsSample s = rw c.in-Some.is at c.requires.fits in
    let size = length-append r.samples.items (s ∷ []) in
    record {
      kept = inv.kept;
      begun = inv.begun;
      few = omega (arith, inv.few, ap length is, size, c.if-len-eq-GROUP.false, c.len.ensures);
      fits = subst (All IsSample) (sym is) (All-append IsSample r.samples.items (s ∷ []) inv.fits (one s fit));
    }

pub returns-clause-ok : goal.returns-clause-ok
returns-clause-ok c = grind (arith, common_steps)
