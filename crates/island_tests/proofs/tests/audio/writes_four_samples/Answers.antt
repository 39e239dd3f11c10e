use Rattle.std.proofs.Common.{rules, arith, [], ◌∷◌, All}
use Rattle.std.proofs.lemmas.List.Elements.{All-cons}
use Rattle.audio_packets.specs.Samples.{IsSample}
use Rattle.audio_packets.specs.declared.sample.Sample.{Sample}
use Rattle.island_tests.proofs.tests.audio.writes_four_samples.Goals as goal

all_four : (p q r s : Sample) → IsSample p → IsSample q → IsSample r → IsSample s → All IsSample (p ∷ q ∷ r ∷ s ∷ [])
all_four p q r s a b c d =
    All-cons IsSample p (q ∷ r ∷ s ∷ []) a
    (All-cons IsSample q (r ∷ s ∷ []) b
    (All-cons IsSample r (s ∷ []) c
    (All-cons IsSample s [] d (λ k e lt. absurd (omega arith)))))

pub write_samples-requires-clause-fits : goal.write_samples-requires-clause-fits
write_samples-requires-clause-fits c =
    all_four c.sample_of-first.result c.sample_of-second.result c.sample_of-third.result c.sample_of-fourth.result
    (c.fits.ensures.0 (search rules))
    (c.fits-else-not-fits.ensures.0 (search rules))
    (c.fits-else-not-fits-2.ensures.0 (search rules))
    (c.fits-else-not-fits-3.ensures.0 (search rules))
