use Rattle.std.proofs.Common.{◌≡◌, ℕ, ◌==◌, true, [], ◌∷◌, ◌++◌, length, ap, arith, rules, length-append}
use Rattle.std.proofs.lemmas.Grind.{common_steps}
use Rattle.listing_reader.proofs.content_reader.ContentReader.fourth.Goals as goal

pub returns-clause-ok : goal.returns-clause-ok
returns-clause-ok c =
    let samples = c.args.self.samples in
    let size : length (samples ++ c.args.sample ∷ []) ≡ 4 = omega (arith, length-append samples (c.args.sample ∷ []), c.requires.three) in
    let four : (length (samples ++ c.args.sample ∷ []) == 4) ≡ true = ap (λ (n : ℕ). n == 4) size in
    rw four (search rules)

pub push_samples-requires-clause-fits : goal.push_samples-requires-clause-fits
push_samples-requires-clause-fits c = grind (arith, common_steps)

pub push_samples-requires-clause-most : goal.push_samples-requires-clause-most
push_samples-requires-clause-most c = grind (arith, common_steps)
