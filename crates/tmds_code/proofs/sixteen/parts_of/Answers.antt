use Rattle.std.proofs.Common.{ℕ, List, take, drop, replicate, arith, bit_and, w8, Fits}
use Rattle.std.proofs.lemmas.Nat.{and_mask}
use Rattle.std.proofs.lemmas.Simd.{Each1-zip2, Each2-splat, Each1-all}
use Rattle.std.specs.Simd.Lanes.{zip2, Each1}
use Rattle.tmds_code.proofs.Parts.{parts_are}
use Rattle.tmds_code.proofs.sixteen.parts_of.Goals as goal

fits : (ws : List ℕ) → Each1 (Fits w8) (zip2 bit_and ws (replicate 8 255))
fits ws = Each1-zip2 bit_and (Fits w8) ws (replicate 8 255) (Each2-splat (λ a b. Fits w8 (bit_and a b)) ws 8 255 (Each1-all (λ a. Fits w8 (bit_and a 255)) (λ a. record { fits = let e = and_mask a 8 in omega arith }) ws))

pub overflow_cast-low : goal.overflow_cast-low
overflow_cast-low c = fits (take 8 c.args.words.now)

pub overflow_cast-low-2 : goal.overflow_cast-low-2
overflow_cast-low-2 c = fits (take 8 (drop 8 c.args.words.now))

pub returns : goal.returns
returns c = parts_are c.args.words.now c.requires.long (λ k l. let long = c.requires.long in c.requires.small k 0 (omega (arith, long)))
