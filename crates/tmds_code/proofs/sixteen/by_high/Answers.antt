use Rattle.std.proofs.Common.{◌≡◌, ℕ, ◌/◌, ◌^◌, ◌<◌, List, length, get_or, replicate, arith, w8, Fits}
use Rattle.std.proofs.lemmas.Simd.{Each1-get_or}
use Rattle.std.specs.Simd.Lanes.{zip2, Each1}
use Rattle.tmds_code.specs.Vectors.{HasLanes, nibble_counts}
use Rattle.tmds_code.proofs.Vectors.{own, splat, zipped, nibbles_ok, looked_up}
use Rattle.tmds_code.proofs.sixteen.by_high.Goals as goal

high : (v : List ℕ) → length v ≡ 16 → HasLanes (zip2 (λ a b. a / 2 ^ b) v (replicate 16 4)) (λ k. get_or v k 0 / 2 ^ 4)
high v long = zipped (λ a b. a / 2 ^ b) (own v long) (splat 4)

small : (v : List ℕ) → length v ≡ 16 → Each1 (Fits w8) v → (k : ℕ) → k < 16 → get_or v k 0 / 2 ^ 4 < 16
small v long fits k l = omega (arith, (Each1-get_or (Fits w8) v k 0 (omega arith) fits).fits)

pub swizzle : goal.swizzle
swizzle c = nibbles_ok _ _ (high c.args.v c.fits-v.0) (small c.args.v c.fits-v.0 c.fits-v.1)

pub returns : goal.returns
returns c = looked_up _ _ (high c.args.v c.fits-v.0) (small c.args.v c.fits-v.0 c.fits-v.1) nibble_counts
