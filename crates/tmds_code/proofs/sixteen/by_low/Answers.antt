use Rattle.std.proofs.Common.{◌≡◌, ℕ, ◌<◌, List, length, get_or, replicate, arith, bit_and}
use Rattle.std.proofs.lemmas.Nat.{and_mask}
use Rattle.std.specs.Simd.Lanes.{zip2}
use Rattle.tmds_code.specs.Vectors.{HasLanes, nibble_counts}
use Rattle.tmds_code.proofs.Vectors.{own, splat, zipped, nibbles_ok, looked_up}
use Rattle.tmds_code.proofs.sixteen.by_low.Goals as goal

low : (v : List ℕ) → length v ≡ 16 → HasLanes (zip2 bit_and v (replicate 16 15)) (λ k. bit_and (get_or v k 0) 15)
low v long = zipped bit_and (own v long) (splat 15)

small : (v : List ℕ) (k : ℕ) → bit_and (get_or v k 0) 15 < 16
small v k = let e = and_mask (get_or v k 0) 4 in omega arith

pub swizzle : goal.swizzle
swizzle c = nibbles_ok _ _ (low c.args.v c.fits-v.0) (λ k l. small c.args.v k)

pub returns : goal.returns
returns c = looked_up _ _ (low c.args.v c.fits-v.0) (λ k l. small c.args.v k) nibble_counts
