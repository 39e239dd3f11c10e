use Rattle.std.proofs.Common.{arith, ◌≡◌, ◌<◌, ◌≤◌, ◌+◌, ◌*◌, ◌^◌, ◌%◌, ℕ, ◌∙◌, ap, ap₂, bit_or}
use Rattle.std.proofs.lemmas.Nat.{or_shifted}
use Rattle.std.proofs.Math.Nat.{mod-eq_of_lt}
use Rattle.std.proofs.Math.Pow.{pow_mono}
use Rattle.tmds_word.proofs.Rows.{joined_below}
use Rattle.tmds_word.proofs.row.joined.Goals as goal

-- the shift loses no bit, and sets none of the tail's
or_is_sum : (t h w k : ℕ) → t < 2 ^ h → w < 2 ^ k → h < 8 → k ≤ 16 → bit_or (w * 2 ^ h % 4294967296) t ≡ t + 2 ^ h * w
or_is_sum t h w k low high few more =
    let below : t + 2 ^ h * w < 2 ^ (h + k) = joined_below h k t w low high in
    let most : 2 ^ (h + k) ≤ 2 ^ 32 = pow_mono {i = h + k} {j = 32} (omega arith) in
    let fits : w * 2 ^ h < 4294967296 = omega arith in
    ap (λ n. bit_or n t) (mod-eq_of_lt fits) ∙ or_shifted w h t low ∙ omega arith

sum_is : (t h w k a b : ℕ) → t < 2 ^ h → w < 2 ^ k → h < 8 → k ≤ 16 → a ≡ w → b ≡ t → bit_or (a * 2 ^ h % 4294967296) b ≡ t + 2 ^ h * w
sum_is t h w k a b low high few more e f = ap₂ (λ x y. bit_or (x * 2 ^ h % 4294967296) y) e f ∙ or_is_sum t h w k low high few more

pub returns : goal.returns
returns c = grind (arith, sum_is, joined_below)
