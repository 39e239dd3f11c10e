use Rattle.std.proofs.Common.{arith, ap₂, ◌∙◌, ℕ, ◌+◌, ◌*◌, ◌≤◌}
use Rattle.std.proofs.Math.Nat.{mul-le-mul_left}
use Rattle.source_end.specs.Raster.{active, front, sync, back}
use Rattle.source_end.proofs.RasterFaults.{frame_room_is}
use Rattle.source_end.proofs.refusal.frame_room.Goals as goal

pub returns : goal.returns
returns c =
    let sum =
    ap₂ (λ (x y : ℕ). x * c.blank_room.result + y * c.row_room.result) (ap₂ (λ (x y : ℕ). x + y) (ap₂ (λ (x y : ℕ). x + y) c.sync.ensures.value c.back.ensures.value) c.front.ensures.value) c.active.ensures.value
    ∙ ap₂ (λ (p q : ℕ). (sync c.args.mode.now.down + back c.args.mode.now.down + front c.args.mode.now.down) * p + active c.args.mode.now.down * q) c.blank_room.ensures.value c.row_room.ensures.value in
    record { total = sum; value = λ frame e. sum ∙ frame_room_is c.args.mode.now frame e }

product_few : (lines room : ℕ) → lines ≤ 196608 → room ≤ 18 → lines * room ≤ 3538944
product_few lines room few le = let most : lines * room ≤ lines * 18 = mul-le-mul_left lines le in omega (arith, most, few)

pub overflow_mul-result : goal.overflow_mul-result
overflow_mul-result c =
    let few : c.sync.result + c.back.result + c.front.result ≤ 196608 = omega (arith, c.sync.ensures.below, c.back.ensures.below, c.front.ensures.below) in
    omega (arith, product_few _ c.blank_room.result few c.blank_room.ensures.few)

pub overflow_mul-result-2 : goal.overflow_mul-result-2
overflow_mul-result-2 c =
    let few : c.active.result ≤ 196608 = omega (arith, c.active.ensures.below) in
    omega (arith, product_few _ c.row_room.result few c.row_room.ensures.few)

pub overflow_add-result : goal.overflow_add-result
overflow_add-result c =
    let few : c.sync.result + c.back.result + c.front.result ≤ 196608 = omega (arith, c.sync.ensures.below, c.back.ensures.below, c.front.ensures.below) in
    let few2 : c.active.result ≤ 196608 = omega (arith, c.active.ensures.below) in
    omega (arith, product_few _ c.blank_room.result few c.blank_room.ensures.few, product_few _ c.row_room.result few2 c.row_room.ensures.few)
