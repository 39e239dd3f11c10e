use Rattle.std.proofs.Common.{◌≡◌, ℕ, zero, suc, ◌<◌, ◌%◌, true, ◌&&◌, List, [], ◌∷◌, get_or, length, refl, ap₂, arith, nat_lt, lt-ltb, eq-eqb}
use Rattle.std.specs.List.{list_all}
use Rattle.source_end.proofs.item.Pixels.from_bytes.Goals as goal

all_bytes : (xs : List ℕ) → ((i : ℕ) → i < length xs → get_or xs i 0 < 256) → list_all (λ b. nat_lt b 256) xs ≡ true
all_bytes [] each = refl
all_bytes (x ∷ xs) each = ap₂ (λ a b. a && b) (lt-ltb x 256 (each zero (omega arith))) (all_bytes xs (λ i lt. each (suc i) (omega arith)))

pub invariant_of-result : goal.invariant_of-result
invariant_of-result c =
    ap₂ (λ a b. a && b) (all_bytes c.args.bytes.items (λ i lt. c.items_fit i 0 lt)) (eq-eqb (length c.args.bytes.items % 3) 0 c.requires)
