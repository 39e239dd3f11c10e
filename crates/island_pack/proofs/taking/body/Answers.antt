use Rattle.std.proofs.Common.{◌≡◌, ℕ, List, [], ◌∷◌, length, take, map, get_or, ap, sym, subst, ◌∙◌, slice_index}
use Rattle.bch_block.specs.Bits.{bits_of_bytes}
use Rattle.bch_block.specs.Repair.{IsVerdict}
use Rattle.island_pack.specs.Taken.{after}
use Rattle.island_pack.proofs.Parts.{eight, eight_lists}
use Rattle.island_pack.proofs.Registers.{repaired, taken}
use Rattle.island_pack.proofs.taking.body.Goals as goal

pub returns-clause-taken : goal.returns-clause-taken
returns-clause-taken c =
    let rows = c.args.rows.now in
    let at : List ℕ → ℕ = λ row. slice_index row c.args.b in
    let new = c.repair64-verdict.new.block in
    let bytes = ap (map at) (eight_lists rows c.told-rows) in
    let bits = ap bits_of_bytes bytes in
    let first : c.body_in.result ≡ take 7 (get_or new 0 0 ∷ get_or new 1 0 ∷ get_or new 2 0 ∷ get_or new 3 0 ∷ get_or new 4 0 ∷ get_or new 5 0 ∷ get_or new 6 0 ∷ get_or new 7 0 ∷ []) =
    c.body_in.ensures.first ∙ ap (take 7) (eight new c.repair64-verdict.array_long) in
    taken (bits_of_bytes (map at rows)) c.body_in.result 7 c.repair64-verdict.result
    (subst (λ x. IsVerdict x c.repair64-verdict.result) (sym bits) c.repair64-verdict.ensures.verdict)
    (ap length first)
    (ap bits_of_bytes first
    ∙ sym (ap (λ (ys : List ℕ). take 56 (bits_of_bytes ys)) (eight new c.repair64-verdict.array_long))
    ∙ ap (take 56) (repaired _ new c.repair64-verdict.result c.repair64-verdict.ensures.after)
    ∙ ap (λ x. take 56 (after x c.repair64-verdict.result)) (sym bits))

pub returns-clause-long : goal.returns-clause-long
returns-clause-long c =
    ap length (c.body_in.ensures.first ∙ ap (take 7) (eight c.repair64-verdict.new.block c.repair64-verdict.array_long))
