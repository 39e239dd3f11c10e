use Rattle.std.proofs.Common.{◌≡◌, ℕ, ◌+◌, [], ◌∙◌, ap, arith, get_or, slice_index}
use Rattle.std.specs.Int.{bit_at}
use Rattle.island_pack.specs.Registers.{code_of, blue_code}
use Rattle.island_pack.proofs.Rows.{each_eight}
use Rattle.island_pack.proofs.taking.blue_row.Goals as goal

pub returns-clause-codes : goal.returns-clause-codes
returns-clause-codes c = λ b k lb lk.
    let start : c.args.at ≡ c.args.at + 0 = omega arith in
    let code : ℕ → ℕ = λ w. bit_at (code_of w) b in
    each_eight (λ j. bit_at (slice_index c.gathered.result b) j ≡ bit_at (blue_code c.args.columns.now (c.args.at + j)) b)
    (c.gathered.ensures b 0 lb (omega arith) ∙ ap code (c.blue.ensures.value ∙ ap (λ n. slice_index (get_or c.args.columns.now n []) 0) start))
    (c.gathered.ensures b 1 lb (omega arith) ∙ ap code c.blue-2.ensures.value)
    (c.gathered.ensures b 2 lb (omega arith) ∙ ap code c.blue-3.ensures.value)
    (c.gathered.ensures b 3 lb (omega arith) ∙ ap code c.blue-4.ensures.value)
    (c.gathered.ensures b 4 lb (omega arith) ∙ ap code c.blue-5.ensures.value)
    (c.gathered.ensures b 5 lb (omega arith) ∙ ap code c.blue-6.ensures.value)
    (c.gathered.ensures b 6 lb (omega arith) ∙ ap code c.blue-7.ensures.value)
    (c.gathered.ensures b 7 lb (omega arith) ∙ ap code c.blue-8.ensures.value)
    k lk
