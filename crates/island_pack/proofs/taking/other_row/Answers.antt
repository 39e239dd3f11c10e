use Rattle.std.proofs.Common.{◌≡◌, ℕ, ◌+◌, [], ◌∙◌, ap, arith, get_or, slice_index}
use Rattle.std.specs.Int.{bit_at}
use Rattle.island_pack.specs.Registers.{code_of, other_code}
use Rattle.island_pack.proofs.Rows.{each_eight}
use Rattle.island_pack.proofs.taking.other_row.Goals as goal

pub returns : goal.returns
returns c = λ b k lb lk.
    let start : c.args.at ≡ c.args.at + 0 = omega arith in
    let code : ℕ → ℕ = λ w. bit_at (code_of w) b in
    each_eight (λ j. bit_at (slice_index c.gathered.result b) j ≡ bit_at (other_code c.args.columns.now c.args.at j) b)
    (c.gathered.ensures b 0 lb (omega arith) ∙ ap code (c.green.ensures ∙ ap (λ n. slice_index (get_or c.args.columns.now n []) 1) start))
    (c.gathered.ensures b 1 lb (omega arith) ∙ ap code (c.red.ensures ∙ ap (λ n. slice_index (get_or c.args.columns.now n []) 2) start))
    (c.gathered.ensures b 2 lb (omega arith) ∙ ap code c.green-2.ensures)
    (c.gathered.ensures b 3 lb (omega arith) ∙ ap code c.red-2.ensures)
    (c.gathered.ensures b 4 lb (omega arith) ∙ ap code c.green-3.ensures)
    (c.gathered.ensures b 5 lb (omega arith) ∙ ap code c.red-3.ensures)
    (c.gathered.ensures b 6 lb (omega arith) ∙ ap code c.green-4.ensures)
    (c.gathered.ensures b 7 lb (omega arith) ∙ ap code c.red-4.ensures)
    k lk
