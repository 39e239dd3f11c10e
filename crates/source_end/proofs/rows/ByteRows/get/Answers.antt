use Rattle.std.proofs.Common.{ℕ, List, length, get_or, ap, ap₂, sym, subst, ◌∙◌, arith}
use Rattle.source_end.specs.Rows.{rows_between, AreEnds}
use Rattle.source_end.proofs.RowEnds.{length-rows}
use Rattle.source_end.proofs.rows.ByteRows.get.Goals as goal

pub row_at-requires-clause-row : goal.row_at-requires-clause-row
row_at-requires-clause-row c =
    let n = length-rows 0 c.self.inside.bytes.items c.self.inside.ends.items in
    omega (arith, n, ap length c.self.view_is, ap length c.as_slice-2.ensures.value, c.requires)

pub row_at-requires-clause-ends : goal.row_at-requires-clause-ends
row_at-requires-clause-ends c =
    subst (AreEnds 0 c.as_slice-2.result.now) (ap length (sym c.as_slice.ensures.value)) (subst (λ (es : List ℕ). AreEnds 0 es (length c.self.inside.bytes.items)) (sym c.as_slice-2.ensures.value) c.self.invariant)

pub returns : goal.returns
returns c other =
    c.row_at.ensures other
    ∙ ap (λ (rs : List (List ℕ)). get_or rs c.args.i other) (ap₂ (λ (bs es : List ℕ). rows_between 0 bs es) c.as_slice.ensures.value c.as_slice-2.ensures.value ∙ c.self.view_is)
