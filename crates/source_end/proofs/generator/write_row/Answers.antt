use Rattle.std.proofs.Common.{ℕ, List, [], ◌∷◌, ◌++◌, sym, ap₂, ◌∙◌, arith}
use Rattle.source_end.proofs.Generated.{no_byte, byte_more, all_bytes_there}
use Rattle.source_end.proofs.generator.write_row.Goals as goal

pub loop-k-init : goal.loop-k-init
loop-k-init c = c.clear.ensures.items ∙ sym (no_byte c.args.f c.args.y)

pub loop-k-preserved : goal.loop-k-preserved
loop-k-preserved c = c.in_ok-push.ensures.items ∙ ap₂ (λ (xs : List ℕ) (b : ℕ). xs ++ b ∷ []) c.loop-k.invariant c.row_byte.ensures ∙ sym (byte_more c.args.f c.args.y c.loop-k.k)

pub returns : goal.returns
returns c = all_bytes_there c.args.f c.args.y c.loop-k.k c.loop-k.out.items (omega arith) c.loop-k.invariant
