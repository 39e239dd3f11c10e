use Rattle.std.proofs.Common.{◌≡◌, ◌∙◌, ℕ, ◌+◌, Bool, cond, eq-eqb, sym, ap, arith}
use Rattle.std.proofs.lemmas.Bool.{ne_eqb}
use Rattle.sampling.proofs.Unlike.{none_unlike, byte_unlike, all_unlike}
use Rattle.sampling.proofs.pictures.unlike_bytes.Goals as goal
use Rattle.sampling.proofs.pictures.unlike_bytes.Goals.{then-byte-row_byte, else-byte-row_byte}

counts_it : (n m : ℕ) (b c : Bool) → b ≡ c → m ≡ n + cond c 0 1 → m ≡ n + cond b 0 1
counts_it n m b c is now = now ∙ ap (λ (x : Bool). n + cond x 0 1) (sym is)

pub loop-k-init : goal.loop-k-init
loop-k-init c = record { counted = none_unlike c.args.frame c.args.row; few = omega arith }

pub loop-k-preserved : goal.loop-k-preserved
loop-k-preserved c = grind (arith, byte_unlike, then-byte-row_byte, counts_it, ne_eqb, else-byte-row_byte, eq-eqb)

pub returns : goal.returns
returns c = all_unlike c.args.bytes.now c.args.frame c.args.row c.loop-k.k c.loop-k.count (omega arith) c.loop-k.invariant.counted
