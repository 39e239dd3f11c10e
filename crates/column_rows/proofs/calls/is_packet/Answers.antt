use Rattle.std.proofs.Common.{ℕ, List, ◌<◌, sym, subst, arith}
use Rattle.std.specs.Prelude.{All}
use Rattle.column_rows.proofs.Filled.{rest_of}
use Rattle.column_rows.proofs.calls.is_packet.Goals as goal

pub returns-then-not-are_small-clause-none : goal.returns-then-not-are_small-clause-none
returns-then-not-are_small-clause-none c = λ h. c.if-not-are_small.ensures.none (subst (λ (xs : List ℕ). All (λ value. value < 4) xs) (sym (rest_of 31 c.args.bytes.now)) h.sync)

pub returns-clause-packet : goal.returns-clause-packet
returns-clause-packet c = record { whole = omega (arith, c.if-bytes-ne63.false); sync = subst (λ (xs : List ℕ). All (λ value. value < 4) xs) (rest_of 31 c.args.bytes.now) c.if-not-are_small.ensures.small }
