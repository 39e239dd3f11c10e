use Rattle.std.proofs.Common.{arith, ◌≡◌, ◌+◌, ◌*◌, ◌/◌, ◌%◌, ◌^◌, ◌∙◌, ap}
use Rattle.std.proofs.lemmas.Nat.{and_mask}
use Rattle.tmds_word.proofs.row.byte_across.Goals as goal

pub returns : goal.returns
returns c =
    let sum : c.from_le_bytes.result ≡ c.args.low + c.args.high * 256 = omega (arith, c.from_le_bytes.ensures) in
    and_mask (c.from_le_bytes.result / 2 ^ c.args.shift) 8 ∙ ap (λ m. m / 2 ^ c.args.shift % 256) sum
