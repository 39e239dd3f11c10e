use Rattle.std.proofs.Common.{inr, refl, sym, ◌∙◌, arith}
use Rattle.listing_reader.proofs.HexPairs.{not_read}
use Rattle.listing_reader.proofs.pixels.decode_row.Goals as goal

pub returns-then-not-are_digits-clause-err : goal.returns-then-not-are_digits-clause-err
returns-then-not-are_digits-clause-err c = inr (refl, not_read c.args.digits.now (sym c.are_digits.ensures ∙ c.if-not-are_digits.true))

pub returns-in-Ok-clause-whole : goal.returns-in-Ok-clause-whole
returns-in-Ok-clause-whole c = omega (arith, c.in-Ok.ensures.size, c.requires)
