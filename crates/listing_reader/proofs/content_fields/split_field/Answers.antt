use Rattle.std.proofs.Common.{arith}
use Rattle.std.proofs.lemmas.List.{take_rest}
use Rattle.listing_reader.proofs.ContentLines.{field_before, field_last}
use Rattle.listing_reader.proofs.content_fields.split_field.Goals as goal

pub returns-in-Some : goal.returns-in-Some
returns-in-Some c =
    let found = c.in-Some.ensures in
    rw take_rest (field_before c.args.text.now c.in-Some.place found.0.high found.1 (λ j before. found.0.before j (omega arith) before))

pub returns-in-None : goal.returns-in-None
returns-in-None c = field_last c.args.text.now (λ j before. c.in-None.ensures j (omega arith) before)
