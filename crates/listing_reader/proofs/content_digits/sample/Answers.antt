use Rattle.std.proofs.Common.{sym, subst, ◌∙◌, drop}
use Rattle.std.proofs.lemmas.List.{take_rest}
use Rattle.listing_reader.specs.Forms.{part}
use Rattle.listing_reader.specs.ContentForms.{ContentLine}
use Rattle.listing_reader.specs.ContentFormSeen.{IsContentForm, IsHexField, IsNumbers}
use Rattle.listing_reader.proofs.ContentLines.{sample_seen, sample_none}
use Rattle.listing_reader.proofs.content_digits.sample.Goals as goal

pub returns-then-not-numbers-clause-form : goal.returns-then-not-numbers-clause-form
returns-then-not-numbers-clause-form c =
    let rest = c.args.rest.now in
    sample_none rest c.hex_field.new.into c.hex_field-2.new.into c.numbers.new.into (sym c.is_sample_laid_out.ensures.value ∙ c.if-not-is_sample_laid_out.false)
    (subst (IsHexField (part 0 6 rest) c.hex_field.new.into) c.if-not-hex_field.false c.hex_field.ensures.value)
    (subst (IsHexField (part 7 6 rest) c.hex_field-2.new.into) c.if-not-hex_field-2.false c.hex_field-2.ensures.value)
    (subst (IsNumbers (drop 14 rest) 4 c.numbers.new.into) c.if-not-numbers.true (rw take_rest at c.numbers.ensures.numbers))

pub returns-clause-form : goal.returns-clause-form
returns-clause-form c =
    let rest = c.args.rest.now in
    let seen = sample_seen rest c.hex_field.new.into c.hex_field-2.new.into c.numbers.new.into (sym c.is_sample_laid_out.ensures.value ∙ c.if-not-is_sample_laid_out.false)
    (subst (IsHexField (part 0 6 rest) c.hex_field.new.into) c.if-not-hex_field.false c.hex_field.ensures.value)
    (subst (IsHexField (part 7 6 rest) c.hex_field-2.new.into) c.if-not-hex_field-2.false c.hex_field-2.ensures.value)
    (subst (IsNumbers (drop 14 rest) 4 c.numbers.new.into) c.if-not-numbers.false (rw take_rest at c.numbers.ensures.numbers)) in
    subst (λ (form : ContentLine). IsContentForm c.sample_of.result form) (sym seen) c.sample_of.ensures.form
