use Rattle.std.proofs.Common.{arith, sym, ◌∙◌}
use Rattle.listing_reader.proofs.ContentLines.{avi_seen, avi_no_bytes, avi_no_words}
use Rattle.listing_reader.proofs.content_fields.avi_of.Goals as goal

pub returns-then-not-to_bytes-clause-form : goal.returns-then-not-to_bytes-clause-form
returns-then-not-to_bytes-clause-form c = avi_no_bytes c.args.fields.now (sym c.to_bytes.ensures.value ∙ c.if-not-to_bytes.true)

pub returns-then-not-to_words-clause-form : goal.returns-then-not-to_words-clause-form
returns-then-not-to_words-clause-form c =
    avi_no_words c.args.fields.now (sym c.to_bytes.ensures.value ∙ c.if-not-to_bytes.false) (sym c.to_words.ensures.value ∙ c.if-not-to_words.true)

pub returns-clause-form : goal.returns-clause-form
returns-clause-form c = grind (arith, avi_seen)
