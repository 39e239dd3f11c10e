use Rattle.std.proofs.Common.{sym, ◌∙◌}
use Rattle.std.proofs.lemmas.Bool.{le-ltb}
use Rattle.std.proofs.lemmas.List.{take_rest}
use Rattle.listing_reader.specs.ContentForms.{content_form_of}
use Rattle.listing_reader.proofs.content_form.read_content_form.Goals as goal

pub returns-then-starts_with : goal.returns-then-starts_with
unfolding content_form_of
returns-then-starts_with c =
    let told = sym c.begins_fault.ensures ∙ c.if-begins_fault.false in
    let short = le-ltb _ _ c.if-line-gt-LINE_LIMIT.false in
    let e1 = sym c.starts_with.ensures.value ∙ c.if-starts_with.true in
    record { form = rw (told, short, e1) (rw take_rest at c.row.ensures.form); fits = c.row.ensures.fits }

pub returns-then-starts_with-2 : goal.returns-then-starts_with-2
unfolding content_form_of
returns-then-starts_with-2 c =
    let told = sym c.begins_fault.ensures ∙ c.if-begins_fault.false in
    let short = le-ltb _ _ c.if-line-gt-LINE_LIMIT.false in
    let e1 = sym c.starts_with.ensures.value ∙ c.if-starts_with.false in
    let e2 = sym c.starts_with-2.ensures.value ∙ c.if-starts_with-2.true in
    record { form = rw (told, short, e1, e2) (rw take_rest at c.sample.ensures.form); fits = c.sample.ensures.fits }
