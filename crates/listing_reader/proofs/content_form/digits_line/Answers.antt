use Rattle.std.proofs.Common.{sym, ◌∙◌}
use Rattle.std.proofs.lemmas.List.{take_rest}
use Rattle.listing_reader.specs.ContentForms.{digits_line}
use Rattle.listing_reader.proofs.content_form.digits_line.Goals as goal

pub returns-then-starts_with : goal.returns-then-starts_with
unfolding digits_line
returns-then-starts_with c =
    let e1 = sym c.starts_with.ensures.value ∙ c.if-starts_with.true in
    record { form = rw e1 (rw take_rest at c.spd.ensures.form); fits = c.spd.ensures.fits }

pub returns-then-starts_with-2 : goal.returns-then-starts_with-2
unfolding digits_line
returns-then-starts_with-2 c =
    let e1 = sym c.starts_with.ensures.value ∙ c.if-starts_with.false in
    let e2 = sym c.starts_with-2.ensures.value ∙ c.if-starts_with-2.true in
    record { form = rw (e1, e2) (rw take_rest at c.info.ensures.form); fits = c.info.ensures.fits }

pub returns-then-starts_with-3 : goal.returns-then-starts_with-3
unfolding digits_line
returns-then-starts_with-3 c =
    let e1 = sym c.starts_with.ensures.value ∙ c.if-starts_with.false in
    let e2 = sym c.starts_with-2.ensures.value ∙ c.if-starts_with-2.false in
    let e3 = sym c.starts_with-3.ensures.value ∙ c.if-starts_with-3.true in
    record { form = rw (e1, e2, e3) (rw take_rest at c.packet.ensures.form); fits = c.packet.ensures.fits }

pub returns : goal.returns
unfolding digits_line
returns c =
    let e1 = sym c.starts_with.ensures.value ∙ c.if-starts_with.false in
    let e2 = sym c.starts_with-2.ensures.value ∙ c.if-starts_with-2.false in
    let e3 = sym c.starts_with-3.ensures.value ∙ c.if-starts_with-3.false in
    record { form = rw (e1, e2, e3) c.numbers_line.ensures.form; fits = c.numbers_line.ensures.fits }
