use Rattle.std.proofs.Common.{refl, sym, ◌∙◌}
use Rattle.std.proofs.lemmas.List.{take_rest}
use Rattle.listing_reader.specs.ContentForms.{numbers_line}
use Rattle.listing_reader.proofs.content_form.numbers_line.Goals as goal

pub returns-then-starts_with : goal.returns-then-starts_with
unfolding numbers_line
returns-then-starts_with c =
    let e1 = sym c.starts_with.ensures.value ∙ c.if-starts_with.true in
    record { form = rw e1 (rw take_rest at c.vic.ensures.form); fits = c.vic.ensures.fits }

pub returns-then-starts_with-2 : goal.returns-then-starts_with-2
unfolding numbers_line
returns-then-starts_with-2 c =
    let e1 = sym c.starts_with.ensures.value ∙ c.if-starts_with.false in
    let e2 = sym c.starts_with-2.ensures.value ∙ c.if-starts_with-2.true in
    record { form = rw (e1, e2) (rw take_rest at c.mode.ensures.form); fits = c.mode.ensures.fits }

pub returns-then-starts_with-3 : goal.returns-then-starts_with-3
unfolding numbers_line
returns-then-starts_with-3 c =
    let e1 = sym c.starts_with.ensures.value ∙ c.if-starts_with.false in
    let e2 = sym c.starts_with-2.ensures.value ∙ c.if-starts_with-2.false in
    let e3 = sym c.starts_with-3.ensures.value ∙ c.if-starts_with-3.true in
    record { form = rw (e1, e2, e3) (rw take_rest at c.frame.ensures.form); fits = c.frame.ensures.fits }

pub returns-then-starts_with-4 : goal.returns-then-starts_with-4
unfolding numbers_line
returns-then-starts_with-4 c =
    let e1 = sym c.starts_with.ensures.value ∙ c.if-starts_with.false in
    let e2 = sym c.starts_with-2.ensures.value ∙ c.if-starts_with-2.false in
    let e3 = sym c.starts_with-3.ensures.value ∙ c.if-starts_with-3.false in
    let e4 = sym c.starts_with-4.ensures.value ∙ c.if-starts_with-4.true in
    record { form = rw (e1, e2, e3, e4) (rw take_rest at c.avi.ensures.form); fits = c.avi.ensures.fits }

pub returns-then-starts_with-5 : goal.returns-then-starts_with-5
unfolding numbers_line
returns-then-starts_with-5 c =
    let e1 = sym c.starts_with.ensures.value ∙ c.if-starts_with.false in
    let e2 = sym c.starts_with-2.ensures.value ∙ c.if-starts_with-2.false in
    let e3 = sym c.starts_with-3.ensures.value ∙ c.if-starts_with-3.false in
    let e4 = sym c.starts_with-4.ensures.value ∙ c.if-starts_with-4.false in
    let e5 = sym c.starts_with-5.ensures.value ∙ c.if-starts_with-5.true in
    record { form = rw (e1, e2, e3, e4, e5) (rw take_rest at c.audio.ensures.form); fits = c.audio.ensures.fits }

pub returns-then-starts_with-6 : goal.returns-then-starts_with-6
unfolding numbers_line
returns-then-starts_with-6 c =
    let e1 = sym c.starts_with.ensures.value ∙ c.if-starts_with.false in
    let e2 = sym c.starts_with-2.ensures.value ∙ c.if-starts_with-2.false in
    let e3 = sym c.starts_with-3.ensures.value ∙ c.if-starts_with-3.false in
    let e4 = sym c.starts_with-4.ensures.value ∙ c.if-starts_with-4.false in
    let e5 = sym c.starts_with-5.ensures.value ∙ c.if-starts_with-5.false in
    let e6 = sym c.starts_with-6.ensures.value ∙ c.if-starts_with-6.true in
    record { form = rw (e1, e2, e3, e4, e5, e6) (rw take_rest at c.acr.ensures.form); fits = c.acr.ensures.fits }

pub returns-then-starts_with-7 : goal.returns-then-starts_with-7
unfolding numbers_line
returns-then-starts_with-7 c =
    let e1 = sym c.starts_with.ensures.value ∙ c.if-starts_with.false in
    let e2 = sym c.starts_with-2.ensures.value ∙ c.if-starts_with-2.false in
    let e3 = sym c.starts_with-3.ensures.value ∙ c.if-starts_with-3.false in
    let e4 = sym c.starts_with-4.ensures.value ∙ c.if-starts_with-4.false in
    let e5 = sym c.starts_with-5.ensures.value ∙ c.if-starts_with-5.false in
    let e6 = sym c.starts_with-6.ensures.value ∙ c.if-starts_with-6.false in
    let e7 = sym c.starts_with-7.ensures.value ∙ c.if-starts_with-7.true in
    record { form = rw (e1, e2, e3, e4, e5, e6, e7) (rw take_rest at c.gcp.ensures.form); fits = c.gcp.ensures.fits }

pub returns : goal.returns
unfolding numbers_line
returns c =
    let e1 = sym c.starts_with.ensures.value ∙ c.if-starts_with.false in
    let e2 = sym c.starts_with-2.ensures.value ∙ c.if-starts_with-2.false in
    let e3 = sym c.starts_with-3.ensures.value ∙ c.if-starts_with-3.false in
    let e4 = sym c.starts_with-4.ensures.value ∙ c.if-starts_with-4.false in
    let e5 = sym c.starts_with-5.ensures.value ∙ c.if-starts_with-5.false in
    let e6 = sym c.starts_with-6.ensures.value ∙ c.if-starts_with-6.false in
    let e7 = sym c.starts_with-7.ensures.value ∙ c.if-starts_with-7.false in
    record { form = rw (e1, e2, e3, e4, e5, e6, e7) refl; fits = tt }
