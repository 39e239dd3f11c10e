use Rattle.std.proofs.Common.{sym, ◌∙◌}
use Rattle.std.proofs.lemmas.Bool.{le-ltb}
use Rattle.std.proofs.lemmas.List.{take_rest}
use Rattle.listing_reader.specs.Forms.{form_of}
use Rattle.listing_reader.proofs.form.read_form.Goals as goal

pub returns-then-starts_with-clause-form : goal.returns-then-starts_with-clause-form
unfolding form_of
returns-then-starts_with-clause-form c =
    let told = sym c.begins_fault.ensures ∙ c.if-begins_fault.false in
    let short = le-ltb _ _ c.if-line-gt-LINE_LIMIT.false in
    let e1 = sym c.starts_with.ensures.value ∙ c.if-starts_with.true in
    rw (told, short, e1) (rw take_rest at c.control.ensures.form)

pub returns-then-starts_with-2-clause-form : goal.returns-then-starts_with-2-clause-form
unfolding form_of
returns-then-starts_with-2-clause-form c =
    let told = sym c.begins_fault.ensures ∙ c.if-begins_fault.false in
    let short = le-ltb _ _ c.if-line-gt-LINE_LIMIT.false in
    let e1 = sym c.starts_with.ensures.value ∙ c.if-starts_with.false in
    let e2 = sym c.starts_with-2.ensures.value ∙ c.if-starts_with-2.true in
    rw (told, short, e1, e2) (rw take_rest at c.video.ensures.form)

pub returns-then-starts_with-3-clause-form : goal.returns-then-starts_with-3-clause-form
unfolding form_of
returns-then-starts_with-3-clause-form c =
    let told = sym c.begins_fault.ensures ∙ c.if-begins_fault.false in
    let short = le-ltb _ _ c.if-line-gt-LINE_LIMIT.false in
    let e1 = sym c.starts_with.ensures.value ∙ c.if-starts_with.false in
    let e2 = sym c.starts_with-2.ensures.value ∙ c.if-starts_with-2.false in
    let e3 = sym c.starts_with-3.ensures.value ∙ c.if-starts_with-3.true in
    rw (told, short, e1, e2, e3) (rw take_rest at c.island.ensures.form)

pub returns-then-starts_with-4-clause-form : goal.returns-then-starts_with-4-clause-form
unfolding form_of
returns-then-starts_with-4-clause-form c =
    let told = sym c.begins_fault.ensures ∙ c.if-begins_fault.false in
    let short = le-ltb _ _ c.if-line-gt-LINE_LIMIT.false in
    let e1 = sym c.starts_with.ensures.value ∙ c.if-starts_with.false in
    let e2 = sym c.starts_with-2.ensures.value ∙ c.if-starts_with-2.false in
    let e3 = sym c.starts_with-3.ensures.value ∙ c.if-starts_with-3.false in
    let e4 = sym c.starts_with-4.ensures.value ∙ c.if-starts_with-4.true in
    rw (told, short, e1, e2, e3, e4) (rw take_rest at c.packet_line.ensures.form)

pub returns-then-starts_with-5-clause-form : goal.returns-then-starts_with-5-clause-form
unfolding form_of
returns-then-starts_with-5-clause-form c =
    let told = sym c.begins_fault.ensures ∙ c.if-begins_fault.false in
    let short = le-ltb _ _ c.if-line-gt-LINE_LIMIT.false in
    let e1 = sym c.starts_with.ensures.value ∙ c.if-starts_with.false in
    let e2 = sym c.starts_with-2.ensures.value ∙ c.if-starts_with-2.false in
    let e3 = sym c.starts_with-3.ensures.value ∙ c.if-starts_with-3.false in
    let e4 = sym c.starts_with-4.ensures.value ∙ c.if-starts_with-4.false in
    let e5 = sym c.starts_with-5.ensures.value ∙ c.if-starts_with-5.true in
    rw (told, short, e1, e2, e3, e4, e5) (rw take_rest at c.close.ensures.form)
