use Rattle.source_end.proofs.Fronts.{ok_map}
use Rattle.listing_reader.specs.ContentForms.{content_form_of}
use Rattle.listing_reader.specs.ContentKept.{kept_step}
use Rattle.listing_reader.proofs.ContentSteps.{content_listing, counted, step_long, taken_short, taken_some}
use Rattle.listing_reader.proofs.Steps.{takes_no_cause}
use Rattle.listing_reader.proofs.content_reader.ContentReaderTeller.take.Goals as goal

pub returns-clause-takes : goal.returns-clause-takes
unfolding kept_step
returns-clause-takes c = c.take_form.ensures (content_form_of c.args.line.now) c.read_content_form.ensures.form

pub returns-clause-counted : goal.returns-clause-counted
returns-clause-counted c =
    counted c.args.self (content_form_of c.args.line.now) c.take_form.result (c.take_form.ensures (content_form_of c.args.line.now) c.read_content_form.ensures.form)

pub returns-clause-some : goal.returns-clause-some
returns-clause-some c =
    ok_map c.take_form.result (taken_some c.args.self c.args.line.now)
    (takes_no_cause content_listing c.args.self (content_form_of c.args.line.now) c.take_form.result (c.take_form.ensures (content_form_of c.args.line.now) c.read_content_form.ensures.form))

pub returns-clause-short : goal.returns-clause-short
returns-clause-short c =
    ok_map c.take_form.result (taken_short c.args.self c.args.line.now)
    (takes_no_cause content_listing c.args.self (content_form_of c.args.line.now) c.take_form.result (c.take_form.ensures (content_form_of c.args.line.now) c.read_content_form.ensures.form))

pub returns-clause-long : goal.returns-clause-long
returns-clause-long c = step_long c.args.self c.args.line.now
