use Rattle.source_end.proofs.Fronts.{ok_map}
use Rattle.listing_reader.specs.Forms.{form_of}
use Rattle.listing_reader.specs.DviReading.{dvi_line_cause, dvi_step}
use Rattle.listing_reader.proofs.DviSteps.{dvi_listing, fault_wrong, none_wrong, step_long, counted}
use Rattle.listing_reader.proofs.Steps.{taken_short, taken_some, takes_no_cause}
use Rattle.listing_reader.proofs.dvi_reader.PeriodsWithoutGuardsTeller.take.Goals as goal

pub take_form-requires : goal.take_form-requires
take_form-requires c = (form_of c.args.line.now, c.read_form.ensures.form)

pub returns-clause-takes : goal.returns-clause-takes
unfolding dvi_step
returns-clause-takes c = c.take_form.ensures (form_of c.args.line.now) c.read_form.ensures.form

pub returns-clause-counted : goal.returns-clause-counted
returns-clause-counted c = counted c.take_form.result

pub returns-clause-some : goal.returns-clause-some
unfolding dvi_step
returns-clause-some c =
    ok_map c.take_form.result (λ none. taken_some dvi_line_cause c.args.self (none_wrong c.args.self) c.args.line.now none)
    (takes_no_cause dvi_listing c.args.self (form_of c.args.line.now) c.take_form.result (c.take_form.ensures (form_of c.args.line.now) c.read_form.ensures.form))

pub returns-clause-short : goal.returns-clause-short
unfolding dvi_step
returns-clause-short c =
    ok_map c.take_form.result (λ none. taken_short dvi_line_cause c.args.self (fault_wrong c.args.self) (none_wrong c.args.self) c.args.line.now none)
    (takes_no_cause dvi_listing c.args.self (form_of c.args.line.now) c.take_form.result (c.take_form.ensures (form_of c.args.line.now) c.read_form.ensures.form))

pub returns-clause-long : goal.returns-clause-long
returns-clause-long c = step_long c.args.self c.args.line.now
