use Rattle.std.proofs.Common.{◌≡◌, ℕ, List, take, sym, subst, ◌∙◌, arith, take_all, length-take-le, MatchOption}
use Rattle.std.specs.Prelude.{Some}
use Rattle.std.proofs.lemmas.List.{take_more_set, length-set}
use Rattle.listing_reader.specs.ContentForms.{fields_of, numbers_of}
use Rattle.listing_reader.proofs.ContentLines.{after_numbers, numbers_step, numbers_wrong, numbers_few, numbers_none, numbers_done}
use Rattle.listing_reader.proofs.content_fields.numbers.Goals as goal

pub loop-i-preserved : goal.loop-i-preserved
loop-i-preserved c =
    let i = c.loop-i.i in
    let into = c.loop-i.into in
    let all = numbers_of (fields_of c.args.text.now) in
    let size = c.loop-i.invariant.size in
    let more = take_more_set into i c.in-Some-number.n (omega arith) in
    let was = rw c.in-Some.is at c.loop-i.invariant.reported in
    record {
      reported =
          subst (λ (ns : List ℕ). MatchOption c.split_field.result.1 (all ≡ Some ns) (λ left. all ≡ after_numbers ns (numbers_of (fields_of left.now)))) (sym more)
          (numbers_step (λ left. left.now) c.split_field.result.1 all (take i into) c.split_field.result.0.now c.in-Some.text.now c.in-Some-number.n c.split_field.ensures was (sym c.in-Some-number.ensures));
      size = length-set into i c.in-Some-number.n ∙ size;
    }

pub returns-in-None-clause-numbers : goal.returns-in-None-clause-numbers
returns-in-None-clause-numbers c =
    let was = rw c.in-Some.is at c.loop-i.invariant.reported in
    numbers_none c.args.text.now c.loop-i.into _
    (numbers_wrong (λ left. left.now) c.split_field.result.1 (numbers_of (fields_of c.args.text.now)) (take c.loop-i.i c.loop-i.into) c.split_field.result.0.now c.in-Some.text.now c.split_field.ensures was (sym c.in-None.ensures))

pub returns-in_default-clause-numbers : goal.returns-in_default-clause-numbers
returns-in_default-clause-numbers c =
    let was = rw c.in_default.is at c.loop-i.invariant.reported in
    let size = c.loop-i.invariant.size in
    let test = c.loop-i-test.true in
    numbers_few c.args.text.now c.loop-i.into (take c.loop-i.i c.loop-i.into) _ was (omega (arith, length-take-le c.loop-i.i c.loop-i.into))

pub returns-clause-numbers : goal.returns-clause-numbers
returns-clause-numbers c =
    let size = c.loop-i.invariant.size in
    let all : take c.loop-i.i c.loop-i.into ≡ c.loop-i.into = take_all c.loop-i.i c.loop-i.into (omega (arith, c.loop-i-test.false)) in
    numbers_done (λ left. left.now) c.loop-i.rest c.args.text.now c.loop-i.into _ c.is_none.result
    (subst (λ (ns : List ℕ). MatchOption c.loop-i.rest (numbers_of (fields_of c.args.text.now) ≡ Some ns) (λ left. numbers_of (fields_of c.args.text.now) ≡ after_numbers ns (numbers_of (fields_of left.now)))) all c.loop-i.invariant.reported)
    size c.is_none.ensures
