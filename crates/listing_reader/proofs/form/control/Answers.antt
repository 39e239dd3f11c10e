use Rattle.std.proofs.Common.{◌≡◌, ℕ, ◌≤◌, List, [], ◌∷◌, length, take, drop, refl, sym, ◌∙◌, arith, length-take-le}
use Rattle.std.specs.Prelude.{slice_index, Some, None, Ok}
use Rattle.std.proofs.lemmas.List.{take_rest}
use Rattle.hex.specs.Hex.{decode_of}
use Rattle.hex.proofs.HexLemmas.{decode_sized-twice}
use Rattle.listing_reader.specs.Forms.{control_form, control_line, no_line, number_of}
use Rattle.listing_reader.proofs.PacketForms.{read_well}
use Rattle.listing_reader.proofs.form.control.Goals as goal

counted : (rest out : List ℕ) (count : ℕ) → length out ≡ 1 → decode_of (take 2 rest) ≡ Ok out → slice_index rest 2 ≡ 32 → number_of (drop 3 rest) ≡ Some count
    → control_form rest ≡ control_line (slice_index out 0) count
unfolding control_form
counted rest [] count one read space number = absurd (omega arith)
counted rest (value ∷ []) count one read space number = rw (read, space, number) refl
counted rest (value ∷ (more ∷ out)) count one read space number = absurd (omega arith)

uncounted : (rest out : List ℕ) → length out ≡ 1 → decode_of (take 2 rest) ≡ Ok out → slice_index rest 2 ≡ 32 → number_of (drop 3 rest) ≡ None → control_form rest ≡ no_line
unfolding control_form
uncounted rest [] one read space number = absurd (omega arith)
uncounted rest (value ∷ []) one read space number = rw (read, space, number) refl
uncounted rest (value ∷ (more ∷ out)) one read space number = absurd (omega arith)

pub returns-in-Some-clause-form : goal.returns-in-Some-clause-form
returns-in-Some-clause-form c =
    let rest = c.args.rest.now in
    let out = c.decode_to_slice.new.out in
    let one : length out ≡ 1 = omega arith in
    let two : 2 ≤ length rest = omega (arith, c.if-rest-lt3.false) in
    let well = sym c.is_err.ensures.value ∙ c.if-is_err.false in
    let read = sym (decode_sized-twice (take 2 rest) 1 (length-take-le 2 rest two)) ∙ read_well _ c.decode_to_slice.result out c.decode_to_slice.ensures.value well in
    let number = sym c.number.ensures ∙ c.in-Some.is in
    counted rest out c.in-Some.count one read c.if-rest-ne32.false (rw take_rest at number)

pub returns-in-None-clause-form : goal.returns-in-None-clause-form
returns-in-None-clause-form c =
    let rest = c.args.rest.now in
    let out = c.decode_to_slice.new.out in
    let one : length out ≡ 1 = omega arith in
    let two : 2 ≤ length rest = omega (arith, c.if-rest-lt3.false) in
    let well = sym c.is_err.ensures.value ∙ c.if-is_err.false in
    let read = sym (decode_sized-twice (take 2 rest) 1 (length-take-le 2 rest two)) ∙ read_well _ c.decode_to_slice.result out c.decode_to_slice.ensures.value well in
    let number = sym c.number.ensures ∙ c.in-None.is in
    uncounted rest out one read c.if-rest-ne32.false (rw take_rest at number)
