-- The causes for which a line is refused, and what the answer then is.
use Rattle.std.proofs.Common.{◌≡◌, ℕ, Bool, true, false, ◌&&◌, List, refl, ap, sym, subst, ◌∙◌, arith, Option, Some, None, Result, Ok, Err, ◌⊎◌}
use Rattle.std.specs.Prelude.{nat_le, nat_lt, IsErr}
use Rattle.std.specs.Result.{IsErrAnd}
use Rattle.hex.specs.Hex.{decode_of}
use Rattle.hex.specs.declared.error.FromHexError.{FromHexError}
use Rattle.island_pack.specs.Periods.{video}
use Rattle.island_pack.specs.declared.packet.Packet.{Packet}
use Rattle.island_pack.specs.declared.ranges.TheConstants.{COLUMN_LIMIT}
use Rattle.source_end.specs.declared.items.ItemFault.{ItemFault}
use Rattle.source_end.specs.Refusals.{last_period, is_control_last, is_long_enough, is_in_range, push_fault, close_fault, AnswersFault}
use Rattle.source_end.proofs.Faults.{last_first}
use Rattle.listing_reader.specs.declared.fault.ListCause.{ListCause}
use Rattle.listing_reader.specs.declared.fault.ListCause.TheVariants.{Form, Range, Order, Long}
use Rattle.listing_reader.specs.declared.teller.Refusal.{Refusal}
use Rattle.listing_reader.specs.declared.teller.Refusal.TheVariants.{Cause, NoMemory}
use Rattle.listing_reader.specs.Causes.{run_cause, island_cause, packet_cause, close_cause, end_cause, line_cause, caused, unless, is_closed, has_room}
use Rattle.listing_reader.specs.Drafts.{Draft}
use Rattle.listing_reader.specs.Forms.{LineForm, control_line, video_line, video_by, island_line, packet_line, close_line, end_line, no_line}
use Rattle.listing_reader.specs.Reported.{AnswersCause}

-- Tests before causes.

pub stops_here : (test : Bool) (cause : ListCause) (rest : Option ListCause) → test ≡ false → unless test cause rest ≡ Some cause
stops_here test cause rest h = grind arith

pub goes_past : (test : Bool) (cause : ListCause) (rest : Option ListCause) → test ≡ true → unless test cause rest ≡ rest
goes_past test cause rest h = grind arith

pub test_held : (test : Bool) (cause : ListCause) (rest : Option ListCause) → unless test cause rest ≡ None → test ≡ true
test_held test cause rest h = grind arith

pub rest_held : (test : Bool) (cause : ListCause) (rest : Option ListCause) → unless test cause rest ≡ None → rest ≡ None
rest_held test cause rest h = grind arith

-- Runs.

pub run_fits : (draft : Draft) (value count : ℕ) → (nat_lt value 64 && (nat_le 1 count && nat_le count COLUMN_LIMIT)) ≡ true → is_closed draft.opened ≡ true → has_room draft count ≡ true → run_cause draft value count ≡ None
unfolding run_cause
run_fits draft value count range closed room = goes_past _ Range _ range ∙ goes_past _ Order _ closed ∙ goes_past _ Long _ room

-- The end.

abbrev end_chosen : Bool → Bool → Bool → Option ListCause
end_chosen closed last long = unless closed Order (caused (last_first last long))

end_is : (draft : Draft) → end_cause draft ≡ end_chosen (is_closed draft.opened) (is_control_last (last_period draft.periods)) (is_long_enough (last_period draft.periods))
unfolding end_cause close_fault
end_is draft = refl

chosen_long : (closed last : Bool) (cause : Option ListCause) (long : Bool) → (closed && last) ≡ true → end_chosen true true long ≡ cause → end_chosen closed last long ≡ cause
chosen_long closed last cause long h k = grind arith

pub end_well : (draft : Draft) → (is_closed draft.opened && is_control_last (last_period draft.periods)) ≡ true → is_long_enough (last_period draft.periods) ≡ true → end_cause draft ≡ None
end_well draft turn long = end_is draft ∙ chosen_long _ _ None _ turn (ap (end_chosen true true) long)

-- What the answer is.

pub cause_found : (T : Type 0) (cause : Option ListCause) (found : ListCause) → AnswersCause {T = T} cause (Err (Cause found)) → cause ≡ Some found
cause_found T cause found h = grind arith

pub cause_none : {T : Type 0} (cause : Option ListCause) (done : T) → AnswersCause {T = T} cause (Ok done) → cause ≡ None
cause_none cause done h = grind arith

pub answers_cause : (T : Type 0) (seen : Option ListCause) (cause : ListCause) → seen ≡ Some cause → AnswersCause {T = T} seen (Err (Cause cause))
answers_cause T seen cause e = subst (λ (s : Option ListCause). AnswersCause {T = T} s (Err (Cause cause))) (sym e) refl

pub answers_ok : {T : Type 0} (v : T) (seen : Option ListCause) → seen ≡ None → AnswersCause seen (Ok v)
answers_ok {T} v seen e = subst (λ (s : Option ListCause). AnswersCause {T = T} s (Ok v)) (sym e) tt

pub answers_memory : (T : Type 0) (seen : Option ListCause) → AnswersCause {T = T} seen (Err NoMemory)
answers_memory T seen = grind arith

pub answers_same : (T : Type 0) (seen : Option ListCause) (refusal : Refusal) → refusal ≡ NoMemory → AnswersCause {T = T} seen (Err refusal)
answers_same T seen refusal e = subst (λ (r : Refusal). AnswersCause {T = T} seen (Err r)) (sym e) (answers_memory T seen)

pub answers_line : {T : Type 0} (draft : Draft) (reported line : LineForm) (result : Result T Refusal) → reported ≡ line → AnswersCause (line_cause draft line) result → AnswersCause (line_cause draft reported) result
answers_line {T} draft reported line result e h = subst (λ (l : LineForm). AnswersCause (line_cause draft l) result) (sym e) h

-- the answer of a call whose cause is the same
pub answers_err : (S T : Type 0) (seen found : Option ListCause) (result : Result T Refusal) (refusal : Refusal) → seen ≡ found → AnswersCause {T = S} found (Err refusal) → IsErrAnd result (λ r. r ≡ refusal) → AnswersCause {T = T} seen result
answers_err S T seen found result refusal same h k =
    subst (λ (s : Option ListCause). AnswersCause {T = T} s result) (sym same) (as_found S T found result refusal h k)
  where
    as_found : (S T : Type 0) (found : Option ListCause) (result : Result T Refusal) (refusal : Refusal) → AnswersCause {T = S} found (Err refusal) → IsErrAnd result (λ r. r ≡ refusal) → AnswersCause {T = T} found result
    as_found S T found (Ok v) refusal h k = absurd k
    as_found S T found (Err other) refusal h k = subst (λ (r : Refusal). AnswersCause {T = T} found (Err r)) (sym k) (unchanged S T found refusal h)
      where
        unchanged : (S T : Type 0) (found : Option ListCause) (refusal : Refusal) → AnswersCause {T = S} found (Err refusal) → AnswersCause {T = T} found (Err refusal)
        unchanged S T (Some cause) (Cause other) h = h
        unchanged S T (Some cause) NoMemory h = tt
        unchanged S T None (Cause other) h = h
        unchanged S T None NoMemory h = tt

pub answers_done : (S T : Type 0) (seen found : Option ListCause) (done : S) (v : T) → seen ≡ found → AnswersCause found (Ok done) → AnswersCause {T = T} seen (Ok v)
answers_done S T seen found done v same h = answers_ok {T = T} v seen (same ∙ cause_none {T = S} found done h)

-- the cause of a line, by its form
pub cause_control : (draft : Draft) (value count : ℕ) → line_cause draft (control_line value count) ≡ run_cause draft value count
unfolding line_cause
cause_control draft value count = refl

pub cause_island : (draft : Draft) (a b : ℕ) → line_cause draft (island_line a b) ≡ island_cause draft a b
unfolding line_cause
cause_island draft a b = refl

pub cause_packet : (draft : Draft) (p : Packet) → line_cause draft (packet_line p) ≡ packet_cause draft p
unfolding line_cause
cause_packet draft p = refl

pub cause_close : (draft : Draft) (a b : ℕ) → line_cause draft (close_line a b) ≡ close_cause draft a b
unfolding line_cause
cause_close draft a b = refl

pub cause_end : (draft : Draft) → line_cause draft end_line ≡ end_cause draft
unfolding line_cause
cause_end draft = refl

-- Faults of items.

pub none_of : (T : Type 0) (v : T) (seen : Option ItemFault) → AnswersFault {T = T} seen (Ok v) → seen ≡ None
none_of T v seen h = grind arith

-- a video data period in its range, outside an island
pub video_pushed : (draft : Draft) (bytes : List ℕ) → is_in_range (video bytes) ≡ true → is_closed draft.opened ≡ true → line_cause draft (video_line bytes) ≡ caused (push_fault draft.periods (video bytes))
unfolding line_cause
video_pushed draft bytes range closed = goes_past _ Range _ range ∙ goes_past _ Order _ closed

-- The digits of a video line.

pub answers_read : {T : Type 0} (draft : Draft) (digits bytes : List ℕ) (result : Result T Refusal) → decode_of digits ≡ Ok bytes → AnswersCause (line_cause draft (video_line bytes)) result
    → AnswersCause (line_cause draft (video_by true (decode_of digits))) result
answers_read {T} draft digits bytes result read h = answers_line {T = T} draft (video_by true (decode_of digits)) (video_line bytes) result (ap (video_by true) read) h

pub no_digits : (read : Result (List ℕ) FromHexError) → IsErr read → video_by true read ≡ no_line
no_digits read h = grind arith

pub answers_undecoded : (T : Type 0) (seen : Option ListCause) (digits : List ℕ) (result : Result T Refusal) (refusal : Refusal) → (IsErr (decode_of digits) → seen ≡ Some Form)
    → (refusal ≡ NoMemory) ⊎ ((refusal ≡ Cause Form) × IsErr (decode_of digits)) → IsErrAnd result (λ r. r ≡ refusal) → AnswersCause seen result
answers_undecoded T seen digits result refusal h k l = grind (arith, answers_same, answers_cause)

-- bytes that are no digits, or want of memory
pub answers_unread : (T : Type 0) (draft : Draft) (digits : List ℕ) (result : Result T Refusal) (refusal : Refusal) → (refusal ≡ NoMemory) ⊎ ((refusal ≡ Cause Form) × IsErr (decode_of digits))
    → IsErrAnd result (λ r. r ≡ refusal) → AnswersCause (line_cause draft (video_by true (decode_of digits))) result
unfolding line_cause
answers_unread T draft digits result refusal why h = grind (arith, answers_undecoded, no_digits)
