-- What a line does in a listing of any sort: it is refused with its first cause, it gives something, or it ends the listing.
use Rattle.std.proofs.Common.{◌≡◌, ℕ, ◌≤◌, Bool, true, false, List, [], ◌∷◌, length, refl, ap, sym, subst, ◌∙◌, arith, inl, inr, ◌⊎◌}
use Rattle.std.specs.Prelude.{Option, Some, None, Result, Ok, Err, IsErrAnd, OnOk}
use Rattle.std.proofs.lemmas.Bool.{cases_lt}
use Rattle.listing_reader.specs.declared.fault.ListCause.{ListCause}
use Rattle.listing_reader.specs.declared.fault.ListCause.TheVariants.{Fault, Form}
use Rattle.listing_reader.specs.declared.teller.Refusal.{Refusal}
use Rattle.listing_reader.specs.declared.teller.Refusal.TheVariants.{Cause, NoMemory}
use Rattle.listing_reader.specs.declared.teller.Taken.{Taken}
use Rattle.listing_reader.specs.declared.teller.Taken.TheVariants.{More, End}
use Rattle.listing_reader.specs.LineSteps.{LineStep, tells, wrong}
use Rattle.listing_reader.specs.Forms.{LineForm, end_line, fault_line, no_line, form_of, is_fault}
use Rattle.listing_reader.specs.Reported.{AnswersCause}
use Rattle.listing_reader.specs.Taken.{Takes}
use Rattle.listing_reader.proofs.LongForm.{long_form_cases}
use Rattle.listing_reader.proofs.Refused.{cause_found, cause_none}

-- A listing of lines of forms F, by which D is given and W in the end: why a line is refused, what it does by its cause, what is
-- given after it, and which form ends the listing.
pub record IsListing (F D W : Type 0) (cause : D → F → Option ListCause) (step : Option ListCause → F → D → LineStep D W) (given : F → D → D) (ends : F → Bool) : Type 0 where
  pub refuses : (d : D) (form : F) (found : ListCause) → step (Some found) form d ≡ wrong found
  pub gives : (d : D) (form : F) → cause d form ≡ None → ends form ≡ false → step None form d ≡ tells (given form d)

-- the line `end`
abbrev pub is_end : LineForm → Bool
is_end end_line = true
is_end _ = false

-- ---- a line that is refused

pub step_wrong : {F D W : Type 0} {cause : D → F → Option ListCause} {step : Option ListCause → F → D → LineStep D W} {given : F → D → D} {ends : F → Bool} → IsListing F D W cause step given ends
    → (d : D) (form : F) (found : ListCause) → cause d form ≡ Some found → step (cause d form) form d ≡ wrong found
step_wrong {step} l d form found e = ap (λ c. step c form d) e ∙ l.refuses d form found

pub takes_refused : {F D W : Type 0} {cause : D → F → Option ListCause} {step : Option ListCause → F → D → LineStep D W} {given : F → D → D} {ends : F → Bool} → IsListing F D W cause step given ends
    → (T : Type 0) (d : D) (form line : F) (result : Result (Taken D W) Refusal) (refusal : Refusal) → form ≡ line → AnswersCause {T = T} (cause d line) (Err refusal) → IsErrAnd result (λ r. r ≡ refusal)
    → Takes (step (cause d form) form d) result
takes_refused {D} {W} {cause} {step} l T d form line result refusal same h k = subst (λ f. Takes (step (cause d f) f d) result) (sym same) (refused result refusal h k)
  where
    refused : (result : Result (Taken D W) Refusal) (refusal : Refusal) → AnswersCause {T = T} (cause d line) (Err refusal) → IsErrAnd result (λ r. r ≡ refusal) → Takes (step (cause d line) line d) result
    refused (Ok taken) refusal h k = absurd k
    refused (Err NoMemory) refusal h k = tt
    refused (Err (Cause found)) refusal h k =
        step_wrong l d line found (cause_found T (cause d line) found (subst (λ (r : Refusal). AnswersCause {T = T} (cause d line) (Err r)) (sym k) h))

-- ---- a line that is taken

pub step_tells : {F D W : Type 0} {cause : D → F → Option ListCause} {step : Option ListCause → F → D → LineStep D W} {given : F → D → D} {ends : F → Bool} → IsListing F D W cause step given ends
    → (T : Type 0) (d now : D) (form line : F) (done : T) → form ≡ line → AnswersCause (cause d line) (Ok done) → ends line ≡ false → now ≡ given line d → step (cause d form) form d ≡ tells now
step_tells {cause} {step} l T d now form line done same answers more is =
    let none = cause_none {T = T} (cause d line) done answers in
    ap (λ f. step (cause d f) f d) same ∙ ap (λ c. step c line d) none ∙ l.gives d line none more ∙ ap tells (sym is)

-- one that is not refused has no cause
pub takes_no_cause : {F D W : Type 0} {cause : D → F → Option ListCause} {step : Option ListCause → F → D → LineStep D W} {given : F → D → D} {ends : F → Bool} → IsListing F D W cause step given ends
    → (d : D) (form : F) (result : Result (Taken D W) Refusal) → Takes (step (cause d form) form d) result → OnOk result (cause d form ≡ None)
takes_no_cause {D} {W} {cause} {step} l d form result h = by (cause d form) refl result h
  where
    by : (found : Option ListCause) → cause d form ≡ found → (result : Result (Taken D W) Refusal) → Takes (step (cause d form) form d) result → OnOk result (cause d form ≡ None)
    by None e (Ok taken) h = e
    by (Some found) e (Ok (More now)) h = let w = step_wrong l d form found e in cc (h, w)
    by (Some found) e (Ok (End now)) h = let w = step_wrong l d form found e in cc (h, w)
    by found e (Err refusal) h = tt

-- ---- lines of no byte, and of too many

pub taken_some : {D : Type 0} (cause : D → LineForm → Option ListCause) (d : D) → cause d no_line ≡ Some Form → (line : List ℕ) → cause d (form_of line) ≡ None → 1 ≤ length line
unfolding form_of is_fault
taken_some cause d none [] h = cc (none, h)
taken_some cause d none (c ∷ line) h = omega arith

pub taken_short : {D : Type 0} (cause : D → LineForm → Option ListCause) (d : D) → cause d fault_line ≡ Some Fault → cause d no_line ≡ Some Form → (line : List ℕ) → cause d (form_of line) ≡ None → length line ≤ 32768
taken_short cause d fault none line h = elim (cases_lt 32768 (length line)) [
  | inl long ↦ absurd (at (long_form_cases line long))
  | inr short ↦ short
]
  where
    at : (form_of line ≡ fault_line) ⊎ (form_of line ≡ no_line) → ⊥
    at (inl e) = cc (e, fault, h)
    at (inr e) = cc (e, none, h)
