-- A line of more than 32,768 bytes has the form of its first bytes.
use Rattle.std.proofs.Common.{◌≡◌, ℕ, ◌<◌, ◌≤◌, Bool, true, if◌then◌else◌, List, ◌++◌, length, refl, ap, sym, ◌∙◌, ◌⊎◌, arith, length-append}
use Rattle.std.specs.Prelude.{nat_lt}
use Rattle.std.proofs.lemmas.List.{take-append-le}
use Rattle.std.proofs.lemmas.Bool.{lt-ltb}
use Rattle.listing_reader.specs.Forms.{fault_line, no_line, form_of, is_fault}

pub fault_first : (line rest : List ℕ) → 4 ≤ length line → is_fault (line ++ rest) ≡ is_fault line
unfolding is_fault
fault_first line rest within = grind (arith, take-append-le)

-- what a long line can be
pub long_form : (line : List ℕ) → 32768 < length line → form_of line ≡ (if is_fault line then fault_line else no_line)
unfolding form_of
long_form line long = let e : nat_lt 32768 (length line) ≡ true = lt-ltb 32768 (length line) long in rw e refl

-- the form of the first bytes is that of the line
pub long_form_first : (line rest : List ℕ) → 32768 < length line → form_of (line ++ rest) ≡ form_of line
long_form_first line rest long =
    long_form (line ++ rest) (omega (arith, length-append line rest))
    ∙ ap (λ (b : Bool). if b then fault_line else no_line) (fault_first line rest (omega arith)) ∙ sym (long_form line long)

pub long_form_cases : (line : List ℕ) → 32768 < length line → (form_of line ≡ fault_line) ⊎ (form_of line ≡ no_line)
long_form_cases line long = grind (arith, long_form)
