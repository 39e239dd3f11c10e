-- Lists of events with no fault among them.
use Rattle.std.proofs.Common.{arith, ◌≡◌, ℕ, ◌+◌, Bool, true, false, not, List, ◌++◌, ap₂, sym, ◌∙◌}
use Rattle.std.specs.Prelude.{Option, None}
use Rattle.std.proofs.lemmas.List.Folds.{list_all-append}
use Rattle.tmds_word.proofs.Below.{and-left, and-right}
use Rattle.tmds_word.specs.Column.{Column}
use Rattle.period_grammar.specs.Events.{Event, guard}
use Rattle.period_grammar.specs.Heard.{if_not, code_fault}
use Rattle.period_grammar.specs.Island.{if_so, wrong_guards}
use Rattle.period_grammar.specs.Exact.{is_fault_event, faultless}
use Rattle.link_laws.proofs.Rows.{and_both}

abbrev pub Fine : List Event → Type 0
Fine ts = faultless ts ≡ true

pub fine_left : (ts us : List Event) → Fine (ts ++ us) → Fine ts
fine_left ts us h = and-left _ _ (sym (list_all-append (λ t. not (is_fault_event t)) ts us) ∙ h)

pub fine_right : (ts us : List Event) → Fine (ts ++ us) → Fine us
fine_right ts us h = and-right (faultless ts) _ (sym (list_all-append (λ t. not (is_fault_event t)) ts us) ∙ h)

pub fine_both : (ts us : List Event) → Fine ts → Fine us → Fine (ts ++ us)
fine_both ts us h g = list_all-append (λ t. not (is_fault_event t)) ts us ∙ and_both _ _ h g

pub if_not_fine : (p : Bool) (t : Event) → is_fault_event t ≡ true → Fine (if_not p t) → p ≡ true
if_not_fine p t h k = grind arith

pub if_so_fine : (p : Bool) (t : Event) → is_fault_event t ≡ true → Fine (if_so p t) → p ≡ false
if_so_fine p t h k = grind arith

pub code_fine : (lane s : ℕ) (o : Option ℕ) → Fine (code_fault lane s o) → o ≡ None
code_fine lane s o h = grind arith

pub not_false : (p : Bool) → not p ≡ false → p ≡ true
not_false p h = grind arith

-- two columns neither of which is reported as no guard column
pub both_sure : (is : Column → Bool) (b : ℕ) (g h : Column) → Fine (wrong_guards is b g h) → (is g ≡ true) × (is h ≡ true)
both_sure is b g h f = grind (arith, not_false, if_so_fine, fine_left, fine_right)

pub guards_fine : (is : Column → Bool) (b : ℕ) (g h : Column) → is g ≡ true → is h ≡ true → Fine (wrong_guards is b g h)
guards_fine is b g h e f = ap₂ (λ (p q : Bool). faultless (if_so (not p) (guard b) ++ if_so (not q) (guard (b + 1)))) e f
