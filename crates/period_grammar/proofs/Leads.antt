-- The numbers kept of control columns, with one column more.
use Rattle.std.proofs.Common.{◌≡◌, ◌≢◌, ℕ, suc, zero, ◌+◌, ◌≤◌, Bool, true, false, not, cond, ◌==◌, ◌&&◌, List, [], ◌∷◌, ◌++◌, length, map, take, reverse, refl, ap, sym, ◌∙◌, arith}
use Rattle.std.specs.Prelude.{nat_le}
use Rattle.std.specs.List.{list_all, prefix_len}
use Rattle.std.proofs.lemmas.List.{length-map, length_push, length-reverse, map-append, reverse-append, take-map}
use Rattle.std.proofs.lemmas.Bool.{eqb-true, eq-eqb, ne_eqb}
use Rattle.std.proofs.Math.Bool.{and-false}
use Rattle.std.proofs.Math.Dec.{leb-zero, leb-suc-zero, leb-suc-suc}
use Rattle.tmds_word.specs.Column.{Column}
use Rattle.island_pack.specs.Periods.{ctl, has_preamble as announces}
use Rattle.period_grammar.specs.Column.{value_of}
use Rattle.period_grammar.specs.Events.{run}
use Rattle.period_grammar.specs.Cut.{Run, columns, runs}
use Rattle.period_grammar.specs.GoesOn.{is_whole, goes_on_run}
use Rattle.period_grammar.specs.Heard.{last_run, has_preamble}
use Rattle.period_grammar.specs.After.{change}
use Rattle.period_grammar.specs.ControlAfter.{kept_run, has_ctl, IsLast, IsControlAfter}
use Rattle.period_grammar.specs.Noted.{events, Lent}
use Rattle.period_grammar.specs.declared.event_queue.QueuedEvent.{QueuedEvent}
use Rattle.period_grammar.specs.declared.control.ControlState.{ControlState}
use Rattle.period_grammar.proofs.Push.{trail, after_runs, runs_push}
use Rattle.period_grammar.proofs.Step.{is_some, after_runs_some}

by_first : (q : Bool) (k n m : ℕ) (b : Bool) → (nat_le k n && b) ≡ nat_le k m → (nat_le (suc k) (suc n) && (q && b)) ≡ nat_le (suc k) (cond q (1 + m) 0)
by_first q k n m b h = grind (arith, leb-suc-suc, and-false, leb-suc-zero)

first_pass : (k : ℕ) (p : Column → Bool) (xs : List Column) → (nat_le k (length xs) && list_all p (take k xs)) ≡ nat_le k (prefix_len p xs)
first_pass zero p xs = ap (λ q. q && true) (leb-zero (length xs)) ∙ sym (leb-zero (prefix_len p xs))
first_pass (suc k) p [] = ap (λ q. q && true) (leb-suc-zero k) ∙ sym (leb-suc-zero k)
first_pass (suc k) p (x ∷ xs) = by_first (p x) k (length xs) (prefix_len p xs) (list_all p (take k xs)) (first_pass k p xs)

reverse-map : (cs : List Column) → map value_of (reverse cs) ≡ reverse (map value_of cs)
reverse-map [] = refl
reverse-map (c ∷ cs) = grind (arith, reverse-append (c ∷ []) cs, map-append value_of (reverse cs) (c ∷ []), reverse-append (value_of c ∷ []) (map value_of cs), reverse-map cs)

preamble_by : (bits : ℕ) (control : List Column) → has_preamble bits control ≡ nat_le 8 (prefix_len (has_ctl bits) (reverse control))
unfolding has_preamble announces
preamble_by bits control = grind (arith, length-map control value_of, length-reverse control, reverse-map control, take-map value_of 8 (reverse control), first_pass 8 (has_ctl bits) (reverse control))

-- columns that lead with other control bits than their first has do so nowhere
none_lead : (bits v : ℕ) (cs : List Column) → IsLast v cs → (ctl v == bits) ≡ false → prefix_len (has_ctl bits) cs ≡ 0
none_lead bits v cs h k = grind arith

lead_by : (p : Bool) (bits v : ℕ) (cs : List Column) → IsLast v cs → (ctl v == bits) ≡ p → nat_le 8 (prefix_len (has_ctl bits) cs) ≡ (p && nat_le 8 (prefix_len (has_ctl (ctl v)) cs))
lead_by p bits v cs h k = grind (arith, eqb-true, none_lead)

pub preamble_is : (bits : ℕ) (kept : ControlState) (control : List Column) → IsControlAfter kept control → has_preamble bits control ≡ ((ctl kept.value == bits) && nat_le 8 kept.ctl_run)
preamble_is bits kept control was =
    preamble_by bits control ∙ lead_by (ctl kept.value == bits) bits kept.value (reverse control) was.last refl
    ∙ ap (λ n. (ctl kept.value == bits) && nat_le 8 n) (sym was.ctl_run)

-- the last run
abbrev pub grow : Bool → ℕ → ℕ
grow true n = n + 1
grow false n = 1

last_run_more : (r : Run) (rs : List Run) → is_some rs ≡ true → last_run (r ∷ rs) ≡ last_run rs
last_run_more r rs h = grind arith

at_last : (p : Bool) (c : Column) (w : ℕ) (cs : List Column) (n : ℕ) → ((w == value_of c) ≡ p) → length cs ≡ n → last_run (trail p c w cs) ≡ run (value_of c) (grow p n) ∷ []
at_last p c w cs n h k = grind (arith, eqb-true, length_push)

same_run : (w m v n : ℕ) → run w m ∷ [] ≡ kept_run v n → (w ≡ v) × (m ≡ n)
same_run w m v n h = grind arith

-- what goes on with the last run, by its numbers
pub goes_run : (rs : List Run) (v n : ℕ) → last_run rs ≡ kept_run v n → (c : Column) → (not (n == 0) && is_whole v c) ≡ goes_on_run rs c
goes_run [] v zero e c = refl
goes_run [] v (suc n) e c = cc
goes_run (columns w cs ∷ []) v zero e c = cc
goes_run (columns w cs ∷ []) v (suc n) e c = grind (arith, ne_eqb, same_run)
goes_run (r ∷ (s ∷ rs)) v n e c = goes_run (s ∷ rs) v n e c

run_after : (c : Column) (rs : List Run) (v n : ℕ) → last_run rs ≡ kept_run v n → last_run (after_runs c rs) ≡ run (value_of c) (grow (v == value_of c) n) ∷ []
run_after c [] v n e = grind arith
run_after c (columns w cs ∷ []) v n e = grind (arith, same_run, at_last)
run_after c (r ∷ (s ∷ rs)) v n e =
    last_run_more r (after_runs c (s ∷ rs)) (after_runs_some c (s ∷ rs)) ∙ run_after c (s ∷ rs) v n (sym (last_run_more r (s ∷ rs) refl) ∙ e)

pub change_is : (u : ℕ) (rs : List Run) (v n : ℕ) → last_run rs ≡ kept_run v n → change u rs ≡ cond (v == u) [] (kept_run v n)
change_is u [] v n e = grind arith
change_is u (columns w cs ∷ []) v n e = grind (arith, same_run)
change_is u (r ∷ (s ∷ rs)) v n e = change_is u (s ∷ rs) v n (sym (last_run_more r (s ∷ rs) refl) ∙ e)

kept_some : (v n : ℕ) (p : Bool) → kept_run v (grow p n) ≡ run v (grow p n) ∷ []
kept_some v n p = grind arith

pub kept_push : (old new : ControlState) (control : List Column) (c : Column) → IsControlAfter old control → new.columns ≡ old.columns + 1 → new.value ≡ value_of c
    → new.run ≡ grow (old.value == value_of c) old.run → new.ctl_run ≡ grow (ctl old.value == ctl (value_of c)) old.ctl_run → IsControlAfter new (control ++ c ∷ [])
kept_push old new control c was n v r l = grind (arith, reverse-append, length_push, runs_push, run_after, kept_some, eq-eqb, eqb-true, none_lead)

pub no_change : (kept : ControlState) (control : List Column) (v : ℕ) → IsControlAfter kept control → kept.value ≡ v → [] ≡ change v (runs control)
no_change kept control v was same = sym (change_is v (runs control) kept.value kept.run was.run ∙ ap (λ p. cond p [] (kept_run kept.value kept.run)) (eq-eqb kept.value v same))

pub some_change : (kept : ControlState) (control : List Column) (v : ℕ) → IsControlAfter kept control → kept.value ≢ v → last_run (runs control) ≡ change v (runs control)
some_change kept control v was differ = was.run ∙ sym (change_is v (runs control) kept.value kept.run was.run ∙ ap (λ p. cond p [] (kept_run kept.value kept.run)) (ne_eqb kept.value v differ))

pub no_notes : (bytes : Lent) (ns : List QueuedEvent) → length ns ≤ 0 → events bytes ns ≡ []
no_notes bytes [] le = refl
no_notes bytes (n ∷ ns) le = absurd (omega arith)

-- what the code's tests say
pub run_on : (v u w n m : ℕ) → v ≡ u → u ≡ w → m ≡ n + 1 → m ≡ grow (v == w) n
run_on v u w n m e f g = g ∙ ap (λ p. grow p n) (sym (eq-eqb v w (e ∙ f)))

pub run_anew : (v u w n m : ℕ) → v ≢ u → u ≡ w → m ≡ 1 → m ≡ grow (v == w) n
run_anew v u w n m e f g = g ∙ ap (λ p. grow p n) (sym (ne_eqb v w (λ h. e (h ∙ sym f))))
