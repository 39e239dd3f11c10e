-- A check is clean where it counts no fault, and faulty where it counts one.
use Rattle.std.proofs.lemmas.Grind.{common_steps}
use Rattle.std.proofs.Common.{◌≡◌, ℕ, Bool, true, false, not, List, [], ◌∷◌, ◌++◌, refl, ap, arith}
use Rattle.std.specs.Prelude.{count_by, codes}
use Rattle.std.proofs.lemmas.List.Sums.{sum_by-cons}
use Rattle.tmds_word.specs.Column.{Column}
use Rattle.tmds_word.proofs.Below.{and-left, and-right}
use Rattle.period_grammar.specs.Events.{Event}
use Rattle.period_grammar.specs.Heard.{heard}
use Rattle.period_grammar.specs.Exact.{is_fault_event, faultless}
use Rattle.link_laws.proofs.Rows.{and_both}
use Rattle.link_laws.proofs.exact.Law.{check_is_exact}
use Rattle.listing_writer.specs.Texts.{fault_lines}
use Rattle.listing_writer.specs.Checks.{check_lines, verdict_line, check_text}
use Rattle.listing_laws.specs.Exact.{EndsFaulty, CountIsExact, VerdictIsExact}

-- The count.

none_by : (q : Bool) (t : Event) (ts : List Event) → is_fault_event t ≡ q → count_by is_fault_event (t ∷ ts) ≡ 0 → (count_by is_fault_event ts ≡ 0 → faultless ts ≡ true) → faultless (t ∷ ts) ≡ true
none_by q t ts h k l = grind (arith, common_steps, sum_by-cons, and_both)

none_counted : (ts : List Event) → count_by is_fault_event ts ≡ 0 → faultless ts ≡ true
none_counted [] h = refl
none_counted (t ∷ ts) h = none_by (is_fault_event t) t ts refl h (λ e. none_counted ts e)

not_true : (p : Bool) → not p ≡ true → p ≡ false
not_true p h = grind arith

counts_none : (ts : List Event) → faultless ts ≡ true → count_by is_fault_event ts ≡ 0
counts_none [] h = refl
counts_none (t ∷ ts) h = grind (arith, sum_by-cons, not_true, and-left, and-right, counts_none ts)

pub count_is_exact : CountIsExact
unfolding fault_lines
count_is_exact cs = (λ h. (check_is_exact cs).0 (none_counted (heard cs) h), λ f. counts_none (heard cs) ((check_is_exact cs).1 f))

-- The last line.

after_same : (xs ys zs : List ℕ) → xs ++ ys ≡ xs ++ zs → ys ≡ zs
after_same [] ys zs h = h
after_same (x ∷ xs) ys zs h = after_same xs ys zs cc

clean_line : (n : ℕ) → verdict_line n ≡ codes "clean\n" → n ≡ 0
clean_line n h = grind arith

faulty_line : (n : ℕ) → verdict_line n ≡ codes "faulty\n" → n ≡ 0 → ⊥
faulty_line n h k = grind arith

line_faulty : (n : ℕ) → (n ≡ 0 → ⊥) → verdict_line n ≡ codes "faulty\n"
line_faulty n h = grind arith

ends_faulty : (cs : List Column) → EndsFaulty cs → fault_lines (heard cs) ≡ 0 → ⊥
unfolding check_text
ends_faulty cs h = faulty_line (fault_lines (heard cs)) (after_same (check_lines (heard cs)) _ _ h)

faulty_ends : (cs : List Column) → (fault_lines (heard cs) ≡ 0 → ⊥) → EndsFaulty cs
unfolding check_text
faulty_ends cs h = ap (λ line. check_lines (heard cs) ++ line) (line_faulty (fault_lines (heard cs)) h)

pub verdict_is_exact : VerdictIsExact
unfolding check_text
verdict_is_exact cs = grind (arith, count_is_exact, ends_faulty, faulty_ends, clean_line, after_same)
