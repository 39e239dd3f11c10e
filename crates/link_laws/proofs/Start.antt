-- The account from twelve columns before the end of a control period on.
use Rattle.std.proofs.Common.{◌≡◌, ℕ, suc, zero, ◌+◌, ◌-◌, ◌<◌, ◌≤◌, List, [], ◌∷◌, ◌++◌, length, take, drop, refl, ap, sym, ◌∙◌, subst, arith, inl, inr, length-drop}
use Rattle.std.proofs.lemmas.List.{drop-append-le, drop-drop}
use Rattle.std.proofs.lemmas.Bool.{le-ltb, lt-ltb}
use Rattle.tmds_word.specs.Column.{Column}
use Rattle.tmds_word.proofs.Below.{and-right}
use Rattle.island_pack.specs.Kinds.{EndsAt}
use Rattle.island_pack.specs.Periods.{ControlRun, Period, control, values_of, period_columns}
use Rattle.link_laws.proofs.Cutting.{AllControl, hear}
use Rattle.link_laws.proofs.Rows.{control_columns}
use Rattle.link_laws.proofs.Conformed.{IsInner, Follows, ends, goes_on}
use Rattle.link_laws.proofs.Between.{take_seam, drop_seam}
use Rattle.link_laws.proofs.EndPlaces.{kinds_from, ends_first, ends_only, control_kinds, ends_late, kinds_size}
use Rattle.period_grammar.specs.Heard.{heard, heard_so_far}
use Rattle.link_laws.specs.Account.{control_row, account_from, account_at, account}
use Rattle.link_laws.proofs.Joining.{controls, Arrives, nothing, more, IsSized, sized, IsTail, is_tail, joined}

pub drop_control : (k : ℕ) (cs : List Column) → AllControl cs → AllControl (drop k cs)
drop_control zero cs h = h
drop_control (suc k) [] h = refl
drop_control (suc k) (c ∷ cs) h = drop_control k cs (and-right _ _ h)

account_here : (x : Period) (xs : List Period) (own reception ss rs : List Column) (a m : ℕ) → IsSized x own reception → a < period_columns x
    → account (x ∷ xs) (own ++ ss) (reception ++ rs) a m
    ≡ control_row 0 (take m (drop a reception)) ++ account_from (period_columns x - a) (m - (period_columns x - a)) (drop a reception) xs ss rs
unfolding account account_at
account_here x xs own reception ss rs a m h lt = grind (arith, lt-ltb, take_seam, drop_seam)

account_past : (x : Period) (xs : List Period) (own reception ss rs : List Column) (a m : ℕ) → IsSized x own reception → period_columns x ≤ a
    → account (x ∷ xs) (own ++ ss) (reception ++ rs) a m ≡ account xs ss rs (a - period_columns x) m
unfolding account
account_past x xs own reception ss rs a m h le = grind (arith, le-ltb, drop_seam)

pub drop_over : (xs ys : List Column) (n k : ℕ) → length xs ≡ n → drop (n + k) (xs ++ ys) ≡ drop k ys
drop_over xs ys n k e = sym (drop-drop k n (xs ++ ys)) ∙ ap (drop k) (drop_seam xs ys n e)

-- the start lies in these control columns
here : (runs : List ControlRun) (tail : List Period) → IsTail tail → (own cs ss rs : List Column) → IsSized (control runs) own cs → AllControl cs → Arrives tail ss rs → (a m : ℕ) → a + 12 ≡ length cs
    → heard (take m (drop a (cs ++ rs))) ≡ account (control runs ∷ tail) (own ++ ss) (cs ++ rs) a m
unfolding heard heard_so_far
here runs tail f own cs ss rs size all arrives a m e =
    let d = length-drop a cs in
    let q = size.received in
    let n : 0 + length (drop a cs) ≡ period_columns (control runs) - a = omega arith in
    grind (arith, hear, drop-append-le, joined, drop_control, account_here)

pub control_size : (runs : List ControlRun) → period_columns (control runs) ≡ length (values_of runs)
unfolding period_columns
control_size runs = refl

-- wherever the start lies
pub from_end : (vs : List ℕ) (tail : List Period) → Follows vs tail → (runs : List ControlRun) → vs ≡ values_of runs → (cs ss rs : List Column) → length cs ≡ length (values_of runs) → AllControl cs → Arrives tail ss rs
    → (a m : ℕ) → EndsAt (kinds_from (values_of runs) tail) (a + 11)
    → heard (take m (drop a (cs ++ rs))) ≡ account (control runs ∷ tail) (control_columns (values_of runs) ++ ss) (cs ++ rs) a m
from_end _ _ (ends vs h) runs same cs _ _ n all nothing a m e =
    let last = ends_only (values_of runs) (a + 11) e in
    here runs [] Rattle.link_laws.proofs.Joining.ends (control_columns (values_of runs)) cs [] [] (sized _ _ _ (controls runs cs n all)) all nothing a m (omega arith)
from_end _ _ (goes_on vs x next rest h v f) runs same cs _ _ n all (more _ _ own reception _ _ hx (more _ _ _ _ ss rs (controls _ ds dn dall) b)) a m e = elim (ends_first (values_of runs) x (control next ∷ rest) (a + 11) (subst (λ us. IsInner us x) same v) e) [
  | inl first ↦
      here runs (x ∷ (control next ∷ rest)) (is_tail vs (x ∷ (control next ∷ rest)) (goes_on vs x next rest h v f)) (control_columns (values_of runs)) cs _ _ (sized _ _ _ (controls runs cs n all)) all
      (more x (control next ∷ rest) own reception _ _ hx (more (control next) rest _ _ ss rs (controls next ds dn dall) b)) a m (omega arith)
  | inr later ↦
      let w = length (values_of runs) in
      let cv = control_columns (values_of runs) in
      let nv = control_columns (values_of next) in
      let ends_next = subst (λ ks. EndsAt ks later.at) (control_kinds next rest) later.ends in
      let late = ends_late (values_of next) rest f later.at ends_next in
      let mid = kinds_size x in
      let place = later.place in
      let c = later.at - 11 in
      let i : later.at ≡ c + 11 = omega arith in
      let s = control_size runs in
      let k : a - period_columns (control runs) - period_columns x ≡ c = omega arith in
      let l : a ≡ w + (period_columns x + c) = omega arith in
      let z = sized x own reception hx in
      let q = z.received in
      ap (λ (y : ℕ). heard (take m (drop y (cs ++ (reception ++ (ds ++ rs)))))) l
      ∙ ap (λ (es : List Column). heard (take m es)) (drop_over cs (reception ++ (ds ++ rs)) w (period_columns x + c) n ∙ drop_over reception (ds ++ rs) (period_columns x) c q)
      ∙ from_end (values_of next) rest f next refl ds ss rs dn dall b c m (subst (λ y. EndsAt (kinds_from (values_of next) rest) y) i ends_next)
      ∙ ap (λ y. account (control next ∷ rest) (nv ++ ss) (ds ++ rs) y m) (sym k)
      ∙ sym (account_past (control runs) (x ∷ (control next ∷ rest)) cv cs (own ++ (nv ++ ss)) (reception ++ (ds ++ rs)) a m (sized (control runs) cv cs (controls runs cs n all)) (omega arith)
      ∙ account_past x (control next ∷ rest) own reception (nv ++ ss) (ds ++ rs) (a - period_columns (control runs)) m z (omega arith))
]
