-- The longest runs of values, with columns of one value more.
use Rattle.std.proofs.Common.{◌≡◌, ℕ, zero, suc, ◌+◌, Bool, true, false, ◌==◌, List, [], ◌∷◌, ◌++◌, replicate, refl, sym, ap, ◌∙◌, append_assoc, append-nil, arith, eq-eqb}
use Rattle.std.proofs.lemmas.Bool.{eqb-true}
use Rattle.island_pack.specs.Periods.{ControlRun, values_of}
use Rattle.island_pack.specs.Runs.{joined, join, longest}

-- The values are as they were.

joined_values : (p : Bool) (v : ℕ) (r : ControlRun) (rs : List ControlRun) → (v == r.value) ≡ p → values_of (joined p v r rs) ≡ v ∷ values_of (r ∷ rs)
unfolding values_of
joined_values p v r rs h = grind (arith, eqb-true)

pub join_values : (v : ℕ) (rs : List ControlRun) → values_of (join v rs) ≡ v ∷ values_of rs
unfolding values_of
join_values v rs = grind (arith, joined_values)

pub values_longest : (vs : List ℕ) → values_of (longest vs) ≡ vs
unfolding longest values_of
values_longest [] = refl
values_longest (v ∷ vs) = join_values v (longest vs) ∙ ap (λ (xs : List ℕ). v ∷ xs) (values_longest vs)

-- One column more after runs.

abbrev one : ℕ → ControlRun
one v = record { value = v; count = 1 }

abbrev longer : ControlRun → ControlRun
longer r = record { value = r.value; count = suc r.count }

abbrev after : Bool → ℕ → ControlRun → List ControlRun
after true v r = longer r ∷ []
after false v r = r ∷ one v ∷ []

abbrev more : ℕ → List ControlRun → List ControlRun
more v [] = one v ∷ []
more v (r ∷ []) = after (v == r.value) v r
more v (r ∷ (q ∷ rs)) = r ∷ more v (q ∷ rs)

-- a value before and a value after do not see one another, but where they are alone

two : (p q : Bool) (u v : ℕ) → (u == v) ≡ p → (v == u) ≡ q → joined p u (one v) [] ≡ after q v (one u)
two p q u v h k = grind (arith, eqb-true, eq-eqb)

beside_one : (p q : Bool) (u v : ℕ) (r : ControlRun) → (u == r.value) ≡ p → (v == r.value) ≡ q → join u (after q v r) ≡ more v (joined p u r [])
beside_one p q u v r h k = grind arith

beside_two : (p : Bool) (u v : ℕ) (r q : ControlRun) (rs : List ControlRun) → joined p u r (more v (q ∷ rs)) ≡ more v (joined p u r (q ∷ rs))
beside_two p u v r q rs = grind arith

both_ends : (u v : ℕ) (rs : List ControlRun) → join u (more v rs) ≡ more v (join u rs)
both_ends u v rs = grind (arith, two, beside_one, beside_two)

longest_after : (vs : List ℕ) (v : ℕ) → longest (vs ++ v ∷ []) ≡ more v (longest vs)
unfolding longest
longest_after [] v = refl
longest_after (w ∷ vs) v = ap (join w) (longest_after vs v) ∙ both_ends w v (longest vs)

more_at_end : (v : ℕ) (rs : List ControlRun) (r : ControlRun) → more v (rs ++ r ∷ []) ≡ rs ++ after (v == r.value) v r
more_at_end v [] r = refl
more_at_end v (q ∷ []) r = refl
more_at_end v (q ∷ (s ∷ rs)) r = ap (λ (xs : List ControlRun). q ∷ xs) (more_at_end v (s ∷ rs) r)

-- Columns of one value more.

-- the last run has that value
pub longest_grows : (n v : ℕ) (rs : List ControlRun) (r : ControlRun) (vs : List ℕ) → longest vs ≡ rs ++ r ∷ [] → v ≡ r.value → longest (vs ++ replicate n v) ≡ rs ++ record { value = r.value; count = r.count + n } ∷ []
longest_grows zero v rs r vs e same = grind (arith, append-nil)
longest_grows (suc n) v rs r vs e same =
    let d : suc r.count + n ≡ r.count + suc n = omega arith in
    ap longest (sym (append_assoc vs (v ∷ []) (replicate n v)))
    ∙ longest_grows n v rs (longer r) (vs ++ v ∷ []) (longest_after vs v ∙ ap (more v) e ∙ more_at_end v rs r ∙ ap (λ (b : Bool). rs ++ after b v r) (eq-eqb v r.value same)) same
    ∙ ap (λ (k : ℕ). rs ++ record { value = r.value; count = k } ∷ []) d

-- it has another
pub longest_turns : (n v : ℕ) (rs : List ControlRun) (r : ControlRun) (vs : List ℕ) → longest vs ≡ rs ++ r ∷ [] → (v == r.value) ≡ false → longest (vs ++ replicate (suc n) v) ≡ (rs ++ r ∷ []) ++ record { value = v; count = suc n } ∷ []
longest_turns n v rs r vs e other =
    let d : 1 + n ≡ suc n = omega arith in
    ap longest (sym (append_assoc vs (v ∷ []) (replicate n v)))
    ∙ longest_grows n v (rs ++ r ∷ []) (one v) (vs ++ v ∷ []) (longest_after vs v ∙ ap (more v) e ∙ more_at_end v rs r ∙ ap (λ (b : Bool). rs ++ after b v r) other ∙ sym (append_assoc rs (r ∷ []) (one v ∷ []))) refl
    ∙ ap (λ (k : ℕ). (rs ++ r ∷ []) ++ record { value = v; count = k } ∷ []) d

-- there is none
pub longest_begins : (n v : ℕ) → longest (replicate (suc n) v) ≡ record { value = v; count = suc n } ∷ []
unfolding longest
longest_begins n v =
    let d : 1 + n ≡ suc n = omega arith in
    longest_grows n v [] (one v) (v ∷ []) refl refl ∙ ap (λ (k : ℕ). record { value = v; count = k } ∷ []) d

some_joined : (p : Bool) (v : ℕ) (r : ControlRun) (rs : List ControlRun) (A : Type 0) → joined p v r rs ≡ [] → A
some_joined true v r rs A e = absurd cc
some_joined false v r rs A e = absurd cc

some_join : (v : ℕ) (rs : List ControlRun) (A : Type 0) → join v rs ≡ [] → A
some_join v [] A e = absurd cc
some_join v (r ∷ rs) A e = some_joined (v == r.value) v r rs A e

pub longest_none : (vs : List ℕ) → longest vs ≡ [] → vs ≡ []
unfolding longest
longest_none [] e = refl
longest_none (v ∷ vs) e = some_join v (longest vs) (v ∷ vs ≡ []) e
