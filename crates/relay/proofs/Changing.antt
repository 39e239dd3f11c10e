-- Control columns that are settled run by run.
use Rattle.std.proofs.Common.{◌≡◌, ℕ, zero, suc, ◌+◌, ◌-◌, ◌<◌, min, Bool, true, false, ◌==◌, List, [], ◌∷◌, ◌++◌, length, map, take, drop, replicate, get_or, refl, ap, ap₂, sym, ◌∙◌, arith}
use Rattle.std.specs.Prelude.{reverse, Some, None}
use Rattle.std.specs.List.{slice_get}
use Rattle.std.proofs.lemmas.Bool.{eqb-true}
use Rattle.std.proofs.lemmas.List.{append_assoc, append-nil, map-append, length-append, length-drop, length-take-le, length-replicate, length-reverse, reverse-append, reverse-reverse, take-append-drop, take_at, drop_at}
use Rattle.island_pack.specs.Periods.{ControlRun, values_of}
use Rattle.island_pack.specs.Runs.{joined, join, longest}
use Rattle.relay.specs.Relayed.{with_ctl, announcing, filled, lengthened}
use Rattle.relay.specs.Changed.{changed_from, some_changed, AnnouncedFrom, ChangedNone}

zero_less : (m : ℕ) → m - 0 ≡ m
zero_less m = omega arith

pub some_again : (bits k v n : ℕ) → changed_from bits k (replicate n v) ≡ some_changed bits k v n
unfolding changed_from
some_again bits k v zero = let e : min 0 k ≡ 0 = omega arith in ap (λ m. replicate m v ++ replicate (0 - m) (with_ctl bits v)) (sym e)
some_again bits zero v (suc n) = grind (arith, zero_less, some_again bits zero v n)
some_again bits (suc k) v (suc n) =
    let a : min (suc n) (suc k) ≡ suc (min n k) = omega arith in
    grind (arith, some_again bits k v n)

-- columns of one value more
pub changed_more : (bits k : ℕ) (us : List ℕ) (v n : ℕ) → changed_from bits k (us ++ replicate n v) ≡ changed_from bits k us ++ some_changed bits (k - length us) v n
unfolding changed_from
changed_more bits k [] v n = let e : k ≡ k - 0 = omega arith in some_again bits k v n ∙ ap (λ m. some_changed bits m v n) e
changed_more bits zero (u ∷ us) v n = grind (arith, changed_more bits zero us v n)
changed_more bits (suc k) (u ∷ us) v n = grind (arith, changed_more bits k us v n)

pub changed_both : (bits k : ℕ) (us ws : List ℕ) → changed_from bits k (us ++ ws) ≡ changed_from bits k us ++ changed_from bits (k - length us) ws
unfolding changed_from
changed_both bits k [] ws = ap (λ n. changed_from bits n ws) (sym (zero_less k))
changed_both bits zero (u ∷ us) ws = grind (arith, changed_both bits zero us ws)
changed_both bits (suc k) (u ∷ us) ws = grind (arith, changed_both bits k us ws)

-- Preambles.

changed_all : (bits : ℕ) (vs : List ℕ) → changed_from bits 0 vs ≡ map (with_ctl bits) vs
unfolding changed_from
changed_all bits [] = refl
changed_all bits (v ∷ vs) = ap (λ us. with_ctl bits v ∷ us) (changed_all bits vs)

changed_after : (bits : ℕ) (xs ys : List ℕ) → changed_from bits (length xs) (xs ++ ys) ≡ xs ++ map (with_ctl bits) ys
unfolding changed_from
changed_after bits [] ys = changed_all bits ys
changed_after bits (x ∷ xs) ys = ap (λ us. x ∷ us) (changed_after bits xs ys)

map-reverse : (f : ℕ → ℕ) (xs : List ℕ) → map f (reverse xs) ≡ reverse (map f xs)
map-reverse f [] = refl
map-reverse f (x ∷ xs) =
    ap (map f) (reverse-append (x ∷ []) xs) ∙ map-append f (reverse xs) (x ∷ []) ∙ ap (λ us. us ++ f x ∷ []) (map-reverse f xs) ∙ sym (reverse-append (f x ∷ []) (map f xs))

-- the last eight values after others
last_eight : (bits : ℕ) (xs ys : List ℕ) → length ys ≡ 8 → announcing bits (xs ++ ys) ≡ xs ++ map (with_ctl bits) ys
unfolding announcing
last_eight bits xs ys e =
    let f = with_ctl bits in
    let n : length (reverse ys) ≡ 8 = length-reverse ys ∙ e in
    ap (λ r. reverse (map f (take 8 r) ++ drop 8 r)) (reverse-append xs ys)
    ∙ ap₂ (λ (us vs : List ℕ). reverse (map f us ++ vs)) (take_at (reverse ys) (reverse xs) 8 n) (drop_at (reverse ys) (reverse xs) 8 n)
    ∙ ap (λ us. reverse (us ++ reverse xs)) (map-reverse f ys)
    ∙ reverse-append (reverse (map f ys)) (reverse xs)
    ∙ ap₂ (λ (us vs : List ℕ). us ++ vs) (reverse-reverse xs) (reverse-reverse (map f ys))

pub announced_from : AnnouncedFrom
announced_from bits vs long =
    let k = length vs - 8 in
    let xs = take k vs in
    let ys = drop k vs in
    let n : length xs ≡ k = length-take-le k vs (omega arith) in
    let d = length-drop k vs in
    let same = take-append-drop k vs in
    let m : length ys ≡ 8 = omega arith in
    ap (announcing bits) (sym same) ∙ last_eight bits xs ys m ∙ sym (changed_after bits xs ys)
    ∙ ap₂ (λ (i : ℕ) (us : List ℕ). changed_from bits i us) n same

pub changed_none : ChangedNone
unfolding changed_from
changed_none bits [] = refl
changed_none bits (v ∷ vs) = ap (λ us. v ∷ us) (changed_none bits vs)

-- Runs.

pub values-append : (rs ss : List ControlRun) → values_of (rs ++ ss) ≡ values_of rs ++ values_of ss
unfolding values_of
values-append [] ss = refl
values-append (r ∷ rs) ss = ap (λ us. replicate r.count r.value ++ us) (values-append rs ss) ∙ sym (append_assoc (replicate r.count r.value) (values_of rs) (values_of ss))

one_run : (r : ControlRun) → values_of (r ∷ []) ≡ replicate r.count r.value
unfolding values_of
one_run r = append-nil (replicate r.count r.value)

pub values_more : (rs : List ControlRun) (r : ControlRun) → values_of (rs ++ r ∷ []) ≡ values_of rs ++ replicate r.count r.value
values_more rs r = values-append rs (r ∷ []) ∙ ap (λ us. values_of rs ++ us) (one_run r)

same_some : (x y : ControlRun) → Some x ≡ Some y → x ≡ y
same_some x y e = cc

pub left_more : (k left now : ℕ) (us : List ℕ) (v n : ℕ) → left ≡ k - length us → now ≡ left - n → now ≡ k - length (us ++ replicate n v)
left_more k left now us v n e d = let a = length-append us (replicate n v) in let b = length-replicate n v in omega arith

next_taken : (rs : List ControlRun) (i : ℕ) (r d : ControlRun) → i < length rs → r ≡ get_or rs i d → take (i + 1) rs ≡ take i rs ++ r ∷ []
next_taken [] i r d lt e = absurd (omega (arith, lt))
next_taken (x ∷ rs) zero r d lt e = ap (λ q. q ∷ []) (sym e)
next_taken (x ∷ rs) (suc i) r d lt e = let a : suc i + 1 ≡ suc (i + 1) = omega arith in ap (λ n. take n (x ∷ rs)) a ∙ ap (λ qs. x ∷ qs) (next_taken rs i r d (omega (arith, lt)) e)

-- the values of one run more of a list
pub values_next : (us : List ℕ) (rs : List ControlRun) (i : ℕ) (r d : ControlRun) → i < length rs → r ≡ get_or rs i d → us ++ values_of (take (i + 1) rs) ≡ (us ++ values_of (take i rs)) ++ replicate r.count r.value
values_next us rs i r d lt e =
    ap (λ (xs : List ControlRun). us ++ values_of xs) (next_taken rs i r d lt e) ∙ ap (λ xs. us ++ xs) (values_more (take i rs) r) ∙ sym (append_assoc us (values_of (take i rs)) (replicate r.count r.value))

-- The first value of longest runs.

joined_first : (q : Bool) (v : ℕ) (r : ControlRun) (rs : List ControlRun) (x : ControlRun) → (q ≡ true → v ≡ r.value) → slice_get (joined q v r rs) 0 ≡ Some x → v ≡ x.value
joined_first true v r rs x f e = f refl ∙ ap (λ (y : ControlRun). y.value) (same_some (record { value = r.value; count = suc r.count }) x e)
joined_first false v r rs x f e = ap (λ (y : ControlRun). y.value) (same_some (record { value = v; count = 1 }) x e)

first_joined : (v : ℕ) (rs : List ControlRun) (x : ControlRun) → slice_get (join v rs) 0 ≡ Some x → v ≡ x.value
first_joined v [] x e = ap (λ (y : ControlRun). y.value) (same_some (record { value = v; count = 1 }) x e)
first_joined v (r ∷ rs) x e = joined_first (v == r.value) v r rs x (λ q. eqb-true v r.value q) e

pub first_longest : (vs : List ℕ) (x : ControlRun) → slice_get (longest vs) 0 ≡ Some x → lengthened (filled vs) ≡ replicate (12 - length vs) x.value ++ vs
unfolding longest
first_longest [] x e = absurd cc
first_longest (v ∷ vs) x e = ap (λ w. replicate (12 - length (v ∷ vs)) w ++ (v ∷ vs)) (first_joined v (longest vs) x e)

some_joined : (q : Bool) (v : ℕ) (r : ControlRun) (rs : List ControlRun) → slice_get (joined q v r rs) 0 ≡ None → ⊥
some_joined true v r rs e = absurd cc
some_joined false v r rs e = absurd cc

no_joined : (v : ℕ) (rs : List ControlRun) → slice_get (join v rs) 0 ≡ None → ⊥
no_joined v [] e = absurd cc
no_joined v (r ∷ rs) e = some_joined (v == r.value) v r rs e

pub first_longest_none : (vs : List ℕ) → slice_get (longest vs) 0 ≡ None → lengthened (filled vs) ≡ replicate (12 - length vs) 0 ++ vs
unfolding longest
first_longest_none [] e = refl
first_longest_none (v ∷ vs) e = absurd (no_joined v (longest vs) e)
