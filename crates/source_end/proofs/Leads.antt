-- How many columns at the end of a control period have given control bits, with one run more.
use Rattle.std.proofs.Common.{◌≡◌, ◌≢◌, ℕ, suc, zero, ◌+◌, ◌-◌, ◌^◌, ◌≤◌, ◌<◌, Bool, true, false, cond, ◌==◌, ◌&&◌, List, [], ◌∷◌, ◌++◌, length, take, reverse, min, refl, ap, sym, ◌∙◌, arith, append_assoc, append-nil, length-append}
use Rattle.std.specs.Prelude.{nat_le, replicate}
use Rattle.std.specs.List.{list_all, prefix_len}
use Rattle.std.proofs.lemmas.List.{reverse-append, length-reverse}
use Rattle.std.proofs.lemmas.Bool.{eq-eqb, ne_eqb}
use Rattle.std.proofs.Math.Bool.{and-false}
use Rattle.std.proofs.Math.Dec.{leb-zero, leb-suc-zero, leb-suc-suc}
use Rattle.island_pack.specs.Periods.{ControlRun, values_of, ctl, has_preamble, VIDEO_PREAMBLE, ISLAND_PREAMBLE}
use Rattle.source_end.specs.Kept.{capped, led_by}

first_pass : (k : ℕ) (p : ℕ → Bool) (xs : List ℕ) → (nat_le k (length xs) && list_all p (take k xs)) ≡ nat_le k (prefix_len p xs)
first_pass zero p xs = ap (λ q. q && true) (leb-zero (length xs)) ∙ sym (leb-zero (prefix_len p xs))
first_pass (suc k) p [] = ap (λ q. q && true) (leb-suc-zero k) ∙ sym (leb-suc-zero k)
first_pass (suc k) p (x ∷ xs) = grind (arith, leb-suc-suc, and-false, leb-suc-zero, first_pass k p xs)

pub preamble_is_led : (bits : ℕ) (runs : List ControlRun) → has_preamble bits (values_of runs) ≡ nat_le 8 (led_by bits runs)
unfolding has_preamble led_by
preamble_is_led bits runs =
    let p : ℕ → Bool = λ v. ctl v == bits in
    ap (λ n. nat_le 8 n && list_all p (take 8 (reverse (values_of runs)))) (sym (length-reverse (values_of runs))) ∙ first_pass 8 p (reverse (values_of runs))

-- One run more.
pub values_of-more : (runs : List ControlRun) (r : ControlRun) → values_of (runs ++ r ∷ []) ≡ values_of runs ++ replicate r.count r.value
unfolding values_of
values_of-more [] r = append-nil (replicate r.count r.value)
values_of-more (x ∷ runs) r = ap (λ vs. replicate x.count x.value ++ vs) (values_of-more runs r) ∙ sym (append_assoc (replicate x.count x.value) (values_of runs) (replicate r.count r.value))

length_replicate : (n v : ℕ) → length (replicate n v) ≡ n
length_replicate zero v = refl
length_replicate (suc n) v = ap (λ m. suc m) (length_replicate n v)

pub length-values_of-more : (runs : List ControlRun) (r : ControlRun) → length (values_of (runs ++ r ∷ [])) ≡ length (values_of runs) + r.count
length-values_of-more runs r =
    ap length (values_of-more runs r) ∙ length-append (values_of runs) (replicate r.count r.value) ∙ ap (λ n. length (values_of runs) + n) (length_replicate r.count r.value)

one_after : (n v : ℕ) → replicate n v ++ v ∷ [] ≡ v ∷ replicate n v
one_after zero v = refl
one_after (suc n) v = ap (λ xs. v ∷ xs) (one_after n v)

reverse_replicate : (n v : ℕ) → reverse (replicate n v) ≡ replicate n v
reverse_replicate zero v = refl
reverse_replicate (suc n) v = reverse-append (v ∷ []) (replicate n v) ∙ ap (λ xs. xs ++ v ∷ []) (reverse_replicate n v) ∙ one_after n v

reversed_more : (runs : List ControlRun) (r : ControlRun) → reverse (values_of (runs ++ r ∷ [])) ≡ replicate r.count r.value ++ reverse (values_of runs)
reversed_more runs r =
    ap reverse (values_of-more runs r) ∙ reverse-append (values_of runs) (replicate r.count r.value) ∙ ap (λ xs. xs ++ reverse (values_of runs)) (reverse_replicate r.count r.value)

passing : (p : ℕ → Bool) (n v : ℕ) (ys : List ℕ) → p v ≡ true → prefix_len p (replicate n v ++ ys) ≡ n + prefix_len p ys
passing p zero v ys e = omega arith
passing p (suc n) v ys e = ap (λ b. cond b (1 + prefix_len p (replicate n v ++ ys)) 0) e ∙ ap (λ m. 1 + m) (passing p n v ys e) ∙ omega arith

stopping : (p : ℕ → Bool) (n v : ℕ) (ys : List ℕ) → p v ≡ false → 0 < n → prefix_len p (replicate n v ++ ys) ≡ 0
stopping p n v ys h k = grind arith

pub led_on : (bits : ℕ) (runs : List ControlRun) (r : ControlRun) → ctl r.value ≡ bits → led_by bits (runs ++ r ∷ []) ≡ r.count + led_by bits runs
unfolding led_by
led_on bits runs r e =
    let p : ℕ → Bool = λ v. ctl v == bits in
    ap (prefix_len p) (reversed_more runs r) ∙ passing p r.count r.value (reverse (values_of runs)) (eq-eqb (ctl r.value) bits e)

pub led_anew : (bits : ℕ) (runs : List ControlRun) (r : ControlRun) → ctl r.value ≢ bits → 0 < r.count → led_by bits (runs ++ r ∷ []) ≡ 0
unfolding led_by
led_anew bits runs r e some =
    let p : ℕ → Bool = λ v. ctl v == bits in
    ap (prefix_len p) (reversed_more runs r) ∙ stopping p r.count r.value (reverse (values_of runs)) (ne_eqb (ctl r.value) bits e) some

pub led_same : (bits : ℕ) (runs : List ControlRun) (r : ControlRun) → r.count ≡ 0 → led_by bits (runs ++ r ∷ []) ≡ led_by bits runs
unfolding led_by
led_same bits runs r e =
    let p : ℕ → Bool = λ v. ctl v == bits in
    ap (prefix_len p) (reversed_more runs r ∙ ap (λ n. replicate n r.value ++ reverse (values_of runs)) e)

-- Counts that stand still at the greatest u32.
pub capped-more : (a c n : ℕ) → n ≡ capped a → min (n + c) (2 ^ 32 - 1) ≡ capped (a + c)
capped-more a c n e = omega arith

pub capped_eight : (n m : ℕ) → m ≡ capped n → nat_le 8 m ≡ nat_le 8 n
capped_eight n m e = grind (arith, e)

pub capped_twelve : (n m : ℕ) → m ≡ capped n → nat_le 12 m ≡ nat_le 12 n
capped_twelve n m e = grind (arith, e)

-- What the fields keep.
pub none_kept : (xs : List ControlRun) → xs ≡ [] → (0 ≡ capped (length (values_of xs))) × (0 ≡ capped (led_by VIDEO_PREAMBLE xs)) × (0 ≡ capped (led_by ISLAND_PREAMBLE xs))
unfolding values_of led_by
none_kept xs h = grind arith

pub columns_kept : (old new : List ControlRun) (r : ControlRun) (columns count : ℕ) → columns ≡ capped (length (values_of old)) → count ≡ r.count → new ≡ old ++ r ∷ [] → min (columns + count) (2 ^ 32 - 1) ≡ capped (length (values_of new))
columns_kept old new r columns count e same more =
    ap (λ n. min (columns + n) (2 ^ 32 - 1)) same ∙ capped-more (length (values_of old)) r.count columns e ∙ ap capped (sym (length-values_of-more old r)) ∙ ap (λ rs. capped (length (values_of rs))) (sym more)

-- What a count of columns at the end becomes with one run more.
pub led_kept : (bits : ℕ) (runs : List ControlRun) (r : ControlRun) (led count : ℕ) → led ≡ capped (led_by bits runs) → count ≡ r.count → ctl r.value ≡ bits → min (led + count) (2 ^ 32 - 1) ≡ capped (led_by bits (runs ++ r ∷ []))
led_kept bits runs r led count e same is =
    let sum : led_by bits runs + r.count ≡ r.count + led_by bits runs = omega arith in
    ap (λ n. min (led + n) (2 ^ 32 - 1)) same ∙ capped-more (led_by bits runs) r.count led e ∙ ap capped (sum ∙ sym (led_on bits runs r is))

pub led_lost : (bits : ℕ) (runs : List ControlRun) (r : ControlRun) (count : ℕ) → count ≡ r.count → ctl r.value ≢ bits → 0 < count → 0 ≡ capped (led_by bits (runs ++ r ∷ []))
led_lost bits runs r count same other some =
    let some' : 0 < r.count = omega arith in
    ap capped (sym (led_anew bits runs r other some'))

pub led_stays : (bits : ℕ) (runs : List ControlRun) (r : ControlRun) (led count : ℕ) → led ≡ capped (led_by bits runs) → count ≡ r.count → count ≤ 0 → led ≡ capped (led_by bits (runs ++ r ∷ []))
led_stays bits runs r led count e same none =
    let none' : r.count ≡ 0 = omega arith in
    e ∙ ap capped (sym (led_same bits runs r none'))
