-- Columns cut into stretches: joined they are the columns, and a control period with the columns after it is one of
-- them. What later crates cite of it.
use Rattle.std.proofs.Common.{◌≡◌, ℕ, suc, ◌<◌, ◌≤◌, Bool, true, false, List, [], ◌∷◌, ◌++◌, length, take, drop, refl, ap, ap₂, sym, ◌∙◌, subst, append_assoc, arith, lt-ltb, le-ltb}
use Rattle.std.specs.Prelude.{nat_lt, nat_le, cond}
use Rattle.std.proofs.lemmas.List.{append-nil, length_push, length-append, length-take-le, take-append-drop, take_all, take_at, drop_at}
use Rattle.std.proofs.lemmas.Bool.{leb-true, leb-false}
use Rattle.tmds_word.specs.Column.{Column}
use Rattle.terc4.specs.Columns.{is_control_column}
use Rattle.period_grammar.specs.Events.{Event, EventAt, at, all_at, column_reported, reported_before}
use Rattle.period_grammar.specs.Cut.{Stretch, stretch, before, stretches}
use Rattle.period_grammar.specs.Island.{begins_close, with_packet, split}
use Rattle.std.proofs.lemmas.List.Elements.{filter-append}
use Rattle.period_grammar.specs.Heard.{heard_so_far}
use Rattle.period_grammar.proofs.Step.{heard_push}
use Rattle.period_grammar.proofs.Hearings.{start_of, starts}
use Rattle.period_grammar.proofs.Islands.{holds_is, split_one}

-- Columns that are all control columns, or all none.
abbrev pub AllAre : Bool → List Column → Type 0
AllAre p [] = Unit {0}
AllAre p (c ∷ cs) = (is_control_column c ≡ p) × AllAre p cs

-- Joined, the stretches are the columns.
abbrev pub joined : List Stretch → List Column
joined [] = []
joined (stretch control gap ∷ xs) = control ++ (gap ++ joined xs)

joined_before : (p : Bool) (c : Column) (xs : List Stretch) → joined (before p c xs) ≡ c ∷ joined xs
joined_before p c xs = grind arith

pub joined_stretches : (cs : List Column) → joined (stretches cs) ≡ cs
unfolding stretches
joined_stretches [] = refl
joined_stretches (c ∷ cs) = joined_before (is_control_column c) c (stretches cs) ∙ ap (λ xs. c ∷ xs) (joined_stretches cs)

-- Each stretch is control columns and then columns that are none; none is empty, only the first may lack the former and only the last the latter.
-- So the control columns of each, and the others, are as many as can be.
abbrev pub IsFull : Stretch → Type 0
IsFull (stretch control gap) = AllAre true control × AllAre false gap

abbrev pub Meets : Stretch → List Stretch → Type 0
Meets (stretch [] []) xs = ⊥
Meets (stretch (k ∷ control) []) [] = Unit {0}
Meets (stretch (k ∷ control) []) (x ∷ xs) = ⊥
Meets (stretch control (g ∷ gap)) [] = Unit {0}
Meets (stretch control (g ∷ gap)) (stretch [] after ∷ xs) = ⊥
Meets (stretch control (g ∷ gap)) (stretch (k ∷ first) after ∷ xs) = Unit {0}

abbrev pub IsCut : List Stretch → Type 0
IsCut [] = Unit {0}
IsCut (x ∷ xs) = IsFull x × Meets x xs × IsCut xs

cut_before : (p : Bool) (c : Column) (xs : List Stretch) → is_control_column c ≡ p → IsCut xs → IsCut (before p c xs)
cut_before p c xs h k = grind arith

pub cut_stretches : (cs : List Column) → IsCut (stretches cs)
unfolding stretches
cut_stretches [] = tt
cut_stretches (c ∷ cs) = cut_before (is_control_column c) c (stretches cs) refl (cut_stretches cs)

-- Packets of 32 columns before others.
pub split_packet : (n : ℕ) (p rest : List Column) → length p ≡ 32 → begins_close p ≡ false → split (suc n) (p ++ rest) ≡ with_packet p (split n rest)
split_packet n [] rest e f = absurd (omega arith)
split_packet n (c ∷ []) rest e f = absurd (omega arith)
split_packet n (c ∷ (d ∷ p)) rest e f =
    let many : 32 ≤ length ((c ∷ (d ∷ p)) ++ rest) = omega (arith, length-append (c ∷ (d ∷ p)) rest) in
    split_one n ((c ∷ (d ∷ p)) ++ rest) (holds_is ((c ∷ (d ∷ p)) ++ rest) f many)
    ∙ ap₂ (λ a b. with_packet a (split n b)) (take_at (c ∷ (d ∷ p)) rest 32 e) (drop_at (c ∷ (d ∷ p)) rest 32 e)

-- What is reported up to a column.
abbrev pub AllBelow : ℕ → List EventAt → Type 0
AllBelow n [] = Unit {0}
AllBelow n (t ∷ ts) = (column_reported t < n) × AllBelow n ts

below_append : (n : ℕ) (ts us : List EventAt) → AllBelow n ts → AllBelow n us → AllBelow n (ts ++ us)
below_append n [] us h k = k
below_append n (t ∷ ts) us h k = (h.0, below_append n ts us h.1 k)

below_more : (n m : ℕ) (ts : List EventAt) → n ≤ m → AllBelow n ts → AllBelow m ts
below_more n m [] le h = tt
below_more n m (t ∷ ts) le h = (omega (arith, h.0), below_more n m ts le h.1)

below_at : (n m : ℕ) (ts : List Event) → n < m → AllBelow m (all_at n ts)
below_at n m [] lt = tt
below_at n m (t ∷ ts) lt = (lt, below_at n m ts lt)

-- Each event is reported at a column that was heard.
below_push : (cs : List Column) (c : Column) → AllBelow (length cs) (heard_so_far cs) → AllBelow (length (cs ++ c ∷ [])) (heard_so_far (cs ++ c ∷ []))
below_push cs c h =
    let more : length cs < length (cs ++ c ∷ []) = omega (arith, length_push cs c) in
    let le : length cs ≤ length (cs ++ c ∷ []) = omega arith in
    subst (λ (ts : List EventAt). AllBelow (length (cs ++ c ∷ [])) ts) (sym (heard_push cs c (start_of cs) (starts cs)))
    (below_append _ _ _ (below_more _ _ _ le h) (below_at _ _ _ more))

below_from : (xs ys : List Column) → AllBelow (length xs) (heard_so_far xs) → AllBelow (length (xs ++ ys)) (heard_so_far (xs ++ ys))
below_from xs [] h = subst (λ (cs : List Column). AllBelow (length cs) (heard_so_far cs)) (sym (append-nil xs)) h
below_from xs (y ∷ ys) h = subst (λ (cs : List Column). AllBelow (length cs) (heard_so_far cs)) (append_assoc xs (y ∷ []) ys) (below_from (xs ++ y ∷ []) ys (below_push xs y h))

pub reported_below : (cs : List Column) → AllBelow (length cs) (heard_so_far cs)
unfolding heard_so_far stretches
reported_below cs = below_from [] cs tt

all_before : (n : ℕ) (ts : List EventAt) → AllBelow n ts → reported_before n ts ≡ ts
all_before n [] h = refl
all_before n (t ∷ ts) h = ap₂ (λ p us. cond p (t ∷ us) us) (lt-ltb (column_reported t) n h.0) (all_before n ts h.1)

none_before : (n m : ℕ) (ts : List Event) → n ≤ m → reported_before n (all_at m ts) ≡ []
none_before n m [] le = refl
none_before n m (t ∷ ts) le = ap (λ p. cond p (at m t ∷ reported_before n (all_at m ts)) (reported_before n (all_at m ts))) (le-ltb m n le) ∙ none_before n m ts le

before_more : (n : ℕ) (xs ys : List Column) → n ≤ length xs → reported_before n (heard_so_far (xs ++ ys)) ≡ reported_before n (heard_so_far xs)
before_more n xs [] le = ap (λ cs. reported_before n (heard_so_far cs)) (append-nil xs)
before_more n xs (y ∷ ys) le =
    ap (λ cs. reported_before n (heard_so_far cs)) (sym (append_assoc xs (y ∷ []) ys))
    ∙ before_more n (xs ++ y ∷ []) ys (omega (arith, length_push xs y))
    ∙ ap (reported_before n) (heard_push xs y (start_of xs) (starts xs))
    ∙ filter-append (λ t. nat_lt (column_reported t) n) (heard_so_far xs) _
    ∙ ap (λ us. reported_before n (heard_so_far xs) ++ us) (none_before n (length xs) _ le)
    ∙ append-nil (reported_before n (heard_so_far xs))

reported_before_by : (p : Bool) (n : ℕ) (cs : List Column) → nat_le n (length cs) ≡ p → reported_before n (heard_so_far cs) ≡ heard_so_far (take n cs)
reported_before_by true n cs e =
    let long : length (take n cs) ≡ n = length-take-le n cs (leb-true n (length cs) e) in
    ap (λ ds. reported_before n (heard_so_far ds)) (sym (take-append-drop n cs))
    ∙ before_more n (take n cs) (drop n cs) (omega (arith, long))
    ∙ all_before n (heard_so_far (take n cs)) (below_more _ n _ (omega (arith, long)) (reported_below (take n cs)))
reported_before_by false n cs e = grind (arith, leb-false, all_before, below_more, reported_below, take_all)

-- What is reported of a list at columns before n is what is reported of its first n columns so far.
pub reported_before_is : (n : ℕ) (cs : List Column) → reported_before n (heard_so_far cs) ≡ heard_so_far (take n cs)
reported_before_is n cs = reported_before_by (nat_le n (length cs)) n cs refl
