-- Parts that are gathered one after another.
use Rattle.std.proofs.Common.{◌≡◌, ℕ, zero, suc, ◌+◌, ◌-◌, ◌^◌, ◌≤◌, ◌<◌, min, true, List, [], ◌∷◌, ◌++◌, length, map, replicate, Option, Some, None, Result, refl, sym, ap, ap₂, ◌∙◌, append_assoc, append-nil, arith}
use Rattle.std.specs.Prelude.{OnOk}
use Rattle.std.proofs.lemmas.Bool.{ne_eqb}
use Rattle.std.proofs.lemmas.List.{map-append}
use Rattle.island_pack.specs.Periods.{ControlRun, DataIsland, Period, control, video, island, values_of}
use Rattle.island_pack.specs.Runs.{join, longest}
use Rattle.island_pack.proofs.Runs.{values_longest, longest_grows, longest_turns, longest_begins, longest_none}
use Rattle.source_end.specs.declared.item.Item.{Item}
use Rattle.source_end.specs.ItemPeriods.{period_of}
use Rattle.source_end.specs.OpenRuns.{last_run, is_begun, open_period}
use Rattle.source_end.specs.Raster.{Part, column, pixels, packets, before, gathered}
use Rattle.source_end.specs.Gathering.{size, Holds}
use Rattle.source_end.proofs.Leads.{length-values_of-more}

pub on_ok : {T E : Type 0} (r : Result T E) (P Q : Type 0) → (P → Q) → OnOk r P → OnOk r Q
on_ok r P Q h k = grind arith

pub same_some : {A : Type 0} (x y : A) → Some x ≡ Some y → x ≡ y
same_some x y e = cc

-- Runs with columns of one value more.

abbrev pub run_of : ℕ → ℕ → ControlRun
run_of v n = record { value = v; count = n }

pub push_first : (runs : List ControlRun) (last : Option ControlRun) (v n : ℕ) (vs : List ℕ) → is_begun runs last ≡ true → last ≡ None → (n ≡ 0 → ⊥) → runs ++ last_run last ≡ longest vs → runs ++ run_of v n ∷ [] ≡ longest (vs ++ replicate n v)
push_first runs last v n vs h k l m = grind (arith, longest_none, longest_begins)

ends_in : (runs : List ControlRun) (last : Option ControlRun) (r : ControlRun) (vs : List ℕ) → last ≡ Some r → runs ++ last_run last ≡ longest vs → longest vs ≡ runs ++ r ∷ []
ends_in runs last r vs is e = sym e ∙ ap (λ (l : Option ControlRun). runs ++ last_run l) is

last_count : (runs : List ControlRun) (r : ControlRun) (vs : List ℕ) → longest vs ≡ runs ++ r ∷ [] → r.count ≤ length vs
last_count runs r vs e =
    let long : length vs ≡ length (values_of (runs ++ r ∷ [])) = ap length (sym (values_longest vs) ∙ ap values_of e) in
    omega (arith, long, length-values_of-more runs r)

pub push_grows : (runs : List ControlRun) (last : Option ControlRun) (r : ControlRun) (v n m : ℕ) (vs : List ℕ) → last ≡ Some r → r.value ≡ v → runs ++ last_run last ≡ longest vs → length vs + n < 2 ^ 32 → m ≡ min (r.count + n) (2 ^ 32 - 1)
    → runs ++ run_of v m ∷ [] ≡ longest (vs ++ replicate n v)
push_grows runs last r v n m vs is same e few sum =
    let d = ends_in runs last r vs is e in
    let fits : m ≡ r.count + n = omega (arith, last_count runs r vs d, few, sum) in
    ap₂ (λ (a b : ℕ). runs ++ run_of a b ∷ []) (sym same) fits ∙ sym (longest_grows n v runs r vs d (sym same))

pub push_turns : (runs : List ControlRun) (last : Option ControlRun) (r : ControlRun) (v n : ℕ) (vs : List ℕ) → last ≡ Some r → (r.value ≡ v → ⊥) → (n ≡ 0 → ⊥) → runs ++ last_run last ≡ longest vs
    → (runs ++ r ∷ []) ++ run_of v n ∷ [] ≡ longest (vs ++ replicate n v)
push_turns runs last r v n vs h k l m = grind (arith, longest_turns, ends_in, ne_eqb)

-- Sizes.

pub size_append : (xs ys : List Part) → size (xs ++ ys) ≡ size xs + size ys
unfolding size
size_append [] ys = omega arith
size_append (x ∷ xs) ys = omega (arith, size_append xs ys)

size_values : (vs : List ℕ) → size (map column vs) ≡ length vs
unfolding size
size_values [] = refl
size_values (v ∷ vs) = omega (arith, size_values vs)

pub size_same : (n v : ℕ) → size (replicate n (column v)) ≡ n
unfolding size
size_same zero v = refl
size_same (suc n) v = omega (arith, size_same n v)

pub few_values : (periods : List Period) (runs : List ControlRun) (parts : List Part) (n : ℕ) → (h : Holds periods runs parts) → size parts + n < 2 ^ 32 → length h.values + n < 2 ^ 32
few_values periods runs parts n h few =
    let s = ap size h.parts_are ∙ size_append h.earlier (map column h.values) in
    omega (arith, s, size_values h.values, few)

-- What a gathering holds.

none_held : (periods : List Period) (runs : List ControlRun) → periods ≡ [] → runs ≡ [] → Holds periods runs []
unfolding gathered longest
none_held periods runs e d = record { earlier = []; values = []; parts_are = refl; periods_are = e; runs_are = d; apart = λ later. refl }

pub new_holds : (items : List Item) (runs : List ControlRun) → items ≡ [] → runs ≡ [] → Holds (map period_of items) runs []
new_holds items runs e d = none_held (map period_of items) runs (ap (map period_of) e) d

map_same : (n v : ℕ) → map column (replicate n v) ≡ replicate n (column v)
map_same zero v = refl
map_same (suc n) v = ap (λ (ps : List Part). column v ∷ ps) (map_same n v)

pub holds_columns : (periods : List Period) (runs now : List ControlRun) (parts : List Part) (v n : ℕ) → (h : Holds periods runs parts) → now ≡ longest (h.values ++ replicate n v) → Holds periods now (parts ++ replicate n (column v))
holds_columns periods runs now parts v n h e = grind (arith, append_assoc, map-append, map_same)

-- periods that begin with no control period
abbrev pub Apart : List Period → Type 0
Apart periods = (v : ℕ) → before v periods ≡ control (join v []) ∷ periods

unfoldable pub prepend : List ℕ → List Period → List Period
prepend [] periods = periods
prepend (v ∷ vs) periods = before v (prepend vs periods)

pub prepend_apart : (v : ℕ) (vs : List ℕ) (periods : List Period) → Apart periods → prepend (v ∷ vs) periods ≡ control (longest (v ∷ vs)) ∷ periods
unfolding prepend longest
prepend_apart v [] periods apart = apart v
prepend_apart v (w ∷ vs) periods apart = ap (before v) (prepend_apart w vs periods apart)

open_join : (v : ℕ) (rs : List ControlRun) → open_period (join v rs) ≡ control (join v rs) ∷ []
open_join v rs = grind arith

prepend_open : (vs : List ℕ) (periods : List Period) → Apart periods → prepend vs periods ≡ open_period (longest vs) ++ periods
unfolding prepend longest
prepend_open [] periods apart = refl
prepend_open (v ∷ vs) periods apart = grind (arith, prepend_apart, open_join)

pub gathered_columns : (vs : List ℕ) (parts : List Part) → gathered (map column vs ++ parts) ≡ prepend vs (gathered parts)
unfolding gathered prepend
gathered_columns [] parts = refl
gathered_columns (v ∷ vs) parts = ap (before v) (gathered_columns vs parts)

-- a part that is a period of its own
record Stands (part : Part) (period : Period) : Type 0 where
  first : (later : List Part) → gathered (part ∷ later) ≡ period ∷ gathered later
  apart : (later : List Period) → Apart (period ∷ later)

row_stands : (bytes : List ℕ) → Stands (pixels bytes) (video bytes)
unfolding gathered
row_stands bytes = record { first = λ later. refl; apart = λ later v. refl }

held_first : (periods : List Period) (runs : List ControlRun) (parts : List Part) → (h : Holds periods runs parts) → (part : Part) (q : Period) → Stands part q → (later : List Part) → gathered (parts ++ (part ∷ later)) ≡ periods ++ (open_period runs ++ (q ∷ gathered later))
held_first periods runs parts h part q stands later = grind (arith, append_assoc, gathered_columns, prepend_open)

none_gathered : gathered [] ≡ []
unfolding gathered
none_gathered = refl

part_held : (periods whole : List Period) (runs now : List ControlRun) (parts : List Part) → Holds periods runs parts → (part : Part) (q : Period) → Stands part q → whole ≡ (periods ++ open_period runs) ++ q ∷ [] → now ≡ [] → Holds whole now (parts ++ part ∷ [])
unfolding longest
part_held periods whole runs now parts h part q stands e d =
    let first = held_first periods runs parts h part q stands in
    let here = first [] ∙ ap (λ (ps : List Period). periods ++ (open_period runs ++ (q ∷ ps))) none_gathered in
    record {
      earlier = parts ++ part ∷ [];
      values = [];
      parts_are = sym (append-nil (parts ++ part ∷ []));
      periods_are = e ∙ append_assoc periods (open_period runs) (q ∷ []) ∙ sym here;
      runs_are = d;
      apart = grind (arith, append_assoc);
    }

island_stands : (x : DataIsland) → Stands (packets x) (island x)
unfolding gathered
island_stands x = record { first = λ later. refl; apart = λ later v. refl }

more_items : (items closed now : List Item) (runs : List ControlRun) (item : Item) (q : Period) → map period_of closed ≡ map period_of items ++ open_period runs → period_of item ≡ q → now ≡ closed ++ item ∷ []
    → map period_of now ≡ (map period_of items ++ open_period runs) ++ q ∷ []
more_items items closed now runs item q e is more =
    ap (map period_of) more ∙ map-append period_of closed (item ∷ []) ∙ ap₂ (λ (ps : List Period) (p : Period). ps ++ p ∷ []) e is

pub row_held : (items closed now : List Item) (runs rest : List ControlRun) (parts : List Part) → Holds (map period_of items) runs parts → map period_of closed ≡ map period_of items ++ open_period runs
    → (bytes : List ℕ) (item : Item) → period_of item ≡ video bytes → now ≡ closed ++ item ∷ [] → rest ≡ [] → Holds (map period_of now) rest (parts ++ pixels bytes ∷ [])
row_held items closed now runs rest parts h e bytes item is more d =
    part_held (map period_of items) (map period_of now) runs rest parts h (pixels bytes) (video bytes) (row_stands bytes) (more_items items closed now runs item (video bytes) e is more) d

pub island_held : (items closed now : List Item) (runs rest : List ControlRun) (parts : List Part) → Holds (map period_of items) runs parts → map period_of closed ≡ map period_of items ++ open_period runs
    → (x : DataIsland) (item : Item) → period_of item ≡ island x → now ≡ closed ++ item ∷ [] → rest ≡ [] → Holds (map period_of now) rest (parts ++ packets x ∷ [])
island_held items closed now runs rest parts h e x item is more d =
    part_held (map period_of items) (map period_of now) runs rest parts h (packets x) (island x) (island_stands x) (more_items items closed now runs item (island x) e is more) d

pub all_held : (periods whole : List Period) (runs : List ControlRun) (parts : List Part) → Holds periods runs parts → whole ≡ periods ++ open_period runs → whole ≡ gathered parts
unfolding gathered
all_held periods whole runs parts h e =
    e ∙ ap₂ (λ (ps : List Period) (rs : List ControlRun). ps ++ open_period rs) h.periods_are h.runs_are
    ∙ sym (ap gathered h.parts_are ∙ h.apart (map column h.values)
    ∙ ap (λ (ps : List Period). gathered h.earlier ++ ps)
    (ap gathered (sym (append-nil (map column h.values))) ∙ gathered_columns h.values [] ∙ prepend_open h.values [] (λ v. refl) ∙ append-nil (open_period (longest h.values))))
