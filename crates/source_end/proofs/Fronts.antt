-- The first columns of some that are as they were to be.
use Rattle.std.proofs.Common.{◌≡◌, ℕ, ℤ, ◌+◌, ◌-◌, ◌*◌, ◌<◌, ◌≤◌, List, [], ◌∷◌, ◌++◌, take, drop, map, replicate, min, ap, sym, subst, ◌∙◌, arith, append_assoc}
use Rattle.std.proofs.lemmas.List.{take-append-drop, map-append}
use Rattle.std.specs.Prelude.{Result, OnOk, OnErr}
use Rattle.tmds_word.specs.Column.{Column, column_of}
use Rattle.tmds_word.specs.Words.{columns_of}
use Rattle.island_pack.specs.Periods.{Pixel}
use Rattle.source_end.specs.Fronts.{TookFront}
use Rattle.source_end.specs.LineCoding.{AreCodersAfter, AreCoded}
use Rattle.source_end.proofs.Spellings.{joined}
use Rattle.source_end.proofs.LineCodings.{replicate-add}

-- What holds after a refusal, and after none.
pub on_err : {T E P : Type 0} (r : Result T E) → P → OnErr r P
on_err r h = grind arith

pub err_map : {T E P Q : Type 0} (r : Result T E) → (P → Q) → OnErr r P → OnErr r Q
err_map r h k = grind arith

pub ok_map : {T E P Q : Type 0} (r : Result T E) → (P → Q) → OnOk r P → OnOk r Q
ok_map r h k = grind arith

-- a front of columns of their own, after columns that are whole
pub front_after : (old mid new done : List Column) (Own Whole : List Column → Type 0) → mid ≡ old ++ done → TookFront mid new Own
    → ((own : List Column) → Own own → (more : List Column) × Whole (done ++ (own ++ more))) → TookFront old new Whole
front_after old mid new done Own Whole was front next = grind (arith, append_assoc, joined)

-- the first of columns that are known
pub front_of : (mid new whole : List Column) (k : ℕ) → new ≡ mid ++ take k whole → TookFront mid new (λ columns. columns ≡ whole)
front_of mid new whole k e = (take k whole, drop k whole, e, take-append-drop k whole)

-- the first of columns that are given one after another
pub front_of_map : {A : Type 0} (f : A → Column) (xs : List A) (i : ℕ) (old mid new : List Column) → mid ≡ old ++ map f (take i xs) → new ≡ mid
    → TookFront old new (λ columns. columns ≡ map f xs)
front_of_map f xs i old mid new was same =
    (map f (take i xs), map f (drop i xs), same ∙ was, sym (map-append f (take i xs) (drop i xs)) ∙ ap (map f) (take-append-drop i xs))

-- a run of equal columns that ended within some of them
pub run_within : (old mid new : List Column) (c : Column) (done n all : ℕ) → mid ≡ old ++ replicate done c → TookFront mid new (λ columns. columns ≡ replicate n c) → done + n ≤ all → TookFront old new (λ columns. columns ≡ replicate all c)
run_within old mid new c done n all was front le =
    let left = all - (done + n) in
    let sum : done + (n + left) ≡ all = omega (arith, le) in
    front_after old mid new (replicate done c) (λ columns. columns ≡ replicate n c) (λ columns. columns ≡ replicate all c) was front
    (λ cs e. (
      replicate left c,
      ap (λ (ds : List Column). replicate done c ++ (ds ++ replicate left c)) e
          ∙ ap (λ (ds : List Column). replicate done c ++ ds) (replicate-add n left c)
          ∙ replicate-add done (n + left) c
          ∙ ap (λ m. replicate m c) sum,
    ))

-- the same of the first of some
pub run_cut : (old mid new own : List Column) (c : Column) (done n all k : ℕ) → mid ≡ old ++ replicate done c → new ≡ mid ++ take k own → own ≡ replicate n c → done + n ≤ all → TookFront old new (λ columns. columns ≡ replicate all c)
run_cut old mid new own c done n all k was cut is le =
    run_within old mid new c done n all was (front_of mid new (replicate n c) k (cut ∙ ap (λ (cs : List Column). mid ++ take k cs) is)) le

-- the first columns of a block of pixels
pub front_of_coded : (mid new whole : List Column) (blue green red : ℤ) (pixels : List Pixel) (blue_after green_after red_after : ℤ) (k : ℕ) → new ≡ mid ++ take k whole
    → AreCodersAfter blue green red pixels whole blue_after green_after red_after → TookFront mid new (AreCoded blue green red pixels)
front_of_coded mid new whole blue green red pixels blue_after green_after red_after k e coded = (
  take k whole,
  drop k whole,
  e,
  (blue_after, green_after, red_after, subst (λ (cs : List Column). AreCodersAfter blue green red pixels cs blue_after green_after red_after) (sym (take-append-drop k whole)) coded),
)
