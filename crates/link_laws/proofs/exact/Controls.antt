-- Control columns of which no fault is reported are those of their values.
use Rattle.std.proofs.Common.{◌≡◌, ℕ, ◌+◌, ◌<◌, ◌≤◌, Bool, true, ◌&&◌, List, [], ◌∷◌, ◌++◌, length, map, slice_index, refl, ap, ap₂, ◌∙◌, subst, arith}
use Rattle.std.specs.Prelude.{nat_lt, nat_le}
use Rattle.std.specs.List.{list_all}
use Rattle.std.proofs.lemmas.Bool.{lt-ltb, le-leb, leb-true}
use Rattle.std.proofs.lemmas.List.{map-append}
use Rattle.tmds_word.specs.Column.{Column}
use Rattle.tmds_word.proofs.Below.{and-left, and-right}
use Rattle.terc4.specs.Tables.{control_words, value_in, is_control}
use Rattle.terc4.proofs.Members.{by_control}
use Rattle.island_pack.specs.Periods.{ControlRun, values_of, has_preamble as announces}
use Rattle.island_pack.specs.Conforming.{is_run, is_control_period}
use Rattle.island_pack.specs.Spelling.{control_column}
use Rattle.period_grammar.specs.Column.{control_bits, value_of}
use Rattle.period_grammar.specs.Events.{Event, short, preamble, all_at, event_of}
use Rattle.period_grammar.specs.Cut.{Run, columns, before_runs, runs}
use Rattle.period_grammar.specs.Heard.{other_words, words, in_runs, last_run, ended, has_preamble, if_not, lacks}
use Rattle.period_grammar.proofs.Hearings.{events_at}
use Rattle.link_laws.proofs.Cutting.{control_reported}
use Rattle.link_laws.proofs.Rows.{and_both, clean, control_columns, Small}
use Rattle.link_laws.proofs.exact.Faultless.{Fine, fine_left, fine_right, if_not_fine}

-- Each word is a control word.

column_clean : (j : ℕ) (c : Column) → Fine (other_words j c) → clean c ≡ true
unfolding other_words
column_clean j c h = grind (arith, fine_right, and_both, fine_left)

words_clean : (j : ℕ) (cs : List Column) → Fine (map event_of (words j cs)) → list_all clean cs ≡ true
words_clean j [] h = refl
words_clean j (c ∷ cs) h =
    let both = map-append event_of (all_at j (other_words j c)) (words (j + 1) cs) in
    let g = subst (λ (ts : List Event). Fine ts) both h in
    let here = subst (λ (ts : List Event). Fine ts) (events_at j (other_words j c)) (fine_left (map event_of (all_at j (other_words j c))) (map event_of (words (j + 1) cs)) g) in
    and_both _ _ (column_clean j c here) (words_clean (j + 1) cs (fine_right (map event_of (all_at j (other_words j c))) (map event_of (words (j + 1) cs)) g))

abbrev columns_of : Run → List Column
columns_of (columns v cs) = cs

abbrev pub clean_runs : List Run → Bool
clean_runs rs = list_all (λ r. list_all clean (columns_of r)) rs

runs_fine : (j : ℕ) (rs : List Run) → Fine (map event_of (in_runs j rs)) → clean_runs rs ≡ true
runs_fine j [] h = refl
runs_fine j (columns v cs ∷ []) h = and_both _ _ (words_clean j cs h) refl
runs_fine j (columns v cs ∷ (s ∷ rs)) h =
    let rest = ended j (columns v cs) ++ in_runs (j + length cs) (s ∷ rs) in
    let g = subst (λ (ts : List Event). Fine ts) (map-append event_of (words j cs) rest) h in
    and_both _ _ (words_clean j cs (fine_left (map event_of (words j cs)) (map event_of rest) g))
    (runs_fine (j + length cs) (s ∷ rs) (fine_right (map event_of (words j cs)) (map event_of rest) g))

first_clean : (c : Column) (rs : List Run) → clean_runs (before_runs c rs) ≡ true → (clean c && clean_runs rs) ≡ true
first_clean c rs h = grind (arith, and_both, and-left, clean, and-right)

all_clean : (cs : List Column) → clean_runs (runs cs) ≡ true → list_all clean cs ≡ true
unfolding runs
all_clean [] h = refl
all_clean (c ∷ cs) h = grind (arith, first_clean, and_both, and-left, and-right, clean, all_clean cs)

pub control_clean : (j : ℕ) (cs : List Column) → Fine (control_reported j cs) → list_all clean cs ≡ true
control_clean j cs h = all_clean cs (runs_fine j (runs cs) (fine_left (map event_of (in_runs j (runs cs))) (last_run (runs cs)) h))

-- Clean columns are those of their values.

record IsBits (w : ℕ) : Type 0 where
  below : control_bits w < 4
  word_is : slice_index control_words (control_bits w) ≡ w

bits_of_word : (w : ℕ) → is_control w ≡ true → IsBits w
unfolding control_bits value_in control_words
bits_of_word = by_control IsBits
    (record { below = omega arith; word_is = refl }) (record { below = omega arith; word_is = refl })
    (record { below = omega arith; word_is = refl }) (record { below = omega arith; word_is = refl })

clean_column : (c : Column) → clean c ≡ true → (value_of c < 64) × (c ≡ control_column (value_of c))
unfolding value_of
clean_column c h = grind (arith, and-right, bits_of_word, and-left)

pub columns_are : (cs : List Column) → list_all clean cs ≡ true → cs ≡ control_columns (map value_of cs)
columns_are [] h = refl
columns_are (c ∷ cs) h = ap₂ (λ (x : Column) (xs : List Column). x ∷ xs) (clean_column c (and-left _ _ h)).1 (columns_are cs (and-right (clean c) _ h))

pub values_small : (cs : List Column) → list_all clean cs ≡ true → Small (map value_of cs)
values_small [] h = refl
values_small (c ∷ cs) h = and_both _ _ (lt-ltb _ 64 (clean_column c (and-left _ _ h)).0) (values_small cs (and-right (clean c) _ h))

-- Runs of values, each of one column.

abbrev one_run : ℕ → ControlRun
one_run v = record { value = v; count = 1 }

pub ones : List ℕ → List ControlRun
ones vs = map one_run vs

pub values_of_ones : (vs : List ℕ) → values_of (ones vs) ≡ vs
unfolding values_of ones
values_of_ones [] = refl
values_of_ones (v ∷ vs) = ap (λ us. v ∷ us) (values_of_ones vs)

ones_runs : (vs : List ℕ) → Small vs → list_all is_run (ones vs) ≡ true
unfolding ones
ones_runs [] h = refl
ones_runs (v ∷ vs) h = and_both _ _ (and_both _ _ (and-left _ _ h) refl) (ones_runs vs (and-right (nat_lt v 64) _ h))

pub ones_period : (vs : List ℕ) → Small vs → 12 ≤ length vs → is_control_period (ones vs) ≡ true
unfolding is_control_period
ones_period vs h long = and_both _ _ (ones_runs vs h) (ap (λ us. nat_le 12 (length us)) (values_of_ones vs) ∙ le-leb 12 _ long)

-- Nothing is lacking before a period that opens.

pub lacks_long : (b : ℕ) (cs : List Column) (bits : ℕ) → Fine (lacks b cs bits) → 12 ≤ length cs
lacks_long b cs bits h = leb-true 12 _ (if_not_fine _ (short b) refl (fine_left (if_not (nat_le 12 (length cs)) (short b)) (if_not (has_preamble bits cs) (preamble b)) h))

pub lacks_lead : (b : ℕ) (cs : List Column) (bits : ℕ) → Fine (lacks b cs bits) → announces bits (map value_of cs) ≡ true
unfolding has_preamble
lacks_lead b cs bits h = if_not_fine _ (preamble b) refl (fine_right (if_not (nat_le 12 (length cs)) (short b)) (if_not (has_preamble bits cs) (preamble b)) h)
