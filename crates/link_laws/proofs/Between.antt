-- A period between control periods: what is reported of its columns, whole or in part, and of what follows them.
use Rattle.std.proofs.Common.{◌≡◌, ℕ, suc, zero, ◌+◌, ◌-◌, ◌<◌, ◌≤◌, Bool, true, false, List, [], ◌∷◌, ◌++◌, length, take, drop, refl, ap, sym, ◌∙◌, append_assoc, arith}
use Rattle.std.proofs.lemmas.List.{append-nil, take-append-le, length-take}
use Rattle.std.proofs.Math.Seq.{take-append-add, take-append_seam, drop-append_seam}
use Rattle.std.proofs.lemmas.Bool.{cases_lt, le-leb}
use Rattle.tmds_word.specs.Column.{Column}
use Rattle.tmds_word.proofs.Below.{and-left, and-right}
use Rattle.terc4.specs.Columns.{is_control_column}
use Rattle.island_pack.specs.Periods.{Period, period_columns}
use Rattle.period_grammar.specs.Events.{short as short_before}
use Rattle.period_grammar.specs.Cut.{Stretch as Cut, stretch, stretches}
use Rattle.period_grammar.specs.Heard.{lacks, at_close, at_end, if_not}
use Rattle.link_laws.proofs.Cutting.{AllControl, NoneControl, begins, begins_control, cut_both, hear, gap_events, control_reported, hear_control, hear_last, hear_on}
use Rattle.link_laws.proofs.Rows.{and_both}
use Rattle.link_laws.specs.Account.{control_row, wrong_preamble, period_row}
use Rattle.link_laws.proofs.ControlReported.{control_row_reported}

pub drop_seam : (xs ys : List Column) (n : ℕ) → length xs ≡ n → drop n (xs ++ ys) ≡ ys
drop_seam xs ys n e = ap (λ k. drop k (xs ++ ys)) (sym e) ∙ drop-append_seam xs ys

pub take_seam : (xs ys : List Column) (n : ℕ) → length xs ≡ n → take n (xs ++ ys) ≡ xs
take_seam xs ys n e = ap (λ k. take k (xs ++ ys)) (sym e) ∙ take-append_seam xs ys

pub none_begins : begins (stretches []) ≡ true
unfolding stretches
none_begins = refl

pub none_left : (x : Cut) → x ∷ stretches [] ≡ x ∷ []
unfolding stretches
none_left x = refl

pub hear_none : (j : ℕ) → hear j (stretches []) ≡ []
unfolding stretches
hear_none j = refl

-- control columns and a gap, to the end
gap_cut : (j : ℕ) (control gap : List Column) → 1 ≤ length control → AllControl control → 1 ≤ length gap → NoneControl gap
    → hear j (stretches (control ++ gap)) ≡ control_reported j control ++ (gap_events (j + length control) control gap ++ at_end (j + length control) gap)
gap_cut j [] gap long all some none = absurd (omega arith)
gap_cut j (c ∷ cs) [] long all some none = absurd (omega arith)
gap_cut j (c ∷ cs) (g ∷ gap) long all some none =
    ap (λ xs. hear j (stretches ((c ∷ cs) ++ xs))) (sym (append-nil (g ∷ gap)))
    ∙ ap (hear j) (cut_both c cs g gap [] all none none_begins ∙ none_left (stretch (c ∷ cs) (g ∷ gap)))
    ∙ hear_last j (c ∷ cs) g gap

abbrev pub heads : List Column → Bool
heads [] = false
heads (c ∷ cs) = is_control_column c

abbrev pub some : List Cut → Bool
some [] = false
some (x ∷ xs) = true

pub some_cut : (next : List Column) → heads next ≡ true → some (stretches next) ≡ true
unfolding stretches
some_cut next h = grind arith

pub begins_heads : (next : List Column) → heads next ≡ true → begins (stretches next) ≡ true
begins_heads next h = grind (arith, begins_control)

hear_some : (j : ℕ) (control : List Column) (g : Column) (gap : List Column) (xs : List Cut) → some xs ≡ true
    → hear j (stretch control (g ∷ gap) ∷ xs)
    ≡ control_reported j control ++ (gap_events (j + length control) control (g ∷ gap) ++ (at_close (j + length control) (g ∷ gap) ++ hear (j + (length control + length (g ∷ gap))) xs))
hear_some j control g gap xs h = grind (arith, hear_on)

-- control columns and a gap, before a control column
gap_on : (j : ℕ) (control gap next : List Column) → 1 ≤ length control → AllControl control → 1 ≤ length gap → NoneControl gap → heads next ≡ true
    → hear j (stretches (control ++ (gap ++ next)))
    ≡ control_reported j control ++ (gap_events (j + length control) control gap ++ (at_close (j + length control) gap ++ hear (j + (length control + length gap)) (stretches next)))
gap_on j [] gap next long all some none h = absurd (omega arith)
gap_on j (c ∷ cs) [] next long all some none h = absurd (omega arith)
gap_on j (c ∷ cs) (g ∷ gap) next long all some none h =
    ap (hear j) (cut_both c cs g gap next all none (begins_heads next h)) ∙ hear_some j (c ∷ cs) g gap (stretches next) (some_cut next h)

-- What has to be shown of each kind of period, after the received control columns `before`.
pub record IsGap (before : List Column) (x : Period) (ss rs : List Column) : Type 0 where
  pub no_control : NoneControl rs
  pub long : length rs ≡ period_columns x
  pub some : 1 ≤ period_columns x
  pub nothing : (b : ℕ) → period_row b 0 before x ss rs ≡ []
  pub part : (b k : ℕ) → 1 ≤ k → k ≤ period_columns x → gap_events b before (take k rs) ++ at_end b (take k rs) ≡ period_row b k before x ss rs
  pub whole : (b k : ℕ) → period_columns x < k → gap_events b before rs ++ at_close b rs ≡ period_row b k before x ss rs

take_no_control : (k : ℕ) (cs : List Column) → NoneControl cs → NoneControl (take k cs)
take_no_control zero cs h = refl
take_no_control (suc k) [] h = refl
take_no_control (suc k) (c ∷ cs) h = and_both _ _ (and-left _ _ h) (take_no_control k cs (and-right _ _ h))

heads_take : (k : ℕ) (cs : List Column) → 1 ≤ k → heads cs ≡ true → heads (take k cs) ≡ true
heads_take k cs h l = grind arith

-- received control columns: whatever their words, each has two control words at least
pub record IsControlPeriod (cs : List Column) : Type 0 where
  pub long : 12 ≤ length cs
  pub all : AllControl cs

-- what is reported of its first k columns and what follows them
abbrev pub PeriodLaw : List Column → Period → List Column → List Column → Type 0
PeriodLaw cs x ss rs = (j k : ℕ) (next : List Column) → heads next ≡ true
    → hear j (stretches (cs ++ take k (rs ++ next)))
    ≡ control_row j cs ++ (period_row (j + length cs) k cs x ss rs ++ hear (j + length cs + period_columns x) (stretches (take (k - period_columns x) next)))

part_received : (cs : List Column) (x : Period) (ss rs : List Column) → IsControlPeriod cs → IsGap cs x ss rs → (j k : ℕ) (next : List Column) → 1 ≤ k → k ≤ period_columns x
    → hear j (stretches (cs ++ take k (rs ++ next)))
    ≡ control_row j cs ++ (period_row (j + length cs) k cs x ss rs ++ hear (j + length cs + period_columns x) (stretches (take (k - period_columns x) next)))
part_received cs x ss rs h g j k next one le = grind (arith, length-take, hear, take-append-le, gap_cut, take_no_control, gap_events, control_row_reported, append-nil, hear_none)

all_received : (cs : List Column) (x : Period) (ss rs : List Column) → IsControlPeriod cs → IsGap cs x ss rs → (j k : ℕ) (next : List Column) → heads next ≡ true → period_columns x < k
    → hear j (stretches (cs ++ take k (rs ++ next)))
    ≡ control_row j cs ++ (period_row (j + length cs) k cs x ss rs ++ hear (j + length cs + period_columns x) (stretches (take (k - period_columns x) next)))
all_received cs x ss rs h g j k next at lt =
    let l = h.long in
    let r = g.long in
    let s = g.some in
    let i = k - period_columns x in
    let b = j + length cs in
    let e : k ≡ length rs + i = omega arith in
    grind (arith, hear, take-append-add, gap_on, heads_take, gap_events, control_row_reported, append_assoc)

pub period_law : (cs : List Column) (x : Period) (ss rs : List Column) → IsControlPeriod cs → IsGap cs x ss rs → PeriodLaw cs x ss rs
period_law cs x ss rs h g j k next at = grind (arith, cases_lt, all_received, part_received, hear, append-nil, hear_control, control_row_reported, hear_none)

-- no control period is too short, so of what is wrong before an opening only the preamble is left
pub lacks_preamble : (b bits : ℕ) (cs : List Column) → 12 ≤ length cs → lacks b cs bits ≡ wrong_preamble b bits cs
lacks_preamble b bits cs long = ap (λ (p : Bool). if_not p (short_before b) ++ wrong_preamble b bits cs) (le-leb 12 (length cs) long)
