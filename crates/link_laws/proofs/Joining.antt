-- What is reported of received columns is the account, period after period.
use Rattle.std.proofs.Common.{◌≡◌, ℕ, suc, zero, ◌+◌, ◌-◌, ◌≤◌, true, List, [], ◌∷◌, ◌++◌, length, take, drop, refl, ap, ap₂, sym, ◌∙◌, arith, inl, inr, length-append}
use Rattle.std.proofs.lemmas.List.{append-nil, take_all, take-append-le, length-map}
use Rattle.std.proofs.Math.Seq.{take-append-add}
use Rattle.std.proofs.lemmas.Bool.{cases_lt}
use Rattle.tmds_word.specs.Column.{Column}
use Rattle.tmds_word.proofs.Below.{and-left, and-right}
use Rattle.island_pack.specs.Periods.{ControlRun, DataIsland, Period, control, video, island, values_of, pixels_of, period_columns}
use Rattle.period_grammar.specs.Events.{Event}
use Rattle.period_grammar.specs.Cut.{runs as runs_of, stretches}
use Rattle.link_laws.proofs.Cutting.{AllControl, hear, hear_control}
use Rattle.link_laws.proofs.Rows.{and_both, control_columns}
use Rattle.link_laws.proofs.Conformed.{IsVideo, IsIsland, IsInner, Follows, ends as follows_ends, goes_on as follows_on}
use Rattle.link_laws.proofs.Between.{take_seam, drop_seam, heads, IsGap, IsControlPeriod, period_law}
use Rattle.link_laws.proofs.VideoReported.{ArePixels, pixel_count, length_received, length_sent, AreGuards, video_gap}
use Rattle.link_laws.proofs.IslandColumns.{ArePackets, packets_sent, packets_received}
use Rattle.link_laws.specs.Account.{runs_row, control_row, video_reported, island_reported, period_row, account_from}
use Rattle.link_laws.proofs.ControlReported.{control_row_reported}
use Rattle.link_laws.proofs.Guards.{line_guard}
use Rattle.link_laws.proofs.IslandReported.{AreIslandGuards, framed, frame, island_gap}

-- columns of a period as sent and as received
pub data ArrivesPeriod : Period → List Column → List Column → Type 0 where
  controls : (runs : List ControlRun) (cs : List Column) → length cs ≡ length (values_of runs) → AllControl cs → ArrivesPeriod (control runs) (control_columns (values_of runs)) cs
  pixels :
      (bytes : List ℕ) (g h : Column) (pp qq : List Column) → AreGuards line_guard line_guard g h → ArePixels (pixels_of bytes) pp qq
      → ArrivesPeriod (video bytes) (line_guard ∷ (line_guard ∷ pp)) (g ∷ (h ∷ qq))
  packets :
      (x : DataIsland) (g h c d : Column) (pp qq : List Column) → AreIslandGuards x g h c d → ArePackets true x.packets pp qq
      → ArrivesPeriod (island x) (frame x pp) (framed g h qq c d)

-- columns of periods as sent and as received
pub data Arrives : List Period → List Column → List Column → Type 0 where
  nothing : Arrives [] [] []
  more : (x : Period) (xs : List Period) (own reception ss rs : List Column) → ArrivesPeriod x own reception → Arrives xs ss rs → Arrives (x ∷ xs) (own ++ ss) (reception ++ rs)

pub record IsSized (x : Period) (own reception : List Column) : Type 0 where
  pub sent : length own ≡ period_columns x
  pub received : length reception ≡ period_columns x

pub sized : (x : Period) (own reception : List Column) → ArrivesPeriod x own reception → IsSized x own reception
unfolding period_columns
sized x own reception h = grind (arith, length-map, pixel_count, length_sent, length_received, packets_sent, packets_received, length-append)

-- what stands between control periods; of a control period its length is all that the joining needs
unfoldable pub IsBetween : Period → Type 0
IsBetween (control runs) = ⊥
IsBetween (video bytes) = IsVideo bytes
IsBetween (island x) = IsIsland x

pub data IsTail : List Period → Type 0 where
  ends : IsTail []
  goes_on : (x : Period) (runs : List ControlRun) (rest : List Period) → IsBetween x → 12 ≤ length (values_of runs) → IsTail rest → IsTail (x ∷ (control runs ∷ rest))

between : (vs : List ℕ) (x : Period) → IsInner vs x → IsBetween x
unfolding IsInner IsBetween
between vs x h = grind arith

pub follows_long : (vs : List ℕ) (tail : List Period) → Follows vs tail → 12 ≤ length vs
follows_long vs tail h = grind (arith, follows_ends, follows_on)

pub is_tail : (vs : List ℕ) (tail : List Period) → Follows vs tail → IsTail tail
is_tail _ _ (follows_ends vs h) = ends
is_tail _ _ (follows_on vs x runs rest h i f) = goes_on x runs rest (between vs x i) (follows_long (values_of runs) rest f) (is_tail (values_of runs) rest f)

-- the laws of the periods between control periods
pub inner_gap : (before : List Column) (x : Period) (own reception : List Column) → 12 ≤ length before → IsBetween x → ArrivesPeriod x own reception → IsGap before x own reception
unfolding IsBetween
inner_gap before _ _ _ long i (controls runs cs n all) = absurd i
inner_gap before _ _ _ long i (pixels bytes g h pp qq guards are) = video_gap before bytes g h pp qq long i guards are
inner_gap before _ _ _ long i (packets x g h c d pp qq guards are) = island_gap before x g h c d pp qq long i guards are

-- The account.

pub no_row : (j : ℕ) → control_row j [] ≡ []
unfolding runs_row runs_of
no_row j = refl

row_zero : (j : ℕ) (before : List Column) (x : Period) (ss rs : List Column) → period_row j 0 before x ss rs ≡ []
unfolding period_row video_reported island_reported
row_zero j before x ss rs = grind (arith, no_row)

pub account_zero : (j : ℕ) (before : List Column) (xs : List Period) (ss rs : List Column) → account_from j 0 before xs ss rs ≡ []
unfolding account_from
account_zero j before [] ss rs = refl
account_zero j before (x ∷ xs) ss rs =
    let n = period_columns x in
    let e : 0 - n ≡ 0 = omega arith in
    ap₂ (λ (a b : List Event). a ++ b) (row_zero j before x (take n ss) (take n rs))
    (ap (λ m. account_from (j + n) m (take n rs) xs (drop n ss) (drop n rs)) e ∙ account_zero (j + n) (take n rs) xs (drop n ss) (drop n rs))

pub account_period : (j m : ℕ) (before : List Column) (x : Period) (xs : List Period) (own reception ss rs : List Column) → IsSized x own reception
    → account_from j m before (x ∷ xs) (own ++ ss) (reception ++ rs) ≡ period_row j m before x own reception ++ account_from (j + period_columns x) (m - period_columns x) reception xs ss rs
unfolding account_from
account_period j m before x xs own reception ss rs h = grind (arith, drop_seam, take_seam)

-- The columns.

pub take_control : (k : ℕ) (cs : List Column) → AllControl cs → AllControl (take k cs)
take_control zero cs h = refl
take_control (suc k) [] h = refl
take_control (suc k) (c ∷ cs) h = and_both _ _ (and-left _ _ h) (take_control k cs (and-right _ _ h))

pub taken_row : (j m : ℕ) (cs : List Column) → AllControl cs → hear j (stretches (take m cs)) ≡ control_row j (take m cs)
taken_row j m cs all = hear_control j (take m cs) (take_control m cs all) ∙ control_row_reported j (take m cs)

-- within the first control columns
within : (j m : ℕ) (cs : List Column) (tail : List Period) (ss rs later : List Column) → AllControl cs → m ≤ length cs
    → hear j (stretches (take m (cs ++ later))) ≡ control_row j (take m cs) ++ account_from (j + length cs) (m - length cs) cs tail ss rs
within j m cs tail ss rs later all le = grind (arith, hear, take-append-le, taken_row, append-nil, account_zero)

pub first_control : (cs rs : List Column) → AllControl cs → 1 ≤ length cs → heads (cs ++ rs) ≡ true
first_control [] rs all some = absurd (omega arith)
first_control (c ∷ cs) rs all some = and-left _ _ all

-- a control period's row and what follows it
pub control_period : (j m : ℕ) (before : List Column) (runs : List ControlRun) (rest : List Period) (own cs ss rs : List Column) → IsSized (control runs) own cs
    → account_from j m before (control runs ∷ rest) (own ++ ss) (cs ++ rs) ≡ control_row j (take m cs) ++ account_from (j + length cs) (m - length cs) cs rest ss rs
unfolding period_row
control_period j m before runs rest own cs ss rs h =
    account_period j m before (control runs) rest own cs ss rs h
    ∙ ap (λ n. control_row j (take m cs) ++ account_from (j + n) (m - n) cs rest ss rs) (sym h.received)

-- the law of joining
pub joined : (tail : List Period) → IsTail tail → (before ss rs : List Column) → IsControlPeriod before → Arrives tail ss rs → (j m : ℕ)
    → hear j (stretches (take m (before ++ rs))) ≡ control_row j (take m before) ++ account_from (j + length before) (m - length before) before tail ss rs
unfolding account_from
joined _ ends before _ _ h nothing j m = grind (arith, hear, append-nil, taken_row)
joined _ (goes_on x runs rest i long f) before _ _ h (more _ _ own reception _ _ a (more _ _ _ _ ss rs (controls _ cs n all) b)) j m = elim (cases_lt (length before) m) [
  | inl on ↦
      let k = m - length before in
      let l = j + length before in
      let e : m ≡ length before + k = omega arith in
      let size = period_columns x in
      let next : IsControlPeriod cs = record { long = omega arith; all = all } in
      let lb = h.long in
      let cv = control_columns (values_of runs) in
      ap (λ (i : ℕ). hear j (stretches (take i (before ++ (reception ++ (cs ++ rs)))))) e
      ∙ ap (λ (ds : List Column). hear j (stretches ds)) (take-append-add before (reception ++ (cs ++ rs)) k)
      ∙ period_law before x own reception h (inner_gap before x own reception lb i a) j k (cs ++ rs) (first_control cs rs all (omega arith))
      ∙ ap (λ ts. control_row j before ++ (period_row l k before x own reception ++ ts))
      (joined rest f cs ss rs next b (l + size) (k - size) ∙ sym (control_period (l + size) (k - size) reception runs rest cv cs ss rs (sized (control runs) cv cs (controls runs cs n all))))
      ∙ ap₂ (λ (ds : List Column) (ts : List Event). control_row j ds ++ ts) (sym (take_all m before (omega arith)))
      (sym (account_period l k before x (control runs ∷ rest) own reception (cv ++ ss) (cs ++ rs) (sized x own reception a)))
  | inr short ↦ within j m before (x ∷ (control runs ∷ rest)) _ _ _ h.all short
]
