-- What is reported of received columns is the account, period after period.
use Rattle.std.proofs.Common.{◌≡◌, ℕ, ◌+◌, ◌-◌, ◌/◌, ◌≤◌, List, [], ◌∷◌, ◌++◌, length, take, drop, refl, ap, ap₂, sym, ◌∙◌, arith, inl, inr}
use Rattle.std.proofs.lemmas.List.{append-nil, take_all, take-append-le}
use Rattle.std.proofs.Math.Seq.{take-append-add}
use Rattle.std.proofs.lemmas.Bool.{cases_lt}
use Rattle.tmds_word.specs.Column.{Column}
use Rattle.island_pack.specs.Periods.{ControlRun, Period, control, video, values_of, pixels_of}
use Rattle.period_grammar.specs.Events.{Event}
use Rattle.period_grammar.specs.Cut.{stretches}
use Rattle.link_laws.specs.Account.{control_row}
use Rattle.link_laws.proofs.Cutting.{AllControl}
use Rattle.link_laws.proofs.Between.{take_seam, drop_seam}
use Rattle.link_laws.proofs.Joining.{no_row, take_control, first_control}
use Rattle.link_laws.proofs.VideoReported.{ArePixels, pixel_count, length_received, length_sent}
use Rattle.dvi_hearing.specs.DviHeard.{dvi_gaps}
use Rattle.source_end.specs.DviPeriods.{dvi_columns}
use Rattle.dvi_laws.specs.DviAccount.{dvi_video_reported, dvi_row, dvi_account_from}
use Rattle.dvi_laws.proofs.Walk.{walk, walk_control, gap_law}
use Rattle.dvi_laws.proofs.Lines.{dvi_gap}

-- a video period and the control period after it, as sent and as received
pub record ReceivedPair (bytes : List ℕ) (runs : List ControlRun) (pp qq own cs : List Column) : Type 0 where
  pub some : 1 ≤ length bytes / 3
  pub few : length bytes / 3 ≤ 4096
  pub are : ArePixels (pixels_of bytes) pp qq
  pub long : 12 ≤ length cs
  pub sent : length own ≡ length (values_of runs)
  pub received : length cs ≡ length (values_of runs)
  pub all : AllControl cs

-- what follows a control period, as sent and as received
pub data Received : List Period → List Column → List Column → Type 0 where
  ends : Received [] [] []
  goes_on :
      (bytes : List ℕ) (runs : List ControlRun) (rest : List Period) (pp qq own cs ss rs : List Column) → ReceivedPair bytes runs pp qq own cs → Received rest ss rs
      → Received (video bytes ∷ (control runs ∷ rest)) (pp ++ (own ++ ss)) (qq ++ (cs ++ rs))

row_zero : (j : ℕ) (x : Period) (ss rs : List Column) → dvi_row j 0 x ss rs ≡ []
unfolding dvi_row dvi_video_reported
row_zero j x ss rs = grind (arith, no_row)

account_zero : (j : ℕ) (xs : List Period) (ss rs : List Column) → dvi_account_from j 0 xs ss rs ≡ []
unfolding dvi_account_from
account_zero j [] ss rs = refl
account_zero j (x ∷ xs) ss rs =
    let n = dvi_columns x in
    let e : 0 - n ≡ 0 = omega arith in
    ap₂ (λ (a b : List Event). a ++ b) (row_zero j x (take n ss) (take n rs))
    (ap (λ m. dvi_account_from (j + n) m xs (drop n ss) (drop n rs)) e ∙ account_zero (j + n) xs (drop n ss) (drop n rs))

pub account_period : (j m : ℕ) (x : Period) (xs : List Period) (own reception ss rs : List Column) → length own ≡ dvi_columns x → length reception ≡ dvi_columns x
    → dvi_account_from j m (x ∷ xs) (own ++ ss) (reception ++ rs) ≡ dvi_row j m x own reception ++ dvi_account_from (j + dvi_columns x) (m - dvi_columns x) xs ss rs
unfolding dvi_account_from
account_period j m x xs own reception ss rs a b = grind (arith, drop_seam, take_seam)

pub control_columns_are : (runs : List ControlRun) → dvi_columns (control runs) ≡ length (values_of runs)
unfolding dvi_columns
control_columns_are runs = refl

pub video_columns_are : (bytes : List ℕ) → dvi_columns (video bytes) ≡ length bytes / 3
unfolding dvi_columns
video_columns_are bytes = refl

-- a control period's row and what follows it
control_period : (j m : ℕ) (runs : List ControlRun) (rest : List Period) (own cs ss rs : List Column) → length own ≡ dvi_columns (control runs) → length cs ≡ dvi_columns (control runs)
    → dvi_account_from j m (control runs ∷ rest) (own ++ ss) (cs ++ rs) ≡ control_row j (take m cs) ++ dvi_account_from (j + length cs) (m - length cs) rest ss rs
unfolding dvi_row
control_period j m runs rest own cs ss rs a b =
    account_period j m (control runs) rest own cs ss rs a b
    ∙ ap (λ n. control_row j (take m cs) ++ dvi_account_from (j + n) (m - n) rest ss rs) (sym b)

video_row_is : (j m : ℕ) (bytes : List ℕ) (pp qq : List Column) → dvi_row j m (video bytes) pp qq ≡ dvi_video_reported j m (pixels_of bytes) pp qq
unfolding dvi_row
video_row_is j m bytes pp qq = refl

taken_row : (j m : ℕ) (cs : List Column) → AllControl cs → walk dvi_gaps j (stretches (take m cs)) ≡ control_row j (take m cs)
taken_row j m cs all = walk_control dvi_gaps j (take m cs) (take_control m cs all)

within : (j m : ℕ) (cs : List Column) (tail : List Period) (ss rs later : List Column) → AllControl cs → m ≤ length cs
    → walk dvi_gaps j (stretches (take m (cs ++ later))) ≡ control_row j (take m cs) ++ dvi_account_from (j + length cs) (m - length cs) tail ss rs
within j m cs tail ss rs later all le = grind (arith, walk, take-append-le, taken_row, append-nil, account_zero)

-- the law of joining
pub joined : (tail : List Period) (before ss rs : List Column) → 12 ≤ length before → AllControl before → Received tail ss rs → (j m : ℕ)
    → walk dvi_gaps j (stretches (take m (before ++ rs))) ≡ control_row j (take m before) ++ dvi_account_from (j + length before) (m - length before) tail ss rs
unfolding dvi_account_from
joined _ before _ _ long all ends j m = grind (arith, walk, append-nil, taken_row)
joined _ before _ _ long all (goes_on bytes runs rest pp qq own cs ss rs p f) j m = elim (cases_lt (length before) m) [
  | inl on ↦
      let k = m - length before in
      let l = j + length before in
      let e : m ≡ length before + k = omega arith in
      let ps = pixels_of bytes in
      let count = pixel_count bytes in
      let some = p.some in
      let few = p.few in
      let lc = p.long in
      let nq = length_received ps pp qq p.are in
      let np = length_sent ps pp qq p.are in
      let vc = video_columns_are bytes in
      let cc_ = control_columns_are runs in
      let so = p.sent in
      let re = p.received in
      let n : length qq ≡ dvi_columns (video bytes) = omega arith in
      let size = length qq in
      ap (λ (i : ℕ). walk dvi_gaps j (stretches (take i (before ++ (qq ++ (cs ++ rs)))))) e
      ∙ ap (λ (ds : List Column). walk dvi_gaps j (stretches ds)) (take-append-add before (qq ++ (cs ++ rs)) k)
      ∙ gap_law dvi_gaps before qq (λ b i. dvi_video_reported b i ps pp qq) (omega arith) all (dvi_gap before ps pp qq long (omega arith) (omega arith) p.are) j k (cs ++ rs) (first_control cs rs p.all (omega arith))
      ∙ ap (λ ts. control_row j before ++ (dvi_video_reported l k ps pp qq ++ ts))
      (joined rest cs ss rs lc p.all f (l + size) (k - size) ∙ sym (control_period (l + size) (k - size) runs rest own cs ss rs (omega arith) (omega arith)))
      ∙ ap (λ (z : ℕ). control_row j before ++ (dvi_video_reported l k ps pp qq ++ dvi_account_from (l + z) (k - z) (control runs ∷ rest) (own ++ ss) (cs ++ rs))) n
      ∙ ap (λ ts. control_row j before ++ (ts ++ dvi_account_from (l + dvi_columns (video bytes)) (k - dvi_columns (video bytes)) (control runs ∷ rest) (own ++ ss) (cs ++ rs))) (sym (video_row_is l k bytes pp qq))
      ∙ ap₂ (λ (ds : List Column) (ts : List Event). control_row j ds ++ ts) (sym (take_all m before (omega arith)))
      (sym (account_period l k (video bytes) (control runs ∷ rest) pp qq (own ++ ss) (cs ++ rs) (omega arith) n))
  | inr short ↦ within j m before (video bytes ∷ (control runs ∷ rest)) _ _ _ all short
]
