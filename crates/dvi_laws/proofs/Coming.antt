-- Columns received for columns that spell periods.
use Rattle.std.proofs.Common.{◌≡◌, ℕ, suc, ◌≤◌, true, List, [], ◌∷◌, ◌++◌, length, map, refl, ap, ◌∙◌, subst, arith}
use Rattle.std.proofs.lemmas.List.{length-map}
use Rattle.tmds_word.specs.Column.{Column, blues, greens, reds}
use Rattle.tmds_word.proofs.Below.{and-left, and-right}
use Rattle.island_pack.specs.Periods.{ControlRun, Pixel, Period, control, video, island, values_of, pixels_of}
use Rattle.island_pack.specs.Conforming.{is_control_period, is_video_period}
use Rattle.island_pack.specs.Spelling.{control_column}
use Rattle.island_pack.specs.Sparse.{unlike_at}
use Rattle.link_laws.proofs.Cutting.{AllControl}
use Rattle.link_laws.proofs.Rows.{and_both, control_columns, Small, all_clean}
use Rattle.link_laws.proofs.Conformed.{IsControl, is_control_of, is_video_of}
use Rattle.link_laws.proofs.Arrival.{whole_of}
use Rattle.link_laws.proofs.Guards.{unlike, stays_control}
use Rattle.link_laws.proofs.SpelledWords.{AreWords, lane_words, small_blue, small_green, small_red}
use Rattle.link_laws.proofs.VideoReported.{PixelAt, ArePixels, no_pixels}
use Rattle.link_laws.proofs.VideoReported as seen
use Rattle.source_end.specs.DviPeriods.{dvi_conforms, DviSpells}
use Rattle.dvi_laws.proofs.Joined.{ReceivedPair, Received, ends, goes_on}

-- columns with at most one damaged word each
pub data AreNearly : List Column → List Column → Type 0 where
  no_columns : AreNearly [] []
  column : (s r : Column) (ss rs : List Column) → unlike s r ≤ 1 → AreNearly ss rs → AreNearly (s ∷ ss) (r ∷ rs)

pub nearly : (ss rs : List Column) → length rs ≡ length ss → ((i : ℕ) → unlike_at ss rs i ≤ 1) → AreNearly ss rs
nearly [] [] e h = no_columns
nearly [] (r ∷ rs) e h = absurd (omega arith)
nearly (s ∷ ss) [] e h = absurd (omega arith)
nearly (s ∷ ss) (r ∷ rs) e h = column s r ss rs (h 0) (nearly ss rs (omega arith) (λ i. h (suc i)))

pub record ControlReceived (vs : List ℕ) (ss rs : List Column) : Type 0 where
  pub cs : List Column
  pub back : List Column
  pub is : rs ≡ cs ++ back
  pub count : length cs ≡ length vs
  pub all : AllControl cs
  pub rest : AreNearly ss back

pub control_received : (vs : List ℕ) (ss rs : List Column) → Small vs → AreNearly (control_columns vs ++ ss) rs → ControlReceived vs ss rs
control_received [] ss rs small h = record { cs = []; back = rs; is = refl; count = refl; all = refl; rest = h }
control_received (v ∷ vs) ss _ small (column _ r _ rs at h) =
    let ih = control_received vs ss rs (and-right _ _ small) h in
    let whole = whole_of (control_column v) (and-left _ _ (all_clean (v ∷ vs) small)) in
    record {
      cs = r ∷ ih.cs;
      back = ih.back;
      is = ap (λ xs. r ∷ xs) ih.is;
      count = ap suc ih.count;
      all = and_both _ _ (stays_control (control_column v) r whole at) ih.all;
      rest = ih.rest;
    }

record PixelsReceived (ps : List Pixel) (pp ss rs : List Column) : Type 0 where
  qq : List Column
  back : List Column
  is : rs ≡ qq ++ back
  are : ArePixels ps pp qq
  rest : AreNearly ss back

pixels_received : (ps : List Pixel) (pp ss rs : List Column) → AreWords (map (λ p. p.blue) ps) (blues pp) → AreWords (map (λ p. p.green) ps) (greens pp) → AreWords (map (λ p. p.red) ps) (reds pp)
    → AreNearly (pp ++ ss) rs → PixelsReceived ps pp ss rs
unfolding AreWords
pixels_received [] [] ss rs b g r h = record { qq = []; back = rs; is = refl; are = no_pixels; rest = h }
pixels_received [] (c ∷ cs) ss rs b g r h = absurd b
pixels_received (p ∷ ps) [] ss rs b g r h = absurd b
pixels_received (p ∷ ps) (c ∷ pp) ss _ b g r (column _ q _ rs at h) =
    let ih = pixels_received ps pp ss rs b.1 g.1 r.1 h in
    let here : PixelAt p c q = record { blue = b.0; green = g.0; red = r.0; one = at } in
    record { qq = q ∷ ih.qq; back = ih.back; is = ap (λ xs. q ∷ xs) ih.is; are = seen.more p c q ps pp ih.qq here ih.are; rest = ih.rest }

-- a conforming list: its first control period, and what follows
pub record First (ps : List Period) : Type 0 where
  pub runs : List ControlRun
  pub tail : List Period
  pub are : ps ≡ control runs ∷ tail

-- what follows a control period was received so
pub tail_received : (runs : List ControlRun) (tail : List Period) (ss rs : List Column) → dvi_conforms (control runs ∷ tail) ≡ true → DviSpells tail ss → AreNearly ss rs → Received tail ss rs
unfolding dvi_conforms
tail_received runs [] ss rs c spells near = none ss rs spells near
  where
    none : (ss rs : List Column) → ss ≡ [] → AreNearly ss rs → Received [] ss rs
    none [] _ e no_columns = ends
    none (s ∷ ss) rs e near = cc
tail_received runs (control next ∷ rest) ss rs c spells near = cc
tail_received runs (island x ∷ rest) ss rs c spells near = cc
tail_received runs (video bytes ∷ []) ss rs c spells near = let d = and-right (is_video_period bytes) _ (and-right (is_control_period runs) _ c) in cc
tail_received runs (video bytes ∷ (video other ∷ rest)) ss rs c spells near = let d = and-right (is_video_period bytes) _ (and-right (is_control_period runs) _ c) in cc
tail_received runs (video bytes ∷ (island x ∷ rest)) ss rs c spells near = let d = and-right (is_video_period bytes) _ (and-right (is_control_period runs) _ c) in cc
tail_received runs (video bytes ∷ (control next ∷ rest)) ss rs c spells near =
    let pp = spells.0 in
    let one = spells.1 in
    let pixels = spells.3 in
    let more = spells.4 in
    let own = more.0 in
    let two = more.1 in
    let later = more.4 in
    let v = and-left (is_video_period bytes) _ (and-right (is_control_period runs) _ c) in
    let d = and-right (is_video_period bytes) _ (and-right (is_control_period runs) _ c) in
    let line = is_video_of bytes v in
    let near_one = subst (λ (xs : List Column). AreNearly xs rs) spells.2 near in
    let ps = pixels_of bytes in
    let p = pixels_received ps pp one rs (lane_words _ _ (small_blue bytes line.small) pixels.blue) (lane_words _ _ (small_green bytes line.small) pixels.green) (lane_words _ _ (small_red bytes line.small) pixels.red) near_one in
    let near_two = subst (λ (xs : List Column). AreNearly xs p.back) (more.2 ∙ ap (λ xs. xs ++ two) more.3) p.rest in
    let control_first = front next rest d in
    let q = control_received (values_of next) two p.back control_first.small near_two in
    grind (arith, ReceivedPair, control_columns, length-map, Received, goes_on, tail_received next rest)
  where
    front : (runs : List ControlRun) (tail : List Period) → dvi_conforms (control runs ∷ tail) ≡ true → IsControl (values_of runs)
    front runs [] h = is_control_of runs h
    front runs (control next ∷ rest) h = cc
    front runs (island x ∷ rest) h = cc
    front runs (video bytes ∷ rest) h = is_control_of runs (and-left _ _ h)

pub first_control_period : (runs : List ControlRun) (tail : List Period) → dvi_conforms (control runs ∷ tail) ≡ true → IsControl (values_of runs)
unfolding dvi_conforms
first_control_period runs [] h = is_control_of runs h
first_control_period runs (control next ∷ rest) h = cc
first_control_period runs (island x ∷ rest) h = cc
first_control_period runs (video bytes ∷ rest) h = is_control_of runs (and-left _ _ h)
