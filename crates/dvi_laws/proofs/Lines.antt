-- A video period's columns as received.
use Rattle.std.proofs.Common.{◌≡◌, ℕ, ◌<◌, ◌≤◌, List, [], ◌∷◌, ◌++◌, length, take, ap, ap₂, ◌∙◌, arith}
use Rattle.std.specs.Prelude.{nat_le}
use Rattle.std.proofs.lemmas.List.{append-nil, take_all}
use Rattle.std.proofs.lemmas.Bool.{le-leb, le-ltb, lt-ltb}
use Rattle.tmds_word.specs.Column.{Column}
use Rattle.island_pack.specs.Periods.{Pixel}
use Rattle.period_grammar.specs.Events.{Event, line, cut, short, long_line}
use Rattle.period_grammar.specs.Heard.{line_bytes, codes_of, if_not}
use Rattle.link_laws.proofs.VideoReported.{ArePixels, pixels_no_control, length_received, bytes_are}
use Rattle.dvi_hearing.specs.DviHeard.{dvi_line, dvi_closing, dvi_gaps}
use Rattle.dvi_laws.specs.DviAccount.{dvi_video_row, dvi_video_reported}
use Rattle.dvi_laws.proofs.Walk.{IsGapBy}

pub closes : (b n : ℕ) (ps : List Pixel) (ss rs : List Column) → 12 ≤ n → length ps ≤ 4096 → ArePixels ps ss rs → dvi_line b n rs ≡ dvi_video_row b ps ss rs
unfolding dvi_line dvi_video_row
closes b n ps ss rs long few h =
    let m = length_received ps ss rs h in
    ap (λ q. if_not q (short b) ++ line (line_bytes (take 4096 rs)) ∷ (codes_of b (take 4096 rs) ++ if_not (nat_le (length rs) 4096) (long_line b))) (le-leb 12 n long)
    ∙ ap (λ xs. line (line_bytes xs) ∷ (codes_of b xs ++ if_not (nat_le (length rs) 4096) (long_line b))) (take_all 4096 rs (omega arith))
    ∙ ap (λ q. line (line_bytes rs) ∷ (codes_of b rs ++ if_not q (long_line b))) (le-leb (length rs) 4096 (omega arith))
    ∙ ap₂ (λ (x : List ℕ) (ts : List Event). line x ∷ ts) (bytes_are ps ss rs h) (append-nil (codes_of b rs))

pub closing_is : (b : ℕ) (before rs : List Column) → 1 ≤ length rs → dvi_closing b before rs ≡ dvi_line b (length before) rs
unfolding dvi_closing
closing_is b before rs h = grind arith

reported_part : (b k : ℕ) (ps : List Pixel) (ss rs : List Column) → 1 ≤ k → k ≤ length ps → cut b ∷ [] ≡ dvi_video_reported b k ps ss rs
unfolding dvi_video_reported
reported_part b k ps ss rs h l = grind (arith, le-ltb)

reported_whole : (b k : ℕ) (ps : List Pixel) (ss rs : List Column) → length ps < k → dvi_video_row b ps ss rs ≡ dvi_video_reported b k ps ss rs
unfolding dvi_video_reported
reported_whole b k ps ss rs h = grind (arith, lt-ltb)

pub dvi_gap : (before : List Column) (ps : List Pixel) (ss rs : List Column) → 12 ≤ length before → 1 ≤ length ps → length ps ≤ 4096 → ArePixels ps ss rs
    → IsGapBy dvi_gaps before rs (λ b k. dvi_video_reported b k ps ss rs)
unfolding dvi_video_reported
dvi_gap before ps ss rs long some few are = grind (arith, length_received, pixels_no_control, reported_part, closing_is, closes, reported_whole)
