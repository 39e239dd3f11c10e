-- A video data period's columns as received: two guard columns, and pixels.
use Rattle.std.proofs.Common.{◌≡◌, ℕ, suc, zero, ◌+◌, ◌/◌, ◌<◌, ◌≤◌, false, not, List, [], ◌∷◌, ◌++◌, length, take, refl, ap, ap₂, ◌∙◌, arith}
use Rattle.std.specs.Prelude.{nat_le}
use Rattle.std.proofs.lemmas.List.{append-nil, take_all}
use Rattle.std.proofs.lemmas.Bool.{eqb-true, le-leb, le-ltb, lt-ltb}
use Rattle.tmds_word.specs.Column.{Column}
use Rattle.tmds_code.specs.Coding.{decoded_byte}
use Rattle.terc4.specs.Tables.{is_control}
use Rattle.island_pack.specs.Spelling.{column_words}
use Rattle.island_pack.specs.Sparse.{unlike_words}
use Rattle.terc4.specs.Columns.{is_control_column}
use Rattle.island_pack.specs.Periods.{Pixel, pixels_of, period_columns}
use Rattle.period_grammar.specs.Events.{Event, line, long_line}
use Rattle.period_grammar.specs.Heard.{video, line_bytes, codes_of, line_of, opened, payload_closes, in_gap, at_close, at_end, if_not}
use Rattle.link_laws.specs.Account.{pixel_bytes, video_row, open_video_row, video_reported, period_row}
use Rattle.link_laws.proofs.Cutting.{NoneControl, gap_events}
use Rattle.link_laws.proofs.Rows.{and_both}
use Rattle.link_laws.proofs.Conformed.{IsVideo}
use Rattle.period_grammar.proofs.Hearings.{events_at}
use Rattle.link_laws.proofs.Between.{IsGap, lacks_preamble}
use Rattle.link_laws.proofs.Guards.{unlike, line_guard, line_guard_no_control, stays_without_control, opens_video}
use Rattle.island_pack.specs.Periods as sends

pub pixel_count : (bytes : List ℕ) → length (pixels_of bytes) ≡ length bytes / 3
unfolding pixels_of
pixel_count [] = refl
pixel_count (r ∷ []) = refl
pixel_count (r ∷ (g ∷ [])) = refl
pixel_count (r ∷ (g ∷ (b ∷ rest))) = let n = pixel_count rest in omega arith

-- a word as sent for a byte
pub record IsWord (byte word : ℕ) : Type 0 where
  pub byte_is : decoded_byte word ≡ byte
  pub no_control : is_control word ≡ false

-- a pixel column as sent and as received
pub record PixelAt (p : Pixel) (s r : Column) : Type 0 where
  pub blue : IsWord p.blue s.blue
  pub green : IsWord p.green s.green
  pub red : IsWord p.red s.red
  pub one : unlike_words (column_words s) (column_words r) ≤ 1

pub data ArePixels : List Pixel → List Column → List Column → Type 0 where
  no_pixels : ArePixels [] [] []
  more : (p : Pixel) (s r : Column) (ps : List Pixel) (ss rs : List Column) → PixelAt p s r → ArePixels ps ss rs → ArePixels (p ∷ ps) (s ∷ ss) (r ∷ rs)

pub pixel_no_control : (p : Pixel) (s r : Column) → PixelAt p s r → is_control_column r ≡ false
pixel_no_control p s r h = stays_without_control s r (record { blue = h.blue.no_control; green = h.green.no_control; red = h.red.no_control }) h.one

pub pixels_no_control : (ps : List Pixel) (ss rs : List Column) → ArePixels ps ss rs → NoneControl rs
pixels_no_control _ _ _ no_pixels = refl
pixels_no_control _ _ _ (more p s r ps ss rs h hs) = and_both _ _ (ap not (pixel_no_control p s r h)) (pixels_no_control ps ss rs hs)

pub length_received : (ps : List Pixel) (ss rs : List Column) → ArePixels ps ss rs → length rs ≡ length ps
length_received _ _ _ no_pixels = refl
length_received _ _ _ (more p s r ps ss rs h hs) = ap suc (length_received ps ss rs hs)

pub length_sent : (ps : List Pixel) (ss rs : List Column) → ArePixels ps ss rs → length ss ≡ length ps
length_sent _ _ _ no_pixels = refl
length_sent _ _ _ (more p s r ps ss rs h hs) = ap suc (length_sent ps ss rs hs)

pub bytes_are : (ps : List Pixel) (ss rs : List Column) → ArePixels ps ss rs → line_bytes rs ≡ pixel_bytes ps ss rs
unfolding line_bytes pixel_bytes
bytes_are _ _ _ no_pixels = refl
bytes_are _ _ _ (more p s r ps ss rs h hs) = grind (arith, eqb-true, bytes_are ps ss rs hs)

-- two guard columns as received
pub record AreGuards (s t g h : Column) : Type 0 where
  pub one : unlike s g + unlike t h ≤ 1

guarded_no_control : (g h : Column) (rs : List Column) → AreGuards line_guard line_guard g h → NoneControl rs → NoneControl (g ∷ (h ∷ rs))
guarded_no_control g h rs are none =
    let one = are.one in
    and_both _ _ (ap not (stays_without_control line_guard g line_guard_no_control (omega arith))) (and_both _ _ (ap not (stays_without_control line_guard h line_guard_no_control (omega arith))) none)

pub close_line : (b : ℕ) (ps : List Pixel) (ss rs : List Column) → 1 ≤ length ps → length ps ≤ 4096 → ArePixels ps ss rs → line_of b rs ≡ video_row b ps ss rs
unfolding line_of video_row
close_line b ps ss [] some few h = let n = length_received ps ss [] h in absurd (omega arith)
close_line b ps ss (r ∷ rs) some few h =
    let n = length_received ps ss (r ∷ rs) h in
    let whole = take_all 4096 (r ∷ rs) (omega arith) in
    ap (λ xs. line (line_bytes xs) ∷ (codes_of (b + 2) xs ++ if_not (nat_le (length (r ∷ rs)) 4096) (long_line b))) whole
    ∙ ap (λ q. line (line_bytes (r ∷ rs)) ∷ (codes_of (b + 2) (r ∷ rs) ++ if_not q (long_line b))) (le-leb _ 4096 (omega arith))
    ∙ ap₂ (λ (x : List ℕ) (ts : List Event). line x ∷ ts) (bytes_are ps ss (r ∷ rs) h) (append-nil (codes_of (b + 2) (r ∷ rs)))

going_on : (b : ℕ) (control : List Column) (g h : Column) (rs : List Column) → 12 ≤ length control → opened g h ≡ video → gap_events b control (g ∷ (h ∷ rs)) ≡ open_video_row b control (g ∷ (h ∷ rs))
unfolding in_gap open_video_row
going_on b control g h rs long opens = grind (arith, append-nil, events_at, lacks_preamble)

pub line_closes : (b : ℕ) (g h : Column) (rs : List Column) → opened g h ≡ video → at_close b (g ∷ (h ∷ rs)) ≡ line_of b rs
unfolding at_close
line_closes b g h rs opens = ap (λ k. payload_closes b k rs) opens

open_row_part : (b : ℕ) (control : List Column) (g h : Column) (xs ys : List Column) → open_video_row b control (g ∷ (h ∷ xs)) ≡ open_video_row b control (g ∷ (h ∷ ys))
unfolding open_video_row
open_row_part b control g h xs ys = refl

part : (ps : List Pixel) (g h : Column) (own qq : List Column) (control : List Column) (b k : ℕ) → 12 ≤ length control → opened g h ≡ video → 1 ≤ k → k ≤ length ps + 2
    → gap_events b control (take k (g ∷ (h ∷ qq))) ++ at_end b (take k (g ∷ (h ∷ qq))) ≡ video_reported b k control ps own (g ∷ (h ∷ qq))
unfolding video_reported at_end in_gap
part ps g h own qq control b k l m p q = grind (arith, going_on, open_row_part, le-ltb)

whole : (ps : List Pixel) (g h s t : Column) (pp qq : List Column) (control : List Column) (b k : ℕ) → 12 ≤ length control → opened g h ≡ video → 1 ≤ length ps → length ps ≤ 4096 → ArePixels ps pp qq → length ps + 2 < k
    → gap_events b control (g ∷ (h ∷ qq)) ++ at_close b (g ∷ (h ∷ qq)) ≡ video_reported b k control ps (s ∷ (t ∷ pp)) (g ∷ (h ∷ qq))
unfolding video_reported
whole ps g h s t pp qq control b zero long opens some few are lt = absurd (omega arith)
whole ps g h s t pp qq control b (suc zero) long opens some few are lt = absurd (omega arith)
whole ps g h s t pp qq control b (suc (suc i)) long opens some few are lt = grind (arith, going_on, line_closes, close_line, lt-ltb)

-- the law of a video data period
pub video_gap : (before : List Column) (bytes : List ℕ) (g h : Column) (pp qq : List Column) → 12 ≤ length before → IsVideo bytes → AreGuards line_guard line_guard g h → ArePixels (pixels_of bytes) pp qq
    → IsGap before (sends.video bytes) (line_guard ∷ (line_guard ∷ pp)) (g ∷ (h ∷ qq))
unfolding period_columns period_row video_reported
video_gap before bytes g h pp qq long v guards are = grind (arith, pixel_count, opens_video, guarded_no_control, pixels_no_control, length_received, part, line_guard, whole)
