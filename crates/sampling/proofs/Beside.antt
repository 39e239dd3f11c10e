-- Reported frames beside the frames of the generator's content.
use Rattle.std.proofs.Common.{◌≡◌, ◌∙◌, ℕ, zero, suc, ◌+◌, ◌≤◌, ◌==◌, cond, List, [], ◌∷◌, map, length, drop, refl, ap, ap₂, sym, arith}
use Rattle.std.specs.Prelude.{sum_by, zip}
use Rattle.std.specs.List.{AllByRecursion, enumerate_from}
use Rattle.std.proofs.lemmas.List.Sums.{sum_by-cons}
use Rattle.island_pack.specs.declared.packet.Packet.{Packet}
use Rattle.source_end.specs.Content.{Frame}
use Rattle.source_end.specs.Raster.{up_from}
use Rattle.source_end.specs.Generator.{row_byte, row_bytes, first_rows, frame_at, first_frames}
use Rattle.sampling.specs.Counts.{unlike, unlike_row, unlike_frame, unlike_reported}
use Rattle.sampling.specs.CountLaws.{unlike_beside, unlike_picture, FitsPicture, ReportedBesideContent}

-- bytes that one list alone has are not compared
unlike_longer : (g : ℕ → ℕ) (bytes : List ℕ) (x n : ℕ) → length bytes ≤ n → unlike bytes (map g (up_from x (length bytes))) ≡ unlike bytes (map g (up_from x n))
unlike_longer g [] x n le = refl
unlike_longer g (b ∷ bs) x zero le = absurd (omega (arith, le))
unlike_longer g (b ∷ bs) x (suc n) le = ap (λ (rest : ℕ). cond (b == g x) 0 1 + rest) (unlike_longer g bs (suc x) n (omega (arith, le)))

row_whole : (f y : ℕ) (bytes : List ℕ) → length bytes ≤ 1920 → unlike bytes (row_bytes f y (length bytes)) ≡ unlike bytes (row_bytes f y 1920)
unfolding row_bytes
row_whole f y bytes le = unlike_longer (row_byte f y) bytes 0 1920 le

next : (x n : ℕ) → up_from (suc x) n ≡ up_from (x + 1) n
next x n = let e : suc x ≡ x + 1 = omega arith in ap (λ (k : ℕ). up_from k n) e

-- rows, each with its number, and the generator's rows from that number on
rows_beside : (f y n : ℕ) (rows : List (List ℕ)) → length rows ≤ n → AllByRecursion (λ (bytes : List ℕ). length bytes ≤ 1920) rows
    → sum_by (unlike_row f) (enumerate_from y rows) ≡ sum_by unlike_beside (zip rows (map (λ j. row_bytes f j 1920) (up_from y n)))
rows_beside f y n [] le short = refl
rows_beside f y zero (bytes ∷ rows) le short = absurd (omega (arith, le))
rows_beside f y (suc n) (bytes ∷ rows) le short =
    let others : ℕ → List (List ℕ) = λ x. map (λ j. row_bytes f j 1920) (up_from x n) in
    sum_by-cons (unlike_row f) (y, bytes) (enumerate_from (y + 1) rows)
    ∙ ap₂ (λ (a b : ℕ). a + b) (row_whole f y bytes short.0) (rows_beside f (y + 1) n rows (omega (arith, le)) short.1)
    ∙ ap (λ (xs : List ℕ). unlike bytes (row_bytes f y 1920) + sum_by unlike_beside (zip rows (map (λ j. row_bytes f j 1920) xs))) (sym (next y n))
    ∙ sym (sum_by-cons unlike_beside (bytes, row_bytes f y 1920) (zip rows (others (suc y))))

picture_beside : (avi audio : Packet) (f : ℕ) (rows : List (List ℕ)) → FitsPicture rows → unlike_frame (f, rows) ≡ unlike_picture (rows, frame_at avi audio f)
unfolding unlike_frame unlike_picture frame_at first_rows
picture_beside avi audio f rows fits = rows_beside f 0 480 rows fits.few fits.short

frames_beside : (avi audio : Packet) (f n : ℕ) (reported : List (List (List ℕ))) → length reported ≤ n → AllByRecursion FitsPicture reported
    → sum_by unlike_frame (enumerate_from f reported) ≡ sum_by unlike_picture (zip reported (map (frame_at avi audio) (up_from f n)))
frames_beside avi audio f n [] le fits = refl
frames_beside avi audio f zero (rows ∷ reported) le fits = absurd (omega (arith, le))
frames_beside avi audio f (suc n) (rows ∷ reported) le fits =
    sum_by-cons unlike_frame (f, rows) (enumerate_from (f + 1) reported)
    ∙ ap₂ (λ (a b : ℕ). a + b) (picture_beside avi audio f rows fits.0) (frames_beside avi audio (f + 1) n reported (omega (arith, le)) fits.1)
    ∙ ap (λ (xs : List ℕ). unlike_picture (rows, frame_at avi audio f) + sum_by unlike_picture (zip reported (map (frame_at avi audio) xs))) (sym (next f n))
    ∙ sym (sum_by-cons unlike_picture (rows, frame_at avi audio f) (zip reported (map (frame_at avi audio) (up_from (suc f) n))))

after_first : (avi audio : Packet) (n : ℕ) (reported : List (List (List ℕ))) → length reported + 1 ≤ n → AllByRecursion FitsPicture reported
    → sum_by unlike_frame (enumerate_from 1 reported) ≡ sum_by unlike_picture (zip reported (drop 1 (first_frames avi audio n)))
unfolding first_frames
after_first avi audio zero reported le fits = absurd (omega (arith, le))
after_first avi audio (suc n) reported le fits = frames_beside avi audio 1 n reported (omega (arith, le)) fits

pub reported_beside_content : ReportedBesideContent
unfolding unlike_reported
reported_beside_content n content g reported le fits =
    after_first g.avi g.audio n reported le fits
    ∙ ap (λ (frames : List Frame). sum_by unlike_picture (zip reported (drop 1 frames))) (sym g.content_is)
