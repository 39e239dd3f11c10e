-- How many bytes differ, once a row or a frame more is listed.
use Rattle.std.proofs.Common.{◌≡◌, ◌∙◌, ℕ, zero, suc, ◌+◌, ◌-◌, ◌%◌, ◌^◌, ◌<◌, ◌==◌, cond, List, [], ◌∷◌, ◌++◌, map, length, take, get_or, min, refl, ap, ap₂, sym, length-append, arith}
use Rattle.std.specs.Prelude.{sum_by}
use Rattle.std.specs.List.{enumerate_from}
use Rattle.std.proofs.lemmas.List.{length-map, length-take, take_more, take_all}
use Rattle.std.proofs.lemmas.List.Sums.{sum_by-append}
use Rattle.frame_build.specs.declared.FrameNote.{FrameNote}
use Rattle.frame_build.specs.declared.LineNote.{LineNote}
use Rattle.source_end.specs.Raster.{up_from}
use Rattle.source_end.specs.Generator.{row_byte, row_bytes}
use Rattle.source_end.proofs.Generated.{byte_more}
use Rattle.listing_writer.specs.Listed.{Listed, row, frame}
use Rattle.sampling.specs.Counts.{kept, reported_frames, unlike, unlike_frame, unlike_reported}
use Rattle.sampling.specs.Tallies.{open_rows, next_frame, Shows}
use Rattle.sampling.specs.declared.pictures.Pictures.{Pictures}

abbrev Frames : Type 0
Frames = List (List (List ℕ))

abbrev Rows : Type 0
Rows = List (List ℕ)

-- ---- rows and frames

reported_row : (rows : Rows) (xs : List Listed) (bytes : List ℕ) (note : LineNote) → reported_frames rows (xs ++ row bytes note ∷ []) ≡ reported_frames rows xs
unfolding reported_frames
reported_row rows [] bytes note = refl
reported_row rows (row b n ∷ xs) bytes note = reported_row (rows ++ b ∷ []) xs bytes note
reported_row rows (frame n ∷ xs) bytes note = ap (λ (fs : Frames). rows ∷ fs) (reported_row [] xs bytes note)

reported_frame : (rows : Rows) (xs : List Listed) (note : FrameNote) → reported_frames rows (xs ++ frame note ∷ []) ≡ reported_frames rows xs ++ open_rows rows xs ∷ []
unfolding reported_frames open_rows
reported_frame rows [] note = refl
reported_frame rows (row b n ∷ xs) note = reported_frame (rows ++ b ∷ []) xs note
reported_frame rows (frame n ∷ xs) note = ap (λ (fs : Frames). rows ∷ fs) (reported_frame [] xs note)

open_row : (rows : Rows) (xs : List Listed) (bytes : List ℕ) (note : LineNote) → open_rows rows (xs ++ row bytes note ∷ []) ≡ open_rows rows xs ++ bytes ∷ []
unfolding open_rows
open_row rows [] bytes note = refl
open_row rows (row b n ∷ xs) bytes note = open_row (rows ++ b ∷ []) xs bytes note
open_row rows (frame n ∷ xs) bytes note = open_row [] xs bytes note

open_frame : (rows : Rows) (xs : List Listed) (note : FrameNote) → open_rows rows (xs ++ frame note ∷ []) ≡ []
unfolding open_rows
open_frame rows [] note = refl
open_frame rows (row b n ∷ xs) note = open_frame (rows ++ b ∷ []) xs note
open_frame rows (frame n ∷ xs) note = open_frame [] xs note

-- ---- bytes that differ

one_more : {X : Type 0} (n : ℕ) (xs : List X) (x : X) → enumerate_from n (xs ++ x ∷ []) ≡ enumerate_from n xs ++ (n + length xs, x) ∷ []
one_more {X} n [] x = let e : n ≡ n + 0 = omega arith in ap {B = List (ℕ × X)} (λ k. (k, x) ∷ []) e
one_more {X} n (y ∷ xs) x =
    let e : n + 1 + length xs ≡ n + length (y ∷ xs) = omega arith in
    ap (λ (rest : List (ℕ × X)). (n, y) ∷ rest) (one_more (n + 1) xs x ∙ ap {B = List (ℕ × X)} (λ k. enumerate_from (n + 1) xs ++ (k, x) ∷ []) e)

-- what is summed of numbered elements grows by one
sum_more : {X : Type 0} (f : ℕ × X → ℕ) (n at : ℕ) (xs : List X) (x : X) → n + length xs ≡ at → sum_by f (enumerate_from n (xs ++ x ∷ [])) ≡ sum_by f (enumerate_from n xs) + f (at, x)
sum_more {X} f n at xs x place = grind (arith, one_more, sum_by-append)

frames_more : (frames : Frames) (rows : Rows) → unlike_reported (frames ++ rows ∷ []) ≡ unlike_reported frames + unlike_frame (suc (length frames), rows)
unfolding unlike_reported
frames_more frames rows = sum_more unlike_frame 1 (suc (length frames)) frames rows (omega arith)

-- ---- the generator's bytes repeat

map_same : (g h : ℕ → ℕ) (xs : List ℕ) → ((x : ℕ) → g x ≡ h x) → map g xs ≡ map h xs
map_same g h [] same = refl
map_same g h (x ∷ xs) same = ap₂ (λ (y : ℕ) (ys : List ℕ). y ∷ ys) (same x) (map_same g h xs same)

row_repeats : (f y n : ℕ) → row_bytes f y n ≡ row_bytes (f % 256) (y % 256) n
unfolding row_bytes
row_repeats f y n = grind (arith, map_same)

-- ---- one more is listed

grows : (k n a b c u : ℕ) → k ≡ kept a → n ≡ min (k + u) (2 ^ 64 - 1) → c ≡ a + b → b ≡ u → n ≡ kept c
grows k n a b c u was now sum is = omega arith

adds : (k l n a b c : ℕ) → k ≡ kept a → l ≡ kept b → n ≡ min (k + l) (2 ^ 64 - 1) → c ≡ a + b → n ≡ kept c
adds k l n a b c was has now sum = omega arith

pub row_shown : (p n : Pictures) (listed : List Listed) (bytes : List ℕ) (note : LineNote) (u : ℕ) → Shows p listed
    → u ≡ unlike bytes (row_bytes p.frame p.row (length bytes)) → n.differ ≡ p.differ → n.pending ≡ min (p.pending + u) (2 ^ 64 - 1) → n.frame ≡ p.frame → n.row ≡ (p.row + 1) % 256
    → Shows n (listed ++ row bytes note ∷ [])
unfolding unlike_frame
row_shown p n listed bytes note u was is d e f r = grind (arith, reported_row, open_row, row_repeats, length-append, grows, sum_more)

pub frame_shown : (p n : Pictures) (listed : List Listed) (note : FrameNote) → Shows p listed
    → n.differ ≡ min (p.differ + p.pending) (2 ^ 64 - 1) → n.pending ≡ 0 → n.frame ≡ (p.frame + 1) % 256 → n.row ≡ 0
    → Shows n (listed ++ frame note ∷ [])
unfolding unlike_frame
frame_shown p n listed note was d e f r =
    let frames = reported_frame [] listed note in
    let rows = open_frame [] listed note in
    let more = ap unlike_reported frames ∙ frames_more (reported_frames [] listed) (open_rows [] listed) in
    let count = ap length frames ∙ length-append (reported_frames [] listed) (open_rows [] listed ∷ []) in
    record {
      differ = adds p.differ p.pending n.differ _ _ _ was.differ was.pending d more;
      pending = e ∙ ap (λ (rs : Rows). kept (unlike_frame (next_frame (listed ++ frame note ∷ []), rs))) (sym rows);
      frame = let at = was.frame in omega (arith, f, at, count);
      row = r ∙ ap (λ (rs : Rows). length rs % 256) (sym rows);
    }

pub none_shown : (n : Pictures) → n.differ ≡ 0 → n.pending ≡ 0 → n.frame ≡ 1 → n.row ≡ 0 → Shows n []
unfolding reported_frames open_rows unlike_frame unlike_reported
none_shown n d e f r = record { differ = d; pending = e; frame = f; row = r }

-- ---- byte by byte

one_differs : (xs ys : List ℕ) (x y : ℕ) → length xs ≡ length ys → unlike (xs ++ x ∷ []) (ys ++ y ∷ []) ≡ unlike xs ys + cond (x == y) 0 1
one_differs [] [] x y same = let e : cond (x == y) 0 1 + 0 ≡ 0 + cond (x == y) 0 1 = omega arith in e
one_differs [] (c ∷ cs) x y same = absurd cc
one_differs (b ∷ bs) [] x y same = absurd cc
one_differs (b ∷ bs) (c ∷ cs) x y same = grind (arith, one_differs bs cs x y)

length_up : (n x : ℕ) → length (up_from x n) ≡ n
length_up zero x = refl
length_up (suc n) x = ap (λ (k : ℕ). suc k) (length_up n (suc x))

row_length : (f y n : ℕ) → length (row_bytes f y n) ≡ n
unfolding row_bytes
row_length f y n = length-map (up_from 0 n) (row_byte f y) ∙ length_up n 0

pub none_unlike : (f y : ℕ) → 0 ≡ unlike [] (row_bytes f y 0)
unfolding row_bytes
none_unlike f y = refl

-- one byte more was looked at
pub byte_unlike : (bytes : List ℕ) (f y k count next here : ℕ) → k < length bytes → count ≡ unlike (take k bytes) (row_bytes f y k) → here ≡ row_byte f y k
    → next ≡ count + cond (get_or bytes k 0 == here) 0 1 → next ≡ unlike (take (k + 1) bytes) (row_bytes f y (k + 1))
byte_unlike bytes f y k count next here within was is now =
    let same : length (take k bytes) ≡ length (row_bytes f y k) = (let k_long : length (take k bytes) ≡ k = omega (arith, length-take k bytes, within) in k_long) ∙ sym (row_length f y k) in
    now ∙ ap₂ (λ (n b : ℕ). n + cond (get_or bytes k 0 == b) 0 1) was is
    ∙ sym (one_differs (take k bytes) (row_bytes f y k) (get_or bytes k 0) (row_byte f y k) same)
    ∙ ap₂ unlike (sym (take_more bytes k 0 within)) (sym (byte_more f y k))

-- all were
pub all_unlike : (bytes : List ℕ) (f y k count : ℕ) → k ≡ length bytes → count ≡ unlike (take k bytes) (row_bytes f y k) → count ≡ unlike bytes (row_bytes f y (length bytes))
all_unlike bytes f y k count all was = was ∙ ap₂ (λ (xs : List ℕ) (n : ℕ). unlike xs (row_bytes f y n)) (take_all k bytes (omega arith)) all
