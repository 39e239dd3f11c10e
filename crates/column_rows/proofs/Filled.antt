-- Rows of equal words, and the bytes of pixels.
use Rattle.std.proofs.Common.{◌≡◌, ℕ, suc, zero, ◌+◌, ◌*◌, ◌<◌, List, ◌∷◌, [], ◌++◌, ◌-◌, length, take, drop, take_all, map, replicate, get_or, refl, ap, sym, subst, arith}
use Rattle.std.proofs.lemmas.List.{length-drop}
use Rattle.std.proofs.lemmas.Slice.{drop-append-drop}
use Rattle.column_rows.specs.Laid.{AreAlikeFrom, Lays, Rows, first_columns, rows_of}
use Rattle.column_rows.specs.declared.laid.RowStatus.{RowStatus}
use Rattle.column_rows.specs.declared.laid.RowStatus.TheVariants.{Done}
use Rattle.tmds_code.specs.Lanes.{IsLane}
use Rattle.island_pack.specs.Periods.{Pixel, pixels_of}
use Rattle.island_pack.specs.Spelling.{SpellsPixels}
use Rattle.source_end.proofs.LineCodings.{lanes_of}
use Rattle.tmds_word.specs.Column.{Column, column_of}
use Rattle.tmds_word.specs.Words.{columns_of}
use Rattle.source_end.specs.LineCoding.{byte_of}
use Rattle.source_end.proofs.Spellings.{pixel_at}

pub equal_columns : (n b g r : ℕ) → columns_of (replicate n b) (replicate n g) (replicate n r) ≡ replicate n (column_of (b ∷ g ∷ r ∷ []))
unfolding columns_of
equal_columns zero b g r = refl
equal_columns (suc n) b g r = ap (λ cs. column_of (b ∷ g ∷ r ∷ []) ∷ cs) (equal_columns n b g r)

pub part_byte : (bytes : List ℕ) (i part : ℕ) → part < 3 → get_or bytes (3 * i + part) 0 ≡ byte_of part (pixel_at bytes (3 * i) (3 * i + 1) (3 * i + 2))
part_byte bytes i zero lt = let e : 3 * i + 0 ≡ 3 * i = omega arith in ap (λ k. get_or bytes k 0) e
part_byte bytes i (suc zero) lt = refl
part_byte bytes i (suc (suc zero)) lt = refl
part_byte bytes i (suc (suc (suc n))) lt = absurd (omega (arith, lt))

-- three coded rows are the columns of pixels
pub spells : (bytes bs gs rs : List ℕ) → length gs ≡ length bs → length rs ≡ length bs → IsLane (map (byte_of 2) (pixels_of bytes)) bs → IsLane (map (byte_of 1) (pixels_of bytes)) gs → IsLane (map (byte_of 0) (pixels_of bytes)) rs
    → SpellsPixels (pixels_of bytes) (columns_of bs gs rs)
spells bytes bs gs rs e f b g r =
    let l = lanes_of bs gs rs e f in
    record {
      blue = subst (λ (ws : List ℕ). IsLane (map (λ (p : Pixel). p.blue) (pixels_of bytes)) ws) (sym l.blue) b;
      green = subst (λ (ws : List ℕ). IsLane (map (λ (p : Pixel). p.green) (pixels_of bytes)) ws) (sym l.green) g;
      red = subst (λ (ws : List ℕ). IsLane (map (λ (p : Pixel). p.red) (pixels_of bytes)) ws) (sym l.red) r;
    }

take_front : (n : ℕ) (b x : List ℕ) → length b ≡ n → b ≡ take n (b ++ x)
take_front n [] x e = subst (λ (k : ℕ). [] ≡ take k x) e refl
take_front n (w ∷ b) x e = subst (λ (k : ℕ). w ∷ b ≡ take k (w ∷ (b ++ x))) e (ap (λ (l : List ℕ). w ∷ l) (take_front (length b) b x refl))

-- the first columns of rows of which so many words were written
pub first_of : (n : ℕ) (b g r x y z : List ℕ) → length b ≡ n → length g ≡ n → length r ≡ n → columns_of b g r ≡ first_columns n (rows_of (b ++ x) (g ++ y) (r ++ z))
first_of n b g r x y z e f h =
    let p : b ≡ take n (b ++ x) = take_front n b x e in
    let q : g ≡ take n (g ++ y) = take_front n g y f in
    let s : r ≡ take n (r ++ z) = take_front n r z h in
    λ j. columns_of (p j) (q j) (s j)

pub rest_of : (n : ℕ) (xs : List ℕ) → take (length xs - n) (drop n xs) ≡ drop n xs
rest_of n xs = take_all (length xs - n) (drop n xs) (omega (arith, length-drop n xs))

-- a part was laid
pub laid : (P : Type 0) (S : List Column → Type 0) (n m : ℕ) (s : RowStatus) (old new : Rows) → s ≡ Done → m ≡ n → P → S (first_columns n new) → AreAlikeFrom n old new → Lays P S n s m old new
laid P S n m s old new e f p h r =
    subst (λ (t : RowStatus). Lays P S n t m old new) (sym e) (p, f, subst (λ (k : ℕ). S (first_columns k new)) (sym f) h, subst (λ (k : ℕ). AreAlikeFrom k old new) (sym f) r)

-- what stands behind the words that were written
pub alike_from : (n : ℕ) (b g r x y z : List ℕ) → length b ≡ n → length g ≡ n → length r ≡ n → AreAlikeFrom n (rows_of x y z) (rows_of (b ++ drop n x) (g ++ drop n y) (r ++ drop n z))
alike_from n b g r x y z e f h = (drop-append-drop n x b n (omega arith) e, drop-append-drop n y g n (omega arith) f, drop-append-drop n z r n (omega arith) h)
