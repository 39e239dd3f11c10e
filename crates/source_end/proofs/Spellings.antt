-- The columns of an item, one after another.
use Rattle.std.proofs.Common.{◌≡◌, ℕ, suc, zero, ◌+◌, ◌*◌, ◌/◌, ◌≤◌, ◌<◌, List, [], ◌∷◌, ◌++◌, length, take, get_or, map, replicate, refl, ap, sym, subst, ◌∙◌, arith, append_assoc, append-nil, length-append, ℤ}
use Rattle.std.proofs.lemmas.List.{take_more, map-append, length-replicate}
use Rattle.tmds_word.specs.Column.{Column}
use Rattle.tmds_code.specs.Pasts.{IsCoderAfter}
use Rattle.island_pack.specs.Periods.{ControlRun, values_of, Pixel, pixels_of}
use Rattle.source_end.proofs.Leads.{values_of-more}

pub map_replicate : {A : Type 0} (f : ℕ → A) (n v : ℕ) → map f (replicate n v) ≡ replicate n (f v)
map_replicate f zero v = refl
map_replicate f (suc n) v = ap (λ xs. f v ∷ xs) (map_replicate f n v)

pub map-values_of-more : {A : Type 0} (f : ℕ → A) (runs : List ControlRun) (i : ℕ) (r : ControlRun) → i < length runs → map f (values_of (take (i + 1) runs)) ≡ map f (values_of (take i runs)) ++ replicate (get_or runs i r).count (f (get_or runs i r).value)
map-values_of-more f runs i r lt =
    let x = get_or runs i r in
    ap (λ rs. map f (values_of rs)) (take_more runs i r lt) ∙ ap (map f) (values_of-more (take i runs) x) ∙ map-append f (values_of (take i runs)) (replicate x.count x.value) ∙ ap (λ xs. map f (values_of (take i runs)) ++ xs) (map_replicate f x.count x.value)

-- the columns of the first runs and of the next one are among all
pub room : (runs : List ControlRun) (i : ℕ) (r : ControlRun) → i < length runs → length (values_of (take i runs)) + (get_or runs i r).count ≤ length (values_of runs)
unfolding values_of
room [] i r lt = absurd (omega arith)
room (x ∷ runs) zero r lt = omega (arith, length-append (replicate x.count x.value) (values_of runs), length-replicate x.count x.value)
room (x ∷ runs) (suc i) r lt = grind (arith, length-append, room runs i r)

pub none_spelled : {A : Type 0} (f : ℕ → A) (xs : List A) → xs ≡ xs ++ map f (values_of [])
unfolding values_of
none_spelled f xs = sym (append-nil xs)

-- The pixels of bytes.
abbrev pub pixel_at : List ℕ → ℕ → ℕ → ℕ → Pixel
pixel_at bytes a b c = record { red = get_or bytes a 0; green = get_or bytes b 0; blue = get_or bytes c 0 }

pub pixels_of-more : (bytes : List ℕ) (i : ℕ) → i < length bytes / 3 → take (suc i) (pixels_of bytes) ≡ take i (pixels_of bytes) ++ pixel_at bytes (3 * i) (3 * i + 1) (3 * i + 2) ∷ []
unfolding pixels_of
pixels_of-more [] i lt = absurd (omega arith)
pixels_of-more (r ∷ []) i lt = absurd (omega arith)
pixels_of-more (r ∷ (g ∷ [])) i lt = absurd (omega arith)
pixels_of-more (r ∷ (g ∷ (b ∷ rest))) zero lt = refl
pixels_of-more (r ∷ (g ∷ (b ∷ rest))) (suc i) lt =
    let x : 3 * suc i ≡ suc (suc (suc (3 * i))) = omega arith in
    let y : 3 * suc i + 1 ≡ suc (suc (suc (3 * i + 1))) = omega arith in
    let z : 3 * suc i + 2 ≡ suc (suc (suc (3 * i + 2))) = omega arith in
    rw (z, y, x) (ap (λ ps. record { red = r; green = g; blue = b } ∷ ps) (pixels_of-more rest i (omega arith)))

pub length-pixels_of : (bytes : List ℕ) → length (pixels_of bytes) ≡ length bytes / 3
unfolding pixels_of
length-pixels_of [] = refl
length-pixels_of (r ∷ []) = omega arith
length-pixels_of (r ∷ (g ∷ [])) = omega arith
length-pixels_of (r ∷ (g ∷ (b ∷ rest))) = let e = length-pixels_of rest in omega arith

-- One lane, with one pixel more.
pub lane_more : (bytes : List ℕ) (i : ℕ) (f : Pixel → ℕ) → i < length bytes / 3 → map f (take (i + 1) (pixels_of bytes)) ≡ map f (take i (pixels_of bytes)) ++ f (pixel_at bytes (3 * i) (3 * i + 1) (3 * i + 2)) ∷ []
lane_more bytes i f lt =
    let n : i + 1 ≡ suc i = omega arith in
    ap (λ k. map f (take k (pixels_of bytes))) n ∙ ap (map f) (pixels_of-more bytes i lt) ∙ map-append f (take i (pixels_of bytes)) (pixel_at bytes (3 * i) (3 * i + 1) (3 * i + 2) ∷ [])

-- What is taken in two parts.
pub joined : {A : Type 0} (old mid new xs ys : List A) → mid ≡ old ++ xs → new ≡ mid ++ ys → new ≡ old ++ (xs ++ ys)
joined old mid new xs ys e f = f ∙ ap (λ zs. zs ++ ys) e ∙ append_assoc old xs ys

-- A lane's coder after one pixel more.
pub after : (kept : ℤ) (bytes : List ℕ) (i : ℕ) (columns : List Column) (own : Column) (f : Pixel → ℕ) (h : Column → ℕ) → i < length bytes / 3 → IsCoderAfter kept (map f (take i (pixels_of bytes)) ++ f (pixel_at bytes (3 * i) (3 * i + 1) (3 * i + 2)) ∷ []) (map h columns ++ h own ∷ []) → IsCoderAfter kept (map f (take (i + 1) (pixels_of bytes))) (map h (columns ++ own ∷ []))
after kept bytes i columns own f h lt was =
    subst (λ (ws : List ℕ). IsCoderAfter kept (map f (take (i + 1) (pixels_of bytes))) ws) (sym (map-append h columns (own ∷ [])))
    (subst (λ (bs : List ℕ). IsCoderAfter kept bs (map h columns ++ h own ∷ [])) (sym (lane_more bytes i f lt)) was)
