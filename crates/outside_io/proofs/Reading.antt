-- What reads give, of the bytes that a source still has.
use Rattle.std.proofs.Common.{◌≡◌, ℕ, ◌+◌, ◌<◌, ◌≤◌, List, [], ◌++◌, length, take, drop, ap, ◌∙◌, sym, arith, take_at, length-take-le, take-append-drop}
use Rattle.std.proofs.lemmas.List.{drop_all, take-append-le}
use Rattle.std.specs.Prelude.{Option}
use Rattle.std.specs.Io.KnownBytes.{Consumes}
use Rattle.std.proofs.KnownBytes.{Consumes-trans}
use borrow.Rule.Slice.PartMut.{put_mid, post_of}
use Rattle.std.proofs.Math.Seq.{take-append-add}

-- a read that copied the first n bytes consumed them, and copied none only where none was left
pub read_known : (left now into rest : List ℕ) (n : ℕ) → n ≤ length left → (n ≡ 0 → 0 < length into → length left ≡ 0) → into ≡ take n left ++ rest → now ≡ drop n left → (left ≡ take n into ++ now) × (n ≡ 0 → 0 < length into → now ≡ [])
read_known left now into rest n within ends copied moved =
    let front : take n into ≡ take n left = ap (take n) copied ∙ take_at (take n left) rest n (length-take-le n left within) in (
      rw (front, moved) (sym (take-append-drop n left)),
      λ none room. moved ∙ drop_all n left (let none_left = ends none room in omega arith),
    )

-- a part of a slice that a call wrote, as far as it wrote it
pub take_put : (a k n : ℕ) (xs ys : List ℕ) → a ≤ length xs → n ≤ length ys → take (a + n) (put_mid a k xs ys) ≡ take a xs ++ take n ys
take_put a k n xs ys within some = grind (arith, length-take-le, post_of, take-append-add, take-append-le)

pub Consumes-more : (s t u : Option (List ℕ)) (a k n : ℕ) (xs ys : List ℕ) → a ≤ length xs → n ≤ length ys → Consumes s t (take a xs) → Consumes t u (take n ys) → Consumes s u (take (a + n) (put_mid a k xs ys))
Consumes-more s t u a k n xs ys within some h j = rw (take_put a k n xs ys within some) (Consumes-trans s t u _ _ h j)
