-- The bytes that are kept, copied with those of a piece after them.
use Rattle.std.proofs.Common.{◌≡◌, ℕ, ◌+◌, ◌-◌, List, [], ◌++◌, length, take, drop, min, ap, ap₂, ◌∙◌, sym, arith, length-append, length-drop, append-nil, inl, inr}
use Rattle.std.proofs.lemmas.Bool.{cases_lt}
use Rattle.std.proofs.lemmas.List.{take_at, drop-drop, drop-append-le, drop_all, drop_at, length-take-le}
use Rattle.std.proofs.lemmas.Slice.{take-put_mid}
use Rattle.std.proofs.Math.Seq.{take-append-add}
use borrow.Rule.Slice.PartMut.{put_mid}

module _ (kept bytes zeros now part : List ℕ) (first : ℕ) (size : length kept ≡ 16) (is_first : first ≡ min (length bytes) 16) where
  -- the first of a piece after those that are kept
  pub joined_written : now ≡ kept → part ≡ take first bytes
      → take (16 + min (length bytes) 16) (put_mid 16 (16 + first - 16) (now ++ zeros) part) ≡ take (16 + min (length bytes) 16) (kept ++ bytes)
  joined_written same is =
      let len : length now ≡ 16 = ap length same ∙ size in
      let long : length part ≡ first = ap length is ∙ length-take-le first bytes (omega arith) in
      let end : length kept + first ≡ 16 + min (length bytes) 16 = omega arith in
      take-put_mid 16 (16 + first - 16) (now ++ zeros) part (16 + min (length bytes) 16) (omega arith) (omega (arith, length-append now zeros))
      ∙ ap₂ (λ (xs ys : List ℕ). xs ++ ys) (take_at now zeros 16 len ∙ same) is
      ∙ sym (take-append-add kept bytes first) ∙ ap (λ n. take n (kept ++ bytes)) end

  -- all but the first of the list, however many there are
  drop_both : drop (length bytes) (kept ++ bytes) ≡ drop first kept ++ drop (length bytes - first) bytes
  drop_both = elim (cases_lt (length bytes) 17) [
    | inl few ↦
        let e : first ≡ length bytes = omega arith in
        let z : 0 ≡ length bytes - first = omega arith in
        drop-append-le (length bytes) kept bytes (omega arith) ∙ ap₂ (λ m n. drop m kept ++ drop n bytes) (sym e) z
    | inr many ↦
        let e : first ≡ 16 = omega arith in
        let sum : 16 + (length bytes - first) ≡ length bytes = omega arith in
        let none : drop first kept ≡ [] = drop_all first kept (omega arith) in
        ap (λ n. drop n (kept ++ bytes)) (sym sum) ∙ sym (drop-drop (length bytes - first) 16 (kept ++ bytes))
        ∙ ap (drop (length bytes - first)) (drop-append-le 16 kept bytes (omega arith) ∙ ap (λ n. drop n kept ++ bytes) (sym e) ∙ ap (λ xs. xs ++ bytes) none)
        ∙ ap (λ xs. xs ++ drop (length bytes - first) bytes) (sym none)
  ]

  -- those that stay, and the last of the piece
  pub last_written : length zeros ≡ 16 → now ≡ drop first kept → part ≡ drop (length bytes - first) bytes
      → put_mid (16 - first) (16 - (16 - first)) (now ++ drop (16 - first) zeros) part ≡ drop (length bytes) (kept ++ bytes)
  last_written all same is =
      let rest = drop (16 - first) zeros in
      let len : length now ≡ 16 - first = ap length same ∙ length-drop first kept ∙ ap (λ n. n - first) size in
      let none : drop (16 - (16 - first)) (drop (16 - first) (now ++ rest)) ≡ [] =
      ap (drop (16 - (16 - first))) (drop_at now rest (16 - first) len) ∙ drop_all (16 - (16 - first)) rest (omega (arith, length-drop (16 - first) zeros)) in
      ap₂ (λ (xs ys : List ℕ). xs ++ (part ++ ys)) (take_at now rest (16 - first) len ∙ same) none
      ∙ ap (λ ys. drop first kept ++ ys) (append-nil part ∙ is) ∙ sym drop_both
