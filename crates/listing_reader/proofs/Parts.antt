-- Parts of a buffer, and what a read put into it.
use Rattle.std.proofs.Common.{◌≡◌, ℕ, ◌+◌, ◌-◌, ◌≤◌, List, ◌++◌, length, take, drop, slice_range, sym, ap, ◌∙◌, arith, length-take-le}
use Rattle.std.proofs.lemmas.List.{drop-take, drop-drop}
use Rattle.std.specs.Prelude.{Result, IfOk, Option}
use Rattle.std.specs.Io.KnownBytes.{Consumes, ReadConsumes}
use borrow.Rule.Slice.PartMut.{put_mid}
use Rattle.outside_io.proofs.Reading.{take_put}

-- a part without its first bytes
pub drop_part : (xs : List ℕ) (start end count : ℕ) → start + count ≤ end → slice_range xs (start + count) end ≡ drop count (slice_range xs start end)
drop_part xs start end count inside =
    let parts : end - start ≡ count + (end - (start + count)) = omega arith in
    sym (ap (λ j. drop count (take j (drop start xs))) parts ∙ drop-take count _ (drop start xs)
    ∙ ap (take (end - (start + count))) (drop-drop count start xs))

-- what a read gave stands after the bytes that were held
pub read_more : {E : Type 0} (left now : Option (List ℕ)) (result : Result ℕ E) (held k : ℕ) (xs ys : List ℕ) → held ≤ length xs → IfOk result (λ n. n ≤ length ys) → ReadConsumes left now result ys
    → IfOk result (λ n. (more : List ℕ) × (length more ≡ n) × (take (held + n) (put_mid held k xs ys) ≡ take held xs ++ more) × Consumes left now more)
read_more left now result held k xs ys h l m = grind (arith, length-take-le, take_put)
