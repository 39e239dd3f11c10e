-- What a step of the reader gives of the bytes ahead.
use Rattle.std.proofs.Common.{◌≡◌, ℕ, ◌+◌, IsTrue, List, ◌++◌, length, take, drop, sym, ap, ◌∙◌, inl, inr, arith, take_all, length-take-le, take-append-drop}
use Rattle.std.specs.Prelude.{Option}
use Rattle.std.proofs.lemmas.Bool.{cases_lt}
use Rattle.std.specs.Io.KnownBytes.{Consumes, Keeps}
use Rattle.std.proofs.KnownBytes.{prepend_known-read}
use Rattle.listing_reader.specs.Held.{Held, ahead, is_feedless, IsTooLong}

-- what is given of the pending bytes is given of all bytes ahead
pub given_front : (left rest : Option (List ℕ)) (before now after : Held) (front : List ℕ) → Keeps (ahead before left) (ahead now rest) → now.pending ≡ front ++ after.pending → Consumes (ahead before left) (ahead after rest) front
given_front left rest before now after front kept parts =
    (prepend_known-read (ahead before left) rest now.pending after.pending front ⊥ kept parts (λ never. absurd never)).0

take_same : (m n : ℕ) (xs : List ℕ) → length (take m xs) ≡ n → take n xs ≡ take m xs
take_same m n xs long =
    elim (cases_lt m (length xs)) [
      | inl less ↦ let e : n ≡ m = omega (arith, length-take-le m xs) in ap (λ k. take k xs) e
      | inr more ↦
          let all : take m xs ≡ xs = take_all m xs more in
          let e : length xs ≡ n = ap length (sym all) ∙ long in
          take_all n xs (omega arith) ∙ sym all
    ]

pub too_long : (left rest : Option (List ℕ)) (before now after : Held) (m n : ℕ) → Keeps (ahead before left) (ahead now rest) → length (take m now.pending) ≡ n → n ≡ 32769 → IsTrue (is_feedless (take m now.pending)) → after.line ≡ take n now.pending → after.pending ≡ drop (n + 0) now.pending → IsTooLong left rest before after
too_long left rest before now after m n kept long size feedless line pending = grind (arith, take_same, take-append-drop, given_front)
