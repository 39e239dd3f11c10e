use Rattle.std.proofs.Common.{◌≡◌, ℕ, ◌+◌, ◌-◌, ◌<◌, ◌≤◌, List, [], ◌∷◌, ◌++◌, length, drop, replicate, get_or, ap, ap₂, ◌∙◌, arith, refl, All, length-append}
use Rattle.std.proofs.lemmas.List.{drop-replicate, length-replicate}
use Rattle.std.proofs.lemmas.List.Elements.{All-cons, All-nil, All-append, All-replicate}
use Rattle.infoframe.specs.Written.{padded}
use Rattle.infoframe.proofs.Lists.{all_from_places}
use Rattle.infoframe.proofs.Writings.{sum_from}
use Rattle.infoframe.proofs.writing.lay.Goals as goal

-- zeros after the payload
rest_of : (payload new : List ℕ) → new ≡ payload → new ++ drop (length payload + 1 - 1) (replicate 27 0) ≡ padded payload
rest_of payload new e =
    let m : length payload + 1 - 1 ≡ length payload = omega arith in
    ap₂ (λ (xs ys : List ℕ). xs ++ ys) e (ap (λ k. drop k (replicate 27 0)) m ∙ drop-replicate (length payload) 27 0)

length-padded : (payload : List ℕ) → length payload ≤ 27 → length (padded payload) ≡ 27
length-padded payload few =
    length-append payload (replicate (27 - length payload) 0) ∙ ap (λ m. length payload + m) (length-replicate (27 - length payload) 0) ∙ omega arith

abbrev IsByte : ℕ → Type 0
IsByte b = b < 256

bytes_of : (payload : List ℕ) → ((k : ℕ) → get_or payload k 0 < 256) → All IsByte (padded payload)
bytes_of payload below =
    All-append IsByte payload (replicate (27 - length payload) 0) (all_from_places payload IsByte (λ k lt. below k))
    (All-replicate IsByte (27 - length payload) 0 (omega arith))

pub returns-clause-payload : goal.returns-clause-payload
returns-clause-payload c = rest_of c.args.payload.now c.copy_from_slice.new.self c.copy_from_slice.ensures.after

pub returns-clause-whole : goal.returns-clause-whole
returns-clause-whole c = grind (arith, rest_of, All-cons, All-nil, length-padded, bytes_of)

pub returns-clause-checksum : goal.returns-clause-checksum
returns-clause-checksum c =
    let payload = c.args.payload.now in
    let rest = rest_of payload c.copy_from_slice.new.self c.copy_from_slice.ensures.after in
    sum_from _ c.args.type_code c.args.version c.wrapping_neg.result payload refl (ap (λ xs. c.wrapping_neg.result ∷ xs) rest) c.requires
    ∙ omega (arith, c.wrapping_neg.ensures, c.sum_of.ensures, c.sum_of-2.ensures)
