-- Bits of a chunk that are set one after another, and what they are in the whole lane.
use Rattle.std.proofs.Common.{◌≡◌, ℕ, suc, zero, ◌+◌, ◌-◌, ◌*◌, ◌/◌, ◌%◌, ◌^◌, ◌<◌, ◌≤◌, Bool, false, List, [], ◌∷◌, ◌++◌, length, take, drop, get_or, set, ◌==◌, refl, ap, ◌∙◌, sym, arith, subst, inl, inr, length-take-le, take-append-drop}
use Rattle.std.specs.Prelude.{◌⊎◌}
use Rattle.std.proofs.Math.Nat.{mod-eq_of_lt, div-eq_of_lt}
use Rattle.std.proofs.Math.Pow.{pow_mono}
use Rattle.std.proofs.Math.Seq.{take-set-lt, take-append_seam}
use Rattle.std.proofs.lemmas.List.{length-set, set-append_left}
use Rattle.tmds_word.specs.Bits.{word_bits, bytes_bits, number}
use Rattle.tmds_word.proofs.Lists.{length-bytes_bits, length-word_bits, bytes_bits-append}
use Rattle.tmds_word.proofs.Numbers.{number-append, number-drop}
use Rattle.capture_file.proofs.Setting.{one_more, none_replaced, bit_at}
use Rattle.capture_file.specs.Layout.{packed}
use Rattle.capture_file.specs.Captures.{AreBytes}
use Rattle.capture_file.proofs.Rooms.{front_bits}
use Rattle.capture_file.proofs.Marks.{take_bytes}
use Rattle.capture_file.proofs.Packing.{length-packed}
use Rattle.capture_file.proofs.Packs.{packed-first, number-packed, as_bytes, number_below, bytes_are}

drop_set_in : (from i : ℕ) (xs : List Bool) (v : Bool) → drop from (set xs (from + i) v) ≡ set (drop from xs) i v
drop_set_in zero i xs v = let e : 0 + i ≡ i = omega arith in ap (λ n. set xs n v) e
drop_set_in (suc from) i [] v = refl
drop_set_in (suc from) i (x ∷ xs) v = grind (arith, drop_set_in from i xs v)

drop_set_before : (from i : ℕ) (xs : List Bool) (v : Bool) → i < from → drop from (set xs i v) ≡ drop from xs
drop_set_before zero i xs v lt = absurd (omega arith)
drop_set_before (suc from) i [] v lt = refl
drop_set_before (suc from) zero (x ∷ xs) v lt = refl
drop_set_before (suc from) (suc i) (x ∷ xs) v lt = drop_set_before from i xs v (omega arith)

take_set_past : (n i : ℕ) (xs : List Bool) (v : Bool) → n ≤ i → take n (set xs i v) ≡ take n xs
take_set_past zero i xs v le = refl
take_set_past (suc n) i [] v le = refl
take_set_past (suc n) zero (x ∷ xs) v le = absurd (omega arith)
take_set_past (suc n) (suc i) (x ∷ xs) v le = ap (λ ys. x ∷ ys) (take_set_past n i xs v (omega arith))

-- a bit within a part of a lane, and one outside
pub set_inside : (from n i : ℕ) (row : List Bool) (v : Bool) → from ≤ i → i < from + n → take n (drop from (set row i v)) ≡ set (take n (drop from row)) (i - from) v
set_inside from n i row v le lt =
    let e : from + (i - from) ≡ i = omega arith in
    ap (λ k. take n (drop from (set row k v))) (sym e) ∙ ap (λ xs. take n xs) (drop_set_in from (i - from) row v) ∙ take-set-lt n (drop from row) (i - from) v (omega arith)

pub set_outside : (from n i : ℕ) (row : List Bool) (v : Bool) → (i < from) ⊎ (from + n ≤ i) → take n (drop from (set row i v)) ≡ take n (drop from row)
set_outside from n i row v (inl before) = ap (λ xs. take n xs) (drop_set_before from i row v before)
set_outside from n i row v (inr after) =
    let e : from + (i - from) ≡ i = omega arith in
    ap (λ k. take n (drop from (set row k v))) (sym e) ∙ ap (λ xs. take n xs) (drop_set_in from (i - from) row v) ∙ take_set_past n (i - from) (drop from row) v (omega arith)

-- a lane with the first k bits of a character in place of its own
abbrev pub begun : ℕ → ℕ → ℕ → List Bool → List Bool
begun place w k row = take place row ++ take k (word_bits w) ++ drop (place + k) row

pub begun_more : (place w k : ℕ) (row : List Bool) → place + 10 ≤ length row → k < 10 → begun place w (k + 1) row ≡ set (begun place w k row) (place + k) (get_or (word_bits w) k false)
begun_more place w k row room lt =
    sym (one_more row (word_bits w) (begun place w k row) place k (get_or (word_bits w) k false) (omega (arith, room, length-word_bits w)) (omega (arith, lt, length-word_bits w)) refl refl)

-- bits outside a part leave it
pub untouched : (place w k from n : ℕ) (row : List Bool) → place + 10 ≤ length row → k ≤ 10 → (place + 10 ≤ from) ⊎ (from + n ≤ place) → take n (drop from (begun place w k row)) ≡ take n (drop from row)
untouched place w zero from n row room le out = ap (λ xs. take n (drop from xs)) (sym (none_replaced row (word_bits w) place))
untouched place w (suc k) from n row room le out =
    let e : k + 1 ≡ suc k = omega arith in
    let where_is : (place + k < from) ⊎ (from + n ≤ place + k) = elim out [ inl before ↦ inl (omega (arith, before, le)) | inr after ↦ inr (omega (arith, after)) ] in
    ap (λ m. take n (drop from (begun place w m row))) (sym e)
    ∙ ap (λ xs. take n (drop from xs)) (begun_more place w k row room (omega arith))
    ∙ set_outside from n (place + k) (begun place w k row) (get_or (word_bits w) k false) where_is
    ∙ untouched place w k from n row room (omega arith) out

-- one bit set in packed bits
pub packed_set : (bytes now : List ℕ) (u : List Bool) (count i : ℕ) (v : Bool) → bytes ≡ packed u → length u ≡ count → i < count → AreBytes now → length now ≡ length bytes
    → bytes_bits now ≡ set (bytes_bits bytes) i v → now ≡ packed (take count (bytes_bits now))
packed_set bytes now u count i v own len lt are same is =
    let k = (count + 7) / 8 in
    let size : length bytes ≡ k = ap length own ∙ length-packed u ∙ ap (λ n. (n + 7) / 8) len in
    let all = bytes_bits bytes in
    let front = take count all in
    let back = drop count all in
    let long : length front ≡ count = length-take-le count all (omega (arith, size, length-bytes_bits bytes)) in
    let split : set all i v ≡ set front i v ++ back = ap (λ xs. set xs i v) (sym (take-append-drop count all)) ∙ set-append_left front back i v (omega (arith, lt, long)) in
    let n = number u in
    let below : n < 2 ^ count = subst (λ m. n < 2 ^ m) len (number_below u) in
    let fits : 2 ^ count ≤ 2 ^ (8 * k) = pow_mono {i = count} {j = 8 * k} (omega arith) in
    let value : number all ≡ n = ap (λ bs. number (bytes_bits bs)) (own ∙ as_bytes u count len) ∙ number-packed k n (omega arith) in
    let none : number back ≡ 0 = number-drop count all ∙ ap (λ m. m / 2 ^ count) value ∙ div-eq_of_lt {n = n} {m = 2 ^ count} below in
    grind (arith, length-set, number_below, number-append, bytes_are, packed-first, mod-eq_of_lt)
  where
    mul_zero : (m : ℕ) → m * 0 ≡ 0
    mul_zero m = omega arith

bits_take : (k : ℕ) (bs : List ℕ) → k ≤ length bs → bytes_bits (take k bs) ≡ take (8 * k) (bytes_bits bs)
bits_take k bs le =
    let front = take k bs in
    let len : 8 * k ≡ length (bytes_bits front) = omega (arith, length-bytes_bits front, length-take-le k bs le) in
    sym (
    ap (λ n. take n (bytes_bits bs)) len
    ∙ ap (λ xs. take (length (bytes_bits front)) xs) (ap bytes_bits (sym (take-append-drop k bs)) ∙ bytes_bits-append front (drop k bs))
    ∙ take-append_seam (bytes_bits front) (bytes_bits (drop k bs))
    )

-- a bit set in the room of a chunk
pub record ChunkSet (bytes now : List ℕ) (count i : ℕ) (v : Bool) : Type 0 where
  pub spared : take ((count + 7) / 8) now ≡ packed (take count (bytes_bits now))
  pub view : take count (bytes_bits now) ≡ set (take count (bytes_bits bytes)) i v

pub chunk_set : (bytes now : List ℕ) (count i : ℕ) (v : Bool) → length bytes ≡ 4096 → count ≤ 32768 → take ((count + 7) / 8) bytes ≡ packed (take count (bytes_bits bytes)) → i < count
    → AreBytes now → length now ≡ 4096 → bytes_bits now ≡ set (bytes_bits bytes) i v → ChunkSet bytes now count i v
chunk_set bytes now count i v size few own lt are same is =
    let k = (count + 7) / 8 in
    let front = take k bytes in
    let new = take k now in
    let u = take count (bytes_bits bytes) in
    let len : length front ≡ k = length-take-le k bytes (omega (arith, size, few)) in
    let len_new : length new ≡ k = length-take-le k now (omega (arith, same, few)) in
    let long : length u ≡ count = length-take-le count (bytes_bits bytes) (omega (arith, size, few, length-bytes_bits bytes)) in
    let bits : bytes_bits new ≡ set (bytes_bits front) i v =
    bits_take k now (omega (arith, same, few)) ∙ ap (λ xs. take (8 * k) xs) is ∙ take-set-lt (8 * k) (bytes_bits bytes) i v (omega (arith, lt)) ∙ ap (λ xs. set xs i v) (sym (bits_take k bytes (omega (arith, size, few)))) in
    let packs = packed_set front new u count i v own long lt (take_bytes k now are) (len_new ∙ sym len) bits in
    let front_same : take count (bytes_bits now) ≡ take count (bytes_bits new) =
    ap (λ bs. take count (bytes_bits bs)) (sym (take-append-drop k now)) ∙ front_bits new (drop k now) count len_new in
    record {
      spared = packs ∙ ap packed (sym front_same);
      view = ap (λ xs. take count xs) is ∙ take-set-lt count (bytes_bits bytes) i v lt;
    }

-- the bit that a character sends
pub sent_is : (w k : ℕ) (v : Bool) → k < 10 → v ≡ ((w / 2 ^ k) % 2 == 1) → v ≡ get_or (word_bits w) k false
unfolding word_bits
sent_is w k v lt is = is ∙ sym (bit_at 10 k w lt)
