-- The bits of a chunk, as bytes at the front of its room.
use Rattle.std.proofs.Common.{◌≡◌, ℕ, ◌+◌, ◌*◌, ◌/◌, ◌%◌, ◌<◌, ◌≤◌, Bool, List, [], ◌∷◌, ◌++◌, length, take, refl, ap, ◌∙◌, sym, arith, subst, inl, append_assoc, length-append, length-take-le}
use Rattle.std.specs.Prelude.{slice_index}
use Rattle.std.proofs.lemmas.List.{take-append-le}
use Rattle.tmds_word.specs.Bits.{bytes_bits, bytes_of}
use Rattle.tmds_word.proofs.Lists.{length-bytes_bits, bytes_bits-append}
use Rattle.capture_file.specs.Layout.{packed}
use Rattle.capture_file.specs.Captures.{AreBytes, Awaits, BeginsCapture, HasRead, IsBlockPart, bits_in}
use Rattle.capture_file.proofs.Packing.{length-packed}
use Rattle.capture_file.proofs.Takings.{taken_of, taken_first, taken_second, taken_awaits}

pub nothing_is : packed [] ≡ []
unfolding packed bytes_of
nothing_is = refl

pub none_packed : (count : ℕ) (bytes : List ℕ) → count ≡ 0 → length bytes ≡ (count + 7) / 8 → bytes ≡ packed (take count (bytes_bits bytes))
none_packed count bytes none len =
    no_bytes bytes (omega arith) ∙ sym (ap (λ n. packed (take n (bytes_bits bytes))) none ∙ nothing_is)
  where
    no_bytes : (bs : List ℕ) → length bs ≡ 0 → bs ≡ []
    no_bytes [] h = refl
    no_bytes (b ∷ bs) h = absurd (omega arith)

-- the first bits of bytes are those of their front
pub front_bits : (front rest : List ℕ) (count : ℕ) → length front ≡ (count + 7) / 8 → take count (bytes_bits (front ++ rest)) ≡ take count (bytes_bits front)
front_bits front rest count len =
    ap (λ xs. take count xs) (bytes_bits-append front rest) ∙ take-append-le count (bytes_bits front) (bytes_bits rest) (omega (arith, len, length-bytes_bits front))

pub length-front : (bytes : List ℕ) (count : ℕ) → length bytes ≡ 4096 → count ≤ 32768 → length (take count (bytes_bits bytes)) ≡ count
length-front bytes count size few = length-take-le count (bytes_bits bytes) (omega (arith, size, few, length-bytes_bits bytes))

-- what is awaited before each chunk of a block
pub record AwaitedHere (front : List ℕ) (count place : ℕ) : Type 0 where
  pub awaited : 0 < count → Awaits front count
  pub place_is : place ≡ length front

pub first_here : (bits : List ℕ) (j place count : ℕ) (taken : List ℕ) (x y z : List Bool) → HasRead bits j place taken x y z → count ≡ bits_in j (slice_index bits 0) → AwaitedHere taken count place
first_here bits j place count taken x y z r is =
    let e : 3 * j % 3 ≡ 0 = omega arith in
    let f : 3 * j / 3 ≡ j = omega arith in
    record { awaited = λ some. taken_awaits bits (3 * j) 0 j count taken x y z (taken_of bits j place taken x y z r) e f is some; place_is = r.place_is }

pub second_here : (bits : List ℕ) (j place at count first : ℕ) (taken : List ℕ) (x y z a : List Bool) → HasRead bits j place taken x y z → first ≡ bits_in j (slice_index bits 0) → length a ≡ first
    → at ≡ place + (first + 7) / 8 → count ≡ bits_in j (slice_index bits 1) → AwaitedHere (taken ++ packed a) count at
second_here bits j place at count first taken x y z a r own len is same =
    let e : (3 * j + 1) % 3 ≡ 1 = omega arith in
    let f : (3 * j + 1) / 3 ≡ j = omega arith in
    let t = taken_first bits j taken x y z a (taken_of bits j place taken x y z r) (len ∙ own) in
    record {
      awaited = λ some. taken_awaits bits (3 * j + 1) 1 j count (taken ++ packed a) (x ++ a) y z t e f same some;
      place_is = omega (arith, is, len, r.place_is, length-append taken (packed a), length-packed a);
    }

pub third_here : (bits : List ℕ) (j place at count first second : ℕ) (taken : List ℕ) (x y z a b : List Bool) → HasRead bits j place taken x y z → first ≡ bits_in j (slice_index bits 0) → length a ≡ first
    → second ≡ bits_in j (slice_index bits 1) → length b ≡ second → at ≡ place + (first + 7) / 8 + (second + 7) / 8 → count ≡ bits_in j (slice_index bits 2) → AwaitedHere ((taken ++ packed a) ++ packed b) count at
third_here bits j place at count first second taken x y z a b r own len own_b len_b is same =
    let e : (3 * j + 2) % 3 ≡ 2 = omega arith in
    let f : (3 * j + 2) / 3 ≡ j = omega arith in
    let t = taken_first bits j taken x y z a (taken_of bits j place taken x y z r) (len ∙ own) in
    let u = taken_second bits j (taken ++ packed a) (x ++ a) y z b t (len_b ∙ own_b) in
    record {
      awaited = λ some. taken_awaits bits (3 * j + 2) 2 j count ((taken ++ packed a) ++ packed b) (x ++ a) (y ++ b) z u e f same some;
      place_is = omega (arith, is, len, len_b, r.place_is, length-append (taken ++ packed a) (packed b), length-append taken (packed a), length-packed a, length-packed b);
    }

-- what was read of a block that was not read whole: the bytes of the lanes before one, and fewer than that lane has there
pub first_part : (bits : List ℕ) (j count : ℕ) (part : List ℕ) → count ≡ bits_in j (slice_index bits 0) → length part < (count + 7) / 8 → AreBytes part → IsBlockPart bits j part
first_part bits j count part is less are = record {
  short = inl (omega arith);
  begins = λ place taken x y z r.
      let h = first_here bits j place count taken x y z r is in
      let w = h.awaited (omega arith) in
      w.begins part are less;
}

pub second_part : (bits : List ℕ) (j count first : ℕ) (part : List ℕ) (a : List Bool) → first ≡ bits_in j (slice_index bits 0) → length a ≡ first → count ≡ bits_in j (slice_index bits 1)
    → length part < (count + 7) / 8 → AreBytes part → IsBlockPart bits j (packed a ++ part)
second_part bits j count first part a own len is less are = record {
  short = inl (omega (arith, less, own, len, is, length-append (packed a) part, length-packed a));
  begins = λ place taken x y z r.
      let h = second_here bits j place (place + (first + 7) / 8) count first taken x y z a r own len refl is in
      let w = h.awaited (omega arith) in
      subst (λ bs. BeginsCapture bs) (append_assoc taken (packed a) part) (w.begins part are less);
}

pub third_part : (bits : List ℕ) (j count first second : ℕ) (part : List ℕ) (a b : List Bool) → first ≡ bits_in j (slice_index bits 0) → length a ≡ first → second ≡ bits_in j (slice_index bits 1) → length b ≡ second
    → count ≡ bits_in j (slice_index bits 2) → length part < (count + 7) / 8 → AreBytes part → IsBlockPart bits j ((packed a ++ packed b) ++ part)
third_part bits j count first second part a b own len own_b len_b is less are = record {
  short = inl (omega (arith, less, own, len, own_b, len_b, is, length-append (packed a ++ packed b) part, length-append (packed a) (packed b), length-packed a, length-packed b));
  begins = λ place taken x y z r.
      let h = third_here bits j place (place + (first + 7) / 8 + (second + 7) / 8) count first second taken x y z a b r own len own_b len_b refl is in
      let w = h.awaited (omega arith) in
      subst (λ bs. BeginsCapture bs) (append_assoc (taken ++ packed a) (packed b) part ∙ append_assoc taken (packed a) (packed b ++ part) ∙ ap (λ xs. taken ++ xs) (sym (append_assoc (packed a) (packed b) part)))
      (w.begins part are less);
}
