-- What a reader stands for, from block to block.
use Rattle.std.proofs.Common.{◌≡◌, ℕ, ◌+◌, ◌*◌, ◌/◌, ◌%◌, ◌^◌, ◌<◌, ◌≤◌, Bool, List, [], ◌++◌, length, take, min, refl, ap, ap₂, ◌∙◌, sym, arith, subst, inr, append-nil, length-take-le}
use Rattle.std.specs.Prelude.{slice_index}
use Rattle.std.proofs.Math.Nat.{mod-eq_of_lt}
use Rattle.std.proofs.Math.Pow.{pow_mono}
use Rattle.tmds_word.specs.Bits.{bits_of, bytes_of, bytes_bits, number}
use Rattle.tmds_word.proofs.Numbers.{bits_of-number, number-take}
use Rattle.tmds_word.proofs.Lists.{length-bytes_bits}
use Rattle.capture_file.specs.Layout.{packed, header, high_first, blocks_below}
use Rattle.capture_file.specs.Captures.{CanSay, header_of, header_two, HasRead, BeginsCapture, IsBlockPart, Stands, StopsIn, IsFault, IsWithin, SaysOf, bits_in, block_size, place_at, header_size, place_of}
use Rattle.capture_file.specs.declared.fault.CaptureFault.TheVariants.{Trailing}
use Rattle.capture_file.specs.declared.fault.CaptureError.{CaptureError}
use Rattle.capture_file.specs.declared.fault.CaptureError.TheVariants.{Bad, Read}
use Rattle.capture_file.proofs.Packing.{length-packed}
use Rattle.capture_file.proofs.Packs.{number-packed, as_bytes, number_below}
use Rattle.capture_file.proofs.Stops.{begins_whole, trailing_stops}
use Rattle.capture_file.proofs.Takings.{block_more, ended}

-- packed bits are these bits
pub unpacked : (u : List Bool) (count : ℕ) → length u ≡ count → take count (bytes_bits (packed u)) ≡ u
unpacked u count is =
    let k = (count + 7) / 8 in
    let own : packed u ≡ bytes_of k (number u) = as_bytes u count is in
    let below : number u < 2 ^ count = subst (λ n. number u < 2 ^ n) is (number_below u) in
    let more : 2 ^ count ≤ 2 ^ (8 * k) = pow_mono {i = count} {j = 8 * k} (omega arith) in
    let v = take count (bytes_bits (packed u)) in
    let len : length v ≡ count = length-take-le count (bytes_bits (packed u)) (omega (arith, is, length-bytes_bits (packed u), length-packed u)) in
    let same : number v ≡ number u =
    number-take count (bytes_bits (packed u)) ∙ ap (λ bs. number (bytes_bits bs) % 2 ^ count) own ∙ ap (λ n. n % 2 ^ count) (number-packed k (number u) (omega arith)) ∙ mod-eq_of_lt below in
    sym (bits_of-number v) ∙ ap₂ (λ a b. bits_of a b) (len ∙ sym is) same ∙ bits_of-number u

-- a lane's bytes below the next block
lane_next : (n j : ℕ) → min ((n + 7) / 8) (4096 * j) + (bits_in j n + 7) / 8 ≡ min ((n + 7) / 8) (4096 * (j + 1))
lane_next n j = omega arith

pub places_next : (version : ℕ) (counts : List ℕ) (j : ℕ) → place_at version counts j + block_size j counts ≡ place_at version counts (j + 1)
places_next version counts j = omega (arith, lane_next (slice_index counts 0) j, lane_next (slice_index counts 1) j, lane_next (slice_index counts 2) j)

pub stands_more : (version : ℕ) (counts : List ℕ) (j : ℕ) (taken : List ℕ) (x y z a b d : List Bool) → Stands version counts j taken x y z
    → length a ≡ bits_in j (slice_index counts 0) → length b ≡ bits_in j (slice_index counts 1) → length d ≡ bits_in j (slice_index counts 2)
    → Stands version counts (j + 1) (taken ++ ((packed a ++ packed b) ++ packed d)) (x ++ a) (y ++ b) (z ++ d)
stands_more version counts j taken x y z a b d s la lb ld =
    subst (λ p. HasRead counts (j + 1) p (taken ++ ((packed a ++ packed b) ++ packed d)) (x ++ a) (y ++ b) (z ++ d)) (places_next version counts j)
    (block_more counts j (place_at version counts j) taken x y z a b d s la lb ld)

pub none_below : (a b c : List ℕ) → blocks_below 0 a b c ≡ []
unfolding blocks_below
none_below a b c = refl

pub size_of : (version : ℕ) (counts : List ℕ) → CanSay version counts → length (header_of version counts) ≡ header_size version
unfolding header_of header_two header high_first
size_of version counts s = grind arith

-- a header alone
pub stands_head : (version : ℕ) (counts : List ℕ) → CanSay version counts → Stands version counts 0 (header_of version counts) [] [] []
stands_head version counts s =
    let h = header_of version counts in
    let b = blocks_below 0 (packed []) (packed []) (packed []) in
    record {
      head = h;
      headed = record { version = version; said = s; head_is = refl };
      count_blue = omega arith;
      count_green = omega arith;
      count_red = omega arith;
      taken_is = sym (ap (λ xs. h ++ xs) (none_below (packed []) (packed []) (packed [])) ∙ append-nil h);
      place_is = omega (arith, size_of version counts s);
    }

-- what a fault at the end says
pub says_end : (version : ℕ) (counts : List ℕ) (j place : ℕ) (taken bytes : List ℕ) (x y z : List Bool) (e : CaptureError) → Stands version counts j taken x y z → block_size j counts ≡ 0
    → place ≡ place_at version counts j → SaysOf (λ fault. (fault ≡ Trailing place) × (0 < length bytes)) e
    → SaysOf (λ fault. IsFault (taken ++ bytes) fault × StopsIn counts j taken (place_of fault)) e
says_end version counts j place taken bytes x y z (Bad fault) s none at h =
    let w = ended counts j (place_at version counts j) taken x y z s none in
    grind (arith, trailing_stops)
says_end version counts j place taken bytes x y z Read s none at h = h

-- what a fault in a block says
pub says_inside : (version : ℕ) (counts : List ℕ) (j place : ℕ) (taken bytes : List ℕ) (x y z : List Bool) (e : CaptureError) → Stands version counts j taken x y z
    → place ≡ place_at version counts j → SaysOf (λ fault. IsFault (taken ++ bytes) fault) e → SaysOf (λ fault. IsWithin place (block_size j counts) (place_of fault)) e
    → SaysOf (λ fault. IsFault (taken ++ bytes) fault × StopsIn counts j taken (place_of fault)) e
says_inside version counts j place taken bytes x y z e h k l m = grind arith

-- nothing is read of a block past the last
pub end_part : (counts : List ℕ) (j : ℕ) → block_size j counts ≡ 0 → IsBlockPart counts j []
end_part counts j none = record {
  short = inr refl;
  begins = λ place taken x y z r.
      let w = ended counts j place taken x y z r none in
      subst (λ bs. BeginsCapture bs) (sym (append-nil taken)) (begins_whole taken (record { blue = x; green = y; red = z; holds = w.holds }));
}
