-- Bytes are the capture of one triple of lanes at most, and a capture has no fault.
use Rattle.std.proofs.Common.{◌≡◌, ℕ, zero, suc, ◌+◌, ◌*◌, ◌/◌, ◌^◌, ◌<◌, max, Bool, true, false, List, [], ◌∷◌, ◌++◌, length, take, drop, refl, ap, ◌∙◌, sym, arith, length-append, length-take, length-drop}
use Rattle.std.proofs.Math.Seq.{take-add}
use Rattle.std.proofs.Math.Pow.{pow_mono}
use Rattle.std.proofs.lemmas.Nat.{pow-add}
use Rattle.std.proofs.lemmas.List.{take_all}
use Rattle.tmds_word.specs.Bits.{number, bytes_of}
use Rattle.capture_file.specs.Layout.{packed, chunk, block, blocks_below, blocks_of}
use Rattle.capture_file.specs.Captures.{IsCapture, IsCaptureOf, IsFault, counts_of, lane_blocks}
use Rattle.capture_file.specs.Laws.{AreSame}
use Rattle.capture_file.specs.declared.fault.CaptureFault.{CaptureFault}
use Rattle.capture_file.specs.declared.fault.CaptureFault.TheVariants.{Magic, Version, Short, Padding, Trailing}
use Rattle.capture_file.proofs.Packing.{length-packed}
use Rattle.capture_file.proofs.Packs.{number_below}
use Rattle.capture_file.proofs.Fronts.{same_front, same_rest}
use Rattle.capture_file.proofs.Heads.{same_heads}
use Rattle.capture_file.proofs.Stops.{begins_take, begins_whole}

-- bits are determined by their number
same_bits : (xs ys : List Bool) → length xs ≡ length ys → number xs ≡ number ys → xs ≡ ys
unfolding number
same_bits [] [] len is = refl
same_bits [] (y ∷ ys) len is = absurd (omega arith)
same_bits (x ∷ xs) [] len is = absurd (omega arith)
same_bits (true ∷ xs) (true ∷ ys) len is = ap (λ bs. true ∷ bs) (same_bits xs ys (omega arith) (omega arith))
same_bits (true ∷ xs) (false ∷ ys) len is = absurd (omega arith)
same_bits (false ∷ xs) (true ∷ ys) len is = absurd (omega arith)
same_bits (false ∷ xs) (false ∷ ys) len is = ap (λ bs. false ∷ bs) (same_bits xs ys (omega arith) (omega arith))

byte_more : (k : ℕ) → 2 ^ (8 * suc k) ≡ 256 * 2 ^ (8 * k)
byte_more k =
    let e : 8 * suc k ≡ 8 + 8 * k = omega arith in
    ap (λ m. 2 ^ m) e ∙ pow-add 2 8 (8 * k)

-- a number is determined by its bytes
same_number : (k m n : ℕ) → m < 2 ^ (8 * k) → n < 2 ^ (8 * k) → bytes_of k m ≡ bytes_of k n → m ≡ n
unfolding bytes_of
same_number zero m n small_m small_n is = omega arith
same_number (suc k) m n small_m small_n is = grind (arith, byte_more, same_number k)

number_fits : (xs : List Bool) (count : ℕ) → length xs ≡ count → number xs < 2 ^ (8 * ((count + 7) / 8))
number_fits xs count is = grind (arith, number_below, pow_mono)

-- a lane of so many bits is determined by its bytes
pub same_lane : (xs ys : List Bool) → length ys ≡ length xs → packed xs ≡ packed ys → xs ≡ ys
unfolding packed
same_lane xs ys len is = grind (arith, same_bits, same_number, number_fits)

length-chunk : (j : ℕ) (a b : List ℕ) → length a ≡ length b → length (chunk j a) ≡ length (chunk j b)
unfolding chunk
length-chunk j a b len =
    omega (arith, length-take 4096 (drop (4096 * j) a), length-drop (4096 * j) a, length-take 4096 (drop (4096 * j) b), length-drop (4096 * j) b)

-- one more chunk of a lane
chunk_more : (j : ℕ) (a : List ℕ) → take (4096 * suc j) a ≡ take (4096 * j) a ++ chunk j a
unfolding chunk
chunk_more j a =
    let e : 4096 * suc j ≡ 4096 * j + 4096 = omega arith in
    ap (λ n. take n a) e ∙ take-add (4096 * j) 4096 a

-- three lanes of bytes that are as long as three others
pub record AreAsLong (a b c p q r : List ℕ) : Type 0 where
  pub blue : length a ≡ length p
  pub green : length b ≡ length q
  pub red : length c ≡ length r

length-blocks : (j : ℕ) (a b c p q r : List ℕ) → AreAsLong a b c p q r → length (blocks_below j a b c) ≡ length (blocks_below j p q r)
unfolding blocks_below block
length-blocks zero a b c p q r long = refl
length-blocks (suc j) a b c p q r long = grind (arith, length-append, length-chunk, length-blocks j a b c p q r long)

-- the same chunks
record AreSameChunks (j : ℕ) (a b c p q r : List ℕ) : Type 0 where
  blue : chunk j a ≡ chunk j p
  green : chunk j b ≡ chunk j q
  red : chunk j c ≡ chunk j r

-- the same bytes as far as a chunk
pub record AreSameBelow (j : ℕ) (a b c p q r : List ℕ) : Type 0 where
  pub blue : take (4096 * j) a ≡ take (4096 * j) p
  pub green : take (4096 * j) b ≡ take (4096 * j) q
  pub red : take (4096 * j) c ≡ take (4096 * j) r

pub same_below : (j : ℕ) (a b c p q r : List ℕ) → AreAsLong a b c p q r → blocks_below j a b c ≡ blocks_below j p q r → AreSameBelow j a b c p q r
unfolding blocks_below block
same_below zero a b c p q r long is = record { blue = refl; green = refl; red = refl }
same_below (suc j) a b c p q r long is = grind (arith, length-blocks, same_front, same_rest, chunk_more, length-chunk, length-append, same_below j a b c p q r long)

-- lanes whose blocks are the same, each as long as the other
same_blocks : (x y z u v w : List Bool) → length x ≡ length u → length y ≡ length v → length z ≡ length w → lane_blocks x y z ≡ lane_blocks u v w → AreSame x y z u v w
unfolding lane_blocks
same_blocks x y z u v w first second third is =
    let lx : length (packed x) ≡ length (packed u) = length-packed x ∙ ap (λ n. (n + 7) / 8) first ∙ sym (length-packed u) in
    let ly : length (packed y) ≡ length (packed v) = length-packed y ∙ ap (λ n. (n + 7) / 8) second ∙ sym (length-packed v) in
    let lz : length (packed z) ≡ length (packed w) = length-packed z ∙ ap (λ n. (n + 7) / 8) third ∙ sym (length-packed w) in
    let k = blocks_of (max (length (packed x)) (max (length (packed y)) (length (packed z)))) in
    let count : k ≡ blocks_of (max (length (packed u)) (max (length (packed v)) (length (packed w)))) = omega (arith, lx, ly, lz) in
    let below : blocks_below k (packed x) (packed y) (packed z) ≡ blocks_below k (packed u) (packed v) (packed w) = is ∙ ap (λ n. blocks_below n (packed u) (packed v) (packed w)) (sym count) in
    let same = same_below k (packed x) (packed y) (packed z) (packed u) (packed v) (packed w) (record { blue = lx; green = ly; red = lz }) below in
    record {
      blue = same_lane x u (sym first) (sym (take_all (4096 * k) (packed x) (omega arith)) ∙ same.blue ∙ take_all (4096 * k) (packed u) (omega (arith, lx)));
      green = same_lane y v (sym second) (sym (take_all (4096 * k) (packed y) (omega arith)) ∙ same.green ∙ take_all (4096 * k) (packed v) (omega (arith, ly)));
      red = same_lane z w (sym third) (sym (take_all (4096 * k) (packed z) (omega arith)) ∙ same.red ∙ take_all (4096 * k) (packed w) (omega (arith, lz)));
    }

-- bytes are the capture of one triple of lanes at most
pub one_capture : (x y z u v w : List Bool) (bytes : List ℕ) → IsCaptureOf x y z bytes → IsCaptureOf u v w bytes → AreSame x y z u v w
one_capture x y z u v w bytes c d =
    let is = sym c.bytes_are ∙ d.bytes_are in
    let heads = same_heads c.head d.head (counts_of x y z) (counts_of u v w) (lane_blocks x y z) (lane_blocks u v w) c.headed d.headed is in
    same_blocks x y z u v w (heads.count 0 (omega arith)) (heads.count 1 (omega arith)) (heads.count 2 (omega arith))
    (same_rest c.head (lane_blocks x y z) d.head (lane_blocks u v w) is (ap (λ (h : List ℕ). length h) heads.same))

-- a capture has no fault
pub no_fault : (bytes : List ℕ) (fault : CaptureFault) → IsCapture bytes → IsFault bytes fault → ⊥
no_fault bytes (Magic p) capture is = is.0.stops (begins_take (p + 1) bytes (begins_whole bytes capture))
no_fault bytes (Version v) capture is = is.0.stops (begins_take (3 + 1) bytes (begins_whole bytes capture))
no_fault bytes (Padding p) capture is = is.0.stops (begins_take (p + 1) bytes (begins_whole bytes capture))
no_fault bytes (Trailing p) capture is = is.0.stops (begins_take (p + 1) bytes (begins_whole bytes capture))
no_fault bytes (Short p) capture is = is.1 capture
