-- What may follow the bytes that were taken of a capture of either version.
use Rattle.std.proofs.Common.{◌≡◌, ℕ, suc, zero, ◌+◌, ◌-◌, ◌*◌, ◌/◌, ◌%◌, ◌<◌, Bool, false, List, ◌++◌, length, take, drop, min, max, cond, replicate, refl, ap, ap₂, ◌∙◌, sym, arith, subst, append_assoc, length-append, length-drop, length-take-le, ◌==◌}
use Rattle.std.specs.Prelude.{slice_index}
use Rattle.std.proofs.lemmas.Bool.{cases_lt, eq-eqb, ne_eqb}
use Rattle.std.proofs.lemmas.List.{take_all, length-replicate}
use Rattle.capture_file.specs.Layout.{packed, chunk}
use Rattle.capture_file.specs.Captures.{counts_of, IsHeader, lane_blocks, IsCapture, Awaits}
use Rattle.capture_file.proofs.Packing.{length-packed, chunk-part}
use Rattle.capture_file.proofs.Packs.{packed_is_spared}
use Rattle.capture_file.proofs.Fronts.{same_front, same_rest, part_of, part_of-begun}
use Rattle.capture_file.proofs.Heads.{header_same, header_long, same_heads}
use Rattle.capture_file.proofs.Pieces.{three, piece_of, pieces, pieces-same, length-pieces, pieces-after, blocks-pieces, length-piece, Covers, pieces-extended, piece-next, piece-three}

-- how many blocks lanes of so many bits have
abbrev pub blocks_in : ℕ → ℕ → ℕ → ℕ
blocks_in p q r = (max ((p + 7) / 8) (max ((q + 7) / 8) ((r + 7) / 8)) + 4095) / 4096

pub all_pieces : (x y z : List Bool) → lane_blocks x y z ≡ pieces (3 * blocks_in (length x) (length y) (length z)) (piece_of (three x y z))
unfolding lane_blocks
all_pieces x y z = grind (arith, length-packed, blocks-pieces)

-- lanes of full length are a capture
pub captured : (head counts : List ℕ) (x : ℕ → List Bool) → IsHeader head counts → ((c : ℕ) → c < 3 → length (x c) ≡ slice_index counts c)
    → IsCapture (head ++ pieces (3 * blocks_in (slice_index counts 0) (slice_index counts 1) (slice_index counts 2)) (piece_of x))
captured head counts x h full =
    let e0 = full 0 (omega arith) in
    let e1 = full 1 (omega arith) in
    let e2 = full 2 (omega arith) in
    let n = 3 * blocks_in (slice_index counts 0) (slice_index counts 1) (slice_index counts 2) in
    record {
      blue = x 0;
      green = x 1;
      red = x 2;
      holds = record {
        head = head;
        headed = header_same head counts (counts_of (x 0) (x 1) (x 2)) (by_count x counts full) h;
        bytes_are = grind (arith, pieces-same, piece_of, three, piece-three, all_pieces, pieces);
      };
    }
  where
    by_count : (x : ℕ → List Bool) (counts : List ℕ) → ((c : ℕ) → c < 3 → length (x c) ≡ slice_index counts c) → (c : ℕ) → c < 3 → slice_index counts c ≡ slice_index (counts_of (x 0) (x 1) (x 2)) c
    by_count x counts full zero lt = sym (full 0 (omega arith))
    by_count x counts full (suc zero) lt = sym (full 1 (omega arith))
    by_count x counts full (suc (suc zero)) lt = sym (full 2 (omega arith))
    by_count x counts full (suc (suc (suc c))) lt = absurd (omega arith)

-- a capture whose header is known
pub record Known (head counts : List ℕ) (whole : List ℕ) : Type 0 where
  pub x : ℕ → List Bool
  pub full : (c : ℕ) → c < 3 → length (x c) ≡ slice_index counts c
  pub is : whole ≡ head ++ pieces (3 * blocks_in (slice_index counts 0) (slice_index counts 1) (slice_index counts 2)) (piece_of x)

pub known : (head counts tail whole : List ℕ) → IsHeader head counts → whole ≡ head ++ tail → IsCapture whole → Known head counts whole
unfolding three
known head counts tail whole h is capture =
    let u = capture.blue in
    let v = capture.green in
    let w = capture.red in
    let own = capture.holds in
    let s = same_heads head own.head counts (counts_of u v w) tail (lane_blocks u v w) h own.headed (sym is ∙ own.bytes_are) in
    let e0 : length u ≡ slice_index counts 0 = sym (s.count 0 (omega arith)) in
    grind (arith, three, all_pieces, pieces, piece_of)
  where
    by_lane : (u v w : List Bool) (counts : List ℕ) → length u ≡ slice_index counts 0 → length v ≡ slice_index counts 1 → length w ≡ slice_index counts 2
        → (c : ℕ) → c < 3 → length (three u v w c) ≡ slice_index counts c
    by_lane u v w counts e0 e1 e2 zero lt = e0
    by_lane u v w counts e0 e1 e2 (suc zero) lt = e1
    by_lane u v w counts e0 e1 e2 (suc (suc zero)) lt = e2
    by_lane u v w counts e0 e1 e2 (suc (suc (suc c))) lt = absurd (omega arith)

-- what is known of lanes, and bits that go on
abbrev pub bits_left : List ℕ → ℕ → ℕ
bits_left counts n = slice_index counts (n % 3) - 32768 * (n / 3)

-- a piece of which a lane still has bits is one of all pieces
inside : (counts : List ℕ) (n c : ℕ) → n % 3 ≡ c → 32768 * (n / 3) < slice_index counts c → n < 3 * blocks_in (slice_index counts 0) (slice_index counts 1) (slice_index counts 2)
inside counts n c h k = grind arith

-- a capture that goes on from the bytes taken so far: it goes on with the chunk of the next lane
pub record Forced (counts : List ℕ) (n : ℕ) (more : List ℕ) : Type 0 where
  pub lane : List Bool
  pub long : length lane ≡ slice_index counts (n % 3)
  pub rest : List ℕ
  pub is : more ≡ chunk (n / 3) (packed lane) ++ rest

lengths_same : (counts : List ℕ) (n : ℕ) (x y : ℕ → List Bool) → Covers (λ c. slice_index counts c) n x → ((c : ℕ) → c < 3 → length (y c) ≡ slice_index counts c)
    → (k : ℕ) → k < n → length (piece_of x k) ≡ length (piece_of y k)
lengths_same counts n x y covers full k lt = grind (arith, length-piece)

pub forced : (head counts more : List ℕ) (n : ℕ) (x : ℕ → List Bool) → IsHeader head counts → Covers (λ c. slice_index counts c) n x → 0 < bits_left counts n
    → IsCapture ((head ++ pieces n (piece_of x)) ++ more) → Forced counts n more
forced head counts more n x h covers some capture =
    let p = pieces n (piece_of x) in
    let k = known head counts (p ++ more) ((head ++ p) ++ more) h (append_assoc head p more) capture in
    let m = 3 * blocks_in (slice_index counts 0) (slice_index counts 1) (slice_index counts 2) in
    let lt : n < m = inside counts n (n % 3) refl (omega arith) in
    let after = pieces-after n m (piece_of k.x) lt in
    let q = pieces n (piece_of k.x) in
    grind (arith, length-append, length-pieces, piece_of, lengths_same, same_rest, append_assoc)

-- the lanes with bits that the next lane goes on with, and zeros in all others
ext : (ℕ → ℕ) → ℕ → List Bool → ℕ → List Bool
ext t c u d = cond (d == c) u (replicate (t d) false)

ext-own : (t : ℕ → ℕ) (c : ℕ) (u : List Bool) → ext t c u c ≡ u
unfolding ext
ext-own t c u = ap (λ b. cond b u (replicate (t c) false)) (eq-eqb c c refl)

length-ext : (t : ℕ → ℕ) (c d : ℕ) (u : List Bool) → length u ≡ t c → length (ext t c u d) ≡ t d
unfolding ext
length-ext t c d u len = grind (arith, ext-own, length-replicate, cases_lt, ne_eqb)

own_long : (t n c j : ℕ) (len : ℕ) → len ≡ min t (32768 * ((n + 2 - c) / 3)) → n / 3 ≡ j → n % 3 ≡ c → 32768 * j < t → len ≡ 32768 * j
own_long t n c j len e f g some = omega arith

-- further bits of the next lane make a capture
pub made : (head counts : List ℕ) (n : ℕ) (x : ℕ → List Bool) (u : List Bool) → IsHeader head counts → Covers (λ c. slice_index counts c) n x → 0 < bits_left counts n
    → length u ≡ bits_left counts n → (more : List ℕ) × IsCapture ((head ++ pieces n (piece_of x)) ++ (part_of u ++ more))
made head counts n x u h covers some len =
    let c = n % 3 in
    let j = n / 3 in
    let few : c < 3 = omega arith in
    let t = λ (d : ℕ). slice_index counts d - length (x d) in
    let v = ext t c u in
    let y = λ (d : ℕ). x d ++ v d in
    let own : length (x c) ≡ 32768 * j = own_long (slice_index counts c) n c j (length (x c)) (covers.count c few) refl refl (omega arith) in
    let left : length u ≡ t c = omega (arith, len, own) in
    let full : (d : ℕ) → d < 3 → length (x d ++ v d) ≡ slice_index counts d =
    λ d lt. omega (arith, length-append (x d) (v d), length-ext t c d u left, covers.count d lt) in
    let m = 3 * blocks_in (slice_index counts 0) (slice_index counts 1) (slice_index counts 2) in
    let lt : n < m = inside counts n c refl (omega arith) in
    let after = pieces-after n m (piece_of y) lt in
    let capture = captured head counts y h full in
    let p = pieces n (piece_of x) in
    let next : piece_of y n ≡ part_of u = piece-next n x v own ∙ ap part_of (ext-own t c u) in
    let is : pieces m (piece_of y) ≡ p ++ (part_of u ++ after.0) =
    after.1 ∙ ap₂ (λ xs ys. xs ++ (ys ++ after.0)) (pieces-extended (λ d. slice_index counts d) n x v covers full) next in
    (after.0, subst (λ bs. IsCapture bs) (ap (λ xs. head ++ xs) is ∙ sym (append_assoc head p (part_of u ++ after.0))) capture)

pub awaits : (head counts : List ℕ) (n count : ℕ) (x : ℕ → List Bool) → IsHeader head counts → Covers (λ c. slice_index counts c) n x → 0 < bits_left counts n
    → count ≡ min (bits_left counts n) 32768 → Awaits (head ++ pieces n (piece_of x)) count
awaits head counts n count x h covers some is =
    let front = head ++ pieces n (piece_of x) in
    let left = bits_left counts n in
    record {
      headed = omega (arith, header_long head counts h, length-append head (pieces n (piece_of x)));
      begins = λ piece are less.
          let b = part_of-begun piece left count (λ i. are i) less is in
          let m = made head counts n x b.0 h covers some b.1 in
          let e : part_of b.0 ++ m.0 ≡ piece ++ (b.2 ++ m.0) = ap (λ xs. xs ++ m.0) b.3 ∙ append_assoc piece b.2 m.0 in
          record { rest = b.2 ++ m.0; whole = subst (λ bs. IsCapture bs) (ap (λ xs. front ++ xs) e ∙ sym (append_assoc front piece (b.2 ++ m.0))) m.1 };
      unfinished = λ piece less capture.
          let f = forced head counts piece n x h covers some capture in
          let own = chunk_is f.lane (slice_index counts (n % 3)) (n / 3) count f.long (omega arith) is in
          let part = take count (drop (32768 * (n / 3)) f.lane) in
          let long : length part ≡ count = length-take-le count (drop (32768 * (n / 3)) f.lane) (omega (arith, is, f.long, length-drop (32768 * (n / 3)) f.lane)) in
          absurd (omega (arith, less, ap length f.is, length-append (chunk (n / 3) (packed f.lane)) f.rest, ap length own, length-packed part, long));
      spared = λ piece long begins.
          let capture : IsCapture (front ++ (piece ++ begins.rest)) = subst (λ bs. IsCapture bs) (append_assoc front piece begins.rest) begins.whole in
          let f = forced head counts (piece ++ begins.rest) n x h covers some capture in
          let chunk_own = chunk_is f.lane (slice_index counts (n % 3)) (n / 3) count f.long (omega arith) is in
          grind (arith, length-take-le, length-drop, length-packed, same_front, packed_is_spared);
    }
  where
    chunk_is : (lane : List Bool) (bits j count : ℕ) → length lane ≡ bits → 32768 * j < bits → count ≡ min (bits - 32768 * j) 32768
        → chunk j (packed lane) ≡ packed (take count (drop (32768 * j) lane))
    chunk_is lane bits j count len some is =
        let zero_on : 0 + 32768 * j ≡ 32768 * j = omega arith in
        ap (λ u. chunk j (packed u)) (sym (take_all bits lane (omega arith)))
        ∙ chunk-part lane 0 bits j count (omega arith) some is
        ∙ ap (λ k. packed (take count (drop k lane))) zero_on

-- all pieces given: the bytes are a capture, and none is longer
pub capture_only : (head counts more : List ℕ) (n : ℕ) (x : ℕ → List Bool) → IsHeader head counts → ((c : ℕ) → c < 3 → length (x c) ≡ slice_index counts c)
    → n ≡ 3 * blocks_in (slice_index counts 0) (slice_index counts 1) (slice_index counts 2) → IsCapture ((head ++ pieces n (piece_of x)) ++ more) → length more ≡ 0
capture_only head counts more n x h full is capture =
    let p = pieces n (piece_of x) in
    let k = known head counts (p ++ more) ((head ++ p) ++ more) h (append_assoc head p more) capture in
    let same : pieces (3 * blocks_in (slice_index counts 0) (slice_index counts 1) (slice_index counts 2)) (piece_of k.x) ≡ pieces n (piece_of k.x) = ap (λ m. pieces m (piece_of k.x)) (sym is) in
    let alike : (d : ℕ) → d < n → length (piece_of x d) ≡ length (piece_of k.x d) =
    λ d lt. let few : d % 3 < 3 = omega arith in
    length-piece x d (slice_index counts (d % 3)) (full (d % 3) few) ∙ sym (length-piece k.x d (slice_index counts (d % 3)) (k.full (d % 3) few)) in
    omega (arith, ap length k.is, ap length same, length-append (head ++ p) more, length-append head p, length-append head (pieces (3 * blocks_in (slice_index counts 0) (slice_index counts 1) (slice_index counts 2)) (piece_of k.x)), length-pieces n (piece_of x) (piece_of k.x) alike)
