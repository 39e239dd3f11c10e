-- The first whole blocks of a capture have the first bits of each of its lanes.
use Rattle.std.proofs.Common.{◌≡◌, ℕ, ◌+◌, ◌-◌, ◌*◌, ◌/◌, ◌%◌, ◌^◌, ◌<◌, ◌≤◌, Bool, List, [], ◌∷◌, ◌++◌, length, take, drop, min, refl, ap, ap₂, ◌∙◌, sym, arith, subst, inl, inr, append_assoc, append-nil, length-take}
use Rattle.std.specs.Prelude.{slice_index, ◌⊎◌}
use Rattle.std.proofs.lemmas.Bool.{cases_lt}
use Rattle.std.proofs.lemmas.List.{take-append-drop}
use Rattle.capture_file.specs.Captures.{HasRead, IsCaptureOf, IsHeader, counts_of, header_two, lane_blocks}
use Rattle.capture_file.specs.Layout.{packed, chunk, blocks_below}
use Rattle.capture_file.specs.Laws.{AreSame}
use Rattle.capture_file.proofs.Fronts.{same_front, same_rest}
use Rattle.capture_file.proofs.Heads.{same_heads}
use Rattle.capture_file.proofs.OneCapture.{one_capture}
use Rattle.capture_file.proofs.Opens.{blocks_in, all_pieces}
use Rattle.capture_file.proofs.Pieces.{three, piece_of, pieces, pieces-same, length-pieces, pieces-after, blocks-pieces, length-piece, piece-extended}
use Rattle.capture_file.proofs.Stops.{second_of}

-- Pieces of two lists of lanes.

-- of two numbers of pieces one is a front of the other
one_is_front : (n m : ℕ) (f : ℕ → List ℕ) → ((r : List ℕ) × (pieces m f ≡ pieces n f ++ r)) ⊎ ((r : List ℕ) × (pieces n f ≡ pieces m f ++ r))
one_is_front n m f =
    elim (cases_lt n m) [
      | inl less ↦ let more = pieces-after n m f less in inl (f n ++ more.0, more.1)
      | inr not ↦ elim (cases_lt m n) [
        | inl less ↦ let more = pieces-after m n f less in inr (f m ++ more.0, more.1)
        | inr still ↦ grind (arith, pieces, append-nil)
      ]
    ]

-- pieces that stand in front of the pieces of lanes, each as long as theirs, are theirs
pieces_front : (n m : ℕ) (f g : ℕ → List ℕ) (rest : List ℕ) → length (pieces n g) ≡ length (pieces n f) → pieces m f ≡ pieces n g ++ rest → pieces n g ≡ pieces n f
pieces_front n m f g rest len is =
    elim (one_is_front n m f) [
      | inl (r, e) ↦ same_front (pieces n g) rest (pieces n f) r (sym is ∙ e) len
      | inr (r, e) ↦
          let all : pieces n g ++ (rest ++ r) ≡ pieces n f ++ [] =
          sym (append_assoc (pieces n g) rest r) ∙ ap (λ xs. xs ++ r) (sym is) ∙ sym e ∙ sym (append-nil (pieces n f)) in
          same_front (pieces n g) (rest ++ r) (pieces n f) [] all len
    ]

-- and so are fewer of them
fewer_pieces : (n m : ℕ) (f g : ℕ → List ℕ) → n ≤ m → ((k : ℕ) → k < m → length (g k) ≡ length (f k)) → pieces m g ≡ pieces m f → pieces n g ≡ pieces n f
fewer_pieces n m f g le long is =
    elim (cases_lt n m) [
      | inl less ↦
          let a = pieces-after n m g less in
          let b = pieces-after n m f less in
          same_front (pieces n g) (g n ++ a.0) (pieces n f) (f n ++ b.0) (sym a.1 ∙ is ∙ b.1) (length-pieces n g f (λ k lt. long k (omega arith)))
      | inr not ↦ grind (arith, pieces)
    ]

-- Lanes as far as a block.

abbrev first_bits : ℕ → List Bool → List Bool
first_bits j x = take (32768 * j) x

firsts : ℕ → List Bool → List Bool → List Bool → ℕ → List Bool
firsts j x y z c = first_bits j (three x y z c)

rests : ℕ → List Bool → List Bool → List Bool → ℕ → List Bool
rests j x y z c = drop (32768 * j) (three x y z c)

first_three : (j : ℕ) (x y z : List Bool) (c : ℕ) → three (first_bits j x) (first_bits j y) (first_bits j z) c ≡ first_bits j (three x y z c)
unfolding three
first_three j x y z c = grind arith

three_longs : (x y z u v w : List Bool) → length x ≡ length u → length y ≡ length v → length z ≡ length w → (c : ℕ) → length (three x y z c) ≡ length (three u v w c)
unfolding three
three_longs x y z u v w h k l m = grind arith

-- a piece below a block is one of the bits as far as the block
piece_first : (j k : ℕ) (x y z : List Bool) → k < 3 * j → piece_of (three x y z) k ≡ piece_of (three (first_bits j x) (first_bits j y) (first_bits j z)) k
unfolding firsts rests
piece_first j k x y z lt =
    let c = k % 3 in
    let row = three x y z in
    ap (λ us. chunk (k / 3) (packed us)) (sym (take-append-drop (32768 * j) (row c)))
    ∙ piece-extended (λ d. length (row d)) (3 * j) k (firsts j x y z) (rests j x y z)
    (record { count = λ d few. length-take (32768 * j) (row d) ∙ cut d few (length (row d)) })
    (λ d few. ap length (take-append-drop (32768 * j) (row d))) lt
    ∙ ap (λ us. chunk (k / 3) (packed us)) (sym (first_three j x y z c))
  where
    cut : (d : ℕ) → d < 3 → (n : ℕ) → min (32768 * j) n ≡ min n (32768 * ((3 * j + 2 - d) / 3))
    cut d few n = let e : (3 * j + 2 - d) / 3 ≡ j = omega arith in omega (arith, e)

-- The blocks of a capture.

-- lanes whose blocks below one are the same, and that have no further ones
same_below : (j : ℕ) (x y z u v w : List Bool) → length x ≡ length u → length y ≡ length v → length z ≡ length w
    → length u ≤ 32768 * j → length v ≤ 32768 * j → length w ≤ 32768 * j → length u < 2 ^ 32 → length v < 2 ^ 32 → length w < 2 ^ 32
    → pieces (3 * j) (piece_of (three u v w)) ≡ pieces (3 * j) (piece_of (three x y z)) → AreSame u v w x y z
same_below j x y z u v w a b d lu lv lw su sv sw is =
    let k = blocks_in (length u) (length v) (length w) in
    let long : (i : ℕ) → i < 3 * j → length (piece_of (three u v w) i) ≡ length (piece_of (three x y z) i) =
    λ i lt. let t = length (three u v w (i % 3)) in length-piece (three u v w) i t refl ∙ sym (length-piece (three x y z) i t (three_longs x y z u v w a b d (i % 3))) in
    let fewer = fewer_pieces (3 * k) (3 * j) (piece_of (three x y z)) (piece_of (three u v w)) (omega arith) long is in
    let counts : counts_of x y z ≡ counts_of u v w = ap₂ (λ p q. p ∷ q ∷ length z ∷ []) a b ∙ ap (λ r. length u ∷ length v ∷ r ∷ []) d in
    let blocks : lane_blocks u v w ≡ lane_blocks x y z =
    all_pieces u v w ∙ fewer ∙ sym (all_pieces x y z ∙ ap₂ (λ p q. pieces (3 * blocks_in p q (length z)) (piece_of (three x y z))) a b ∙ ap (λ r. pieces (3 * blocks_in (length u) (length v) r) (piece_of (three x y z))) d) in
    let head = header_two (counts_of u v w) in
    let headed = second_of (length u) (length v) (length w) su sv sw in
    one_capture u v w x y z (head ++ lane_blocks u v w)
    (record { head = head; headed = headed; bytes_are = refl })
    (record { head = head; headed = subst (λ (cs : List ℕ). IsHeader head cs) (sym counts) headed; bytes_are = ap (λ bs. head ++ bs) blocks })

-- each lane goes on with other bits
pub record LanesBegin (x y z u v w : List Bool) : Type 0 where
  pub blue : (more : List Bool) × (x ≡ u ++ more)
  pub green : (more : List Bool) × (y ≡ v ++ more)
  pub red : (more : List Bool) × (z ≡ w ++ more)

lane_begins : (j : ℕ) (x u : List Bool) → u ≡ first_bits j x → (more : List Bool) × (x ≡ u ++ more)
lane_begins j x u is = (drop (32768 * j) x, sym (take-append-drop (32768 * j) x) ∙ ap (λ us. us ++ drop (32768 * j) x) (sym is))

pub blocks_begin : (x y z u v w : List Bool) (bytes taken rest counts : List ℕ) (j place : ℕ) → IsCaptureOf x y z bytes → bytes ≡ taken ++ rest → HasRead counts j place taken u v w
    → LanesBegin x y z u v w
blocks_begin x y z u v w bytes taken rest counts j place c split h =
    let blocks = blocks_below j (packed u) (packed v) (packed w) in
    let all : c.head ++ lane_blocks x y z ≡ h.head ++ (blocks ++ rest) =
    sym c.bytes_are ∙ split ∙ ap (λ bs. bs ++ rest) h.taken_is ∙ append_assoc h.head blocks rest in
    let heads = same_heads c.head h.head (counts_of x y z) counts (lane_blocks x y z) (blocks ++ rest) c.headed h.headed all in
    let tails : lane_blocks x y z ≡ blocks ++ rest = same_rest c.head (lane_blocks x y z) h.head (blocks ++ rest) all (ap (λ (hs : List ℕ). length hs) heads.same) in
    let a : length (first_bits j x) ≡ length u = length-take (32768 * j) x ∙ min_by j (length x) (slice_index counts 0) (heads.count 0 (omega arith)) ∙ sym h.count_blue in
    let b : length (first_bits j y) ≡ length v = length-take (32768 * j) y ∙ min_by j (length y) (slice_index counts 1) (heads.count 1 (omega arith)) ∙ sym h.count_green in
    let d : length (first_bits j z) ≡ length w = length-take (32768 * j) z ∙ min_by j (length z) (slice_index counts 2) (heads.count 2 (omega arith)) ∙ sym h.count_red in
    let f = piece_of (three x y z) in
    let g = piece_of (three u v w) in
    let first = piece_of (three (first_bits j x) (first_bits j y) (first_bits j z)) in
    let near : pieces (3 * j) f ≡ pieces (3 * j) first = pieces-same (3 * j) f first (λ k lt. piece_first j k x y z lt) in
    let long : length (pieces (3 * j) g) ≡ length (pieces (3 * j) f) =
    length-pieces (3 * j) g first (λ k lt.
    let t = length (three u v w (k % 3)) in
    length-piece (three u v w) k t refl ∙ sym (length-piece (three (first_bits j x) (first_bits j y) (first_bits j z)) k t (three_longs (first_bits j x) (first_bits j y) (first_bits j z) u v w a b d (k % 3))))
    ∙ ap (λ (bs : List ℕ). length bs) (sym near) in
    let is = pieces_front (3 * j) (3 * blocks_in (length x) (length y) (length z)) f g rest long (sym (all_pieces x y z) ∙ tails ∙ ap (λ bs. bs ++ rest) (blocks-pieces j u v w)) in
    let few = h.headed.said.small in
    let m0 = h.count_blue in
    let m1 = h.count_green in
    let m2 = h.count_red in
    let s0 = few 0 (omega arith) in
    let s1 = few 1 (omega arith) in
    let s2 = few 2 (omega arith) in
    let same = same_below j (first_bits j x) (first_bits j y) (first_bits j z) u v w a b d
    (omega (arith, m0)) (omega (arith, m1)) (omega (arith, m2)) (omega (arith, m0, s0)) (omega (arith, m1, s1)) (omega (arith, m2, s2)) (is ∙ near) in
    record { blue = lane_begins j x u same.blue; green = lane_begins j y v same.green; red = lane_begins j z w same.red }
  where
    min_by : (j n m : ℕ) → n ≡ m → min (32768 * j) n ≡ min m (32768 * j)
    min_by j n m e = omega arith
