-- The blocks of a capture as one list of pieces: piece n is chunk n / 3 of lane n % 3.
use Rattle.std.proofs.Common.{◌≡◌, ℕ, suc, zero, ◌+◌, ◌-◌, ◌*◌, ◌/◌, ◌%◌, ◌<◌, Bool, List, [], ◌∷◌, ◌++◌, length, min, refl, ap, ap₂, ◌∙◌, arith, inl, inr, append_assoc, append-nil, length-append}
use Rattle.std.proofs.lemmas.Bool.{cases_lt}
use Rattle.capture_file.specs.Layout.{packed, chunk, block, blocks_below}
use Rattle.capture_file.proofs.Packing.{length-packed}
use Rattle.capture_file.proofs.Packs.{packed-append}
use Rattle.capture_file.proofs.Fronts.{chunk-longer, chunk-next, length-chunk_of, part_of}

-- lanes by their numbers
unfoldable pub three : {A : Type 0} → A → A → A → ℕ → A
three x y z zero = x
three x y z (suc zero) = y
three x y z (suc (suc n)) = z

abbrev pub piece_of : (ℕ → List Bool) → ℕ → List ℕ
piece_of x n = chunk (n / 3) (packed (x (n % 3)))

-- the pieces below one, joined
unfoldable pub pieces : ℕ → (ℕ → List ℕ) → List ℕ
pieces zero f = []
pieces (suc n) f = pieces n f ++ f n

pub pieces-same : (n : ℕ) (f g : ℕ → List ℕ) → ((k : ℕ) → k < n → f k ≡ g k) → pieces n f ≡ pieces n g
unfolding pieces
pieces-same zero f g h = refl
pieces-same (suc n) f g h = ap₂ (λ xs ys. xs ++ ys) (pieces-same n f g (λ k lt. h k (omega arith))) (h n (omega arith))

pub length-pieces : (n : ℕ) (f g : ℕ → List ℕ) → ((k : ℕ) → k < n → length (f k) ≡ length (g k)) → length (pieces n f) ≡ length (pieces n g)
unfolding pieces
length-pieces zero f g h = refl
length-pieces (suc n) f g h =
    omega (arith, length-append (pieces n f) (f n), length-append (pieces n g) (g n), length-pieces n f g (λ k lt. h k (omega arith)), h n (omega arith))

pub pieces-after : (n m : ℕ) (f : ℕ → List ℕ) → n < m → (rest : List ℕ) × (pieces m f ≡ pieces n f ++ (f n ++ rest))
unfolding pieces
pieces-after n zero f lt = absurd (omega arith)
pieces-after n (suc m) f lt =
    elim (cases_lt n m) [
      | inl less ↦
          let more = pieces-after n m f less in
          (more.0 ++ f m, ap (λ xs. xs ++ f m) more.1 ∙ append_assoc (pieces n f) (f n ++ more.0) (f m) ∙ ap (λ xs. pieces n f ++ xs) (append_assoc (f n) more.0 (f m)))
      | inr last ↦ grind (arith, append-nil)
    ]

block-pieces : (j : ℕ) (x y z : List Bool) → block j (packed x) (packed y) (packed z) ≡ (piece_of (three x y z) (3 * j) ++ piece_of (three x y z) (suc (3 * j))) ++ piece_of (three x y z) (suc (suc (3 * j)))
unfolding block three
block-pieces j x y z = grind arith

pub blocks-pieces : (j : ℕ) (x y z : List Bool) → blocks_below j (packed x) (packed y) (packed z) ≡ pieces (3 * j) (piece_of (three x y z))
unfolding blocks_below pieces
blocks-pieces zero x y z = refl
blocks-pieces (suc j) x y z =
    let f = piece_of (three x y z) in
    let e : 3 * suc j ≡ suc (suc (suc (3 * j))) = omega arith in
    grind (arith, block-pieces, append_assoc, blocks-pieces j x y z)

pub length-piece : (x : ℕ → List Bool) (n t : ℕ) → length (x (n % 3)) ≡ t → length (piece_of x n) ≡ (min (t - 32768 * (n / 3)) 32768 + 7) / 8
length-piece x n t len = omega (arith, len, length-chunk_of (n / 3) (packed (x (n % 3))), length-packed (x (n % 3)))

-- lanes of which as many bits are known as the pieces below one have
pub record Covers (t : ℕ → ℕ) (n : ℕ) (x : ℕ → List Bool) : Type 0 where
  pub count : (c : ℕ) → c < 3 → length (x c) ≡ min (t c) (32768 * ((n + 2 - c) / 3))

none_of : (xs : List Bool) → length xs ≡ 0 → xs ≡ []
none_of [] h = refl
none_of (x ∷ xs) h = absurd (omega arith)

-- a piece of lanes that go on is the piece of what is known of them
pub piece-extended : (t : ℕ → ℕ) (n k : ℕ) (x v : ℕ → List Bool) → Covers t n x → ((c : ℕ) → c < 3 → length (x c ++ v c) ≡ t c) → k < n
    → piece_of (λ c. x c ++ v c) k ≡ piece_of x k
piece-extended t n k x v covers full lt = grind (arith, cases_lt, length-append, packed-append, chunk-longer, length-packed, none_of, append-nil)

pub pieces-extended : (t : ℕ → ℕ) (n : ℕ) (x v : ℕ → List Bool) → Covers t n x → ((c : ℕ) → c < 3 → length (x c ++ v c) ≡ t c)
    → pieces n (piece_of (λ c. x c ++ v c)) ≡ pieces n (piece_of x)
pieces-extended t n x v covers full = pieces-same n (piece_of (λ c. x c ++ v c)) (piece_of x) (λ k lt. piece-extended t n k x v covers full lt)

-- the next piece is the beginning of what its lane goes on with
pub piece-next : (n : ℕ) (x v : ℕ → List Bool) → length (x (n % 3)) ≡ 32768 * (n / 3) → piece_of (λ c. x c ++ v c) n ≡ part_of (v (n % 3))
piece-next n x v len = grind (arith, packed-append, chunk-next, length-packed)

-- pieces of lanes by their numbers
pub lane-three : (x : ℕ → List Bool) (c : ℕ) → c < 3 → three (x 0) (x 1) (x 2) c ≡ x c
unfolding three
lane-three x c h = grind arith

pub piece-three : (x : ℕ → List Bool) (n : ℕ) → piece_of (three (x 0) (x 1) (x 2)) n ≡ piece_of x n
piece-three x n = ap (λ u. chunk (n / 3) (packed u)) (lane-three x (n % 3) (omega arith))
