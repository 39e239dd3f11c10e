-- One piece more of a capture, and a block more.
use Rattle.std.proofs.Common.{◌≡◌, ◌≢◌, ℕ, suc, zero, ◌+◌, ◌-◌, ◌*◌, ◌/◌, ◌%◌, ◌<◌, ◌≤◌, Bool, List, [], ◌∷◌, ◌++◌, length, take, min, refl, ap, ap₂, ◌∙◌, sym, arith, subst, inl, inr, append_assoc, append-nil, length-append}
use Rattle.std.specs.Prelude.{slice_index, ◌⊎◌}
use Rattle.std.proofs.lemmas.Bool.{cases_lt}
use Rattle.std.proofs.lemmas.List.{take_all, drop_all}
use Rattle.tmds_word.specs.Bits.{bytes_of}
use Rattle.capture_file.specs.Layout.{packed, chunk}
use Rattle.capture_file.specs.Captures.{counts_of, IsHeader, IsCaptureOf, IsCapture, Awaits, HasRead, bits_in, block_size}
use Rattle.capture_file.proofs.Packing.{length-packed}
use Rattle.capture_file.proofs.Packs.{packed-append}
use Rattle.capture_file.proofs.Fronts.{chunk-longer, chunk-next}
use Rattle.capture_file.proofs.Heads.{header_same}
use Rattle.capture_file.proofs.Pieces.{three, piece_of, pieces, pieces-same, blocks-pieces, Covers}
use Rattle.capture_file.proofs.Opens.{blocks_in, all_pieces, awaits, capture_only}

pub nothing : (xs : List Bool) → length xs ≡ 0 → xs ≡ []
nothing [] h = refl
nothing (x ∷ xs) h = absurd (omega arith)

pub nothing_packed : packed [] ≡ []
unfolding packed bytes_of
nothing_packed = refl

-- chunks of a lane that goes on
chunk_kept : (j m : ℕ) (x u : List Bool) → (0 < length u → length x ≡ 32768 * m) → j < m → chunk j (packed (x ++ u)) ≡ chunk j (packed x)
chunk_kept j m x u whole lt = grind (arith, cases_lt, packed-append, chunk-longer, length-packed, nothing, append-nil)

pub chunk_past : (j : ℕ) (x : List Bool) → length x ≤ 32768 * j → chunk j (packed x) ≡ []
unfolding chunk
chunk_past j x le = ap (λ xs. take 4096 xs) (drop_all (4096 * j) (packed x) (omega (arith, le, length-packed x)))

chunk_last : (j : ℕ) (x u : List Bool) → (0 < length u → length x ≡ 32768 * j) → (length u ≡ 0 → length x ≤ 32768 * j) → length u ≤ 32768 → chunk j (packed (x ++ u)) ≡ packed u
chunk_last j x u whole past few =
    elim (cases_lt 0 (length u)) [
      | inl some ↦
          let len = whole some in
          ap (λ bs. chunk j bs) (packed-append x u (omega arith)) ∙ chunk-next j (packed x) (packed u) (omega (arith, len, length-packed x)) ∙ take_all 4096 (packed u) (omega (arith, few, length-packed u))
      | inr none ↦ grind (arith, nothing, append-nil, chunk_past, nothing_packed)
    ]

-- one piece more
pub record Stepped (t : ℕ → ℕ) (n : ℕ) (x now : ℕ → List Bool) (u : List Bool) : Type 0 where
  pub covers : Covers t (suc n) now
  pub is : pieces (suc n) (piece_of now) ≡ pieces n (piece_of x) ++ packed u

more_in : (t n c j len k : ℕ) → len ≡ min t (32768 * ((n + 2 - c) / 3)) → n / 3 ≡ j → n % 3 ≡ c → k ≡ min (t - 32768 * j) 32768
    → (len + k ≡ min t (32768 * ((suc n + 2 - c) / 3))) × (0 < k → len ≡ 32768 * j) × (k ≡ 0 → len ≤ 32768 * j) × (k ≤ 32768)
more_in t n c j len k e f g h = (omega arith, λ some. omega arith, λ none. omega arith, omega arith)

other_in : (t n c : ℕ) → c < 3 → c ≢ n % 3 → min t (32768 * ((n + 2 - c) / 3)) ≡ min t (32768 * ((suc n + 2 - c) / 3))
other_in t n c few other = grind (arith, cases_lt)

cases_same : (d c : ℕ) → (d ≡ c) ⊎ (d ≢ c)
cases_same d c = grind (arith, cases_lt)

pub step : (t : ℕ → ℕ) (n : ℕ) (x now : ℕ → List Bool) (u : List Bool) → Covers t n x → now (n % 3) ≡ x (n % 3) ++ u → ((d : ℕ) → d < 3 → d ≢ n % 3 → now d ≡ x d)
    → length u ≡ min (t (n % 3) - 32768 * (n / 3)) 32768 → Stepped t n x now u
unfolding pieces
step t n x now u covers own others len =
    let c = n % 3 in
    let j = n / 3 in
    let few : c < 3 = omega arith in
    let m = more_in (t c) n c j (length (x c)) (length u) (covers.count c few) refl refl len in
    let kept : (k : ℕ) → k < n → piece_of now k ≡ piece_of x k =
    λ k lt. elim (cases_same (k % 3) c) [
      | inl same ↦
          let before : k / 3 < j = omega arith in
          ap (λ d. chunk (k / 3) (packed (now d))) same
          ∙ ap (λ v. chunk (k / 3) (packed v)) own
          ∙ chunk_kept (k / 3) j (x c) u m.1 before
          ∙ ap (λ d. chunk (k / 3) (packed (x d))) (sym same)
      | inr other ↦ ap (λ v. chunk (k / 3) (packed v)) (others (k % 3) (omega arith) other)
    ] in
    record {
      covers = grind (arith, cases_same, length-append, other_in);
      is = ap₂ (λ xs ys. xs ++ ys) (pieces-same n (piece_of now) (piece_of x) kept) (ap (λ v. chunk j (packed v)) own ∙ chunk_last j (x c) u m.1 m.2 m.3);
    }

-- the lanes after one of them went on
firsts : (x y z a : List Bool) (d : ℕ) → d < 3 → d ≢ 0 → three (x ++ a) y z d ≡ three x y z d
unfolding three
firsts x y z a d h k = grind arith

seconds : (x y z b : List Bool) (d : ℕ) → d < 3 → d ≢ 1 → three x (y ++ b) z d ≡ three x y z d
unfolding three
seconds x y z b d h k = grind arith

thirds : (x y z d : List Bool) (e : ℕ) → e < 3 → e ≢ 2 → three x y (z ++ d) e ≡ three x y z e
unfolding three
thirds x y z d e h k = grind arith

-- what was taken, by pieces
pub record Taken (counts : List ℕ) (n : ℕ) (taken : List ℕ) (x y z : List Bool) : Type 0 where
  pub head : List ℕ
  pub headed : IsHeader head counts
  pub covers : Covers (λ c. slice_index counts c) n (three x y z)
  pub is : taken ≡ head ++ pieces n (piece_of (three x y z))

pub taken_of : (counts : List ℕ) (j place : ℕ) (taken : List ℕ) (x y z : List Bool) → HasRead counts j place taken x y z → Taken counts (3 * j) taken x y z
unfolding three
taken_of counts j place taken x y z r = grind (arith, blocks-pieces, three)

pub read_of : (counts : List ℕ) (j place : ℕ) (taken : List ℕ) (x y z : List Bool) → Taken counts (3 * j) taken x y z → place ≡ length taken → HasRead counts j place taken x y z
unfolding three
read_of counts j place taken x y z r at = grind (arith, blocks-pieces)

joined : (head p q : List ℕ) (taken : List ℕ) → taken ≡ head ++ p → taken ++ q ≡ head ++ (p ++ q)
joined head p q taken is = ap (λ xs. xs ++ q) is ∙ append_assoc head p q

pub taken_first : (counts : List ℕ) (j : ℕ) (taken : List ℕ) (x y z a : List Bool) → Taken counts (3 * j) taken x y z → length a ≡ bits_in j (slice_index counts 0)
    → Taken counts (3 * j + 1) (taken ++ packed a) (x ++ a) y z
unfolding three
taken_first counts j taken x y z a r len =
    let n = 3 * j in
    let e : n % 3 ≡ 0 = omega arith in
    let f : n / 3 ≡ j = omega arith in
    let g : suc n ≡ n + 1 = omega arith in
    let t = λ (c : ℕ). slice_index counts c in
    let s = step t n (three x y z) (three (x ++ a) y z) a r.covers
    (ap (λ c. three (x ++ a) y z c) e ∙ sym (ap (λ c. three x y z c ++ a) e))
    (λ d lt h. firsts x y z a d lt (λ i. h (i ∙ sym e)))
    (len ∙ ap₂ (λ c k. min (t c - 32768 * k) 32768) (sym e) (sym f)) in
    record {
      head = r.head;
      headed = r.headed;
      covers = subst (λ k. Covers t k (three (x ++ a) y z)) g s.covers;
      is = joined r.head (pieces n (piece_of (three x y z))) (packed a) taken r.is ∙ ap (λ xs. r.head ++ xs) (sym s.is ∙ ap (λ k. pieces k (piece_of (three (x ++ a) y z))) g);
    }

pub taken_second : (counts : List ℕ) (j : ℕ) (taken : List ℕ) (x y z b : List Bool) → Taken counts (3 * j + 1) taken x y z → length b ≡ bits_in j (slice_index counts 1)
    → Taken counts (3 * j + 2) (taken ++ packed b) x (y ++ b) z
unfolding three
taken_second counts j taken x y z b r len =
    let n = 3 * j + 1 in
    let e : n % 3 ≡ 1 = omega arith in
    let f : n / 3 ≡ j = omega arith in
    let g : suc n ≡ 3 * j + 2 = omega arith in
    let t = λ (c : ℕ). slice_index counts c in
    let s = step t n (three x y z) (three x (y ++ b) z) b r.covers
    (ap (λ c. three x (y ++ b) z c) e ∙ sym (ap (λ c. three x y z c ++ b) e))
    (λ d lt h. seconds x y z b d lt (λ i. h (i ∙ sym e)))
    (len ∙ ap₂ (λ c k. min (t c - 32768 * k) 32768) (sym e) (sym f)) in
    record {
      head = r.head;
      headed = r.headed;
      covers = subst (λ k. Covers t k (three x (y ++ b) z)) g s.covers;
      is = joined r.head (pieces n (piece_of (three x y z))) (packed b) taken r.is ∙ ap (λ xs. r.head ++ xs) (sym s.is ∙ ap (λ k. pieces k (piece_of (three x (y ++ b) z))) g);
    }

pub taken_third : (counts : List ℕ) (j : ℕ) (taken : List ℕ) (x y z d : List Bool) → Taken counts (3 * j + 2) taken x y z → length d ≡ bits_in j (slice_index counts 2)
    → Taken counts (3 * (j + 1)) (taken ++ packed d) x y (z ++ d)
unfolding three
taken_third counts j taken x y z d r len =
    let n = 3 * j + 2 in
    let e : n % 3 ≡ 2 = omega arith in
    let f : n / 3 ≡ j = omega arith in
    let g : suc n ≡ 3 * (j + 1) = omega arith in
    let t = λ (c : ℕ). slice_index counts c in
    let s = step t n (three x y z) (three x y (z ++ d)) d r.covers
    (ap (λ c. three x y (z ++ d) c) e ∙ sym (ap (λ c. three x y z c ++ d) e))
    (λ k lt h. thirds x y z d k lt (λ i. h (i ∙ sym e)))
    (len ∙ ap₂ (λ c k. min (t c - 32768 * k) 32768) (sym e) (sym f)) in
    record {
      head = r.head;
      headed = r.headed;
      covers = subst (λ k. Covers t k (three x y (z ++ d))) g s.covers;
      is = joined r.head (pieces n (piece_of (three x y z))) (packed d) taken r.is ∙ ap (λ xs. r.head ++ xs) (sym s.is ∙ ap (λ k. pieces k (piece_of (three x y (z ++ d)))) g);
    }

-- the chunk that is awaited after what was taken
pub taken_awaits : (counts : List ℕ) (n c j count : ℕ) (taken : List ℕ) (x y z : List Bool) → Taken counts n taken x y z → n % 3 ≡ c → n / 3 ≡ j
    → count ≡ bits_in j (slice_index counts c) → 0 < count → Awaits taken count
taken_awaits counts n c j count taken x y z r e f is some =
    let same : bits_in j (slice_index counts c) ≡ min (slice_index counts (n % 3) - 32768 * (n / 3)) 32768 =
    ap₂ (λ i k. min (slice_index counts i - 32768 * k) 32768) (sym e) (sym f) in
    subst (λ bs. Awaits bs count) (sym r.is) (awaits r.head counts n count (three x y z) r.headed r.covers (omega (arith, some, is, same)) (is ∙ same))

-- a block more
pub block_more : (counts : List ℕ) (j place : ℕ) (taken : List ℕ) (x y z a b d : List Bool) → HasRead counts j place taken x y z
    → length a ≡ bits_in j (slice_index counts 0) → length b ≡ bits_in j (slice_index counts 1) → length d ≡ bits_in j (slice_index counts 2)
    → HasRead counts (j + 1) (place + block_size j counts) (taken ++ ((packed a ++ packed b) ++ packed d)) (x ++ a) (y ++ b) (z ++ d)
block_more counts j place taken x y z a b d r la lb ld =
    let t0 = taken_of counts j place taken x y z r in
    let t1 = taken_first counts j taken x y z a t0 la in
    let t2 = taken_second counts j (taken ++ packed a) (x ++ a) y z b t1 lb in
    let t3 = taken_third counts j ((taken ++ packed a) ++ packed b) (x ++ a) (y ++ b) z d t2 ld in
    let at : place + block_size j counts ≡ length (taken ++ ((packed a ++ packed b) ++ packed d)) = omega (arith, r.place_is, la, lb, ld, length-append {A = ℕ}, length-packed) in
    read_of counts (j + 1) _ _ (x ++ a) (y ++ b) (z ++ d) (simp append_assoc (simp append_assoc at t3)) at

-- nothing is left to be taken
pub no_block : (counts : List ℕ) (j : ℕ) → block_size j counts ≡ 0 → (slice_index counts 0 ≤ 32768 * j) × (slice_index counts 1 ≤ 32768 * j) × (slice_index counts 2 ≤ 32768 * j)
no_block counts j none = (omega arith, omega arith, omega arith)

pieces_past : (d n : ℕ) (f : ℕ → List ℕ) → ((k : ℕ) → n ≤ k → f k ≡ []) → pieces (d + n) f ≡ pieces n f
unfolding pieces
pieces_past zero n f h = let e : 0 + n ≡ n = omega arith in ap (λ k. pieces k f) e
pieces_past (suc d) n f h =
    let e : suc d + n ≡ suc (d + n) = omega arith in
    ap (λ k. pieces k f) e ∙ ap (λ xs. pieces (d + n) f ++ xs) (h (d + n) (omega arith)) ∙ append-nil (pieces (d + n) f) ∙ pieces_past d n f h

past_all : (counts : List ℕ) (k c : ℕ) → c < 3 → k % 3 ≡ c → 3 * blocks_in (slice_index counts 0) (slice_index counts 1) (slice_index counts 2) ≤ k → slice_index counts c ≤ 32768 * (k / 3)
past_all counts k c h l m = grind arith

full_lane : (counts : List ℕ) (j c n : ℕ) → c < 3 → block_size j counts ≡ 0 → n ≡ min (slice_index counts c) (32768 * ((3 * j + 2 - c) / 3)) → n ≡ slice_index counts c
full_lane counts j c n h k l = grind arith

-- all that was taken is a capture, and no more bytes make one
pub record Ended (taken : List ℕ) (x y z : List Bool) : Type 0 where
  pub holds : IsCaptureOf x y z taken
  pub only : (more : List ℕ) → IsCapture (taken ++ more) → length more ≡ 0

pub ended : (counts : List ℕ) (j place : ℕ) (taken : List ℕ) (x y z : List Bool) → HasRead counts j place taken x y z → block_size j counts ≡ 0 → Ended taken x y z
ended counts j place taken x y z r none =
    let t = taken_of counts j place taken x y z r in
    let f = three x y z in
    let m = 3 * blocks_in (slice_index counts 0) (slice_index counts 1) (slice_index counts 2) in
    let full : (c : ℕ) → c < 3 → length (f c) ≡ slice_index counts c = λ c lt. full_lane counts j c (length (f c)) lt none (t.covers.count c lt) in
    let le : m ≤ 3 * j = omega (arith, none) in
    let empty : (k : ℕ) → m ≤ k → piece_of f k ≡ [] =
    λ k from. let few : k % 3 < 3 = omega arith in
    chunk_past (k / 3) (f (k % 3)) (omega (arith, full (k % 3) few, past_all counts k (k % 3) few refl from)) in
    let all : pieces (3 * j) (piece_of f) ≡ pieces m (piece_of f) =
    let e : 3 * j ≡ (3 * j - m) + m = omega arith in
    ap (λ k. pieces k (piece_of f)) e ∙ pieces_past (3 * j - m) m (piece_of f) empty in
    let is : taken ≡ t.head ++ pieces m (piece_of f) = t.is ∙ ap (λ xs. t.head ++ xs) all in
    let e0 : length x ≡ slice_index counts 0 = full_one counts j 0 (length x) none r.count_blue (omega arith) in
    let e1 : length y ≡ slice_index counts 1 = full_one counts j 1 (length y) none r.count_green (omega arith) in
    let e2 : length z ≡ slice_index counts 2 = full_one counts j 2 (length z) none r.count_red (omega arith) in
    record {
      holds = record {
        head = t.head;
        headed = header_same t.head counts (counts_of x y z) (by_count counts x y z e0 e1 e2) t.headed;
        bytes_are = grind (arith, all_pieces, pieces, blocks_in, piece_of);
      };
      only = λ more capture. capture_only t.head counts more m f t.headed full refl (subst (λ bs. IsCapture (bs ++ more)) is capture);
    }
  where
    full_one : (counts : List ℕ) (j c n : ℕ) → block_size j counts ≡ 0 → n ≡ min (slice_index counts c) (32768 * j) → c < 3 → n ≡ slice_index counts c
    full_one counts j zero n none e lt = omega arith
    full_one counts j (suc zero) n none e lt = omega arith
    full_one counts j (suc (suc zero)) n none e lt = omega arith
    full_one counts j (suc (suc (suc c))) n none e lt = absurd (omega arith)

    by_count : (counts : List ℕ) (x y z : List Bool) → length x ≡ slice_index counts 0 → length y ≡ slice_index counts 1 → length z ≡ slice_index counts 2
        → (c : ℕ) → c < 3 → slice_index counts c ≡ slice_index (counts_of x y z) c
    by_count counts x y z e0 e1 e2 zero lt = sym e0
    by_count counts x y z e0 e1 e2 (suc zero) lt = sym e1
    by_count counts x y z e0 e1 e2 (suc (suc zero)) lt = sym e2
    by_count counts x y z e0 e1 e2 (suc (suc (suc c))) lt = absurd (omega arith)
