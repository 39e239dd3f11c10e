-- Bytes have one fault at most, and one reading of the whole blocks before a place.
use Rattle.std.proofs.Common.{◌≡◌, ℕ, zero, suc, ◌+◌, ◌-◌, ◌*◌, ◌/◌, ◌<◌, ◌≤◌, Bool, List, [], ◌++◌, length, take, min, refl, ap, ap₂, ◌∙◌, sym, subst, arith, inl, inr, append_assoc, append-nil, length-append}
use Rattle.std.specs.Prelude.{◌⊎◌, slice_index, slice_get, Some}
use Rattle.std.proofs.lemmas.Bool.{cases_lt}
use Rattle.std.proofs.lemmas.List.{take-take, take_all, length-take}
use Rattle.std.proofs.lemmas.Option.{same_Some}
use Rattle.capture_file.specs.Layout.{packed, chunk, block, blocks_below}
use Rattle.capture_file.specs.Captures.{IsHeader, IsCapture, BeginsCapture, StopsAt, IsFault, HasRead, StopsIn, bits_in, block_size}
use Rattle.capture_file.specs.Laws.{AreSame, OneFault, OneReading, IsReadBefore}
use Rattle.capture_file.specs.declared.fault.CaptureFault.{CaptureFault}
use Rattle.capture_file.specs.declared.fault.CaptureFault.TheVariants.{Magic, Version, Short, Padding, Trailing}
use Rattle.capture_file.proofs.Packing.{length-packed}
use Rattle.capture_file.proofs.Fronts.{same_front, same_rest, length-chunk_of}
use Rattle.capture_file.proofs.Heads.{SameHeads, same_heads}
use Rattle.capture_file.proofs.Parts.{blocks_after}
use Rattle.capture_file.proofs.Stops.{begins_take, begins_whole, capture_long}
use Rattle.capture_file.proofs.OneCapture.{AreAsLong, AreSameBelow, same_below, same_lane}

-- The fault.

-- bytes that begin a capture past a place do not stop there
goes_on : (bytes : List ℕ) (p q : ℕ) → StopsAt bytes p → p < q → BeginsCapture (take q bytes) → ⊥
goes_on bytes p q stops lt begins =
    stops.stops (subst BeginsCapture (take-take (p + 1) q bytes (omega arith)) (begins_take (p + 1) (take q bytes) begins))

one_stop : (bytes : List ℕ) (p q : ℕ) → StopsAt bytes p → StopsAt bytes q → p ≡ q
one_stop bytes p q a b = elim (cases_lt p q) [
  | inl less ↦ absurd (goes_on bytes p q a less b.before)
  | inr le ↦ elim (cases_lt q p) [
    | inl less ↦ absurd (goes_on bytes q p b less a.before)
    | inr other ↦ omega (arith, le, other)
  ]
]

-- bytes that stop somewhere do not only end too early
no_stop : (bytes : List ℕ) (p : ℕ) → StopsAt bytes p → BeginsCapture bytes → ⊥
no_stop bytes p stops begins = stops.stops (begins_take (p + 1) bytes begins)

-- and do not stop within a header where a capture ends
no_capture : (bytes : List ℕ) (p : ℕ) → p < 4 → IsCapture (take p bytes) → ⊥
no_capture bytes p few is =
    let long = capture_long (take p bytes) is in
    absurd (omega (arith, few, long, length-take p bytes))

pub one_fault : OneFault
one_fault bytes (Magic p) (Magic q) a b = ap Magic (one_stop bytes p q a.0 b.0)
one_fault bytes (Magic p) (Version v) a b = let e = one_stop bytes p 3 a.0 b.0 in absurd (omega (arith, e, a.1))
one_fault bytes (Magic p) (Padding q) a b = let e = one_stop bytes p q a.0 b.0 in absurd (omega (arith, e, a.1, b.1))
one_fault bytes (Magic p) (Trailing q) a b = let e = one_stop bytes p q a.0 b.0 in absurd (no_capture bytes q (omega (arith, e, a.1)) b.1)
one_fault bytes (Magic p) (Short q) a b = absurd (no_stop bytes p a.0 b.0)
one_fault bytes (Version v) (Magic q) a b = let e = one_stop bytes 3 q a.0 b.0 in absurd (omega (arith, e, b.1))
one_fault bytes (Version v) (Version w) a b = ap Version (same_Some v w (sym a.1 ∙ b.1))
one_fault bytes (Version v) (Padding q) a b = let e = one_stop bytes 3 q a.0 b.0 in absurd (omega (arith, e, b.1))
one_fault bytes (Version v) (Trailing q) a b = let e = one_stop bytes 3 q a.0 b.0 in absurd (no_capture bytes q (omega (arith, e)) b.1)
one_fault bytes (Version v) (Short q) a b = absurd (no_stop bytes 3 a.0 b.0)
one_fault bytes (Padding p) (Magic q) a b = let e = one_stop bytes p q a.0 b.0 in absurd (omega (arith, e, a.1, b.1))
one_fault bytes (Padding p) (Version v) a b = let e = one_stop bytes p 3 a.0 b.0 in absurd (omega (arith, e, a.1))
one_fault bytes (Padding p) (Padding q) a b = ap Padding (one_stop bytes p q a.0 b.0)
one_fault bytes (Padding p) (Trailing q) a b = absurd (a.2 (subst (λ n. IsCapture (take n bytes)) (sym (one_stop bytes p q a.0 b.0)) b.1))
one_fault bytes (Padding p) (Short q) a b = absurd (no_stop bytes p a.0 b.0)
one_fault bytes (Trailing p) (Magic q) a b = let e = one_stop bytes p q a.0 b.0 in absurd (no_capture bytes p (omega (arith, e, b.1)) a.1)
one_fault bytes (Trailing p) (Version v) a b = let e = one_stop bytes p 3 a.0 b.0 in absurd (no_capture bytes p (omega (arith, e)) a.1)
one_fault bytes (Trailing p) (Padding q) a b = absurd (b.2 (subst (λ n. IsCapture (take n bytes)) (one_stop bytes p q a.0 b.0) a.1))
one_fault bytes (Trailing p) (Trailing q) a b = ap Trailing (one_stop bytes p q a.0 b.0)
one_fault bytes (Trailing p) (Short q) a b = absurd (no_stop bytes p a.0 b.0)
one_fault bytes (Short p) (Magic q) a b = absurd (no_stop bytes q b.0 a.0)
one_fault bytes (Short p) (Version v) a b = absurd (no_stop bytes 3 b.0 a.0)
one_fault bytes (Short p) (Padding q) a b = absurd (no_stop bytes q b.0 a.0)
one_fault bytes (Short p) (Trailing q) a b = absurd (no_stop bytes q b.0 a.0)
one_fault bytes (Short p) (Short q) a b = ap Short (a.2 ∙ sym b.2)

-- The reading.

-- one more chunk of a lane
chunk_next : (n j : ℕ) → min n (4096 * j) + min 4096 (n - 4096 * j) ≡ min n (4096 * suc j)
chunk_next n j = omega arith

three_more : (n a b c x y z p q r : ℕ) → n ≡ a + b + c → a + x ≡ p → b + y ≡ q → c + z ≡ r → n + (x + (y + z)) ≡ p + q + r
three_more n a b c x y z p q r h hp hq hr = omega (arith, h, hp, hq, hr)

length-block : (j : ℕ) (a b c : List ℕ) → length (chunk j a ++ chunk j b ++ chunk j c) ≡ min 4096 (length a - 4096 * j) + (min 4096 (length b - 4096 * j) + min 4096 (length c - 4096 * j))
length-block j a b c = grind (arith, length-append, length-chunk_of)

length-below : (j : ℕ) (a b c : List ℕ) → length (blocks_below j a b c) ≡ min (length a) (4096 * j) + min (length b) (4096 * j) + min (length c) (4096 * j)
unfolding blocks_below block
length-below zero a b c = omega arith
length-below (suc j) a b c =
    length-append (blocks_below j a b c) (chunk j a ++ chunk j b ++ chunk j c)
    ∙ ap (λ n. length (blocks_below j a b c) + n) (length-block j a b c)
    ∙ three_more (length (blocks_below j a b c)) (min (length a) (4096 * j)) (min (length b) (4096 * j)) (min (length c) (4096 * j)) _ _ _ _ _ _
    (length-below j a b c) (chunk_next (length a) j) (chunk_next (length b) j) (chunk_next (length c) j)

-- the bytes that a lane has of its blocks below j
abbrev pub lane_bytes : ℕ → ℕ → ℕ
lane_bytes count j = min ((count + 7) / 8) (4096 * j)

lane_length : (x : List Bool) (c j : ℕ) → length x ≡ min c (32768 * j) → min (length (packed x)) (4096 * j) ≡ lane_bytes c j
lane_length x c j is = omega (arith, is, length-packed x)

pub read_length : (counts : List ℕ) (j place : ℕ) (taken : List ℕ) (x y z : List Bool) → (h : HasRead counts j place taken x y z)
    → length taken ≡ length h.head + (lane_bytes (slice_index counts 0) j + lane_bytes (slice_index counts 1) j + lane_bytes (slice_index counts 2) j)
read_length counts j place taken x y z h =
    ap length h.taken_is
    ∙ length-append h.head (blocks_below j (packed x) (packed y) (packed z))
    ∙ ap (λ n. length h.head + n)
    (length-below j (packed x) (packed y) (packed z)
    ∙ ap₂ (λ m n. m + n + min (length (packed z)) (4096 * j)) (lane_length x (slice_index counts 0) j h.count_blue) (lane_length y (slice_index counts 1) j h.count_green)
    ∙ ap (λ n. lane_bytes (slice_index counts 0) j + lane_bytes (slice_index counts 1) j + n) (lane_length z (slice_index counts 2) j h.count_red))

-- the bytes that a lane has of a block
abbrev more_bytes : ℕ → ℕ → ℕ
more_bytes count j = (bits_in j count + 7) / 8

lane_more : (c j : ℕ) → lane_bytes c j + more_bytes c j ≡ lane_bytes c (j + 1)
lane_more c j = omega arith

lane_grows : (c j k : ℕ) → j ≤ k → lane_bytes c j ≤ lane_bytes c k
lane_grows c j k le = omega (arith, le)

no_more : (c j : ℕ) → more_bytes c j ≡ 0 → c ≤ 32768 * j
no_more c j none = omega (arith, none)

past : (n p a b c x y z d e f g h i : ℕ) → p < (n + (a + b + c)) + (x + y + z) → a + x ≡ d → b + y ≡ e → c + z ≡ f → d ≤ g → e ≤ h → f ≤ i → n + (g + h + i) ≤ p → ⊥
past n p a b c x y z d e f g h i lt ad be cf dg eh fi from = absurd (omega (arith, lt, ad, be, cf, dg, eh, fi, from))

all_none : (x y z : ℕ) → x + y + z ≡ 0 → (x ≡ 0) × (y ≡ 0) × (z ≡ 0)
all_none x y z h = (omega (arith, h), omega (arith, h), omega (arith, h))

-- where they stop at one place, either they have as many blocks, or no lane has more
pub stop_there : (c d e j k n p : ℕ) → j ≤ k
    → (p < (n + (lane_bytes c j + lane_bytes d j + lane_bytes e j)) + (more_bytes c j + more_bytes d j + more_bytes e j)) ⊎ (more_bytes c j + more_bytes d j + more_bytes e j ≡ 0)
    → n + (lane_bytes c k + lane_bytes d k + lane_bytes e k) ≤ p
    → (j ≡ k) ⊎ ((c ≤ 32768 * j) × (d ≤ 32768 * j) × (e ≤ 32768 * j))
stop_there c d e j k n p le stop from = elim (cases_lt j k) [
  | inl less ↦ elim stop [
    | inl within ↦
        absurd (past n p (lane_bytes c j) (lane_bytes d j) (lane_bytes e j) _ _ _ _ _ _ (lane_bytes c k) (lane_bytes d k) (lane_bytes e k) within
        (lane_more c j) (lane_more d j) (lane_more e j)
        (lane_grows c (j + 1) k (omega (arith, less))) (lane_grows d (j + 1) k (omega (arith, less))) (lane_grows e (j + 1) k (omega (arith, less))) from)
    | inr none ↦ let zeros = all_none _ _ _ none in inr (no_more c j zeros.0, no_more d j zeros.1, no_more e j zeros.2)
  ]
  | inr same ↦ inl (omega (arith, le, same))
]

-- as many bytes of each lane
record AsLong (taken took : List ℕ) (x y z u v w : List Bool) : Type 0 where
  whole : length taken ≡ length took
  blue : length x ≡ length u
  green : length y ≡ length v
  red : length z ≡ length w

as_long : (c d e j k n : ℕ) (taken took : List ℕ) (x y z u v w : List Bool) → j ≤ k → (j ≡ k) ⊎ ((c ≤ 32768 * j) × (d ≤ 32768 * j) × (e ≤ 32768 * j))
    → length taken ≡ n + (lane_bytes c j + lane_bytes d j + lane_bytes e j) → length took ≡ n + (lane_bytes c k + lane_bytes d k + lane_bytes e k)
    → length x ≡ min c (32768 * j) → length y ≡ min d (32768 * j) → length z ≡ min e (32768 * j)
    → length u ≡ min c (32768 * k) → length v ≡ min d (32768 * k) → length w ≡ min e (32768 * k) → AsLong taken took x y z u v w
as_long c d e j k n taken took x y z u v w le (inl is) la lb lx ly lz lu lv lw = record {
  whole = omega (arith, is, la, lb);
  blue = omega (arith, is, lx, lu);
  green = omega (arith, is, ly, lv);
  red = omega (arith, is, lz, lw);
}
as_long c d e j k n taken took x y z u v w le (inr all) la lb lx ly lz lu lv lw =
    let first = all.0 in
    let second = all.1 in
    let third = all.2 in
    record {
      whole = omega (arith, le, first, second, third, la, lb);
      blue = omega (arith, le, first, lx, lu);
      green = omega (arith, le, second, ly, lv);
      red = omega (arith, le, third, lz, lw);
    }

-- the blocks below j of lanes that are as long begin the blocks below k
begin_below : (j k : ℕ) (a b c p q r : List ℕ) → j ≤ k → AreAsLong a b c p q r → blocks_below j a b c ≡ blocks_below k p q r → blocks_below j a b c ≡ blocks_below j p q r
begin_below j k a b c p q r le long is = elim (cases_lt j k) [
  | inl less ↦
      let after = blocks_after j k p q r less in
      let first = long.blue in
      let second = long.green in
      let third = long.red in
      same_front (blocks_below j a b c) [] (blocks_below j p q r) (block j p q r ++ after.0)
      (append-nil (blocks_below j a b c) ∙ is ∙ after.1 ∙ append_assoc (blocks_below j p q r) (block j p q r) after.0)
      (omega (arith, length-below j a b c, length-below j p q r, first, second, third))
  | inr same ↦ let e : k ≡ j = omega (arith, le, same) in is ∙ ap (λ n. blocks_below n p q r) e
]

-- a lane whose bytes are the same as far as a chunk, and that has no more
lane_same : (xs ys : List Bool) (j : ℕ) → length xs ≤ 32768 * j → length xs ≡ length ys → take (4096 * j) (packed xs) ≡ take (4096 * j) (packed ys) → xs ≡ ys
lane_same xs ys j few long is =
    same_lane xs ys (sym long)
    (sym (take_all (4096 * j) (packed xs) (omega (arith, few, length-packed xs))) ∙ is ∙ take_all (4096 * j) (packed ys) (omega (arith, few, long, length-packed ys)))

pub stops_within : (counts : List ℕ) (j : ℕ) (taken : List ℕ) (p : ℕ) → StopsIn counts j taken p → (p < length taken + block_size j counts) ⊎ (block_size j counts ≡ 0)
stops_within counts j taken p h = elim h.within [
  | inl inside ↦ inl inside
  | inr none ↦ inr none.0
]

one_way : (bytes : List ℕ) (place : ℕ) (taken took : List ℕ) (x y z u v w : List Bool) → (a : IsReadBefore bytes place taken x y z) → (b : IsReadBefore bytes place took u v w) → a.block ≤ b.block
    → (taken ≡ took) × AreSame x y z u v w
one_way bytes place taken took x y z u v w a b le =
    let j = a.block in
    let k = b.block in
    let h = a.read.head in
    let n = length h in
    let below_a = blocks_below j (packed x) (packed y) (packed z) in
    let below_b = blocks_below k (packed u) (packed v) (packed w) in
    let whole : taken ++ a.rest ≡ took ++ b.rest = sym a.bytes_are ∙ b.bytes_are in
    let heads = same_heads h b.read.head a.counts b.counts (below_a ++ a.rest) (below_b ++ b.rest) a.read.headed b.read.headed
    (sym (append_assoc h below_a a.rest) ∙ ap (λ bs. bs ++ a.rest) (sym a.read.taken_is) ∙ whole ∙ ap (λ bs. bs ++ b.rest) b.read.taken_is ∙ append_assoc b.read.head below_b b.rest) in
    let c = slice_index a.counts 0 in
    let d = slice_index a.counts 1 in
    let e = slice_index a.counts 2 in
    let same_head : n ≡ length b.read.head = ap length heads.same in
    let first = heads.count 0 (omega arith) in
    let second = heads.count 1 (omega arith) in
    let third = heads.count 2 (omega arith) in
    let la = read_length a.counts j (length taken) taken x y z a.read in
    let lb : length took ≡ n + (lane_bytes c k + lane_bytes d k + lane_bytes e k) =
    read_length b.counts k (length took) took u v w b.read
    ∙ ap₂ (λ m i. m + (lane_bytes i k + lane_bytes (slice_index b.counts 1) k + lane_bytes (slice_index b.counts 2) k)) (sym same_head) (sym first)
    ∙ ap₂ (λ m i. n + (lane_bytes c k + lane_bytes m k + lane_bytes i k)) (sym second) (sym third) in
    let from = b.stops.from in
    let there = stop_there c d e j k n place le
    (elim (stops_within a.counts j taken place a.stops) [
      | inl inside ↦ inl (omega (arith, inside, la))
      | inr none ↦ inr none
    ])
    (omega (arith, from, lb)) in
    let long = as_long c d e j k n taken took x y z u v w le there la lb a.read.count_blue a.read.count_green a.read.count_red
    (b.read.count_blue ∙ ap (λ i. min i (32768 * k)) (sym first)) (b.read.count_green ∙ ap (λ i. min i (32768 * k)) (sym second)) (b.read.count_red ∙ ap (λ i. min i (32768 * k)) (sym third)) in
    let same : taken ≡ took = same_front taken a.rest took b.rest whole long.whole in
    let rests : below_a ≡ below_b = same_rest h below_a b.read.head below_b (sym a.read.taken_is ∙ same ∙ b.read.taken_is) same_head in
    let blue = long.blue in
    let green = long.green in
    let red = long.red in
    let lanes : AreAsLong (packed x) (packed y) (packed z) (packed u) (packed v) (packed w) = record {
      blue = omega (arith, blue, length-packed x, length-packed u);
      green = omega (arith, green, length-packed y, length-packed v);
      red = omega (arith, red, length-packed z, length-packed w);
    } in
    let below = same_below j (packed x) (packed y) (packed z) (packed u) (packed v) (packed w) lanes
    (begin_below j k (packed x) (packed y) (packed z) (packed u) (packed v) (packed w) le lanes rests) in
    let nx = a.read.count_blue in
    let ny = a.read.count_green in
    let nz = a.read.count_red in (
      same,
      record {
        blue = lane_same x u j (omega (arith, nx)) blue below.blue;
        green = lane_same y v j (omega (arith, ny)) green below.green;
        red = lane_same z w j (omega (arith, nz)) red below.red;
      },
    )

pub one_reading : OneReading
one_reading bytes place taken took x y z u v w a b = elim (cases_lt b.block a.block) [
  | inl less ↦
      let back = one_way bytes place took taken u v w x y z b a (omega (arith, less)) in
      (sym back.0, record { blue = sym back.1.blue; green = sym back.1.green; red = sym back.1.red })
  | inr le ↦ one_way bytes place taken took x y z u v w a b le
]
