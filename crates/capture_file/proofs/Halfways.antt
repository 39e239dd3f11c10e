-- A capture that is damaged block by block.
use Rattle.std.proofs.Common.{◌≡◌, ℕ, ◌+◌, ◌*◌, ◌%◌, ◌<◌, Bool, List, [], ◌++◌, length, take, drop, min, refl, ap, ap₂, ◌∙◌, sym, arith, subst, inl, inr, append_assoc, append-nil, length-append}
use Rattle.std.specs.Prelude.{Option, slice_index}
use Rattle.std.proofs.Math.Seq.{take-append_seam, drop-append_seam}
use Rattle.std.proofs.lemmas.Bool.{cases_lt}
use Rattle.std.proofs.lemmas.List.{take_all}
use Rattle.std.specs.Io.KnownBytes.{Appends, Keeps}
use Rattle.capture_file.specs.Layout.{packed, chunk, block, blocks_below}
use Rattle.capture_file.specs.Captures.{header_of, IsHeader, CanSay, HasRead, bits_in, block_size, place_of, IsFault, StopsIn}
use Rattle.capture_file.specs.Damage.{damaged}
use Rattle.capture_file.specs.BlockDamage.{AllFitLanes, LaneFits, Halfway, IsDamagedFront, DamagedChunk, CutIn, SaysFault, IsLateFault}
use Rattle.capture_file.specs.declared.damaging.DamageError.{DamageError}
use Rattle.capture_file.specs.declared.damaging.DamageError.TheVariants.{Write}
use Rattle.capture_file.specs.declared.damaging.Hit.{Hit}
use Rattle.capture_file.proofs.Packing.{length-packed, chunk-part}
use Rattle.capture_file.proofs.Parts.{block_is, blocks-more, Appends-two, Appends-part}
use Rattle.capture_file.proofs.Pieces.{three, piece_of, length-pieces, length-piece, blocks-pieces}
use Rattle.capture_file.proofs.Takings.{chunk_past, nothing_packed, nothing}
use Rattle.capture_file.proofs.Standing.{stands_more}
use Rattle.capture_file.proofs.Heads.{same_heads}
use Rattle.capture_file.proofs.HitLanes.{damaged_long}

pub lane_fits : (counts : List ℕ) (hits : List Hit) (lane n : ℕ) → AllFitLanes counts hits → n ≡ slice_index counts lane → LaneFits lane n hits
lane_fits counts hits lane n fit is i hit at own = omega (arith, is, fit i hit at, ap (λ l. slice_index counts l) own)

pub damaged_all : (lane : ℕ) (hits : List Hit) (row : List Bool) → LaneFits lane (length row) hits → length (damaged lane hits row) ≡ length row
damaged_all lane hits row fit = ap (λ hs. length (damaged lane hs row)) (sym (take_all (length hits) hits (omega arith))) ∙ damaged_long lane (length hits) hits row fit

-- a chunk of a damaged lane
pub damaged_chunk : (lane t j : ℕ) (hits : List Hit) (x a u now : List Bool) → length x ≡ min t (32768 * j) → length a ≡ bits_in j t → length ((x ++ a) ++ u) ≡ t → LaneFits lane t hits
    → DamagedChunk lane (32768 * j) hits a now → chunk j (packed (damaged lane hits (x ++ (a ++ u)))) ≡ packed now
damaged_chunk lane t j hits x a u now lx la all fit h =
    let row = x ++ (a ++ u) in
    let long : length row ≡ t = ap length (sym (append_assoc x a u)) ∙ all in
    let fits : LaneFits lane (length row) hits = subst (λ n. LaneFits lane n hits) (sym long) fit in
    let w = damaged lane hits row in
    let len : length w ≡ t = damaged_all lane hits row fits ∙ long in
    elim (cases_lt 0 (length a)) [
      | inl some ↦
          let at : length x ≡ 32768 * j = omega arith in
          let here : a ≡ take (length a) (drop (32768 * j) row) =
          sym (ap (λ n. take (length a) (drop n row)) (sym at) ∙ ap (λ xs. take (length a) xs) (drop-append_seam x (a ++ u)) ∙ take-append_seam a u) in
          let zero_on : 0 + 32768 * j ≡ 32768 * j = omega arith in
          ap (λ xs. chunk j (packed xs)) (sym (take_all t w (omega arith)))
          ∙ chunk-part w 0 t j (length a) (omega arith) (omega arith) (omega (arith, la))
          ∙ ap (λ k. packed (take (length a) (drop k w))) zero_on
          ∙ ap packed (sym (h.part row fits here))
      | inr none ↦ grind (arith, nothing, chunk_past, nothing_packed)
    ]

-- the header stays the version's
next_head : (version : ℕ) (counts taken part : List ℕ) (x y z : List Bool) (j place : ℕ) → CanSay version counts → (head blocks : List ℕ) → taken ≡ head ++ blocks → head ≡ header_of version counts
    → (r : HasRead counts j place (taken ++ part) x y z) → r.head ≡ header_of version counts
next_head version counts taken part x y z j place said head blocks is own r =
    let h = header_of version counts in
    let headed : IsHeader h counts = record { version = version; said = said; head_is = refl } in
    (same_heads r.head h counts counts (blocks_below j (packed x) (packed y) (packed z)) (blocks ++ part) r.headed headed
    (sym r.taken_is ∙ ap (λ xs. xs ++ part) (is ∙ ap (λ xs. xs ++ blocks) own) ∙ append_assoc h blocks part)).same

-- what was written, however the lanes go on
halfway_wrote : (version : ℕ) (counts : List ℕ) (hits : List Hit) (j : ℕ) (taken : List ℕ) (before now : Option (List ℕ)) → (h : Halfway version counts hits j taken before now)
    → (u v w : List Bool) → length (h.front.blue ++ u) ≡ slice_index counts 0 → length (h.front.green ++ v) ≡ slice_index counts 1 → length (h.front.red ++ w) ≡ slice_index counts 2
    → Appends before now (header_of version counts ++ blocks_below j (packed (damaged 0 hits (h.front.blue ++ u))) (packed (damaged 1 hits (h.front.green ++ v))) (packed (damaged 2 hits (h.front.red ++ w))))
halfway_wrote version counts hits j taken before now h u v w eu ev ew = subst (λ bs. Appends before now bs) (h.front.out_is u v w eu ev ew) h.wrote

-- a block more
pub halfway_more : (version : ℕ) (counts : List ℕ) (hits : List Hit) (j : ℕ) (taken : List ℕ) (before mid now : Option (List ℕ)) (a b d a' b' d' : List Bool)
    → AllFitLanes counts hits → length a ≡ bits_in j (slice_index counts 0) → length b ≡ bits_in j (slice_index counts 1) → length d ≡ bits_in j (slice_index counts 2)
    → DamagedChunk 0 (32768 * j) hits a a' → DamagedChunk 1 (32768 * j) hits b b' → DamagedChunk 2 (32768 * j) hits d d'
    → Appends mid now ((packed a' ++ packed b') ++ packed d') → Halfway version counts hits j taken before mid → Halfway version counts hits (j + 1) (taken ++ ((packed a ++ packed b) ++ packed d)) before now
halfway_more version counts hits j taken before mid now a b d a' b' d' fit la lb ld ha hb hd wrote was =
    let head = header_of version counts in
    let old = was.front in
    let own = (packed a' ++ packed b') ++ packed d' in
    let front : IsDamagedFront version counts hits (j + 1) (taken ++ ((packed a ++ packed b) ++ packed d)) (was.out ++ own) = record {
      blue = old.blue ++ a;
      green = old.green ++ b;
      red = old.red ++ d;
      read = stands_more version counts j taken old.blue old.green old.red a b d old.read la lb ld;
      said = old.said;
      head_is = next_head version counts taken ((packed a ++ packed b) ++ packed d) (old.blue ++ a) (old.green ++ b) (old.red ++ d) (j + 1) _ old.said old.read.head (blocks_below j (packed old.blue) (packed old.green) (packed old.red)) old.read.taken_is old.head_is
          (stands_more version counts j taken old.blue old.green old.red a b d old.read la lb ld);
      out_is = λ u v w eu ev ew.
          let f = damaged 0 hits (old.blue ++ (a ++ u)) in
          let g = damaged 1 hits (old.green ++ (b ++ v)) in
          let h = damaged 2 hits (old.red ++ (d ++ w)) in
          let e0 = append_assoc old.blue a u in
          let e1 = append_assoc old.green b v in
          let e2 = append_assoc old.red d w in
          let first = old.out_is (a ++ u) (b ++ v) (d ++ w) (ap length (sym e0) ∙ eu) (ap length (sym e1) ∙ ev) (ap length (sym e2) ∙ ew) in
          let c0 = damaged_chunk 0 (slice_index counts 0) j hits old.blue a u a' old.read.count_blue la eu (lane_fits counts hits 0 (slice_index counts 0) fit refl) ha in
          let c1 = damaged_chunk 1 (slice_index counts 1) j hits old.green b v b' old.read.count_green lb ev (lane_fits counts hits 1 (slice_index counts 1) fit refl) hb in
          let c2 = damaged_chunk 2 (slice_index counts 2) j hits old.red d w d' old.read.count_red ld ew (lane_fits counts hits 2 (slice_index counts 2) fit refl) hd in
          let block_is_own : block j (packed f) (packed g) (packed h) ≡ (packed a' ++ packed b') ++ packed d' =
          block_is j (packed f) (packed g) (packed h) ∙ ap₂ (λ p q. (p ++ q) ++ chunk j (packed h)) c0 c1 ∙ ap (λ q. (packed a' ++ packed b') ++ q) c2 in
          let all : head ++ blocks_below (j + 1) (packed f) (packed g) (packed h) ≡ (head ++ blocks_below j (packed f) (packed g) (packed h)) ++ ((packed a' ++ packed b') ++ packed d') =
          blocks-more head (packed f) (packed g) (packed h) j ∙ ap (λ q. (head ++ blocks_below j (packed f) (packed g) (packed h)) ++ q) block_is_own in
          let same : head ++ blocks_below (j + 1) (packed (damaged 0 hits ((old.blue ++ a) ++ u))) (packed (damaged 1 hits ((old.green ++ b) ++ v))) (packed (damaged 2 hits ((old.red ++ d) ++ w)))
          ≡ head ++ blocks_below (j + 1) (packed f) (packed g) (packed h) =
          ap (λ r. head ++ blocks_below (j + 1) (packed (damaged 0 hits r)) (packed (damaged 1 hits ((old.green ++ b) ++ v))) (packed (damaged 2 hits ((old.red ++ d) ++ w)))) e0
          ∙ ap₂ (λ r s. head ++ blocks_below (j + 1) (packed f) (packed (damaged 1 hits r)) (packed (damaged 2 hits s))) e1 e2 in
          ap (λ q. q ++ own) first ∙ sym (same ∙ all);
    } in
    record {
      out = was.out ++ own;
      front = front;
      wrote = Appends-two before mid now was.out own (was.out ++ own) refl was.wrote wrote;
    }

-- the blocks below one have as many bytes, damaged or not, and whatever the lanes go on with
by_lane : (counts : List ℕ) (j : ℕ) (x y z f g h : List Bool) → length x ≡ min (slice_index counts 0) (32768 * j) → length y ≡ min (slice_index counts 1) (32768 * j) → length z ≡ min (slice_index counts 2) (32768 * j)
    → length f ≡ slice_index counts 0 → length g ≡ slice_index counts 1 → length h ≡ slice_index counts 2 → (c : ℕ) → length (three x y z c) ≡ min (length (three f g h c)) (32768 * j)
unfolding three
by_lane counts j x y z f g h k l m p q r s = grind arith

pub same_long : (counts : List ℕ) (j : ℕ) (x y z f g h : List Bool) → length x ≡ min (slice_index counts 0) (32768 * j) → length y ≡ min (slice_index counts 1) (32768 * j) → length z ≡ min (slice_index counts 2) (32768 * j)
    → length f ≡ slice_index counts 0 → length g ≡ slice_index counts 1 → length h ≡ slice_index counts 2
    → length (blocks_below j (packed f) (packed g) (packed h)) ≡ length (blocks_below j (packed x) (packed y) (packed z))
same_long counts j x y z f g h ex ey ez ef eg eh =
    let one : (k : ℕ) → k < 3 * j → length (piece_of (three f g h) k) ≡ length (piece_of (three x y z) k) =
    λ k lt. omega (arith, lt, length-piece (three f g h) k (length (three f g h (k % 3))) refl, length-piece (three x y z) k (length (three x y z (k % 3))) refl, by_lane counts j x y z f g h ex ey ez ef eg eh (k % 3)) in
    ap length (blocks-pieces j f g h) ∙ length-pieces (3 * j) (piece_of (three f g h)) (piece_of (three x y z)) one ∙ sym (ap length (blocks-pieces j x y z))

-- a block that is written in a part alone
pub halfway_cut : (version : ℕ) (counts : List ℕ) (hits : List Hit) (j gone : ℕ) (taken : List ℕ) (before mid now : Option (List ℕ)) (a b d a' b' d' : List Bool)
    → AllFitLanes counts hits → length a ≡ bits_in j (slice_index counts 0) → length b ≡ bits_in j (slice_index counts 1) → length d ≡ bits_in j (slice_index counts 2)
    → DamagedChunk 0 (32768 * j) hits a a' → DamagedChunk 1 (32768 * j) hits b b' → DamagedChunk 2 (32768 * j) hits d d' → gone < length ((packed a' ++ packed b') ++ packed d')
    → Appends mid now (take gone ((packed a' ++ packed b') ++ packed d')) → Halfway version counts hits j taken before mid → CutIn version counts hits j (taken ++ ((packed a ++ packed b) ++ packed d)) before now
halfway_cut version counts hits j gone taken before mid now a b d a' b' d' fit la lb ld ha hb hd less wrote was =
    let head = header_of version counts in
    let own = (packed a' ++ packed b') ++ packed d' in
    let old = (packed a ++ packed b) ++ packed d in
    let long : length own ≡ length old =
    omega (
      arith,
      ha.long,
      hb.long,
      hd.long,
      length-append (packed a' ++ packed b') (packed d'),
      length-append (packed a') (packed b'),
      length-append (packed a ++ packed b) (packed d),
      length-append (packed a) (packed b),
      length-packed a,
      length-packed b,
      length-packed d,
      length-packed a',
      length-packed b',
      length-packed d',
    ) in
    let size : length old ≡ block_size j counts =
    omega (arith, la, lb, ld, length-append (packed a ++ packed b) (packed d), length-append (packed a) (packed b), length-packed a, length-packed b, length-packed d) in
    record {
      blue = was.front.blue ++ a;
      green = was.front.green ++ b;
      red = was.front.red ++ d;
      read = stands_more version counts j taken was.front.blue was.front.green was.front.red a b d was.front.read la lb ld;
      said = was.front.said;
      head_is = next_head version counts taken ((packed a ++ packed b) ++ packed d) (was.front.blue ++ a) (was.front.green ++ b) (was.front.red ++ d) (j + 1) _ was.front.said was.front.read.head (blocks_below j (packed was.front.blue) (packed was.front.green) (packed was.front.red)) was.front.read.taken_is was.front.head_is
          (stands_more version counts j taken was.front.blue was.front.green was.front.red a b d was.front.read la lb ld);
      gone = length taken + gone;
      missing = omega (arith, less, long, length-append taken old);
      most = omega (arith, size, length-append taken old);
      wrote = λ u v w eu ev ew.
          let f = damaged 0 hits (was.front.blue ++ (a ++ u)) in
          let g = damaged 1 hits (was.front.green ++ (b ++ v)) in
          let h = damaged 2 hits (was.front.red ++ (d ++ w)) in
          let e0 = append_assoc was.front.blue a u in
          let e1 = append_assoc was.front.green b v in
          let e2 = append_assoc was.front.red d w in
          let t0 = ap length (sym e0) ∙ eu in
          let t1 = ap length (sym e1) ∙ ev in
          let t2 = ap length (sym e2) ∙ ew in
          let first = halfway_wrote version counts hits j taken before mid was (a ++ u) (b ++ v) (d ++ w) t0 t1 t2 in
          let c0 = damaged_chunk 0 (slice_index counts 0) j hits was.front.blue a u a' was.front.read.count_blue la eu (lane_fits counts hits 0 (slice_index counts 0) fit refl) ha in
          let c1 = damaged_chunk 1 (slice_index counts 1) j hits was.front.green b v b' was.front.read.count_green lb ev (lane_fits counts hits 1 (slice_index counts 1) fit refl) hb in
          let c2 = damaged_chunk 2 (slice_index counts 2) j hits was.front.red d w d' was.front.read.count_red ld ew (lane_fits counts hits 2 (slice_index counts 2) fit refl) hd in
          let f_long = damaged_all 0 hits (was.front.blue ++ (a ++ u)) (lane_fits counts hits 0 (length (was.front.blue ++ (a ++ u))) fit t0) ∙ t0 in
          let g_long = damaged_all 1 hits (was.front.green ++ (b ++ v)) (lane_fits counts hits 1 (length (was.front.green ++ (b ++ v))) fit t1) ∙ t1 in
          let h_long = damaged_all 2 hits (was.front.red ++ (d ++ w)) (lane_fits counts hits 2 (length (was.front.red ++ (d ++ w))) fit t2) ∙ t2 in
          let front = head ++ blocks_below j (packed f) (packed g) (packed h) in
          let front_long : length front ≡ length taken =
          omega (
            arith,
            same_long counts j was.front.blue was.front.green was.front.red f g h was.front.read.count_blue was.front.read.count_green was.front.read.count_red f_long g_long h_long,
            length-append head (blocks_below j (packed f) (packed g) (packed h)),
            ap length was.front.read.taken_is,
            length-append was.front.read.head (blocks_below j (packed was.front.blue) (packed was.front.green) (packed was.front.red)),
            ap length was.front.head_is,
          ) in
          let own_block : block j (packed f) (packed g) (packed h) ≡ own =
          block_is j (packed f) (packed g) (packed h) ∙ ap₂ (λ p q. (p ++ q) ++ chunk j (packed h)) c0 c1 ∙ ap (λ q. (packed a' ++ packed b') ++ q) c2 in
          let all : head ++ blocks_below (j + 1) (packed f) (packed g) (packed h) ≡ front ++ own = blocks-more head (packed f) (packed g) (packed h) j ∙ ap (λ q. front ++ q) own_block in
          let same : head ++ blocks_below (j + 1) (packed (damaged 0 hits ((was.front.blue ++ a) ++ u))) (packed (damaged 1 hits ((was.front.green ++ b) ++ v))) (packed (damaged 2 hits ((was.front.red ++ d) ++ w)))
          ≡ head ++ blocks_below (j + 1) (packed f) (packed g) (packed h) =
          ap (λ r. head ++ blocks_below (j + 1) (packed (damaged 0 hits r)) (packed (damaged 1 hits ((was.front.green ++ b) ++ v))) (packed (damaged 2 hits ((was.front.red ++ d) ++ w)))) e0
          ∙ ap₂ (λ r s. head ++ blocks_below (j + 1) (packed f) (packed (damaged 1 hits r)) (packed (damaged 2 hits s))) e1 e2 in
          Appends-part before mid now front own [] _ (length taken) gone (same ∙ all ∙ sym (append-nil (front ++ own))) front_long less first wrote;
    }

pub halfway_kept : (version : ℕ) (counts : List ℕ) (hits : List Hit) (j : ℕ) (taken : List ℕ) (before mid now : Option (List ℕ)) → Keeps mid now → Halfway version counts hits j taken before mid → Halfway version counts hits j taken before now
halfway_kept version counts hits j taken before mid now k h = grind arith

-- a fault in a block is one of all the bytes
pub late_fault : (version : ℕ) (counts : List ℕ) (hits : List Hit) (j : ℕ) (bytes taken part rest : List ℕ) (before mid now : Option (List ℕ)) (e : DamageError) → bytes ≡ part ++ rest
    → Halfway version counts hits j (taken ++ part) before mid → ((e ≡ Write → ⊥) → Keeps mid now)
    → SaysFault (λ fault. IsFault ((taken ++ part) ++ rest) fault × StopsIn counts j (taken ++ part) (place_of fault)) e → SaysFault (λ fault. IsLateFault version counts hits bytes taken before now fault) e
late_fault version counts hits j bytes taken part rest before mid now e h k l m = grind (arith, halfway_kept, append_assoc)
