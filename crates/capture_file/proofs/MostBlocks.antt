-- The whole blocks of bytes begin a capture, and no more of them than before the place at which the bytes stop being one can be read.
use Rattle.std.proofs.Common.{◌≡◌, ℕ, ◌+◌, ◌*◌, ◌<◌, ◌≤◌, min, Bool, List, [], ◌++◌, length, take, refl, ap, ap₂, ◌∙◌, sym, subst, arith, inl, inr, append_assoc, length-append}
use Rattle.std.specs.Prelude.{◌⊎◌, slice_index}
use Rattle.std.proofs.lemmas.Bool.{cases_lt}
use Rattle.std.proofs.lemmas.List.{take-append-le}
use Rattle.capture_file.specs.Layout.{packed, blocks_below}
use Rattle.capture_file.specs.Captures.{BeginsCapture, StopsAt, IsFault, HasRead, bits_in, block_size, place_of}
use Rattle.capture_file.specs.Laws.{IsReadBefore}
use Rattle.capture_file.specs.declared.fault.CaptureFault.{CaptureFault}
use Rattle.capture_file.specs.declared.fault.CaptureFault.TheVariants.{Magic, Version, Short, Padding, Trailing}
use Rattle.capture_file.proofs.Heads.{same_heads}
use Rattle.capture_file.proofs.OneFault.{lane_bytes, read_length, stop_there, stops_within}
use Rattle.capture_file.proofs.Stops.{begins_part, begins_whole, begins_take}
use Rattle.capture_file.proofs.Takings.{taken_of, taken_first, taken_second, taken_awaits, ended}

no_bytes : (i : ℕ) → 0 < 256
no_bytes i = omega arith

-- whole blocks begin a capture
pub read_begins : (counts : List ℕ) (j place : ℕ) (taken : List ℕ) (x y z : List Bool) → HasRead counts j place taken x y z → BeginsCapture taken
read_begins counts j place taken x y z r =
    let t0 = taken_of counts j place taken x y z r in
    elim (cases_lt 0 (bits_in j (slice_index counts 0))) [
      | inl some ↦
          begins_part taken []
          ((taken_awaits counts (3 * j) 0 j (bits_in j (slice_index counts 0)) taken x y z t0 (omega arith) (omega arith) refl some).begins [] no_bytes (omega (arith, some)))
      | inr no_blue ↦
          let t1 = taken_first counts j taken x y z [] t0 (omega (arith, no_blue)) in
          elim (cases_lt 0 (bits_in j (slice_index counts 1))) [
            | inl some ↦
                begins_part taken (packed []) (begins_part (taken ++ packed []) []
                ((taken_awaits counts (3 * j + 1) 1 j (bits_in j (slice_index counts 1)) (taken ++ packed []) (x ++ []) y z t1 (omega arith) (omega arith) refl some).begins [] no_bytes (omega (arith, some))))
            | inr no_green ↦
                let t2 = taken_second counts j (taken ++ packed []) (x ++ []) y z [] t1 (omega (arith, no_green)) in
                elim (cases_lt 0 (bits_in j (slice_index counts 2))) [
                  | inl some ↦
                      begins_part taken (packed []) (begins_part (taken ++ packed []) (packed []) (begins_part ((taken ++ packed []) ++ packed []) []
                      ((taken_awaits counts (3 * j + 2) 2 j (bits_in j (slice_index counts 2)) ((taken ++ packed []) ++ packed []) (x ++ []) (y ++ []) z t2 (omega arith) (omega arith) refl some).begins
                      [] no_bytes (omega (arith, some)))))
                  | inr no_red ↦
                      let none : block_size j counts ≡ 0 = omega (arith, no_blue, no_green, no_red) in
                      let end = ended counts j place taken x y z r none in
                      begins_whole taken (record { blue = x; green = y; red = z; holds = end.holds })
                ]
          ]
    ]

-- bytes do not stop within what begins a capture
stops_after : (bytes front rest : List ℕ) (p : ℕ) → bytes ≡ front ++ rest → BeginsCapture front → StopsAt bytes p → length front ≤ p
stops_after bytes front rest p is begins stops = elim (cases_lt p (length front)) [
  | inl less ↦
      let same : take (p + 1) bytes ≡ take (p + 1) front = ap (take (p + 1)) is ∙ take-append-le (p + 1) front rest (omega (arith, less)) in
      absurd (stops.stops (subst BeginsCapture (sym same) (begins_take (p + 1) front begins)))
  | inr le ↦ le
]

pub fault_after : (bytes front rest : List ℕ) (fault : CaptureFault) → bytes ≡ front ++ rest → BeginsCapture front → IsFault bytes fault → length front ≤ place_of fault
fault_after bytes front rest (Magic p) is begins h = stops_after bytes front rest p is begins h.0
fault_after bytes front rest (Version v) is begins h = stops_after bytes front rest 3 is begins h.0
fault_after bytes front rest (Padding p) is begins h = stops_after bytes front rest p is begins h.0
fault_after bytes front rest (Trailing p) is begins h = stops_after bytes front rest p is begins h.0
fault_after bytes front rest (Short p) is begins h = let e = ap length is ∙ length-append front rest in omega (arith, e, h.2)

-- no lane has more bits
pub record AreNoLonger (x y z u v w : List Bool) : Type 0 where
  pub blue : length x ≤ length u
  pub green : length y ≤ length v
  pub red : length z ≤ length w

no_longer : (c d e j k : ℕ) (x y z u v w : List Bool) → (j ≤ k) ⊎ ((k ≡ j) ⊎ ((c ≤ 32768 * k) × (d ≤ 32768 * k) × (e ≤ 32768 * k)))
    → length x ≡ min c (32768 * j) → length y ≡ min d (32768 * j) → length z ≡ min e (32768 * j)
    → length u ≡ min c (32768 * k) → length v ≡ min d (32768 * k) → length w ≡ min e (32768 * k) → AreNoLonger x y z u v w
no_longer c d e j k x y z u v w (inl le) lx ly lz lu lv lw = record { blue = omega (arith, le, lx, lu); green = omega (arith, le, ly, lv); red = omega (arith, le, lz, lw) }
no_longer c d e j k x y z u v w (inr (inl is)) lx ly lz lu lv lw = record { blue = omega (arith, is, lx, lu); green = omega (arith, is, ly, lv); red = omega (arith, is, lz, lw) }
no_longer c d e j k x y z u v w (inr (inr all)) lx ly lz lu lv lw =
    let first = all.0 in
    let second = all.1 in
    let third = all.2 in
    record { blue = omega (arith, first, lx, lu); green = omega (arith, second, ly, lv); red = omega (arith, third, lz, lw) }

-- whole blocks that end at or before a place are no more than those before it
pub most_blocks : (bytes : List ℕ) (place : ℕ) (taken rest counts took : List ℕ) (j : ℕ) (x y z u v w : List Bool) → bytes ≡ taken ++ rest → HasRead counts j (length taken) taken x y z → length taken ≤ place
    → IsReadBefore bytes place took u v w → AreNoLonger x y z u v w
most_blocks bytes place taken rest counts took j x y z u v w is read before b =
    let k = b.block in
    let own = blocks_below j (packed x) (packed y) (packed z) in
    let others = blocks_below k (packed u) (packed v) (packed w) in
    let heads = same_heads read.head b.read.head counts b.counts (own ++ rest) (others ++ b.rest) read.headed b.read.headed
    (sym (append_assoc read.head own rest) ∙ ap (λ bs. bs ++ rest) (sym read.taken_is) ∙ sym is ∙ b.bytes_are ∙ ap (λ bs. bs ++ b.rest) b.read.taken_is ∙ append_assoc b.read.head others b.rest) in
    let c = slice_index b.counts 0 in
    let d = slice_index b.counts 1 in
    let e = slice_index b.counts 2 in
    let n = length b.read.head in
    let head = ap length heads.same in
    let first = heads.count 0 (omega arith) in
    let second = heads.count 1 (omega arith) in
    let third = heads.count 2 (omega arith) in
    let la : length taken ≡ n + (lane_bytes c j + lane_bytes d j + lane_bytes e j) =
    read_length counts j (length taken) taken x y z read
    ∙ ap₂ (λ m i. m + (lane_bytes i j + lane_bytes (slice_index counts 1) j + lane_bytes (slice_index counts 2) j)) head first
    ∙ ap₂ (λ m i. n + (lane_bytes c j + lane_bytes m j + lane_bytes i j)) second third in
    let lb = read_length b.counts k (length took) took u v w b.read in
    let there : (j ≤ k) ⊎ ((k ≡ j) ⊎ ((c ≤ 32768 * k) × (d ≤ 32768 * k) × (e ≤ 32768 * k))) = elim (cases_lt k j) [
      | inl less ↦ inr (stop_there c d e k j n place (omega (arith, less))
          (elim (stops_within b.counts k took place b.stops) [
            | inl inside ↦ inl (omega (arith, inside, lb))
            | inr none ↦ inr none
          ])
          (omega (arith, before, la)))
      | inr le ↦ inl le
    ] in
    no_longer c d e j k x y z u v w there
    (read.count_blue ∙ ap (λ i. min i (32768 * j)) first) (read.count_green ∙ ap (λ i. min i (32768 * j)) second) (read.count_red ∙ ap (λ i. min i (32768 * j)) third)
    b.read.count_blue b.read.count_green b.read.count_red
