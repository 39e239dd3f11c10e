-- Of bytes there is one copy with hits at most, one first hit past its lane, one damaged copy before a place, and one without a slip.
use Rattle.std.proofs.Common.{◌≡◌, ℕ, ◌+◌, ◌-◌, ◌*◌, ◌<◌, ◌≤◌, min, Bool, false, List, [], ◌++◌, length, refl, ap, ap₂, ◌∙◌, sym, arith, inl, inr, append_assoc, append-nil, length-append, replicate}
use Rattle.std.proofs.lemmas.List.{length-replicate}
use Rattle.std.specs.Prelude.{◌⊎◌, All, slice_index, slice_get, Some}
use Rattle.std.proofs.lemmas.Bool.{cases_lt}
use Rattle.std.proofs.lemmas.List.Elements.{All-get_or}
use Rattle.std.proofs.lemmas.Option.{get_or_from_slice_get, slice_get_within}
use Rattle.capture_file.specs.Layout.{packed, block, blocks_below}
use Rattle.capture_file.specs.Captures.{counts_of, IsHeader, IsHeadless, lane_blocks, layout, place_of}
use Rattle.capture_file.specs.Damage.{damaged}
use Rattle.capture_file.specs.BlockDamage.{FitsLane, AllFitLanes, IsDamagedCapture, AreWithinLanes, IsMisplacedIn, IsDamagedBefore, IsFaultyDamage}
use Rattle.capture_file.specs.Laws.{IsReadBefore}
use Rattle.capture_file.specs.Slips.{slipped, IsSlippedCapture}
use Rattle.capture_file.specs.declared.damaging.Hit.{Hit}
use Rattle.capture_file.specs.declared.fault.CaptureFault.{CaptureFault}
use Rattle.capture_file.proofs.Fronts.{same_front}
use Rattle.capture_file.proofs.Halfways.{lane_fits, damaged_all, same_long}
use Rattle.capture_file.proofs.Heads.{SameHeads, same_heads}
use Rattle.capture_file.proofs.OneCapture.{one_capture}
use Rattle.capture_file.proofs.OneFault.{one_reading}
use Rattle.capture_file.proofs.Parts.{blocks_after}

abbrev AreOfLanes : List Hit → Type 0
AreOfLanes hits = All (λ (h : Hit). h.lane < 3) hits

-- ---- whole copies

pub one_damaged : (bytes : List ℕ) (hits : List Hit) (whole other : List ℕ) → IsDamagedCapture bytes hits whole → IsDamagedCapture bytes hits other → whole ≡ other
one_damaged bytes hits whole other a b =
    let heads = same_heads a.holds.head b.holds.head (counts_of a.blue a.green a.red) (counts_of b.blue b.green b.red) (lane_blocks a.blue a.green a.red) (lane_blocks b.blue b.green b.red) a.holds.headed b.holds.headed
    (sym a.holds.bytes_are ∙ b.holds.bytes_are) in
    let same = one_capture a.blue a.green a.red b.blue b.green b.red bytes a.holds b.holds in
    a.whole_is ∙ (λ i. heads.same i ++ lane_blocks (damaged 0 hits (same.blue i)) (damaged 1 hits (same.green i)) (damaged 2 hits (same.red i))) ∙ sym b.whole_is

pub one_slipped : (bytes : List ℕ) (lane place count : ℕ) (whole other : List ℕ) → IsSlippedCapture bytes lane place count whole → IsSlippedCapture bytes lane place count other → whole ≡ other
one_slipped bytes lane place count whole other a b =
    let same = one_capture a.blue a.green a.red b.blue b.green b.red bytes a.holds b.holds in
    a.whole_is ∙ (λ i. layout 2 (slipped lane place count 0 (same.blue i)) (slipped lane place count 1 (same.green i)) (slipped lane place count 2 (same.red i))) ∙ sym b.whole_is

-- ---- a hit past its lane

hit_lane : (hits : List Hit) (i : ℕ) (hit : Hit) → AreOfLanes hits → slice_get hits i ≡ Some hit → hit.lane < 3
hit_lane hits i hit lanes at = grind (arith, get_or_from_slice_get, All-get_or, slice_get_within)

-- the headers of bytes say the same counts
pub one_header : (bytes head tail counts other more others : List ℕ) → IsHeader head counts → bytes ≡ head ++ tail → IsHeader other others → bytes ≡ other ++ more → SameHeads head other counts others
one_header bytes head tail counts other more others headed is again are = same_heads head other counts others tail more headed again (sym is ∙ are)

fits_there : (hits : List Hit) (i : ℕ) (hit : Hit) (head other counts others : List ℕ) → AreOfLanes hits → slice_get hits i ≡ Some hit → SameHeads head other counts others → FitsLane others hit → FitsLane counts hit
fits_there hits i hit head other counts others lanes at same fits = omega (arith, fits, same.count hit.lane (hit_lane hits i hit lanes at))

first_past : (bytes : List ℕ) (hits : List Hit) (i k : ℕ) → AreOfLanes hits → IsMisplacedIn bytes hits i → IsMisplacedIn bytes hits k → i < k → ⊥
first_past bytes hits i k lanes a b less =
    let same = one_header bytes a.head a.tail a.counts b.head b.tail b.counts a.headed a.bytes_are b.headed b.bytes_are in
    a.first.passes (fits_there hits i a.first.hit a.head b.head a.counts b.counts lanes a.first.here same (b.first.before i a.first.hit less a.first.here))

pub one_misplaced : (bytes : List ℕ) (hits : List Hit) (i k : ℕ) → AreOfLanes hits → IsMisplacedIn bytes hits i → IsMisplacedIn bytes hits k → i ≡ k
one_misplaced bytes hits i k lanes a b = elim (cases_lt i k) [
  | inl less ↦ absurd (first_past bytes hits i k lanes a b less)
  | inr le ↦ elim (cases_lt k i) [
    | inl less ↦ absurd (first_past bytes hits k i lanes b a less)
    | inr other ↦ omega (arith, le, other)
  ]
]

-- where there is a copy with hits, none passes its lane
pub none_past : (bytes : List ℕ) (hits : List Hit) (whole : List ℕ) (i : ℕ) → AreOfLanes hits → IsDamagedCapture bytes hits whole → IsMisplacedIn bytes hits i → ⊥
none_past bytes hits whole i lanes a b =
    let same = one_header bytes b.head b.tail b.counts a.holds.head (lane_blocks a.blue a.green a.red) (counts_of a.blue a.green a.red) b.headed b.bytes_are a.holds.headed a.holds.bytes_are in
    b.first.passes (fits_there hits i b.first.hit b.head a.holds.head b.counts (counts_of a.blue a.green a.red) lanes b.first.here same (a.fits i b.first.hit b.first.here))

-- ---- the damaged copy before a place

-- blocks below a number, and below a greater one where these are no more bytes
no_longer : (j k : ℕ) (p q r : List ℕ) → j ≤ k → length (blocks_below j p q r) ≡ length (blocks_below k p q r) → blocks_below j p q r ≡ blocks_below k p q r
no_longer j k p q r le long = elim (cases_lt j k) [
  | inl less ↦
      let after = blocks_after j k p q r less in
      same_front (blocks_below j p q r) (block j p q r ++ after.0) (blocks_below k p q r) []
      (sym (append_assoc (blocks_below j p q r) (block j p q r) after.0) ∙ sym after.1 ∙ sym (append-nil (blocks_below k p q r))) long
  | inr same ↦ let e : j ≡ k = omega (arith, le, same) in ap (λ n. blocks_below n p q r) e
]

read_damaged : (bytes : List ℕ) (place : ℕ) (hits : List Hit) (out : List ℕ) → (a : IsDamagedBefore bytes place hits out) → IsReadBefore bytes place a.taken a.front.blue a.front.green a.front.red
read_damaged bytes place hits out a =
    let was = a.front.read in
    record {
      rest = a.rest;
      counts = a.counts;
      block = a.block;
      bytes_are = a.bytes_are;
      read = record { head = was.head; headed = was.headed; count_blue = was.count_blue; count_green = was.count_green; count_red = was.count_red; taken_is = was.taken_is; place_is = refl };
      stops = a.stops;
    }

-- the bytes after the header
abbrev after_head : (bytes : List ℕ) (place : ℕ) (hits : List Hit) (out : List ℕ) → IsDamagedBefore bytes place hits out → List ℕ
after_head bytes place hits out a = blocks_below a.block (packed a.front.blue) (packed a.front.green) (packed a.front.red) ++ a.rest

head_stands : (bytes : List ℕ) (place : ℕ) (hits : List Hit) (out : List ℕ) → (a : IsDamagedBefore bytes place hits out) → bytes ≡ a.front.read.head ++ after_head bytes place hits out a
head_stands bytes place hits out a =
    a.bytes_are ∙ ap (λ bs. bs ++ a.rest) a.front.read.taken_is
    ∙ append_assoc a.front.read.head (blocks_below a.block (packed a.front.blue) (packed a.front.green) (packed a.front.red)) a.rest

-- bits with which a lane has its count
abbrev missing : ℕ → List Bool → List Bool
missing count row = replicate (count - length row) false

filled_up : (count : ℕ) (row : List Bool) → length row ≤ count → length (row ++ missing count row) ≡ count
filled_up count row le = omega (arith, le, length-append row (missing count row), length-replicate (count - length row) false)

-- a lane after hits, filled up to its count
abbrev filled_lane : ℕ → List Hit → ℕ → List Bool → List Bool
filled_lane lane hits count row = damaged lane hits (row ++ missing count row)

long_lane : (counts : List ℕ) (lane j : ℕ) (hits : List Hit) (row : List Bool) → AllFitLanes counts hits → length row ≡ min (slice_index counts lane) (32768 * j)
    → length (filled_lane lane hits (slice_index counts lane) row) ≡ slice_index counts lane
long_lane counts lane j hits row fit is =
    let long = filled_up (slice_index counts lane) row (omega (arith, is)) in
    damaged_all lane hits (row ++ missing (slice_index counts lane) row) (lane_fits counts hits lane (length (row ++ missing (slice_index counts lane) row)) fit long) ∙ long

-- what is written, with lanes that are filled up
written : (bytes : List ℕ) (place : ℕ) (hits : List Hit) (out : List ℕ) → (a : IsDamagedBefore bytes place hits out)
    → out ≡ a.front.read.head ++ blocks_below a.block
    (packed (filled_lane 0 hits (slice_index a.counts 0) a.front.blue)) (packed (filled_lane 1 hits (slice_index a.counts 1) a.front.green)) (packed (filled_lane 2 hits (slice_index a.counts 2) a.front.red))
written bytes place hits out a =
    let f = a.front in
    let x = filled_up (slice_index a.counts 0) f.blue (omega (arith, f.read.count_blue)) in
    let y = filled_up (slice_index a.counts 1) f.green (omega (arith, f.read.count_green)) in
    let z = filled_up (slice_index a.counts 2) f.red (omega (arith, f.read.count_red)) in
    f.out_is _ _ _ x y z
    ∙ ap (λ h. h ++ blocks_below a.block (packed (filled_lane 0 hits (slice_index a.counts 0) f.blue)) (packed (filled_lane 1 hits (slice_index a.counts 1) f.green)) (packed (filled_lane 2 hits (slice_index a.counts 2) f.red))) (sym f.head_is)

-- of as many bytes as were read after the header
as_many : (bytes : List ℕ) (place : ℕ) (hits : List Hit) (out : List ℕ) → (a : IsDamagedBefore bytes place hits out) → AllFitLanes a.counts hits
    → length a.taken ≡ length a.front.read.head + length (blocks_below a.block
    (packed (filled_lane 0 hits (slice_index a.counts 0) a.front.blue)) (packed (filled_lane 1 hits (slice_index a.counts 1) a.front.green)) (packed (filled_lane 2 hits (slice_index a.counts 2) a.front.red)))
as_many bytes place hits out a fit =
    let f = a.front in
    ap length f.read.taken_is
    ∙ length-append f.read.head (blocks_below a.block (packed f.blue) (packed f.green) (packed f.red))
    ∙ ap (λ n. length f.read.head + n) (sym (same_long a.counts a.block f.blue f.green f.red
    (filled_lane 0 hits (slice_index a.counts 0) f.blue) (filled_lane 1 hits (slice_index a.counts 1) f.green) (filled_lane 2 hits (slice_index a.counts 2) f.red)
    f.read.count_blue f.read.count_green f.read.count_red
    (long_lane a.counts 0 a.block hits f.blue fit f.read.count_blue) (long_lane a.counts 1 a.block hits f.green fit f.read.count_green) (long_lane a.counts 2 a.block hits f.red fit f.read.count_red)))

one_way : (bytes : List ℕ) (place : ℕ) (hits : List Hit) (out other : List ℕ) → AreWithinLanes bytes hits → (a : IsDamagedBefore bytes place hits out) → (b : IsDamagedBefore bytes place hits other)
    → a.block ≤ b.block → out ≡ other
one_way bytes place hits out other within a b le =
    let f = a.front in
    let g = b.front in
    let one = one_reading bytes place a.taken b.taken f.blue f.green f.red g.blue g.green g.red (read_damaged bytes place hits out a) (read_damaged bytes place hits other b) in
    let heads = one_header bytes f.read.head (after_head bytes place hits out a) a.counts g.read.head (after_head bytes place hits other b) b.counts
    f.read.headed (head_stands bytes place hits out a) g.read.headed (head_stands bytes place hits other b) in
    let fit_a = within f.read.head a.counts (after_head bytes place hits out a) f.read.headed (head_stands bytes place hits out a) in
    let fit_b = within g.read.head b.counts (after_head bytes place hits other b) g.read.headed (head_stands bytes place hits other b) in
    let c0 = heads.count 0 (omega arith) in
    let c1 = heads.count 1 (omega arith) in
    let c2 = heads.count 2 (omega arith) in
    let same = one.1 in
    let p = packed (filled_lane 0 hits (slice_index a.counts 0) f.blue) in
    let q = packed (filled_lane 1 hits (slice_index a.counts 1) f.green) in
    let r = packed (filled_lane 2 hits (slice_index a.counts 2) f.red) in
    let p' = packed (filled_lane 0 hits (slice_index b.counts 0) g.blue) in
    let q' = packed (filled_lane 1 hits (slice_index b.counts 1) g.green) in
    let r' = packed (filled_lane 2 hits (slice_index b.counts 2) g.red) in
    let lanes : (n : ℕ) → blocks_below n p q r ≡ blocks_below n p' q' r' = λ n i.
    blocks_below n (packed (filled_lane 0 hits (c0 i) (same.blue i))) (packed (filled_lane 1 hits (c1 i) (same.green i))) (packed (filled_lane 2 hits (c2 i) (same.red i))) in
    let long_a = as_many bytes place hits out a fit_a in
    let long_b = as_many bytes place hits other b fit_b in
    let long_taken = ap length one.0 in
    let long_head = ap length heads.same in
    let long_lanes = ap length (lanes b.block) in
    let long : length (blocks_below a.block p q r) ≡ length (blocks_below b.block p q r) = omega (arith, long_a, long_b, long_taken, long_head, long_lanes) in
    written bytes place hits out a ∙ ap₂ (λ (h bs : List ℕ). h ++ bs) heads.same (no_longer a.block b.block p q r le long ∙ lanes b.block) ∙ sym (written bytes place hits other b)

one_before : (bytes : List ℕ) (place : ℕ) (hits : List Hit) (out other : List ℕ) → AreWithinLanes bytes hits → IsDamagedBefore bytes place hits out → IsDamagedBefore bytes place hits other → out ≡ other
one_before bytes place hits out other within a b = elim (cases_lt b.block a.block) [
  | inl less ↦ sym (one_way bytes place hits other out within b a (omega (arith, less)))
  | inr le ↦ one_way bytes place hits out other within a b le
]

one_either : (bytes : List ℕ) (place : ℕ) (hits : List Hit) (out other : List ℕ) → AreWithinLanes bytes hits
    → (IsHeadless bytes × (out ≡ [])) ⊎ IsDamagedBefore bytes place hits out → (IsHeadless bytes × (other ≡ [])) ⊎ IsDamagedBefore bytes place hits other → out ≡ other
one_either bytes place hits out other within (inl none) (inl still) = none.1 ∙ sym still.1
one_either bytes place hits out other within (inl none) (inr b) =
    absurd (none.0 b.front.read.head b.counts (after_head bytes place hits other b) b.front.read.headed (head_stands bytes place hits other b))
one_either bytes place hits out other within (inr a) (inl none) =
    absurd (none.0 a.front.read.head a.counts (after_head bytes place hits out a) a.front.read.headed (head_stands bytes place hits out a))
one_either bytes place hits out other within (inr a) (inr b) = one_before bytes place hits out other within a b

pub one_faulty : (bytes : List ℕ) (hits : List Hit) (fault : CaptureFault) (out other : List ℕ) → IsFaultyDamage bytes hits fault out → IsFaultyDamage bytes hits fault other → out ≡ other
one_faulty bytes hits fault out other a b = one_either bytes (place_of fault) hits out other a.within a.out_is b.out_is
