-- Lanes that are read whole, and of which one is then without some of its bits.
use Rattle.std.proofs.Common.{◌≡◌, ℕ, ◌+◌, ◌/◌, ◌<◌, ◌≤◌, Bool, List, ◌++◌, length, take, drop, refl, ap, ap₂, ◌∙◌, sym, arith, append_assoc}
use Rattle.std.specs.Prelude.{Result, OnOk, slice_index}
use Rattle.std.proofs.lemmas.List.{take-append-drop, drop-drop, take_rest, length-drop}
use Rattle.std.proofs.Math.Seq.{take-append_seam}
use Rattle.outside_io.specs.declared.NoMemory.{NoMemory as Refusal}
use Rattle.tmds_word.specs.Bits.{bytes_bits}
use Rattle.capture_file.specs.Layout.{packed}
use Rattle.capture_file.specs.Captures.{header_of, CanSay, IsHeader, IsHeadless, SaysOf}
use Rattle.capture_file.specs.Slips.{IsWithinLane, SaysFaulty, unread, without}
use Rattle.capture_file.specs.declared.slipping.SlipError.{SlipError}
use Rattle.capture_file.specs.declared.fault.CaptureFault.{CaptureFault}
use Rattle.capture_file.specs.declared.fault.CaptureError.{CaptureError}
use Rattle.capture_file.proofs.Heads.{same_heads}
use Rattle.capture_file.proofs.Packing.{length-part, length-packed}
use Rattle.capture_file.proofs.Standing.{unpacked}

-- ---- rows

pub on_ok : (p : Type 0) (r : Result (Unit {0}) Refusal) → p → OnOk r p
on_ok p r h = grind arith

pub on_both : (p q : Type 0) (r : Result (Unit {0}) Refusal) → (p → q) → OnOk r p → OnOk r q
on_both p q r h k = grind arith

-- packed bits that are appended are these bits
pub pushed : (old new u : List Bool) (bytes : List ℕ) (count : ℕ) → bytes ≡ packed u → count ≡ length u → new ≡ old ++ take count (bytes_bits bytes) → new ≡ old ++ u
pushed old new u bytes count are is h = h ∙ ap (λ bs. old ++ take count (bytes_bits bs)) are ∙ ap (λ us. old ++ us) (unpacked u count (sym is))

pub packed_size : (u : List Bool) (bytes : List ℕ) (count : ℕ) → bytes ≡ packed u → count ≡ length u → length bytes ≡ (count + 7) / 8
packed_size u bytes count are is = ap length are ∙ length-packed u ∙ ap (λ n. (n + 7) / 8) (sym is)

-- room that is filled to its end
pub refilled : (bytes into rest : List ℕ) (len : ℕ) → bytes ≡ take len (into ++ rest) → len ≡ length into → bytes ≡ into
refilled bytes into rest len is full = is ∙ ap (λ n. take n (into ++ rest)) full ∙ take-append_seam into rest

-- so many bytes are some bits of a row, packed
pub part_size : (row : List Bool) (from count : ℕ) (bytes : List ℕ) → from + count ≤ length row → bytes ≡ packed (take count (drop from row)) → (count + 7) / 8 ≡ length bytes
part_size row from count bytes within is = sym (packed_size (take count (drop from row)) bytes count is (sym (length-part row from count within)))

-- the bits of a row up to a place, few bits and then the others from another place on, are the row without what lies between
pub moved_up : (row first second third : List Bool) (place count few more : ℕ) (byte bytes : List ℕ) → (place + count) + few + more ≡ length row → first ≡ take place row
    → byte ≡ packed (take few (drop (place + count) row)) → second ≡ first ++ take few (bytes_bits byte)
    → bytes ≡ packed (take more (drop ((place + count) + few) row)) → third ≡ second ++ take more (bytes_bits bytes) → third ≡ without place count row
moved_up row first second third place count few more byte bytes all front byte_is then bytes_are last =
    let from = place + count in
    let after = drop from row in
    let u = take few after in
    let v = take more (drop (from + few) row) in
    let lu : length u ≡ few = length-part row from few (omega arith) in
    let lv : length v ≡ more = length-part row (from + few) more (omega arith) in
    let rest : v ≡ drop few after =
    ap (λ n. take n (drop (from + few) row)) (omega (arith, all, length-drop (from + few) row)) ∙ take_rest row (from + few) ∙ sym (drop-drop few from row) in
    let second_is : second ≡ take place row ++ u = pushed first second u byte few byte_is (sym lu) then ∙ ap (λ xs. xs ++ u) front in
    pushed second third v bytes more bytes_are (sym lv) last
    ∙ ap₂ (λ xs ys. xs ++ ys) second_is rest
    ∙ append_assoc (take place row) u (drop few after)
    ∙ ap (λ xs. take place row ++ xs) (take-append-drop few after)

-- ---- refusals

pub faulty_of : (p : CaptureFault → Type 0) (e : CaptureError) → SaysOf p e → SaysFaulty p (unread e)
faulty_of p e h = grind arith

pub faulty_as : (p q : CaptureFault → Type 0) (e : SlipError) → ((fault : CaptureFault) → p fault → q fault) → SaysFaulty p e → SaysFaulty q e
faulty_as p q e h k = grind arith

-- where no header is whole, no place is judged
pub headless_within : (bytes : List ℕ) (lane place count : ℕ) → IsHeadless bytes → IsWithinLane bytes lane place count
headless_within bytes lane place count none = λ head counts tail own e. absurd (none head counts tail own e)

-- the counts of a header are those of each reading of it
pub header_within : (version lane place count : ℕ) (counts bytes rest : List ℕ) → lane < 3 → CanSay version counts → bytes ≡ header_of version counts ++ rest → place + count ≤ slice_index counts lane
    → IsWithinLane bytes lane place count
header_within version lane place count counts bytes rest lt said is fits = λ head others tail own e.
    let headed : IsHeader (header_of version counts) counts = record { version = version; said = said; head_is = refl } in
    omega (arith, fits, (same_heads (header_of version counts) head counts others rest tail headed own (sym is ∙ e)).count lane lt)
