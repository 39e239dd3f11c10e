-- What is written, from its header, its payload and the bytes after it.
use Rattle.std.proofs.Common.{◌≡◌, ℕ, ◌+◌, ◌-◌, ◌%◌, ◌≤◌, true, ◌==◌, List, [], ◌∷◌, ◌++◌, length, take, drop, replicate, refl, ap, ap₂, ◌∙◌, sym, subst, arith, add-one, All}
use Rattle.std.specs.Prelude.{slice_index, sum}
use Rattle.std.specs.List.{list_all}
use Rattle.std.proofs.Math.Seq.{take-append_seam, drop-append_seam}
use Rattle.std.proofs.lemmas.List.{length-take, length-drop, take-append-drop}
use Rattle.std.proofs.lemmas.List.Sums.{sum_by-cons}
use Rattle.std.proofs.lemmas.List.Elements.{All-replicate}
use Rattle.island_pack.specs.Packets.{IsPacket}
use Rattle.island_pack.specs.declared.packet.Packet.{Packet}
use Rattle.infoframe.specs.Frames.{Frame, frame_in, length_in, sum_of, kind_of}
use Rattle.infoframe.specs.Written.{padded, info_as, info_of, type_of, version_of, length_of, reserved_of, reserved_in, IsWritten}
use Rattle.infoframe.specs.declared.content.Info.{Info}
use Rattle.infoframe.specs.declared.content.Info.TheVariants.{Raw}
use Rattle.infoframe.proofs.Bounds.{RawBounds, zeros_of}
use Rattle.infoframe.proofs.Lists.{drop_after_first}

abbrev frame : ℕ → ℕ → List ℕ → Frame
frame type_code version payload = record { type_code = type_code; version = version; payload = payload }

-- a frame is read from the header and from the bytes after the checksum
pub frame_from : (p : Packet) (type_code version : ℕ) (payload : List ℕ) → p.header ≡ type_code ∷ version ∷ length payload ∷ []
    → drop 1 p.bodies ≡ padded payload → length payload ≤ 27 → frame_in p ≡ frame type_code version payload
unfolding frame_in length_in
frame_from p type_code version payload header bodies few =
    let long : slice_index p.header 2 % 32 ≡ length payload = ap (λ h. slice_index h 2 % 32) header ∙ omega arith in
    grind (arith, take-append_seam)

pub length_from : (p : Packet) (type_code version n : ℕ) → p.header ≡ type_code ∷ version ∷ n ∷ [] → n ≤ 27 → length_in p ≡ n
unfolding length_in
length_from p type_code version n header few = ap (λ h. slice_index h 2 % 32) header ∙ omega arith

all_zero : (xs : List ℕ) (n : ℕ) → xs ≡ replicate n 0 → All (λ x. x ≡ 0) xs
all_zero xs n e = subst (All (λ x. x ≡ 0)) (sym e) (All-replicate (λ x. x ≡ 0) n 0 refl)

pub written_from : (info : Info) (p : Packet) (payload : List ℕ) (zeros : ℕ) → IsPacket p
    → p.header ≡ type_of info ∷ version_of info ∷ length payload ∷ [] → length payload ≡ length_of info → length payload ≤ 27
    → drop 1 p.bodies ≡ padded payload → sum_of p ≡ 0
    → info_as (kind_of (type_of info) (version_of info)) (frame (type_of info) (version_of info) payload) ≡ info
    → reserved_of (kind_of (type_of info) (version_of info)) payload ≡ replicate zeros 0
    → IsWritten info p
unfolding info_of reserved_in
written_from info p payload zeros whole header long few bodies checksum says reserved = grind (arith, frame_from, length_from, all_zero, drop_after_first, drop-append_seam)

-- the sum of a packet
pub sum_from : (p : Packet) (type_code version sum_byte : ℕ) (payload : List ℕ) → p.header ≡ type_code ∷ version ∷ length payload ∷ []
    → p.bodies ≡ sum_byte ∷ padded payload → length payload ≤ 27
    → sum_of p ≡ (sum (type_code ∷ version ∷ length payload ∷ []) + (sum_byte + sum payload)) % 256
unfolding sum_of
sum_from p type_code version sum_byte payload header bodies few =
    let n = length_from p type_code version (length payload) header few in
    let taken : take (length_in p + 1) p.bodies ≡ sum_byte ∷ payload =
    ap₂ take (ap (λ m. m + 1) n ∙ add-one (length payload)) bodies ∙ ap (λ ys. sum_byte ∷ ys) (take-append_seam payload _) in
    (λ i. (sum (header i) + sum (taken i)) % 256)
    ∙ ap (λ m. (sum (type_code ∷ version ∷ length payload ∷ []) + m) % 256) (sum_by-cons (λ x. x) sum_byte payload)

-- raw bytes are those of their length and zeros
raw_padded : (bytes : List ℕ) (n : ℕ) → length bytes ≡ 27 → n ≤ 27 → list_all (λ b. b == 0) (drop n bytes) ≡ true → padded (take n bytes) ≡ bytes
raw_padded bytes n long few zeros =
    let left : 27 - length (take n bytes) ≡ length (drop n bytes) = simp (length-take, length-drop) (omega arith) in
    ap (λ ys. take n bytes ++ ys) (ap (λ m. replicate m 0) left ∙ sym (zeros_of (drop n bytes) zeros)) ∙ take-append-drop n bytes

pub raw_written : (kind version n : ℕ) (bytes : List ℕ) (p : Packet) → RawBounds kind version n bytes → length bytes ≡ 27 → IsPacket p
    → p.header ≡ kind ∷ version ∷ length (take n bytes) ∷ [] → drop 1 p.bodies ≡ padded (take n bytes) → sum_of p ≡ 0
    → IsWritten (Raw kind version n bytes) p
unfolding info_as reserved_of
raw_written kind version n bytes p bounds long whole header bodies checksum =
    let payload = take n bytes in
    let few = bounds.few in
    let same : length payload ≡ n = simp length-take (omega arith) in
    written_from (Raw kind version n bytes) p payload 0 whole header same (omega arith) bodies checksum
    (ap (λ k. info_as k (frame kind version payload)) bounds.unknown ∙ ap₂ (Raw kind version) same (raw_padded bytes n long few bounds.zeros))
    (ap (λ k. reserved_of k payload) bounds.unknown)
