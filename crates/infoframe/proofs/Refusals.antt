-- Which packets are refused, and what the length of a payload is.
use Rattle.std.proofs.Common.{◌≡◌, ℕ, ◌<◌, ◌≤◌, Bool, true, false, ap, ap₂, ◌∙◌, subst, arith, eqb-true}
use Rattle.std.specs.Prelude.{Option, Some, None, Ok, Err, slice_index}
use Rattle.std.proofs.lemmas.Bool.{leb-true}
use Rattle.island_pack.specs.declared.packet.Packet.{Packet}
use Rattle.island_pack.specs.declared.packet.PacketVerdicts.{PacketVerdicts}
use Rattle.island_pack.specs.Taken.{first_lost}
use Rattle.infoframe.specs.Frames.{Frame, frame_in, length_in, sum_of, kind_of, has_length, answer, frame_of}
use Rattle.infoframe.specs.declared.content.InfoKind.{InfoKind}
use Rattle.infoframe.specs.declared.content.InfoKind.TheVariants.{Avi, Audio, Spd}
use Rattle.infoframe.specs.declared.content.InfoFault.TheVariants.{Lost, Length, Checksum}

pub avi_length : (k : InfoKind) (n : ℕ) → k ≡ Avi → has_length k n ≡ true → n ≡ 13
unfolding has_length
avi_length k n e h = eqb-true n 13 (subst (λ j. has_length j n ≡ true) e h)

pub audio_length : (k : InfoKind) (n : ℕ) → k ≡ Audio → has_length k n ≡ true → n ≡ 10
unfolding has_length
audio_length k n e h = eqb-true n 10 (subst (λ j. has_length j n ≡ true) e h)

pub spd_length : (k : InfoKind) (n : ℕ) → k ≡ Spd → has_length k n ≡ true → n ≡ 25
unfolding has_length
spd_length k n e h = eqb-true n 25 (subst (λ j. has_length j n ≡ true) e h)

pub length_below : (k : InfoKind) (n : ℕ) → has_length k n ≡ true → n ≤ 27
unfolding has_length
length_below k n h = grind (arith, eqb-true, leb-true)

-- the layout that the header of a packet names
abbrev pub kind_in : Packet → InfoKind
kind_in p = kind_of (slice_index p.header 0) (slice_index p.header 1)

pub refused_lost : (p : Packet) (verdicts : PacketVerdicts) (b : ℕ) → first_lost verdicts ≡ Some b → frame_of p verdicts ≡ Err (Lost b)
unfolding frame_of answer
refused_lost p verdicts b e =
    ap (λ o. answer o (has_length (kind_of (frame_in p).type_code (frame_in p).version) (length_in p)) (sum_of p) (frame_in p)) e

pub refused_length : (p : Packet) (verdicts : PacketVerdicts) → first_lost verdicts ≡ None → has_length (kind_in p) (length_in p) ≡ false
    → frame_of p verdicts ≡ Err Length
unfolding frame_of answer frame_in
refused_length p verdicts none e = ap₂ (λ o t. answer o t (sum_of p) (frame_in p)) none e

refused : (n : ℕ) (f : Frame) → 0 < n → answer None true n f ≡ Err (Checksum n)
unfolding answer
refused n f h = grind arith

pub refused_sum : (p : Packet) (verdicts : PacketVerdicts) (n : ℕ) → first_lost verdicts ≡ None → has_length (kind_in p) (length_in p) ≡ true
    → sum_of p ≡ n → 0 < n → frame_of p verdicts ≡ Err (Checksum n)
unfolding frame_of frame_in
refused_sum p verdicts n none fits e lt =
    (λ i. answer (none i) (fits i) (e i) (frame_in p)) ∙ refused n (frame_in p) lt

pub taken_as : (p : Packet) (verdicts : PacketVerdicts) → first_lost verdicts ≡ None → has_length (kind_in p) (length_in p) ≡ true
    → sum_of p ≡ 0 → frame_of p verdicts ≡ Ok (frame_in p)
unfolding frame_of frame_in answer
taken_as p verdicts none fits e = λ i. answer (none i) (fits i) (e i) (frame_in p)

-- what is known where a packet is read
pub record IsRead (p : Packet) (f : Frame) : Type 0 where
  pub fits : has_length (kind_in p) (length_in p) ≡ true
  pub checksum : sum_of p ≡ 0
  pub frame : frame_in p ≡ f

read_of : (o : Option ℕ) (t : Bool) (n : ℕ) (f g : Frame) → answer o t n f ≡ Ok g → (t ≡ true) × (n ≡ 0) × (f ≡ g)
unfolding answer
read_of o t n f g h = grind arith

pub is_read : (p : Packet) (verdicts : PacketVerdicts) (f : Frame) → frame_of p verdicts ≡ Ok f → IsRead p f
unfolding frame_of frame_in
is_read p verdicts f e =
    let facts = read_of _ _ _ _ _ e in
    record { fits = facts.0; checksum = facts.1; frame = facts.2 }
