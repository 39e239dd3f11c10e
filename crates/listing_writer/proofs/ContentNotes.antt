-- The samples of a packet whose lines are added one after another.
use Rattle.std.proofs.Common.{◌≡◌, ◌∙◌, ℕ, suc, ◌+◌, ◌*◌, ◌≤◌, Bool, cond, List, [], ◌∷◌, ◌++◌, length, filter, ap, sym, subst, append_assoc, append-nil, arith}
use Rattle.std.specs.Prelude.{Result, Ok, Err, flat_map, if◌then◌else◌, Option}
use Rattle.std.proofs.lemmas.List.{length-map}
use Rattle.std.proofs.lemmas.Grind.{flat_map-append}
use Rattle.island_pack.specs.declared.packet.Packet.{Packet}
use Rattle.island_pack.specs.declared.packet.PacketVerdicts.{PacketVerdicts}
use Rattle.audio_packets.specs.Samples.{samples_of, samples_from, note_at, is_present, has_many_channels}
use Rattle.island_pack.specs.Taken.{first_lost}
use Rattle.audio_packets.specs.Faults.{unless_lost}
use Rattle.audio_packets.specs.declared.sample.SampleNote.{SampleNote}
use Rattle.audio_packets.specs.declared.fault.AudioFault.{AudioFault}
use Rattle.audio_packets.specs.declared.fault.AudioFault.TheVariants.{Layout}
use Rattle.listing_writer.specs.ContentText.{note_lines, sample_lines}
use Rattle.listing_writer.specs.ContentSeen.{Seen}
use Rattle.listing_writer.specs.ContentAdded.{Adds}
use Rattle.listing_writer.proofs.ContentAdding.{adds_both, adds_as}

-- some samples were added, and these are left
pub record Added (read : Result (List SampleNote) AudioFault) (column : ℕ) (old now : Seen) (left : List SampleNote) : Type 0 where
  pub taken : List SampleNote
  pub parts : Ok (taken ++ left) ≡ read
  pub adds : Adds old now (flat_map (note_lines column) taken)
  pub room : length now.text + 576 * length left ≤ 2304

-- a packet has four bodies
short_step : (b : Bool) (x : ℕ) (xs ys : List ℕ) → length xs ≤ length ys → length (cond b (x ∷ xs) xs) ≤ suc (length ys)
short_step b x xs ys h = grind arith

short_filter : (p : ℕ → Bool) (xs : List ℕ) → length (filter p xs) ≤ length xs
short_filter p [] = omega arith
short_filter p (x ∷ xs) = short_step (p x) x (filter p xs) xs (short_filter p xs)

abbrev pub IsShort : Result (List SampleNote) AudioFault → Type 0
IsShort (Ok notes) = length notes ≤ 4
IsShort (Err fault) = Unit {0}

short_from : (p : Packet) → length (samples_from p 0) ≤ 4
short_from p = omega (arith, length-map (filter (is_present p) (0 ∷ 1 ∷ 2 ∷ 3 ∷ [])) (note_at p), short_filter (is_present p) (0 ∷ 1 ∷ 2 ∷ 3 ∷ []))

short_read : (p : Packet) (lost : Option ℕ) (many : Bool) → IsShort (unless_lost lost (if many then Err Layout else Ok (samples_from p 0)))
short_read p lost many = grind (arith, short_from)

pub samples_short : (p : Packet) (v : PacketVerdicts) (notes : List SampleNote) → Ok notes ≡ samples_of p v → length notes ≤ 4
samples_short p v notes is = subst IsShort (sym is) (short_read p (first_lost v) (has_many_channels p))

abbrev as_read : List SampleNote → Result (List SampleNote) AudioFault
as_read notes = Ok notes

pub added_none : (read : Result (List SampleNote) AudioFault) (column : ℕ) (s : Seen) (notes : List SampleNote) → Ok notes ≡ read → length notes ≤ 4 → length s.text ≡ 0
    → Adds s s [] → Added read column s s notes
added_none read column s notes is short empty none = record { taken = []; parts = is; adds = none; room = omega arith }

pub added_more : (read : Result (List SampleNote) AudioFault) (column : ℕ) (old now next : Seen) (note : SampleNote) (left : List SampleNote)
    → Added read column old now (note ∷ left) → Adds now next (note_lines column note) → length next.text ≤ length now.text + 576 → Added read column old next left
added_more read column old now next note left so_far adds size = record {
  taken = so_far.taken ++ note ∷ [];
  parts = ap (λ (notes : List SampleNote). as_read notes) (append_assoc so_far.taken (note ∷ []) left) ∙ so_far.parts;
  adds =
      subst (λ (lines : List (List ℕ)). Adds old next lines)
      (ap (λ (lines : List (List ℕ)). flat_map (note_lines column) so_far.taken ++ lines) (sym (append-nil (note_lines column note)))
      ∙ sym (flat_map-append (note_lines column) so_far.taken (note ∷ [])))
      (adds_both old now next _ _ so_far.adds adds);
  room = omega (arith, so_far.room);
}

pub room_for_one : (read : Result (List SampleNote) AudioFault) (column : ℕ) (old now : Seen) (note : SampleNote) (left : List SampleNote)
    → Added read column old now (note ∷ left) → length now.text + 576 ≤ 24773
room_for_one read column old now note left so_far = omega (arith, so_far.room)

pub all_added : (read : Result (List SampleNote) AudioFault) (column : ℕ) (old now : Seen) → Added read column old now [] → Adds old now (sample_lines column read)
unfolding sample_lines
all_added read column old now added =
    adds_as (sample_lines column) old now _ read (ap as_read (sym (append-nil added.taken)) ∙ added.parts) added.adds
