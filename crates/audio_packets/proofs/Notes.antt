-- The sample of a body, read from the bytes of all four bodies.
use Rattle.std.proofs.Common.{◌≡◌, ℕ, ◌+◌, ◌*◌, ◌/◌, ◌^◌, ◌<◌, Bool, List, [], ◌∷◌, drop, get_or, bit_and, ◌∙◌, arith, All}
use Rattle.std.proofs.lemmas.Nat.{and_mask}
use Rattle.std.proofs.lemmas.Bool.{cases_lt}
use Rattle.std.proofs.lemmas.List.{get_or_past}
use Rattle.std.proofs.lemmas.List.Elements.{All-map, All-get_or}
use Rattle.std.specs.List.{filter}
use Rattle.bch_block.specs.Bits.{bit}
use Rattle.island_pack.specs.Packets.{body_of}
use Rattle.island_pack.specs.declared.packet.Packet.{Packet}
use Rattle.audio_packets.specs.Samples.{IsSample, value_at, flags_at, parity_at, is_even, sample_at, note_at, is_present, samples_from}
use Rattle.audio_packets.specs.Laws.{ReadSamplesFit}
use Rattle.audio_packets.proofs.BodyBytes.{get_or-body_of}

-- ---- V, U, C and P of the two sides

pub flags_low : (byte : ℕ) → bit_and byte 7 ≡ flags_at byte 0
flags_low byte = and_mask byte 3 ∙ omega arith

pub flags_high : (byte : ℕ) → bit_and (byte / 16) 7 ≡ flags_at byte 4
flags_high byte = and_mask (byte / 16) 3 ∙ omega arith

pub parity_low : (byte : ℕ) → bit_and (byte / 8) 1 ≡ parity_at byte 0
parity_low byte = and_mask (byte / 8) 1

pub parity_high : (byte : ℕ) → byte < 256 → byte / 128 ≡ parity_at byte 4
parity_high byte lt = omega arith

-- ---- values

pub value_at-body_of : (packet : Packet) (place i : ℕ) → i + 2 < 7
    → value_at (body_of packet place) i ≡ get_or packet.bodies (7 * place + i) 0 + 256 * get_or packet.bodies (7 * place + (i + 1)) 0 + 65536 * get_or packet.bodies (7 * place + (i + 2)) 0
value_at-body_of packet place i lt = grind (arith, get_or-body_of)

-- ---- a sample as it is read

pub note_is : (packet : Packet) (place left right left_flags right_flags left_parity right_parity : ℕ) (start flat left_even right_even : Bool)
    → left ≡ value_at (body_of packet place) 0 → right ≡ value_at (body_of packet place) 3
    → left_flags ≡ flags_at (get_or (body_of packet place) 6 0) 0 → right_flags ≡ flags_at (get_or (body_of packet place) 6 0) 4
    → left_parity ≡ parity_at (get_or (body_of packet place) 6 0) 0 → right_parity ≡ parity_at (get_or (body_of packet place) 6 0) 4
    → start ≡ bit (get_or packet.header 2 0) (4 + place) → flat ≡ bit (get_or packet.header 2 0) place
    → left_even ≡ is_even left left_flags left_parity → right_even ≡ is_even right right_flags right_parity
    → record {
      place = place;
      sample = record { left = left; right = right; left_flags = left_flags; right_flags = right_flags; start = start; flat = flat };
      left_even = left_even;
      right_even = right_even;
    } ≡ note_at packet place
note_is packet place left right left_flags right_flags left_parity right_parity start flat left_even right_even l r lf rf lp rp s f le re = grind arith

-- ---- what is read of bytes fits

value_below : (packet : Packet) (place i : ℕ) → ((k : ℕ) → get_or packet.bodies k 0 < 256) → i + 2 < 7 → value_at (body_of packet place) i < 2 ^ 24
value_below packet place i bytes lt =
    let a = bytes (7 * place + i) in
    grind (arith, value_at-body_of)

flags_below : (byte i : ℕ) → flags_at byte i < 8
flags_below byte i = omega arith

sample_fits : (packet : Packet) (place : ℕ) → ((k : ℕ) → get_or packet.bodies k 0 < 256) → IsSample (sample_at packet place)
sample_fits packet place bytes = record {
  left = value_below packet place 0 bytes (omega arith);
  right = value_below packet place 3 bytes (omega arith);
  left_flags = flags_below _ 0;
  right_flags = flags_below _ 4;
}

pub samples_fit : (packet : Packet) (place : ℕ) → ((k : ℕ) → get_or packet.bodies k 0 < 256) → All (λ note. IsSample note.sample) (samples_from packet place)
samples_fit packet place bytes =
    All-map (λ note. IsSample note.sample) (note_at packet) (filter (is_present packet) (drop place (0 ∷ 1 ∷ 2 ∷ 3 ∷ [])))
    (λ k d lt. sample_fits packet _ bytes)

bytes_below : (xs : List ℕ) → All (λ byte. byte < 256) xs → (k : ℕ) → get_or xs k 0 < 256
bytes_below xs all k = grind (arith, cases_lt, All-get_or, get_or_past)

pub read_samples_fit : ReadSamplesFit
read_samples_fit packet place whole = samples_fit packet place (bytes_below packet.bodies whole.body_bytes)
