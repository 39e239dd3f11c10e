-- Samples that were written are read.
use Rattle.std.proofs.Common.{◌≡◌, ℕ, zero, suc, ◌+◌, ◌*◌, ◌/◌, ◌%◌, ◌<◌, ◌≤◌, ◌^◌, Bool, true, false, List, [], ◌∷◌, length, map, get_or, count_ones, ◌==◌, if◌then◌else◌, None, Ok, refl, ap, ◌∙◌, sym, arith, All}
use Rattle.std.proofs.Math.Nat.{pow-suc}
use Rattle.std.proofs.lemmas.List.{length-map}
use Rattle.std.proofs.lemmas.List.Elements.{All-get_or}
use Rattle.tmds_word.specs.Bits.{number}
use Rattle.tmds_word.proofs.Numbers.{bit_of_number}
use Rattle.bch_block.specs.Bits.{bit}
use Rattle.island_pack.specs.Packets.{body_of}
use Rattle.island_pack.specs.declared.packet.Packet.{Packet}
use Rattle.island_pack.specs.declared.packet.PacketVerdicts.{PacketVerdicts}
use Rattle.island_pack.specs.Taken.{first_lost}
use Rattle.audio_packets.specs.Samples.{IsSample, flags_at, parity_at, is_even, has_many_channels, note_at, sample_body, samples_packet, samples_from, samples_of, even_note}
use Rattle.audio_packets.specs.Laws.{WrittenSamplesAreRead}
use Rattle.audio_packets.specs.declared.sample.Sample.{Sample}
use Rattle.audio_packets.specs.declared.sample.SampleNote.{SampleNote}
use Rattle.audio_packets.proofs.Marks.{four_bits}

-- ---- a body

value_again : (v : ℕ) → v % 256 + 256 * (v / 256 % 256) + 65536 * (v / 65536) ≡ v
value_again v = omega arith

-- the byte of both sides' flags and parity bits
both_sides : ℕ → ℕ → ℕ → ℕ → ℕ
both_sides left p right q = left + 8 * p + 16 * (right + 8 * q)

left_flags_again : (left p right q : ℕ) → left < 8 → p < 2 → flags_at (both_sides left p right q) 0 ≡ left
unfolding both_sides
left_flags_again left p right q lt bit = omega arith

right_flags_again : (left p right q : ℕ) → left < 8 → p < 2 → right < 8 → q < 2 → flags_at (both_sides left p right q) 4 ≡ right
unfolding both_sides
right_flags_again left p right q lt bit rt qt = omega arith

left_parity_again : (left p right q : ℕ) → left < 8 → p < 2 → parity_at (both_sides left p right q) 0 ≡ p
unfolding both_sides
left_parity_again left p right q lt bit = omega arith

right_parity_again : (left p right q : ℕ) → left < 8 → p < 2 → right < 8 → q < 2 → parity_at (both_sides left p right q) 4 ≡ q
unfolding both_sides
right_parity_again left p right q lt bit rt qt = omega arith

even : (v flags : ℕ) → is_even v flags ((count_ones v + count_ones flags) % 2) ≡ true
even v flags =
    let none : (count_ones v + count_ones flags + (count_ones v + count_ones flags) % 2) % 2 ≡ 0 = omega arith in
    ap (λ n. n == 0) none

note_again : (packet : Packet) (place : ℕ) (s : Sample) → IsSample s → body_of packet place ≡ sample_body s
    → bit (get_or packet.header 2 0) (4 + place) ≡ s.start → bit (get_or packet.header 2 0) place ≡ s.flat
    → note_at packet place ≡ even_note (place, s)
unfolding both_sides
note_again packet place s fits body start flat = grind (arith, value_again, left_flags_again, right_flags_again, left_parity_again, right_parity_again, even)

-- ---- the marks of header byte 2

number_below : (marks : List Bool) → number marks < 2 ^ length marks
unfolding number
number_below [] = omega arith
number_below (true ∷ marks) = let ih = number_below marks in rw (pow-suc 2 (length marks)) (omega arith)
number_below (false ∷ marks) = let ih = number_below marks in rw (pow-suc 2 (length marks)) (omega arith)

low_bit : (low high k : ℕ) → k < 4 → (low + 16 * high) / 2 ^ k % 2 ≡ low / 2 ^ k % 2
low_bit low high zero lt = omega arith
low_bit low high (suc zero) lt = omega arith
low_bit low high (suc (suc zero)) lt = omega arith
low_bit low high (suc (suc (suc zero))) lt = omega arith
low_bit low high (suc (suc (suc (suc k)))) lt = absurd (omega arith)

high_bit : (low high k : ℕ) → low < 16 → k < 4 → (low + 16 * high) / 2 ^ (4 + k) % 2 ≡ high / 2 ^ k % 2
high_bit low high zero below lt = omega arith
high_bit low high (suc zero) below lt = omega arith
high_bit low high (suc (suc zero)) below lt = omega arith
high_bit low high (suc (suc (suc zero))) below lt = omega arith
high_bit low high (suc (suc (suc (suc k)))) below lt = absurd (omega arith)

flat_again : (flats starts : List Bool) (k : ℕ) → k < length flats → length flats ≤ 4 → bit (number flats + 16 * number starts) k ≡ get_or flats k false
flat_again flats starts k lt few =
    ap (λ n. n == 1) (low_bit (number flats) (number starts) k (omega arith)) ∙ sym (bit_of_number flats k lt)

start_again : (flats starts : List Bool) (k : ℕ) → k < length starts → length starts ≤ 4 → length flats ≤ 4 → bit (number flats + 16 * number starts) (4 + k) ≡ get_or starts k false
start_again flats starts k lt few same =
    ap (λ n. n == 1) (high_bit (number flats) (number starts) k (four_bits (length flats) (number flats) same (number_below flats)) (omega arith)) ∙ sym (bit_of_number starts k lt)

-- ---- all samples

-- what is read where no block is lost and the packet has the layout of two channels
unlost : (packet : Packet) (verdicts : PacketVerdicts) (notes : List SampleNote) → first_lost verdicts ≡ None → has_many_channels packet ≡ false → samples_from packet 0 ≡ notes
    → samples_of packet verdicts ≡ Ok notes
unlost packet verdicts notes none two e = grind arith

-- sample k of a packet is read as it was written
nth_again : (samples : List Sample) (sync : List ℕ) (k : ℕ) (s : Sample) → length samples ≤ 4 → All IsSample samples → k < length samples
    → get_or samples k s ≡ s → body_of (samples_packet samples sync) k ≡ sample_body s
    → get_or (map (λ x. x.start) samples) k false ≡ s.start → get_or (map (λ x. x.flat) samples) k false ≡ s.flat
    → note_at (samples_packet samples sync) k ≡ even_note (k, s)
nth_again samples sync k s few fits lt here body start flat =
    let starts = map (λ (x : Sample). x.start) samples in
    let flats = map (λ (x : Sample). x.flat) samples in
    let m : length starts ≡ length samples = length-map samples _ in
    let n : length flats ≡ length samples = length-map samples _ in
    let first = start_again flats starts k (omega arith) (omega arith) (omega arith) ∙ start in
    note_again (samples_packet samples sync) k s (rw here at (All-get_or IsSample samples k s lt fits)) body first (flat_again flats starts k (omega arith) (omega arith) ∙ flat)

pub written_samples_are_read : WrittenSamplesAreRead
unfolding number
written_samples_are_read [] sync verdicts some few fits none = absurd (omega arith)
written_samples_are_read (a ∷ []) sync verdicts some few fits none =
    let nth = nth_again (a ∷ []) sync in
    let n0 = nth 0 a few fits (omega arith) refl refl refl refl in
    unlost (samples_packet (a ∷ []) sync) verdicts _ none refl (λ i. n0 i ∷ [])
written_samples_are_read (a ∷ (b ∷ [])) sync verdicts some few fits none =
    let nth = nth_again (a ∷ b ∷ []) sync in
    let n0 = nth 0 a few fits (omega arith) refl refl refl refl in
    let n1 = nth 1 b few fits (omega arith) refl refl refl refl in
    unlost (samples_packet (a ∷ b ∷ []) sync) verdicts _ none refl (λ i. n0 i ∷ n1 i ∷ [])
written_samples_are_read (a ∷ (b ∷ (c ∷ []))) sync verdicts some few fits none =
    let nth = nth_again (a ∷ b ∷ c ∷ []) sync in
    let n0 = nth 0 a few fits (omega arith) refl refl refl refl in
    let n1 = nth 1 b few fits (omega arith) refl refl refl refl in
    let n2 = nth 2 c few fits (omega arith) refl refl refl refl in
    unlost (samples_packet (a ∷ b ∷ c ∷ []) sync) verdicts _ none refl (λ i. n0 i ∷ n1 i ∷ n2 i ∷ [])
written_samples_are_read (a ∷ (b ∷ (c ∷ (d ∷ [])))) sync verdicts some few fits none =
    let nth = nth_again (a ∷ b ∷ c ∷ d ∷ []) sync in
    let n0 = nth 0 a few fits (omega arith) refl refl refl refl in
    let n1 = nth 1 b few fits (omega arith) refl refl refl refl in
    let n2 = nth 2 c few fits (omega arith) refl refl refl refl in
    let n3 = nth 3 d few fits (omega arith) refl refl refl refl in
    unlost (samples_packet (a ∷ b ∷ c ∷ d ∷ []) sync) verdicts _ none refl (λ i. n0 i ∷ n1 i ∷ n2 i ∷ n3 i ∷ [])
written_samples_are_read (a ∷ (b ∷ (c ∷ (d ∷ (e ∷ rest))))) sync verdicts some few fits none = absurd (omega arith)
