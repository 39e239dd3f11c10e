-- Taps of the stream, each with its first full alignment.
use Rattle.std.proofs.Common.{◌≡◌, ℕ, ◌+◌, ◌*◌, ◌<◌, ◌≤◌, List, [], ◌∷◌, length, refl, arith, zero, suc}
use Rattle.std.specs.Prelude.{slice_index}
use Rattle.std.proofs.lemmas.List.{length-map}
use Rattle.tmds_word.specs.Column.{Column, blues, greens, reds}
use Rattle.tmds_word.specs.Taps.{part_of, IsPart, IsTap, HasSmallSkew}
use Rattle.island_pack.specs.Sparse.{SparesUntil}
use Rattle.link_laws.proofs.Freely.{free_received}
use Rattle.link_laws.specs.Laws.{HoldsEnd, AlignsUntil, HasExample, HasPayloadExample}
use Rattle.link_laws.proofs.Stream.{stream, sent, received, damaged, long_received, long_damaged, reception, received_damaged, alone, damaged_spared, after_first, payload_example, damaged_example}
use Rattle.link_laws.proofs.Aligning.{first_until}

abbrev pub skews : List ℕ
skews = 0 ∷ (70 ∷ (35 ∷ []))

-- as many bits as each lane has from there on
abbrev pub counts : List ℕ
counts = 863 ∷ (793 ∷ (828 ∷ []))

part : (words : List ℕ) (from many : ℕ) → length words ≡ 87 → from + many ≤ 870 → IsPart words from many (part_of words from many)
part words from many long le = record { within = omega arith; bits_are = refl }

pub tapped : (cs : List Column) → length cs ≡ 87 → IsTap cs 7 skews counts (part_of (blues cs) 7 863) (part_of (greens cs) 77 793) (part_of (reds cs) 42 828)
tapped cs long = grind (arith, length-map)

small : HasSmallSkew skews
small = record { blue_green = (omega arith, omega arith); green_red = (omega arith, omega arith); blue_red = (omega arith, omega arith) }

each_lane : (P : ℕ → Type 0) → P 0 → P 1 → P 2 → (lane : ℕ) → lane < 3 → P lane
each_lane P p q r zero lt = p
each_lane P p q r (suc zero) lt = q
each_lane P p q r (suc (suc zero)) lt = r
each_lane P p q r (suc (suc (suc lane))) lt = absurd (omega arith)

holds : HoldsEnd 7 skews counts 24
holds = record {
  begins = each_lane (λ lane. 7 + slice_index skews lane + 120 ≤ 10 * 24) (omega arith) (omega arith) (omega arith);
  reaches = each_lane (λ lane. 10 * 24 + 10 ≤ 7 + slice_index skews lane + slice_index counts lane) (omega arith) (omega arith) (omega arith);
}

pub aligns : (cs : List Column) → SparesUntil stream sent cs 24 → AlignsUntil stream sent cs 7 skews counts 24
aligns cs spared = grind (arith, after_first)

pub payload_aligned : HasPayloadExample
payload_aligned =
    let first = first_until stream sent received (free_received stream sent received reception) 7 skews counts _ _ _ (tapped received long_received) small 24 (aligns received (alone.spares 24)) in
    (stream, sent, received, counts, _, _, _, first.0, first.1, first.2, payload_example, record { tapped = tapped received long_received; first = first.3 })

pub example : HasExample
example =
    let until = aligns damaged damaged_spared in
    let first = first_until stream sent damaged (free_received stream sent damaged received_damaged) 7 skews counts _ _ _ (tapped damaged long_damaged) small 24 until in
    (stream, sent, damaged, counts, 24, _, _, _, first.0, first.1, first.2, damaged_example counts until, record { tapped = tapped damaged long_damaged; first = first.3 })
