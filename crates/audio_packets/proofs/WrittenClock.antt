-- Clock numbers that were written are read.
use Rattle.std.proofs.Common.{◌≡◌, ℕ, ◌/◌, ◌%◌, ◌<◌, ◌^◌, true, List, ◌&&◌, refl, arith, if◌then◌else◌}
use Rattle.std.specs.Str.{bytes_eq}
use Rattle.std.proofs.lemmas.Slice.Eq.{bytes_eq-Decides}
use Rattle.audio_packets.specs.Clock.{IsAcr, twenty_bits, clock_in, are_alike, clock_body, acr_packet}
use Rattle.audio_packets.specs.Laws.{WrittenAcrIsRead}
use Rattle.audio_packets.specs.declared.clock.Acr.{Acr}

alike : (acr : Acr) (sync : List ℕ) → are_alike (acr_packet acr sync) ≡ true
alike acr sync =
    let same : bytes_eq (clock_body acr) (clock_body acr) ≡ true = (bytes_eq-Decides (clock_body acr) (clock_body acr)).1 refl in
    λ i. same i && (same i && (same i && true))

number_again : (n : ℕ) → n < 2 ^ 20 → twenty_bits (n / 65536) (n / 256 % 256) (n % 256) ≡ n
number_again n lt = omega arith

clock_again : (acr : Acr) → IsAcr acr → clock_in (clock_body acr) ≡ acr
clock_again acr fits = λ i. record { n = number_again acr.n fits.n i; cts = number_again acr.cts fits.cts i }

pub written_acr_is_read : WrittenAcrIsRead
written_acr_is_read acr sync verdicts fits none = grind (arith, alike, clock_again)
