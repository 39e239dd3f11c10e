-- Lines and packets of the sizes that are reported can stand in a conforming list.
use Rattle.std.proofs.Common.{◌≡◌, ℕ, ◌<◌, All, true, List, arith}
use Rattle.std.specs.Prelude.{nat_lt}
use Rattle.std.specs.List.{list_all}
use Rattle.std.proofs.lemmas.Bool.{and_from, eq-eqb, le-leb, lt-ltb}
use Rattle.std.proofs.lemmas.List.Sums.{list_all-from_AllPass}
use Rattle.island_pack.specs.Conforming.{are_bytes, is_packet, is_video_period}
use Rattle.island_pack.specs.Packets.{IsPacket}
use Rattle.island_pack.specs.declared.packet.Packet.{Packet}
use Rattle.period_grammar.specs.Sizes.{IsSized}
use Rattle.period_grammar.specs.Events.{line}

pub all_bytes : (bytes : List ℕ) → All (λ byte. byte < 256) bytes → are_bytes bytes ≡ true
all_bytes bytes h = list_all-from_AllPass (λ b. nat_lt b 256) bytes (λ k d lt. lt-ltb _ 256 (h k d lt))

all_digits : (digits : List ℕ) → All (λ digit. digit < 4) digits → list_all (λ v. nat_lt v 4) digits ≡ true
all_digits digits h = list_all-from_AllPass (λ v. nat_lt v 4) digits (λ k d lt. lt-ltb _ 4 (h k d lt))

pub packet_reported : (p : Packet) → IsPacket p → All (λ digit. digit < 4) p.sync → is_packet p ≡ true
unfolding is_packet
packet_reported p is digits =
    and_from _ _ (and_from _ _ (eq-eqb _ 3 is.header) (all_bytes p.header is.header_bytes))
    (and_from _ _ (and_from _ _ (eq-eqb _ 28 is.bodies) (all_bytes p.bodies is.body_bytes)) (and_from _ _ (eq-eqb _ 32 is.sync) (all_digits p.sync digits)))

pub line_reported : (bytes : List ℕ) → IsSized (line bytes) → is_video_period bytes ≡ true
unfolding is_video_period
line_reported bytes (whole, some, few, small) = grind (arith, and_from, all_bytes, eq-eqb, le-leb)
