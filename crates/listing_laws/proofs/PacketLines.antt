-- The content lines of a packet that is as sent in the account, and of the packets of periods.
use Rattle.std.proofs.Common.{◌≡◌, ℕ, ◌-◌, ◌<◌, Bool, true, false, if◌then◌else◌, List, [], ◌∷◌, map, length, take, drop, Option, None, refl, sym, ap, ap₂, subst, ◌∙◌, arith}
use Rattle.std.specs.Prelude.{is_some, slice_index, nat_le, Ok, Err, ◌==◌}
use Rattle.std.specs.List.{find}
use Rattle.tmds_word.specs.Column.{Column}
use Rattle.bch_block.specs.declared.Verdict.{Verdict}
use Rattle.bch_block.specs.declared.Verdict.TheVariants.{Lost}
use Rattle.island_pack.specs.Packets.{body_of, CarriesFreely}
use Rattle.island_pack.specs.Spelling.{column_words}
use Rattle.island_pack.specs.Taken.{first_lost, spotless}
use Rattle.island_pack.proofs.Losses.{none_lost, none_spotless}
use Rattle.island_pack.specs.declared.packet.Packet.{Packet}
use Rattle.island_pack.specs.declared.packet.PacketVerdicts.{PacketVerdicts}
use Rattle.island_pack.specs.Repaired.{verdicts_of}
use Rattle.infoframe.specs.Frames.{answer, frame_in, length_in, sum_of, kind_of, has_length, frame_of}
use Rattle.audio_packets.specs.Clock.{are_alike, clock_in}
use Rattle.audio_packets.specs.Samples.{has_many_channels, samples_from}
use Rattle.audio_packets.specs.Faults.{unless_lost}
use Rattle.audio_packets.specs.declared.fault.AudioFault.TheVariants.{Uneven, Layout}
use Rattle.listing_writer.specs.ContentText.{packet_lines, carried_lines, clock_lines, sample_lines, control_lines, info_lines, other_words}
use Rattle.link_laws.specs.Account.{is_as_sent, packet_row}
use Rattle.listing_laws.specs.PacketLaws.{Placed, received_packet}
use Rattle.listing_laws.specs.ListingLaws.{LinesOfPayload, as_sent_at, reported_lines, PacketLinesAsSent, PacketLinesComeBack}
use Rattle.listing_laws.proofs.AsSent.{as_sent_freely}
use Rattle.listing_laws.proofs.EachPlaced.{each_placed}

-- the lines of a packet of which this block is lost, or none
abbrev lines_by : Option ℕ → Packet → ℕ → List (List ℕ)
lines_by lost p column =
    if is_some lost then [] else
    (if slice_index p.header 0 == 0 then []
    else (if slice_index p.header 0 == 1 then clock_lines column (unless_lost lost (if are_alike p then Ok (clock_in (body_of p 0)) else Err Uneven))
    else (if slice_index p.header 0 == 2 then sample_lines column (unless_lost lost (if has_many_channels p then Err Layout else Ok (samples_from p 0)))
    else (if slice_index p.header 0 == 3 then control_lines column p.bodies
    else (if nat_le 0x80 (slice_index p.header 0) then info_lines column (answer lost (has_length (kind_of (frame_in p).type_code (frame_in p).version) (length_in p)) (sum_of p) (frame_in p))
    else other_words p ∷ [])))))

lines_are : (p : Packet) (v : PacketVerdicts) (column : ℕ) → packet_lines p v column ≡ lines_by (first_lost v) p column
unfolding packet_lines carried_lines frame_of
lines_are p v column = refl

-- a packet without its sync values
abbrev bare : List ℕ → List ℕ → Packet
bare header bodies = record { header = header; bodies = bodies; sync = [] }

lines_bare : (lost : Option ℕ) (p : Packet) (column : ℕ) → lines_by lost p column ≡ lines_by lost (bare p.header p.bodies) column
unfolding frame_in length_in sum_of other_words
lines_bare lost p column = refl

pub lines_of_payload : LinesOfPayload
lines_of_payload p q v column header bodies = grind (arith, lines_are, lines_bare)

lines_freely : (p : Packet) (sent received : List Column) → CarriesFreely p (map column_words sent) → length received ≡ 32 → is_as_sent sent received ≡ true → (column : ℕ)
    → packet_lines (packet_row p sent received) (verdicts_of received) column ≡ packet_lines p spotless column
lines_freely p sent received carries long few column =
    let h = as_sent_freely p sent received carries long few in
    let reported = packet_row p sent received in
    let v = verdicts_of received in
    lines_of_payload reported p v column h.header h.bodies
    ∙ lines_are p v column
    ∙ lines_bare (first_lost v) p column
    ∙ ap (λ (lost : Option ℕ). lines_by lost (bare p.header p.bodies) column) (none_lost v h.kept ∙ sym none_spotless)
    ∙ sym (lines_bare (first_lost spotless) p column)
    ∙ sym (lines_are p spotless column)

pub packet_lines_as_sent : PacketLinesAsSent
packet_lines_as_sent p first sent received carries long few column = lines_freely p sent received carries.free long few column

abbrev pub IsListed : List Column → List Column → ℕ → Placed → Type 0
IsListed sent received a k = as_sent_at sent received k ≡ true → reported_lines (received_packet sent received a k) ≡ packet_lines k.packet spotless (k.at - a)

pub listed_here : (sent received : List Column) (a y : ℕ) (p : Packet) (own reception : List Column) → CarriesFreely p (map column_words own) → length reception ≡ 32 → take 32 (drop y sent) ≡ own → take 32 (drop y received) ≡ reception
    → IsListed sent received a (record { packet = p; at = y })
listed_here sent received a y p own reception carries long e d few =
    let n : is_as_sent own reception ≡ true = subst (λ (cs : List Column). is_as_sent own cs ≡ true) d (subst (λ (cs : List Column). is_as_sent cs (take 32 (drop y received)) ≡ true) e few) in
    ap₂ (λ (cs ds : List Column). packet_lines (packet_row p cs ds) (verdicts_of ds) (y - a)) e d ∙ lines_freely p own reception carries long n (y - a)

pub packet_lines_come_back : PacketLinesComeBack
packet_lines_come_back periods sent received reception a =
    each_placed (IsListed sent received a) sent received (λ y p own cs. listed_here sent received a y p own cs) periods reception
