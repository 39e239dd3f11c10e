-- Each packet of periods that is as sent in the account is reported so, and none of its blocks is lost.
use Rattle.std.proofs.Common.{◌≡◌, ℕ, true, List, map, length, take, drop, subst, sym}
use Rattle.tmds_word.specs.Column.{Column}
use Rattle.island_pack.specs.Packets.{CarriesFreely}
use Rattle.island_pack.specs.Spelling.{column_words}
use Rattle.island_pack.specs.declared.packet.Packet.{Packet}
use Rattle.island_pack.specs.Repaired.{verdicts_of}
use Rattle.link_laws.specs.Account.{is_as_sent, packet_row}
use Rattle.listing_laws.specs.PacketLaws.{IsAsSent, Placed, received_packet}
use Rattle.listing_laws.specs.ListingLaws.{as_sent_at, PacketsAsSent}
use Rattle.listing_laws.proofs.AsSent.{as_sent_freely}
use Rattle.listing_laws.proofs.EachPlaced.{each_placed}

abbrev IsSent : List Column → List Column → ℕ → Placed → Type 0
IsSent sent received a k = as_sent_at sent received k ≡ true → IsAsSent k.packet (received_packet sent received a k).packet (received_packet sent received a k).verdicts

abbrev IsRow : Packet → List Column → List Column → Type 0
IsRow p own reception = is_as_sent own reception ≡ true → IsAsSent p (packet_row p own reception) (verdicts_of reception)

sent_here : (sent received : List Column) (a y : ℕ) (p : Packet) (own reception : List Column) → CarriesFreely p (map column_words own) → length reception ≡ 32 → own ≡ take 32 (drop y sent) → reception ≡ take 32 (drop y received)
    → IsSent sent received a (record { packet = p; at = y })
sent_here sent received a y p own reception carries long e d =
    subst (λ (cs : List Column). IsRow p cs (take 32 (drop y received))) e (subst (λ (cs : List Column). IsRow p own cs) d (as_sent_freely p own reception carries long))

pub packets_as_sent : PacketsAsSent
packets_as_sent periods sent received reception a =
    each_placed (IsSent sent received a) sent received (λ y p own cs carries long e d. sent_here sent received a y p own cs carries long (sym e) (sym d)) periods reception
