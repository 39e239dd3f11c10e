-- Lines and islands that were received can stand in a conforming list.
use Rattle.std.proofs.Common.{◌≡◌, ℕ, suc, ◌+◌, ◌*◌, ◌/◌, ◌%◌, ◌≤◌, Bool, true, cond, ◌&&◌, ◌==◌, List, [], ◌∷◌, length, map, take, drop, refl, ap, arith, eq-eqb}
use Rattle.std.specs.Prelude.{nat_lt, nat_le}
use Rattle.std.specs.List.{list_all}
use Rattle.std.proofs.lemmas.Bool.{and_parts, and_from, lt-ltb, eqb-true}
use Rattle.std.proofs.lemmas.List.{length-map, length-take-le, length-drop}
use Rattle.tmds_word.specs.Column.{Column}
use Rattle.tmds_code.specs.Coding.{decoded_byte}
use Rattle.island_pack.specs.Nibbles.{nibble_of}
use Rattle.island_pack.specs.Periods.{DataIsland, pixels_of}
use Rattle.island_pack.specs.Conforming.{are_bytes, is_video_period, is_sync_pair, is_packet, is_data_island}
use Rattle.island_pack.specs.Packets.{IsPacket}
use Rattle.island_pack.specs.declared.packet.Packet.{Packet}
use Rattle.period_grammar.specs.Column.{sync_digit}
use Rattle.link_laws.specs.Account.{pixel_bytes, sync_row, packet_row}
use Rattle.relay.proofs.Below.{Facts}
use Rattle.relay.proofs.Fits.{all_bytes}
use Rattle.relay.specs.Relayed.{Judged, data_of}
use Rattle.relay.specs.Received.{packets_received, digits_of, island_received}

-- Lines.

abbrev small : ℕ → Bool
small b = nat_lt b 256

byte_by : (q : Bool) (b r : ℕ) → Facts → small b ≡ true → small (cond q b (decoded_byte r)) ≡ true
byte_by q b r h k = grind (arith, lt-ltb)

pub bytes_small : Facts → (bytes : List ℕ) (ss rs : List Column) → are_bytes bytes ≡ true → are_bytes (pixel_bytes (pixels_of bytes) ss rs) ≡ true
unfolding pixels_of pixel_bytes
bytes_small f [] ss rs h = refl
bytes_small f (r ∷ []) ss rs h = refl
bytes_small f (r ∷ (g ∷ [])) ss rs h = refl
bytes_small f (r ∷ (g ∷ (b ∷ rest))) [] rs h = refl
bytes_small f (r ∷ (g ∷ (b ∷ rest))) (s ∷ ss) [] h = refl
bytes_small f (r ∷ (g ∷ (b ∷ rest))) (s ∷ ss) (c ∷ rs) h = grind (arith, and_parts, and_from, byte_by, bytes_small f rest ss rs)

pub as_many_bytes : (bytes : List ℕ) (ss rs : List Column) → length bytes % 3 ≡ 0 → length ss ≡ length bytes / 3 → length rs ≡ length bytes / 3 → length (pixel_bytes (pixels_of bytes) ss rs) ≡ length bytes
unfolding pixels_of pixel_bytes
as_many_bytes [] ss rs w a b = refl
as_many_bytes (r ∷ []) ss rs w a b = absurd (omega (arith, w))
as_many_bytes (r ∷ (g ∷ [])) ss rs w a b = absurd (omega (arith, w))
as_many_bytes (r ∷ (g ∷ (b ∷ rest))) [] rs w a e = absurd (omega (arith, a))
as_many_bytes (r ∷ (g ∷ (b ∷ rest))) (s ∷ ss) [] w a e = absurd (omega (arith, e))
as_many_bytes (r ∷ (g ∷ (b ∷ rest))) (s ∷ ss) (c ∷ rs) w a e = let n = as_many_bytes rest ss rs (omega (arith, w)) (omega (arith, a)) (omega (arith, e)) in omega arith

pub line_fits : Facts → (bytes : List ℕ) (ss rs : List Column) → is_video_period bytes ≡ true → length ss ≡ length bytes / 3 → length rs ≡ length bytes / 3 → is_video_period (pixel_bytes (pixels_of bytes) ss rs) ≡ true
unfolding is_video_period
line_fits f bytes ss rs h a b = grind (arith, and_parts, as_many_bytes, eqb-true, and_from, bytes_small)

-- Islands.

digit_small : (w : ℕ) → nat_lt (sync_digit w) 4 ≡ true
unfolding sync_digit
digit_small w = lt-ltb (nibble_of w % 4) 4 (omega arith)

pub digits_small : (cs : List Column) → is_sync_pair (digits_of cs) ≡ true
unfolding digits_of
digits_small cs = grind (arith, and_from, digit_small)

sync_by : (q : Bool) (v w : ℕ) → nat_lt v 4 ≡ true → nat_lt (cond q v (sync_digit w)) 4 ≡ true
sync_by q v w h = grind (arith, digit_small)

syncs_small : (vs : List ℕ) (ss rs : List Column) → list_all (λ v. nat_lt v 4) vs ≡ true → list_all (λ v. nat_lt v 4) (sync_row vs ss rs) ≡ true
unfolding sync_row
syncs_small [] ss rs h = refl
syncs_small (v ∷ vs) [] rs h = refl
syncs_small (v ∷ vs) (s ∷ ss) [] h = refl
syncs_small (v ∷ vs) (s ∷ ss) (r ∷ rs) h = grind (arith, and_parts, and_from, sync_by, syncs_small vs ss rs)

as_many_syncs : (vs : List ℕ) (ss rs : List Column) → length ss ≡ length vs → length rs ≡ length vs → length (sync_row vs ss rs) ≡ length vs
unfolding sync_row
as_many_syncs [] ss rs a b = refl
as_many_syncs (v ∷ vs) [] rs a b = absurd (omega (arith, a))
as_many_syncs (v ∷ vs) (s ∷ ss) [] a b = absurd (omega (arith, b))
as_many_syncs (v ∷ vs) (s ∷ ss) (r ∷ rs) a b = ap (λ n. suc n) (as_many_syncs vs ss rs (omega (arith, a)) (omega (arith, b)))

abbrev SmallSyncs : List ℕ → Type 0
SmallSyncs vs = ((length vs == 32) && list_all (λ v. nat_lt v 4) vs) ≡ true

packet_by : (q : Bool) (p w : Packet) (sync : List ℕ) → is_packet p ≡ true → IsPacket w → SmallSyncs sync
    → is_packet (cond q (record { header = p.header; bodies = p.bodies; sync = sync }) (record { header = w.header; bodies = w.bodies; sync = sync })) ≡ true
unfolding is_packet
packet_by q p w sync h k l = grind (arith, and_parts, and_from, eq-eqb, all_bytes)

packet_fits : Facts → (p : Packet) (ss rs : List Column) → is_packet p ≡ true → length ss ≡ 32 → length rs ≡ 32 → is_packet (packet_row p ss rs) ≡ true
unfolding packet_row is_packet
packet_fits f p ss rs h a b = grind (arith, and_parts, eqb-true, length-map, packet_by, and_from, eq-eqb, as_many_syncs, syncs_small)

abbrev packets_in : List Judged → List Packet
packets_in js = map (λ j. j.packet) js

packets_fit : Facts → (ps : List Packet) (ss rs : List Column) → list_all is_packet ps ≡ true → 32 * length ps ≤ length ss → 32 * length ps ≤ length rs → list_all is_packet (packets_in (packets_received ps ss rs)) ≡ true
unfolding packets_received
packets_fit f [] ss rs h a b = refl
packets_fit f (p ∷ ps) ss rs h a b =
    let c = and_parts (is_packet p) (list_all is_packet ps) h in
    let ds = length-drop 32 ss in
    let dr = length-drop 32 rs in
    and_from _ (list_all is_packet (packets_in (packets_received ps (drop 32 ss) (drop 32 rs))))
    (packet_fits f p (take 32 ss) (take 32 rs) c.0 (length-take-le 32 ss (omega arith)) (length-take-le 32 rs (omega arith)))
    (packets_fit f ps (drop 32 ss) (drop 32 rs) c.1 (omega arith) (omega arith))

pub as_many_packets : (ps : List Packet) (ss rs : List Column) → length (packets_received ps ss rs) ≡ length ps
unfolding packets_received
as_many_packets [] ss rs = refl
as_many_packets (p ∷ ps) ss rs = ap (λ n. suc n) (as_many_packets ps (drop 32 ss) (drop 32 rs))

pub island_fits : Facts → (x : DataIsland) (ss rs : List Column) → is_data_island x ≡ true → length ss ≡ 4 + 32 * length x.packets → length rs ≡ 4 + 32 * length x.packets → is_data_island (data_of (island_received x ss rs)) ≡ true
unfolding is_data_island island_received
island_fits f x ss rs h a b = grind (arith, and_parts, length-map, as_many_packets, length-drop, and_from, digits_small, packets_fit)

pub few_packets : (x : DataIsland) → is_data_island x ≡ true → nat_le (length x.packets) 18 ≡ true
unfolding is_data_island
few_packets x h = grind (arith, and_parts)
