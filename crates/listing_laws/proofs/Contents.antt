-- The packets of a raster are those of its content, in order.
use Rattle.std.proofs.Common.{arith, ◌≡◌, ℕ, zero, suc, ◌+◌, ◌-◌, ◌*◌, List, [], ◌∷◌, ◌++◌, map, length, take, replicate, Option, None, refl, sym, ap, ap₂, ◌∙◌, append_assoc, append-nil}
use Rattle.std.specs.Prelude.{nat_le}
use Rattle.std.proofs.lemmas.Bool.{leb-true}
use Rattle.std.proofs.lemmas.List.{take_all}
use Rattle.std.proofs.Common.{take-add}
use Rattle.terc4.specs.Columns.{one_if}
use Rattle.island_pack.specs.Periods.{Period, control as control_period, video, island, period_columns}
use Rattle.island_pack.specs.declared.packet.Packet.{Packet}
use Rattle.source_end.specs.declared.mode.Mode.{Mode}
use Rattle.source_end.specs.declared.refusal.RasterFault.TheVariants.{NoRoom}
use Rattle.source_end.specs.Content.{Frame}
use Rattle.source_end.specs.Raster.{Line, Part, column, pixels, packets, up_from, packets_at, until, whole, laid, lines_of, parts_of, before, gathered, raster_of}
use Rattle.source_end.specs.RasterRefusals.{room_of, no_room, raster_fault}
use Rattle.listing_laws.specs.PacketLaws.{Placed, each_at, placed, Payload, payload_of, content_packets, RasterPackets}
use Rattle.source_end.proofs.RasterModes.{both_none, in_test}

abbrev payload_at : Placed → Payload
payload_at k = payload_of k.packet

-- the packets of parts
unfoldable in_parts : List Part → List Payload
in_parts [] = []
in_parts (column v ∷ parts) = in_parts parts
in_parts (pixels bytes ∷ parts) = in_parts parts
in_parts (packets x ∷ parts) = map payload_of x.packets ++ in_parts parts

map_both : (ks ls : List Placed) → map payload_at (ks ++ ls) ≡ map payload_at ks ++ map payload_at ls
map_both [] ls = refl
map_both (k ∷ ks) ls = ap (λ (xs : List Payload). payload_at k ∷ xs) (map_both ks ls)

each_payload : (x : ℕ) (ps : List Packet) → map payload_at (each_at x ps) ≡ map payload_of ps
unfolding each_at
each_payload x [] = refl
each_payload x (p ∷ ps) = ap (λ (xs : List Payload). payload_of p ∷ xs) (each_payload (x + 32) ps)

-- where packets stand is no matter of what they are
unfoldable in_periods : List Period → List Payload
in_periods [] = []
in_periods (control_period runs ∷ periods) = in_periods periods
in_periods (video bytes ∷ periods) = in_periods periods
in_periods (island x ∷ periods) = map payload_of x.packets ++ in_periods periods

placed_payload : (periods : List Period) (x : ℕ) → map payload_at (placed x periods) ≡ in_periods periods
unfolding placed in_periods
placed_payload [] x = refl
placed_payload (control_period runs ∷ periods) x = placed_payload periods (x + period_columns (control_period runs))
placed_payload (video bytes ∷ periods) x = placed_payload periods (x + period_columns (video bytes))
placed_payload (island i ∷ periods) x = grind (arith, map_both, each_payload, placed_payload periods)

before_payload : (v : ℕ) (periods : List Period) → in_periods (before v periods) ≡ in_periods periods
unfolding in_periods
before_payload v periods = grind arith

gathered_payload : (parts : List Part) → in_periods (gathered parts) ≡ in_parts parts
unfolding gathered in_periods in_parts
gathered_payload [] = refl
gathered_payload (column v ∷ parts) = before_payload v (gathered parts) ∙ gathered_payload parts
gathered_payload (pixels bytes ∷ parts) = gathered_payload parts
gathered_payload (packets x ∷ parts) = ap (λ (xs : List Payload). map payload_of x.packets ++ xs) (gathered_payload parts)

parts_both : (xs ys : List Part) → in_parts (xs ++ ys) ≡ in_parts xs ++ in_parts ys
unfolding in_parts
parts_both [] ys = refl
parts_both (column v ∷ xs) ys = parts_both xs ys
parts_both (pixels bytes ∷ xs) ys = parts_both xs ys
parts_both (packets x ∷ xs) ys = ap (λ (ps : List Payload). map payload_of x.packets ++ ps) (parts_both xs ys) ∙ sym (append_assoc (map payload_of x.packets) (in_parts xs) (in_parts ys))

up_payload : (value : ℕ → ℕ) (n x : ℕ) → in_parts (map (λ i. column (value i)) (up_from x n)) ≡ []
unfolding in_parts
up_payload value zero x = refl
up_payload value (suc n) x = up_payload value n (suc x)

same_payload : (v n : ℕ) → in_parts (replicate n (column v)) ≡ []
unfolding in_parts
same_payload v zero = refl
same_payload v (suc n) = same_payload v n

at_payload : (mode : Mode) (line : Line) (x : ℕ) (ps : List Packet) → map payload_of (packets_at mode line x ps) ≡ map payload_of ps
at_payload mode line x [] = refl
at_payload mode line x (p ∷ ps) = ap (λ (xs : List Payload). payload_of p ∷ xs) (at_payload mode line (x + 32) ps)

until_payload : (mode : Mode) (line : Line) (ps : List Packet) (e : ℕ) → in_parts (until mode line ps e) ≡ map payload_of ps
unfolding in_parts
until_payload mode line ps e = grind (arith, up_payload, parts_both, at_payload, append-nil)

whole_payload : (mode : Mode) (line : Line) (ps : List Packet) (row : Option (List ℕ)) → in_parts (whole mode line ps row) ≡ map payload_of ps
unfolding in_parts
whole_payload mode line ps row = grind (arith, until_payload, parts_both, up_payload, append-nil)

map_parts : (ps qs : List Packet) → map payload_of (ps ++ qs) ≡ map payload_of ps ++ map payload_of qs
map_parts [] qs = refl
map_parts (p ∷ ps) qs = ap (λ (xs : List Payload). payload_of p ∷ xs) (map_parts ps qs)

-- lines take as many packets as they have room for
laid_payload : (mode : Mode) (lines : List Line) (ps : List Packet) → in_parts (laid mode lines ps) ≡ map payload_of (take (room_of mode lines) ps)
unfolding laid in_parts
laid_payload mode [] ps = refl
laid_payload mode (line ∷ lines) ps = grind (arith, parts_both, whole_payload, map_parts, take-add, laid_payload mode lines)

frames_payload : (mode : Mode) (f : ℕ) (frames : List Frame) → no_room mode f frames ≡ None → in_parts (parts_of mode frames) ≡ map payload_of (content_packets frames)
unfolding parts_of content_packets
frames_payload mode f [] h = same_payload (3 * one_if mode.positive) 32
frames_payload mode f (frame ∷ frames) h =
    let t = in_test (nat_le (length frame.packets) (room_of mode (lines_of mode frame))) (no_room mode (suc f) frames) (NoRoom f (room_of mode (lines_of mode frame))) h in
    let le = leb-true (length frame.packets) (room_of mode (lines_of mode frame)) t.0 in
    parts_both (laid mode (lines_of mode frame) frame.packets) (parts_of mode frames)
    ∙ ap₂ (λ (xs ys : List Payload). xs ++ ys) (laid_payload mode (lines_of mode frame) frame.packets ∙ ap (λ (qs : List Packet). map payload_of qs) (take_all (room_of mode (lines_of mode frame)) frame.packets le)) (frames_payload mode (suc f) frames t.1)
    ∙ sym (map_parts frame.packets (content_packets frames))

pub raster_packets : RasterPackets
unfolding raster_of raster_fault
raster_packets mode frames h = grind (arith, both_none, placed_payload, gathered_payload, frames_payload)
