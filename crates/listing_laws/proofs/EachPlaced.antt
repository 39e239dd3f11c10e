-- What is shown of a packet, as it was sent and as it was received in its 32 columns, holds of each packet of periods
-- where it stands.
use Rattle.std.proofs.Common.{◌≡◌, ℕ, ◌+◌, true, false, Bool, List, [], ◌∷◌, ◌++◌, map, length, take, drop, refl, sym, ap, ◌∙◌, append_assoc}
use Rattle.std.proofs.lemmas.List.{drop-drop}
use Rattle.tmds_word.specs.Column.{Column}
use Rattle.island_pack.specs.Packets.{CarriesFreely}
use Rattle.island_pack.specs.Periods.{DataIsland, Period, control, video, island, period_columns}
use Rattle.island_pack.specs.Spelling.{column_words, guard_columns}
use Rattle.island_pack.specs.declared.packet.Packet.{Packet}
use Rattle.link_laws.proofs.Freely.{free_received}
use Rattle.link_laws.specs.Laws.{ReceivedOf}
use Rattle.link_laws.proofs.Between.{take_seam, drop_seam}
use Rattle.link_laws.proofs.IslandColumns.{ArePackets, no_packets, one_more, packet_sent, packet_received}
use Rattle.link_laws.proofs.IslandReported.{framed, frame}
use Rattle.link_laws.proofs.Joining.{ArrivesPeriod, controls, pixels, packets, Arrives, nothing, more, sized}
use Rattle.link_laws.proofs.Framing.{arrived}
use Rattle.listing_laws.specs.PacketLaws.{Placed, each_at, placed}
use Rattle.listing_laws.specs.ListingLaws.{Each}

-- what is to be shown of one packet
abbrev pub IsShown : (Placed → Type 0) → List Column → List Column → Type 0
IsShown P sent received =
    (y : ℕ) (p : Packet) (own reception : List Column) → CarriesFreely p (map column_words own) → length reception ≡ 32
    → take 32 (drop y sent) ≡ own → take 32 (drop y received) ≡ reception → P (record { packet = p; at = y })

-- the columns after these
next : (all on rest own : List Column) (y : ℕ) → drop y all ≡ own ++ (on ++ rest) → length own ≡ 32 → drop (y + 32) all ≡ on ++ rest
next all on rest own y is long =
    sym (drop-drop 32 y all) ∙ ap (drop 32) is ∙ drop_seam own (on ++ rest) 32 long

each_shown : (P : Placed → Type 0) (sent received : List Column) → IsShown P sent received → (first : Bool) (ps : List Packet) (pp qq : List Column) → ArePackets first ps pp qq → (y : ℕ) (ss rs : List Column) → drop y sent ≡ pp ++ ss → drop y received ≡ qq ++ rs
    → Each P (each_at y ps)
unfolding each_at
each_shown P sent received shown _ _ _ _ (no_packets first) y ss rs e d = tt
each_shown P sent received shown _ _ _ _ (one_more first p ps own reception sent_on received_on c h hs) y ss rs e d =
    let s = packet_sent first p own c in
    let r = packet_received first p own reception c h in
    let e2 : drop y sent ≡ own ++ (sent_on ++ ss) = e ∙ append_assoc own sent_on ss in
    let d2 : drop y received ≡ reception ++ (received_on ++ rs) = d ∙ append_assoc reception received_on rs in (
      shown y p own reception c r (ap (take 32) e2 ∙ take_seam own (sent_on ++ ss) 32 s) (ap (take 32) d2 ∙ take_seam reception (received_on ++ rs) 32 r),
      each_shown P sent received shown false ps sent_on received_on hs (y + 32) ss rs (next sent sent_on ss own y e2 s) (next received received_on rs reception y d2 r),
    )

each_both : (P : Placed → Type 0) (ks ls : List Placed) → Each P ks → Each P ls → Each P (ks ++ ls)
each_both P [] ls h g = g
each_both P (k ∷ ks) ls h g = (h.0, each_both P ks ls h.1 g)

-- the columns after a period
after : (all own rest : List Column) (x n : ℕ) → drop x all ≡ own ++ rest → length own ≡ n → drop (x + n) all ≡ rest
after all own rest x n is long = sym (drop-drop n x all) ∙ ap (drop n) is ∙ drop_seam own rest n long

-- the packets after the guard that opens an island
inside : (sent : List Column) (x : ℕ) (i : DataIsland) (pp ss : List Column) → drop x sent ≡ frame i pp ++ ss → drop (x + 2) sent ≡ pp ++ (guard_columns i.closing ++ ss)
inside sent x i pp ss e = sym (drop-drop 2 x sent) ∙ ap (drop 2) e ∙ append_assoc pp (guard_columns i.closing) ss

inside_received : (received : List Column) (x : ℕ) (g k : Column) (qq : List Column) (c f : Column) (rs : List Column) → drop x received ≡ framed g k qq c f ++ rs → drop (x + 2) received ≡ qq ++ ((c ∷ (f ∷ [])) ++ rs)
inside_received received x g k qq c f rs e = sym (drop-drop 2 x received) ∙ ap (drop 2) e ∙ append_assoc qq (c ∷ (f ∷ [])) rs

-- the packets of an island at column x
pub island_shown : (P : Placed → Type 0) (sent received : List Column) → IsShown P sent received → (x : ℕ) (i : DataIsland) (own reception ss rs : List Column) → ArrivesPeriod (island i) own reception
    → drop x sent ≡ own ++ ss → drop x received ≡ reception ++ rs → Each P (each_at (x + 2) i.packets)
island_shown P sent received shown x _ _ _ ss rs (packets i g k c f pp qq guards are) e d =
    each_shown P sent received shown true i.packets pp qq are (x + 2) (guard_columns i.closing ++ ss) ((c ∷ (f ∷ [])) ++ rs) (inside sent x i pp ss e) (inside_received received x g k qq c f rs d)

placed_shown : (P : Placed → Type 0) (sent received : List Column) → IsShown P sent received → (xs : List Period) (ss rs : List Column) → Arrives xs ss rs → (x : ℕ) → drop x sent ≡ ss → drop x received ≡ rs → Each P (placed x xs)
unfolding placed
placed_shown P sent received shown _ _ _ nothing x e d = tt
placed_shown P sent received shown _ _ _ (more _ xs own reception ss rs (controls runs cs n all) h) x e d =
    let s = sized (control runs) own reception (controls runs cs n all) in
    placed_shown P sent received shown xs ss rs h (x + period_columns (control runs)) (after sent own ss x (period_columns (control runs)) e s.sent) (after received reception rs x (period_columns (control runs)) d s.received)
placed_shown P sent received shown _ _ _ (more _ xs own reception ss rs (pixels bytes g i pp qq guards are) h) x e d =
    let s = sized (video bytes) own reception (pixels bytes g i pp qq guards are) in
    placed_shown P sent received shown xs ss rs h (x + period_columns (video bytes)) (after sent own ss x (period_columns (video bytes)) e s.sent) (after received reception rs x (period_columns (video bytes)) d s.received)
placed_shown P sent received shown _ _ _ (more _ xs own reception ss rs (packets i g k c f pp qq guards are) h) x e d =
    let s = sized (island i) own reception (packets i g k c f pp qq guards are) in
    each_both P (each_at (x + 2) i.packets) (placed (x + period_columns (island i)) xs)
    (island_shown P sent received shown x i own reception ss rs (packets i g k c f pp qq guards are) e d)
    (placed_shown P sent received shown xs ss rs h (x + period_columns (island i)) (after sent own ss x (period_columns (island i)) e s.sent) (after received reception rs x (period_columns (island i)) d s.received))

pub each_placed : (P : Placed → Type 0) (sent received : List Column) → IsShown P sent received → (periods : List Period) → ReceivedOf periods sent received → Each P (placed 0 periods)
each_placed P sent received shown periods reception = placed_shown P sent received shown periods sent received (arrived periods sent received (free_received periods sent received reception)) 0 refl refl
