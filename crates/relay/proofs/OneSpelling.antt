-- Periods are spelled by one list of columns at most, and freely by lists that agree but for bit 3 of lane 0 in packet columns.
use Rattle.std.proofs.Common.{◌≡◌, ℕ, suc, zero, ◌+◌, ◌*◌, ◌<◌, ◌≤◌, Bool, true, false, List, [], ◌∷◌, ◌++◌, length, map, take, get_or, refl, ap, ap₂, sym, ◌∙◌, subst, arith, slice_index}
use Rattle.std.specs.Prelude.{replicate}
use Rattle.std.proofs.lemmas.List.{length-map, take_all, take_more_same, replicate-append-replicate}
use Rattle.tmds_word.specs.Column.{Column, column_of}
use Rattle.terc4.specs.Tables.{video_guard}
use Rattle.tmds_code.specs.Coding.{coded_word}
use Rattle.tmds_code.specs.Lanes.{IsLane, disparity_of}
use Rattle.island_pack.specs.Kinds.{Kind, packet_column, guard_pair, kinds_in, kinds_of}
use Rattle.island_pack.specs.Periods.{ControlRun, SyncPair, DataIsland, Period, control, video, island, Pixel, pixels_of}
use Rattle.island_pack.specs.Spelling.{guard_columns, SpellsPixels, SpellsVideo, SpellsPacketsBy, SpellsPackets, SpellsIslandBy, SpellsIsland, SpellsPeriodBy, SpellsPeriod, freely}
use Rattle.island_pack.specs.declared.packet.Packet.{Packet}
use Rattle.relay.specs.Spelled.{OneSpelling, AgreeAs, Agree, FreeSpellingsAgree, FreeSpellingAgrees}
use Rattle.relay.proofs.Accounting.{pixel_count}
use Rattle.relay.proofs.Agreeing.{packet_count, packet_agrees, one_packet}
use Rattle.link_laws.proofs.Freely.{free_spelled}

-- A line.

lane_begins : (bytes v w : List ℕ) → IsLane bytes v → IsLane bytes w → (j : ℕ) → j ≤ length v → take j v ≡ take j w
lane_begins bytes v w h k zero le = refl
lane_begins bytes v w h k (suc j) le =
    let same = lane_begins bytes v w h k j (omega arith) in
    let lv : j < length v = omega arith in
    let lw : j < length w = omega (arith, h.same_length, k.same_length) in
    let word : get_or v j 0 ≡ get_or w j 0 = h.coded j lv ∙ ap (λ (ws : List ℕ). coded_word (disparity_of ws) (slice_index bytes j)) same ∙ sym (k.coded j lw) in
    let next : j + 1 ≡ suc j = omega arith in
    subst (λ n. take n v ≡ take n w) next (take_more_same v w j 0 lv lw same word)

one_lane : (bytes v w : List ℕ) → IsLane bytes v → IsLane bytes w → v ≡ w
one_lane bytes v w h k =
    sym (take_all (length v) v (omega arith)) ∙ lane_begins bytes v w h k (length v) (omega arith) ∙ take_all (length v) w (omega (arith, h.same_length, k.same_length))

same_lanes : (cs ds : List Column) → map (λ (c : Column). c.blue) cs ≡ map (λ (c : Column). c.blue) ds → map (λ (c : Column). c.green) cs ≡ map (λ (c : Column). c.green) ds
    → map (λ (c : Column). c.red) cs ≡ map (λ (c : Column). c.red) ds → cs ≡ ds
same_lanes [] [] b g r = refl
same_lanes [] (d ∷ ds) b g r = absurd cc
same_lanes (c ∷ cs) [] b g r = absurd cc
same_lanes (c ∷ cs) (d ∷ ds) b g r = grind (arith, same_lanes cs ds)

pub one_line : (pixels : List Pixel) (cs ds : List Column) → SpellsPixels pixels cs → SpellsPixels pixels ds → cs ≡ ds
one_line pixels cs ds h k =
    same_lanes cs ds
    (one_lane (map (λ (p : Pixel). p.blue) pixels) (map (λ (c : Column). c.blue) cs) (map (λ (c : Column). c.blue) ds) h.blue k.blue)
    (one_lane (map (λ (p : Pixel). p.green) pixels) (map (λ (c : Column). c.green) cs) (map (λ (c : Column). c.green) ds) h.green k.green)
    (one_lane (map (λ (p : Pixel). p.red) pixels) (map (λ (c : Column). c.red) cs) (map (λ (c : Column). c.red) ds) h.red k.red)

-- As a source spells them.

one_row : (first : Bool) (ps : List Packet) (cs ds : List Column) → SpellsPackets first ps cs → SpellsPackets first ps ds → cs ≡ ds
one_row first [] cs ds h k = h ∙ sym k
one_row first (p ∷ ps) cs ds h k =
    h.2 ∙ ap₂ (λ (xs ys : List Column). xs ++ ys) (one_packet p first h.0 k.0 h.3 k.3) (one_row false ps h.1 k.1 h.4 k.4) ∙ sym k.2

one_video : (bytes : List ℕ) (cs ds : List Column) → SpellsVideo bytes cs → SpellsVideo bytes ds → cs ≡ ds
one_video bytes cs ds h k = h.1 ∙ ap (λ (xs : List Column). column_of video_guard ∷ (column_of video_guard ∷ xs)) (one_line (pixels_of bytes) h.0 k.0 h.2 k.2) ∙ sym k.1

one_island : (x : DataIsland) (cs ds : List Column) → SpellsIsland x cs → SpellsIsland x ds → cs ≡ ds
one_island x cs ds h k =
    h.1 ∙ ap (λ (xs : List Column). guard_columns x.opening ++ xs ++ guard_columns x.closing) (one_row true x.packets h.0 k.0 h.2 k.2) ∙ sym k.1

one_period : (p : Period) (cs ds : List Column) → SpellsPeriod p cs → SpellsPeriod p ds → cs ≡ ds
one_period (control runs) cs ds h k = h ∙ sym k
one_period (video bytes) cs ds h k = one_video bytes cs ds h k
one_period (island x) cs ds h k = one_island x cs ds h k

pub one_spelling : OneSpelling
one_spelling [] cs ds h k = h ∙ sym k
one_spelling (p ∷ ps) cs ds h k = h.2 ∙ ap₂ (λ (xs ys : List Column). xs ++ ys) (one_period p h.0 k.0 h.3 k.3) (one_spelling ps h.1 k.1 h.4 k.4) ∙ sym k.2

-- Whatever bit 3 of lane 0 is.

-- columns that agree still do when they are named otherwise
over : (ks : List Kind) (cs ds es fs : List Column) → cs ≡ es → ds ≡ fs → Agree ks cs ds → Agree ks es fs
over ks cs ds es fs f g h = subst (λ (xs : List Column). Agree ks es xs) g (subst (λ (xs : List Column). Agree ks xs ds) f h)

agree_both : (ks ls : List Kind) (cs ds es fs : List Column) → Agree ks cs ds → Agree ls es fs → Agree (ks ++ ls) (cs ++ es) (ds ++ fs)
agree_both [] ls [] [] es fs h k = k
agree_both [] ls [] (d ∷ ds) es fs h k = absurd h
agree_both [] ls (c ∷ cs) ds es fs h k = absurd h
agree_both (x ∷ ks) ls [] ds es fs h k = absurd h
agree_both (x ∷ ks) ls (c ∷ cs) [] es fs h k = absurd h
agree_both (x ∷ ks) ls (c ∷ cs) (d ∷ ds) es fs h k = (h.0, agree_both ks ls cs ds es fs h.1 k)

agree_self : (k : Kind) → ((c : Column) → AgreeAs k c c) → (cs : List Column) → Agree (replicate (length cs) k) cs cs
agree_self k h [] = tt
agree_self k h (c ∷ cs) = (h c, agree_self k h cs)

guards_agree : (pair : SyncPair) → Agree guard_pair (guard_columns pair) (guard_columns pair)
guards_agree pair = (refl, (refl, tt))

row_agrees : (first : Bool) (ps : List Packet) (cs ds : List Column) → SpellsPacketsBy freely first ps cs → SpellsPacketsBy freely first ps ds
    → Agree (replicate (32 * length ps) packet_column) cs ds
row_agrees first [] cs ds h k =
    let none : Agree [] [] [] = tt in over [] [] [] cs ds (sym h) (sym k) none
row_agrees first (p ∷ ps) cs ds h k =
    let n = packet_count p h.0 h.3 in
    let size : length h.0 + 32 * length ps ≡ 32 * length (p ∷ ps) = omega arith in
    let kinds = replicate-append-replicate (length h.0) (32 * length ps) packet_column ∙ ap (λ m. replicate m packet_column) size in
    let both = agree_both (replicate (length h.0) packet_column) (replicate (32 * length ps) packet_column) h.0 k.0 h.1 k.1 (packet_agrees p h.0 k.0 h.3 k.3) (row_agrees false ps h.1 k.1 h.4 k.4) in
    over (replicate (32 * length (p ∷ ps)) packet_column) (h.0 ++ h.1) (k.0 ++ k.1) cs ds (sym h.2) (sym k.2) (subst (λ (xs : List Kind). Agree xs (h.0 ++ h.1) (k.0 ++ k.1)) kinds both)

video_agrees : (bytes : List ℕ) (cs ds : List Column) → SpellsVideo bytes cs → SpellsVideo bytes ds → Agree (kinds_in (video bytes)) cs ds
unfolding kinds_in
video_agrees bytes cs ds h k = grind (arith, one_line, length-map, pixel_count, agree_self, over)

island_agrees : (x : DataIsland) (cs ds : List Column) → SpellsIslandBy freely x cs → SpellsIslandBy freely x ds → Agree (kinds_in (island x)) cs ds
unfolding kinds_in
island_agrees x cs ds h k = grind (arith, row_agrees, agree_both, guards_agree, over)

control_agrees : (runs : List ControlRun) (cs ds : List Column) → SpellsPeriodBy freely (control runs) cs → SpellsPeriodBy freely (control runs) ds → Agree (kinds_in (control runs)) cs ds
unfolding kinds_in
control_agrees runs cs ds h k = grind (arith, length-map, agree_self, over)

period_agrees : (p : Period) (cs ds : List Column) → SpellsPeriodBy freely p cs → SpellsPeriodBy freely p ds → Agree (kinds_in p) cs ds
period_agrees p cs ds h k = grind (arith, control_agrees, video_agrees, island_agrees)

pub free_spellings_agree : FreeSpellingsAgree
unfolding kinds_of
free_spellings_agree [] cs ds h k = let none : Agree [] [] [] = tt in over [] [] [] cs ds (sym h) (sym k) none
free_spellings_agree (p ∷ ps) cs ds h k = grind (arith, over, agree_both, period_agrees, free_spellings_agree ps)

pub free_spelling_agrees : FreeSpellingAgrees
free_spelling_agrees ps cs ds h k = free_spellings_agree ps cs ds h (free_spelled ps ds k)
