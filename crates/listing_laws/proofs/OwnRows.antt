-- The lines of the account of a period that was received as it was sent: they describe the period with
-- its longest runs.
use Rattle.std.proofs.Common.{◌≡◌, ℕ, ◌+◌, ◌-◌, ◌*◌, ◌%◌, ◌<◌, ◌≤◌, Bool, true, false, cond, ◌==◌, List, [], ◌∷◌, ◌++◌, length, map, take, drop, refl, ap, ap₂, sym, ◌∙◌, append_assoc, append-nil, arith, take_at, drop_at, take_all}
use Rattle.std.specs.Prelude.{nat_lt}
use Rattle.std.proofs.lemmas.Bool.{eqb-true, eq-eqb, le-leb, lt-ltb, le-ltb}
use Rattle.std.proofs.lemmas.List.{length-map}
use Rattle.tmds_word.specs.Column.{Column}
use Rattle.tmds_word.proofs.Below.{and-left, and-right, passes_below, passes_at}
use Rattle.terc4.specs.Tables.{terc_words, value_in}
use Rattle.terc4.specs.Columns.{is_video_guard}
use Rattle.island_pack.specs.Nibbles.{nibble_of}
use Rattle.island_pack.specs.Periods.{ControlRun, SyncPair, DataIsland, control, video, island, values_of, pixels_of, VIDEO_PREAMBLE}
use Rattle.island_pack.specs.Packets.{CarriesFreely}
use Rattle.island_pack.specs.Runs.{joined, join, longest}
use Rattle.island_pack.specs.Spelling.{guard_column, guard_columns, column_words as words_in, SpellsPackets, SpellsPeriod}
use Rattle.island_pack.specs.declared.packet.Packet.{Packet}
use Rattle.period_grammar.specs.Column.{value_of, sync_digit}
use Rattle.period_grammar.specs.Cut.{Run, columns, in_front, before_runs, runs as runs_of}
use Rattle.period_grammar.specs.Heard.{words, has_preamble}
use Rattle.period_grammar.specs.Island.{wrong_guards}
use Rattle.period_grammar.specs.Events.{run, line, cut, open_island, close_island, event_of}
use Rattle.link_laws.specs.Account.{runs_row, control_row, wrong_preamble, open_video_row, open_island_row, close_island_row, pixel_bytes, video_row, video_reported, damage, sync_row, packet_reported, packets_reported, island_reported, period_row}
use Rattle.link_laws.proofs.Conformed.{IsIsland}
use Rattle.link_laws.proofs.IslandColumns.{packet_sent}
use Rattle.link_laws.proofs.IslandReported.{frame}
use Rattle.link_laws.proofs.Rows.{control_columns, Small}
use Rattle.listing_writer.specs.Texts.{line_words}
use Rattle.link_laws.proofs.PacketRow.{one_is_as_sent}
use Rattle.listing_laws.proofs.AsSent.{as_sent_row}
use Rattle.listing_laws.proofs.Fine.{value_back}
use Rattle.listing_laws.proofs.SoundLines.{sound_lines, sound_append, silent_both, silent_words, silent_preamble, silent_guards, silent_codes, silent_packet}
use Rattle.listing_laws.proofs.Text.{line_of, reported_packet, run_lines, packet_lines, period_lines}
use Rattle.listing_laws.proofs.Undamaged.{none_unlike}

-- ---- a control period

abbrev run_in : Run → ControlRun
run_in (columns v cs) = record { value = v; count = length cs }

runs_lines : (j : ℕ) (rs : List Run) → sound_lines (runs_row j rs) ≡ run_lines (map run_in rs)
unfolding runs_row run_lines
runs_lines j [] = refl
runs_lines j (columns v cs ∷ rs) =
    sound_append (map event_of (words j cs)) (run v (length cs) ∷ runs_row (j + length cs) rs)
    ∙ ap₂ (λ (a b : List ℕ). a ++ (line_of (run v (length cs)) ++ b)) (silent_words j cs) (runs_lines (j + length cs) rs)

front_run : (same : Bool) (c : Column) (v : ℕ) (cs : List Column) (rs : List Run) → map run_in (in_front same c (columns v cs) rs) ≡ joined same (value_of c) (record { value = v; count = length cs }) (map run_in rs)
front_run same c v cs rs = grind arith

first_run : (c : Column) (rs : List Run) → map run_in (before_runs c rs) ≡ join (value_of c) (map run_in rs)
first_run c rs = grind (arith, front_run)

runs_are : (cs : List Column) → map run_in (runs_of cs) ≡ longest (map value_of cs)
unfolding runs_of longest
runs_are [] = refl
runs_are (c ∷ cs) = first_run c (runs_of cs) ∙ ap (join (value_of c)) (runs_are cs)

values_back : (vs : List ℕ) → Small vs → map value_of (control_columns vs) ≡ vs
values_back [] small = refl
values_back (v ∷ vs) small =
    ap₂ (λ (w : ℕ) (ws : List ℕ). w ∷ ws) (value_back v (and-left (nat_lt v 64) _ small)) (values_back vs (and-right (nat_lt v 64) _ small))

control_lines : (j : ℕ) (vs : List ℕ) → Small vs → sound_lines (control_row j (control_columns vs)) ≡ run_lines (longest vs)
control_lines j vs small = runs_lines j (runs_of (control_columns vs)) ∙ ap run_lines (runs_are (control_columns vs) ∙ ap longest (values_back vs small))

pub own_control : (j m : ℕ) (before : List Column) (runs : List ControlRun) (own : List Column) → Small (values_of runs) → SpellsPeriod (control runs) own → length own ≤ m
    → sound_lines (period_row j m before (control runs) own own) ≡ run_lines (longest (values_of runs))
unfolding period_row
own_control j m before runs own small h whole =
    ap (λ (cs : List Column). sound_lines (control_row j cs)) (take_all m own whole ∙ h) ∙ control_lines j (values_of runs) small

-- ---- a video data period

own_bytes : (bytes : List ℕ) (cs : List Column) → length bytes % 3 ≡ 0 → length cs ≡ length (pixels_of bytes) → pixel_bytes (pixels_of bytes) cs cs ≡ bytes
unfolding pixels_of pixel_bytes
own_bytes [] cs whole long = refl
own_bytes (r ∷ []) cs whole long = absurd (omega (arith, whole))
own_bytes (r ∷ (g ∷ [])) cs whole long = absurd (omega (arith, whole))
own_bytes (r ∷ (g ∷ (b ∷ bytes))) [] whole long = absurd (omega (arith, long))
own_bytes (r ∷ (g ∷ (b ∷ bytes))) (c ∷ cs) whole long = grind (arith, eq-eqb, own_bytes bytes cs)

open_video : (b : ℕ) (before : List Column) (g h : Column) (rs : List Column) → sound_lines (open_video_row b before (g ∷ (h ∷ rs))) ≡ []
unfolding open_video_row
open_video b before g h rs =
    silent_both (wrong_preamble b VIDEO_PREAMBLE before) (wrong_guards is_video_guard b g h) (silent_preamble (has_preamble VIDEO_PREAMBLE before) b) (silent_guards is_video_guard b g h)

video_lines : (b m : ℕ) (before : List Column) (bytes : List ℕ) (g h : Column) (cs : List Column) → length bytes % 3 ≡ 0 → length cs ≡ length (pixels_of bytes) → 2 + length cs < m
    → sound_lines (video_reported b m before (pixels_of bytes) (g ∷ (h ∷ cs)) (g ∷ (h ∷ cs))) ≡ line_of (line bytes)
unfolding video_reported video_row
video_lines b m before bytes g h cs k l p = grind (arith, sound_lines, lt-ltb, sound_append, open_video, line_of, own_bytes, silent_codes, append-nil)

pub own_video : (j m : ℕ) (before : List Column) (bytes : List ℕ) (own : List Column) → length bytes % 3 ≡ 0 → SpellsPeriod (video bytes) own → length own < m
    → sound_lines (period_row j m before (video bytes) own own) ≡ line_of (line bytes)
unfolding period_row
own_video j m before bytes own whole h more = grind (arith, sound_lines, video_lines, length-map)

-- ---- a data island

sync_test : passes_below 4 (λ v. sync_digit (guard_column v).blue == v) ≡ true
unfolding passes_below sync_digit nibble_of value_in terc_words
sync_test = refl

sync_back : (v : ℕ) → v < 4 → sync_digit (guard_column v).blue ≡ v
sync_back v lt = eqb-true (sync_digit (guard_column v).blue) v (passes_at 4 (λ v. sync_digit (guard_column v).blue == v) v sync_test lt)

open_lines : (b : ℕ) (before : List Column) (pair : SyncPair) (rs : List Column) → pair.first < 4 → pair.second < 4
    → sound_lines (open_island_row b before (guard_column pair.first ∷ (guard_column pair.second ∷ rs))) ≡ line_of (open_island pair.first pair.second)
unfolding open_island_row
open_lines b before pair rs first second = grind (arith, sound_append, line_of, silent_preamble, silent_guards, append-nil, sync_back)

own_damage : (cs : List Column) → damage cs cs ≡ 0
unfolding damage
own_damage [] = refl
own_damage (c ∷ cs) = ap₂ (λ (n m : ℕ). n + m) (none_unlike (words_in c)) (own_damage cs)

own_sync : (vs : List ℕ) (cs : List Column) → length vs ≡ length cs → sync_row vs cs cs ≡ vs
unfolding sync_row
own_sync [] cs long = refl
own_sync (v ∷ vs) [] long = absurd (omega (arith, long))
own_sync (v ∷ vs) (c ∷ cs) long =
    ap₂ (λ (w : ℕ) (ws : List ℕ). w ∷ ws) (ap (λ (same : Bool). cond same v (sync_digit c.blue)) (eq-eqb c.blue c.blue refl)) (own_sync vs cs (omega (arith, long)))

one_packet : (s : ℕ) (p : Packet) (own : List Column) → CarriesFreely p (map words_in own) → sound_lines (packet_reported s p own own) ≡ line_of (reported_packet p)
unfolding packet_reported line_words
one_packet s p own carries = grind (arith, line_of, silent_packet, append-nil, own_damage, packet_sent, one_is_as_sent, as_sent_row, own_sync)

packets_lines : (first : Bool) (s i : ℕ) (ps : List Packet) (closing : SyncPair) (cs : List Column) → closing.first < 4 → closing.second < 4 → SpellsPackets first ps cs → 32 * length ps + 2 ≤ i
    → sound_lines (packets_reported cut s ps i (cs ++ guard_columns closing) (cs ++ guard_columns closing)) ≡ packet_lines ps ++ line_of (close_island closing.first closing.second)
unfolding packets_reported packet_lines close_island_row
packets_lines first s i [] closing cs a b h le = grind (arith, sound_lines, le-leb, line_of, silent_guards, append-nil, sync_back)
packets_lines first s i (p ∷ ps) closing cs a b h le =
    let after = guard_columns closing in
    let own = h.0 in
    let rest = h.1 in
    let n = packet_sent first p own h.3.free in
    let all = cs ++ after in
    let e : all ≡ own ++ (rest ++ after) = ap (λ (ds : List Column). ds ++ after) h.2 ∙ append_assoc own rest after in
    let t : take 32 all ≡ own = ap (take 32) e ∙ take_at own (rest ++ after) 32 n in
    let d : drop 32 all ≡ rest ++ after = ap (drop 32) e ∙ drop_at own (rest ++ after) 32 n in
    let close = line_of (close_island closing.first closing.second) in
    ap (λ (less : Bool). sound_lines (cond less (cut s ∷ []) (packet_reported s p (take 32 all) (take 32 all) ++ packets_reported cut (s + 32) ps (i - 32) (drop 32 all) (drop 32 all)))) (le-ltb i 32 (omega (arith, le)))
    ∙ ap₂ (λ (x y : List Column). sound_lines (packet_reported s p x x ++ packets_reported cut (s + 32) ps (i - 32) y y)) t d
    ∙ sound_append (packet_reported s p own own) (packets_reported cut (s + 32) ps (i - 32) (rest ++ after) (rest ++ after))
    ∙ ap₂ (λ (x y : List ℕ). x ++ y) (one_packet s p own h.3.free) (packets_lines false (s + 32) (i - 32) ps closing rest a b h.4 (omega (arith, le)))
    ∙ sym (append_assoc (line_of (reported_packet p)) (packet_lines ps) close)

island_lines : (b m : ℕ) (before : List Column) (x : DataIsland) (cs : List Column) → IsIsland x → SpellsPackets true x.packets cs → 4 + 32 * length x.packets ≤ m
    → sound_lines (island_reported b m before x (frame x cs) (frame x cs)) ≡ period_lines (island x)
unfolding island_reported period_lines
island_lines b m before x cs h k l = grind (arith, frame, line_of, sound_append, open_lines, packets_lines, append_assoc, packet_lines)

pub own_island : (j m : ℕ) (before : List Column) (x : DataIsland) (own : List Column) → IsIsland x → SpellsPeriod (island x) own → 4 + 32 * length x.packets ≤ m
    → sound_lines (period_row j m before (island x) own own) ≡ period_lines (island x)
unfolding period_row
own_island j m before x own is h le =
    ap (λ (cs : List Column). sound_lines (island_reported j m before x cs cs)) h.1 ∙ island_lines j m before x h.0 is h.2 le
