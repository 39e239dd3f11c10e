-- The lines of a raster conform.
use Rattle.std.proofs.Common.{◌≡◌, ℕ, zero, suc, ◌+◌, ◌-◌, ◌*◌, ◌/◌, ◌%◌, ◌<◌, ◌≤◌, Bool, true, false, ◌&&◌, cond, ◌==◌, List, [], ◌∷◌, ◌++◌, map, length, take, drop, replicate, Some, refl, sym, ap, ap₂, ◌∙◌, append_assoc, append-nil, arith, length-append}
use Rattle.std.specs.Prelude.{nat_lt, nat_le}
use Rattle.std.specs.List.{list_all}
use Rattle.std.proofs.lemmas.List.{reverse-append, length-take}
use Rattle.std.proofs.lemmas.List.Folds.{list_all-append}
use Rattle.std.proofs.lemmas.Bool.{le-leb, lt-ltb, lt-leb}
use Rattle.tmds_word.proofs.Below.{and-left, and-right}
use Rattle.terc4.specs.Columns.{one_if}
use Rattle.island_pack.specs.Periods.{ctl, has_preamble}
use Rattle.island_pack.specs.Conforming.{are_bytes, is_packet, is_video_period, is_data_island, IsConforming}
use Rattle.island_pack.specs.declared.packet.Packet.{Packet}
use Rattle.source_end.specs.declared.mode.Mode.{Mode}
use Rattle.source_end.specs.Content.{Frame, is_payload, are_content}
use Rattle.source_end.specs.Lines.{left}
use Rattle.source_end.specs.Raster.{blank, row_line, row_room, level, Line, Part, column, pixels, packets, up_from, columns, sync_at, value_at, has_row, guard_at, is_within, room, sync, back, active, total, packets_at, island_of, until, whole, laid, parts_of, raster_of}
use Rattle.source_end.proofs.RasterPeriods.{Small, enough, conforming, gathered_conforms}
use Rattle.source_end.proofs.RasterModes.{IsMode, AreRows, AreFrames}
use Rattle.source_end.proofs.RasterSizes.{long_row, parts_more, parts_none, after_sync, after_back}

both : (a b : Bool) → a ≡ true → b ≡ true → (a && b) ≡ true
both a b h g = ap₂ (λ (x y : Bool). x && y) h g

-- Values.

sum_small : (h v t u : Bool) → nat_lt (one_if h + 2 * one_if v + cond t 4 (cond u 20 0)) 64 ≡ true
unfolding one_if
sum_small h v t u = grind arith

pair_small : (h v : Bool) → (nat_lt (one_if h + 2 * one_if v) 4 ≡ true) × (nat_lt (one_if h + 2 * one_if v) 64 ≡ true)
unfolding one_if
pair_small h v = grind arith

final_small : (v : Bool) → nat_lt (3 * one_if v) 64 ≡ true
unfolding one_if
final_small v = grind arith

value_small : (mode : Mode) (line : Line) (has : Bool) (x : ℕ) → nat_lt (value_at mode line has x) 64 ≡ true
value_small mode line has x = sum_small (level mode.positive (nat_lt x (sync mode.across))) (level mode.positive line.vsync) (has_row line && is_within x (guard_at mode - 8) (guard_at mode)) (has && is_within x 4 12)

value_ctl : (mode : Mode) (line : Line) (has : Bool) (x : ℕ) → ctl (value_at mode line has x) ≡ cond (has_row line && is_within x (guard_at mode - 8) (guard_at mode)) 1 (cond (has && is_within x 4 12) 5 0)
unfolding one_if
value_ctl mode line has x = grind arith

sync_small : (mode : Mode) (line : Line) (x : ℕ) → nat_lt (sync_at mode line x) 4 ≡ true
sync_small mode line x = (pair_small (level mode.positive (nat_lt x (sync mode.across))) (level mode.positive line.vsync)).0

sync_narrow : (mode : Mode) (line : Line) (x : ℕ) → nat_lt (sync_at mode line x) 64 ≡ true
sync_narrow mode line x = (pair_small (level mode.positive (nat_lt x (sync mode.across))) (level mode.positive line.vsync)).1

abbrev values : (ℕ → ℕ) → ℕ → ℕ → List ℕ
values value x n = map value (up_from x n)

small_values : (value : ℕ → ℕ) → ((x : ℕ) → nat_lt (value x) 64 ≡ true) → (n x : ℕ) → Small (values value x n) ≡ true
small_values value h zero x = refl
small_values value h (suc n) x = both (nat_lt (value x) 64) (Small (values value (suc x) n)) (h x) (small_values value h n (suc x))

small_both : (vs ws : List ℕ) → Small vs ≡ true → Small ws ≡ true → Small (vs ++ ws) ≡ true
small_both vs ws h g = list_all-append (λ v. nat_lt v 64) vs ws ∙ both (Small vs) (Small ws) h g

length_values : (value : ℕ → ℕ) (n x : ℕ) → length (values value x n) ≡ n
length_values value zero x = refl
length_values value (suc n) x = ap (λ k. suc k) (length_values value n (suc x))

up_values : (value : ℕ → ℕ) (n m x : ℕ) → values value x (n + m) ≡ values value x n ++ values value (x + n) m
up_values value zero m x = grind arith
up_values value (suc n) m x =
    let e : suc n + m ≡ suc (n + m) = omega arith in
    let d : suc x + n ≡ x + suc n = omega arith in
    ap (values value x) e ∙ ap (λ (xs : List ℕ). value x ∷ xs) (up_values value n m (suc x) ∙ ap (λ (k : ℕ). values value (suc x) n ++ values value k m) d)

-- columns before parts
conforming_up : (value : ℕ → ℕ) (n x : ℕ) (vs : List ℕ) (rest : List Part) → conforming vs (map (λ i. column (value i)) (up_from x n) ++ rest) ≡ conforming (vs ++ values value x n) rest
unfolding conforming
conforming_up value zero x vs rest = ap (λ (ws : List ℕ). conforming ws rest) (sym (append-nil vs))
conforming_up value (suc n) x vs rest = conforming_up value n (suc x) (vs ++ value x ∷ []) rest ∙ ap (λ (ws : List ℕ). conforming ws rest) (append_assoc vs (value x ∷ []) (values value (suc x) n))

-- Preambles.

eq_true : (a b : ℕ) → a ≡ b → (a == b) ≡ true
eq_true a b e = grind (arith, e)

eight : (bits : ℕ) (us : List ℕ) (a b c d e f g h : ℕ) → ctl a ≡ bits → ctl b ≡ bits → ctl c ≡ bits → ctl d ≡ bits → ctl e ≡ bits → ctl f ≡ bits → ctl g ≡ bits → ctl h ≡ bits
    → has_preamble bits (us ++ (a ∷ (b ∷ (c ∷ (d ∷ (e ∷ (f ∷ (g ∷ (h ∷ []))))))))) ≡ true
unfolding has_preamble
eight bits us a b c d e f g h ea eb ec ed ee ef eg eh = grind (arith, length-append, both, le-leb, reverse-append, eq_true)

-- eight columns with these control bits at the end
eight_values : (bits : ℕ) (value : ℕ → ℕ) (us : List ℕ) (x : ℕ) → ((i : ℕ) → x ≤ i → i < x + 8 → ctl (value i) ≡ bits) → has_preamble bits (us ++ values value x 8) ≡ true
eight_values bits value us x h = grind (arith, eight)

within : (x from to : ℕ) → from ≤ x → x < to → is_within x from to ≡ true
within x from to le lt = both (nat_le from x) (nat_lt x to) (le-leb from x le) (lt-ltb x to lt)

before_within : (x from to : ℕ) → x < from → is_within x from to ≡ false
before_within x from to lt = ap (λ (b : Bool). b && nat_lt x to) (lt-leb from x lt)

-- Islands.

small_syncs : (mode : Mode) (line : Line) (n x : ℕ) → list_all (λ v. nat_lt v 4) (map (sync_at mode line) (up_from x n)) ≡ true
small_syncs mode line zero x = refl
small_syncs mode line (suc n) x = both (nat_lt (sync_at mode line x) 4) _ (sync_small mode line x) (small_syncs mode line n (suc x))

packet_good : (mode : Mode) (line : Line) (p : Packet) (x : ℕ) → is_payload p ≡ true → is_packet (record { header = p.header; bodies = p.bodies; sync = map (sync_at mode line) (up_from x 32) }) ≡ true
unfolding is_packet
packet_good mode line p x h =
    both ((length p.header == 3) && are_bytes p.header) _ (and-left ((length p.header == 3) && are_bytes p.header) _ h)
    (both ((length p.bodies == 28) && are_bytes p.bodies) _ (and-right ((length p.header == 3) && are_bytes p.header) _ h) (small_syncs mode line 32 x))

packets_good : (mode : Mode) (line : Line) (ps : List Packet) (x : ℕ) → list_all is_payload ps ≡ true → list_all is_packet (packets_at mode line x ps) ≡ true
packets_good mode line [] x h = refl
packets_good mode line (p ∷ ps) x h = both (is_packet (record { header = p.header; bodies = p.bodies; sync = map (sync_at mode line) (up_from x 32) })) _ (packet_good mode line p x (and-left (is_payload p) _ h)) (packets_good mode line ps (x + 32) (and-right (is_payload p) _ h))

length_at : (mode : Mode) (line : Line) (x : ℕ) (ps : List Packet) → length (packets_at mode line x ps) ≡ length ps
length_at mode line x [] = refl
length_at mode line x (p ∷ ps) = ap (λ n. suc n) (length_at mode line (x + 32) ps)

island_good : (mode : Mode) (line : Line) (ps : List Packet) → list_all is_payload ps ≡ true → 1 ≤ length ps → length ps ≤ 18 → is_data_island (island_of mode line ps) ≡ true
unfolding is_data_island
island_good mode line ps h least most = grind (arith, length_at, both, sync_small, packets_good, le-leb)

payload_take : (n : ℕ) (ps : List Packet) → list_all is_payload ps ≡ true → list_all is_payload (take n ps) ≡ true
payload_take zero ps h = refl
payload_take (suc n) [] h = refl
payload_take (suc n) (p ∷ ps) h = both (is_payload p) _ (and-left (is_payload p) _ h) (payload_take n ps (and-right (is_payload p) _ h))

payload_drop : (n : ℕ) (ps : List Packet) → list_all is_payload ps ≡ true → list_all is_payload (drop n ps) ≡ true
payload_drop zero ps h = h
payload_drop (suc n) [] h = refl
payload_drop (suc n) (p ∷ ps) h = payload_drop n ps (and-right (is_payload p) _ h)

-- Up to an island: its preamble is there.
to_island : (mode : Mode) (line : Line) (ps : List Packet) (vs : List ℕ) (rest : List Part) → Small vs ≡ true → list_all is_payload ps ≡ true → 1 ≤ length ps → length ps ≤ 18
    → ((i : ℕ) → 4 ≤ i → i < 12 → (has_row line && is_within i (guard_at mode - 8) (guard_at mode)) ≡ false) → conforming [] rest ≡ true
    → conforming vs (columns (value_at mode line true) 0 12 ++ (packets (island_of mode line ps) ∷ rest)) ≡ true
unfolding conforming
to_island mode line ps vs rest small good least most apart later =
    let value = value_at mode line true in
    let ws = vs ++ values value 0 12 in
    let l = length-append vs (values value 0 12) in
    let k = length_values value 12 0 in
    let split : ws ≡ (vs ++ values value 0 4) ++ values value 4 8 = sym (append_assoc vs (values value 0 4) (values value 4 8)) in
    conforming_up value 12 0 vs (packets (island_of mode line ps) ∷ rest)
    ∙ both (enough ws) _ (both (Small ws) (nat_le 12 (length ws)) (small_both vs (values value 0 12) small (small_values value (value_small mode line true) 12 0)) (le-leb 12 (length ws) (omega (arith, l, k))))
    (both (has_preamble 5 ws) _
    (ap (has_preamble 5) split ∙ eight_values 5 value (vs ++ values value 0 4) 4
    (λ i le lt. value_ctl mode line true i ∙ ap₂ (λ (a b : Bool). cond a 1 (cond b 5 0)) (apart i le lt) (within i 4 12 le lt)))
    (both (is_data_island (island_of mode line ps)) _ (island_good mode line ps good least most) later))

-- A line without a row.
blank_conforms : (mode : Mode) (v : Bool) (ps : List Packet) (e : ℕ) (vs : List ℕ) (rest : List Part) → Small vs ≡ true → list_all is_payload ps ≡ true → length ps ≤ 18
    → ((ws : List ℕ) → Small ws ≡ true → conforming ws rest ≡ true) → conforming vs (until mode (blank v) ps e ++ rest) ≡ true
blank_conforms mode v [] e vs rest small good most later =
    let value = value_at mode (blank v) false in
    conforming_up value (e - 0) 0 vs rest ∙ later (vs ++ values value 0 (e - 0)) (small_both vs (values value 0 (e - 0)) small (small_values value (value_small mode (blank v) false) (e - 0) 0))
blank_conforms mode v (p ∷ ps) e vs rest small good most later =
    let value = value_at mode (blank v) true in
    let x = 16 + 32 * length (p ∷ ps) in
    ap (conforming vs) (append_assoc (columns value 0 12) (packets (island_of mode (blank v) (p ∷ ps)) ∷ columns value x e) rest)
    ∙ to_island mode (blank v) (p ∷ ps) vs (columns value x e ++ rest) small good (omega arith) most (λ i le lt. refl)
    (conforming_up value (e - x) x [] rest ∙ later (values value x (e - x)) (small_values value (value_small mode (blank v) true) (e - x) x))

-- Up to a row: its preamble is there.
to_row : (mode : Mode) → IsMode mode → (line : Line) → has_row line ≡ true → (has : Bool) (vs : List ℕ) (x : ℕ) (rest : List Part) → Small vs ≡ true → x + 12 ≤ guard_at mode
    → ((ws : List ℕ) → enough ws ≡ true → has_preamble 1 ws ≡ true → conforming ws rest ≡ true) → conforming vs (columns (value_at mode line has) x (guard_at mode) ++ rest) ≡ true
to_row mode ok line is has vs x rest small le later =
    let value = value_at mode line has in
    let g = guard_at mode in
    let ws = vs ++ values value x (g - x) in
    let l = length-append vs (values value x (g - x)) in
    let k = length_values value (g - x) x in
    let n : g - x ≡ (g - x - 8) + 8 = omega (arith, le) in
    let at : x + (g - x - 8) ≡ g - 8 = omega (arith, le) in
    let split : ws ≡ (vs ++ values value x (g - x - 8)) ++ values value (g - 8) 8 =
    ap (λ (m : ℕ). vs ++ values value x m) n ∙ ap (λ (us : List ℕ). vs ++ us) (up_values value (g - x - 8) 8 x ∙ ap (λ (m : ℕ). values value x (g - x - 8) ++ values value m 8) at)
    ∙ sym (append_assoc vs (values value x (g - x - 8)) (values value (g - 8) 8)) in
    conforming_up value (g - x) x vs rest
    ∙ later ws (both (Small ws) (nat_le 12 (length ws)) (small_both vs (values value x (g - x)) small (small_values value (value_small mode line has) (g - x) x)) (le-leb 12 (length ws) (omega (arith, l, k, le))))
    (ap (has_preamble 1) split ∙ eight_values 1 value (vs ++ values value x (g - x - 8)) (g - 8)
    (λ i from to. value_ctl mode line has i ∙ ap₂ (λ (a b : Bool). cond (a && b) 1 (cond (has && is_within i 4 12) 5 0)) is (within i (g - 8) g from (omega (arith, to, le)))))

row_until : (mode : Mode) → IsMode mode → (bytes : List ℕ) (ps : List Packet) (vs : List ℕ) (rest : List Part) → Small vs ≡ true → list_all is_payload ps ≡ true → length ps ≤ 18 → (1 ≤ length ps → 28 + 32 * length ps ≤ guard_at mode)
    → ((ws : List ℕ) → enough ws ≡ true → has_preamble 1 ws ≡ true → conforming ws rest ≡ true) → conforming vs (until mode (row_line bytes) ps (guard_at mode) ++ rest) ≡ true
row_until mode ok bytes [] vs rest small good most leaves later = to_row mode ok (row_line bytes) refl false vs 0 rest small (omega (arith, ok.back_columns, ok.sync_columns)) later
row_until mode ok bytes (p ∷ ps) vs rest small good most leaves later =
    let value = value_at mode (row_line bytes) true in
    let x = 16 + 32 * length (p ∷ ps) in
    let f : 28 + 32 * length (p ∷ ps) ≤ guard_at mode = leaves (omega arith) in
    ap (conforming vs) (append_assoc (columns value 0 12) (packets (island_of mode (row_line bytes) (p ∷ ps)) ∷ columns value x (guard_at mode)) rest)
    ∙ to_island mode (row_line bytes) (p ∷ ps) vs (columns value x (guard_at mode) ++ rest) small good (omega arith) most
    (λ i le lt. before_within i (guard_at mode - 8) (guard_at mode) (omega (arith, lt, f)))
    (to_row mode ok (row_line bytes) refl true [] x rest refl (omega (arith, f)) later)

-- The row itself, and the columns after it.
row_first : (bytes : List ℕ) (ws : List ℕ) (rest : List Part) → enough ws ≡ true → has_preamble 1 ws ≡ true → is_video_period bytes ≡ true → conforming [] rest ≡ true → conforming ws (pixels bytes ∷ rest) ≡ true
unfolding conforming
row_first bytes ws rest h p v later = both (enough ws) _ h (both (has_preamble 1 ws) _ p (both (is_video_period bytes) (conforming [] rest) v later))

video_good : (width : ℕ) (bytes : List ℕ) → length bytes ≡ 3 * width → 1 ≤ width → width ≤ 4096 → are_bytes bytes ≡ true → is_video_period bytes ≡ true
unfolding is_video_period
video_good width bytes long least most h =
    both (are_bytes bytes) _ h (both (length bytes % 3 == 0) _ (eq_true (length bytes % 3) 0 (omega (arith, long)))
    (both (nat_le 1 (length bytes / 3)) (nat_le (length bytes / 3) 4096) (le-leb 1 (length bytes / 3) (omega (arith, long, least))) (le-leb (length bytes / 3) 4096 (omega (arith, long, most)))))

few_row : (mode : Mode) (ps : List Packet) → length (take (row_room mode) ps) ≤ 18
few_row mode ps = omega (arith, length-take (row_room mode) ps)

leaves_row : (mode : Mode) (ps : List Packet) → 1 ≤ length (take (row_room mode) ps) → 28 + 32 * length (take (row_room mode) ps) ≤ guard_at mode
leaves_row mode ps least = omega (arith, length-take (row_room mode) ps, least)

row_conforms : (mode : Mode) → IsMode mode → (bytes : List ℕ) → length bytes ≡ 3 * active mode.across → are_bytes bytes ≡ true → (ps : List Packet) (vs : List ℕ) (rest : List Part) → Small vs ≡ true → list_all is_payload ps ≡ true
    → ((ws : List ℕ) → Small ws ≡ true → conforming ws rest ≡ true) → conforming vs (whole mode (row_line bytes) (take (room mode (row_line bytes)) ps) (Some bytes) ++ rest) ≡ true
row_conforms mode ok bytes long are ps vs rest small good later =
    let line = row_line bytes in
    let qs = take (room mode line) ps in
    let value = λ (x : ℕ). sync_at mode line x in
    let x = sync mode.across + back mode.across + active mode.across in
    let e = total mode.across in
    ap (conforming vs) (append_assoc (until mode line qs (guard_at mode)) (pixels bytes ∷ columns value x e) rest)
    ∙ row_until mode ok bytes qs vs (pixels bytes ∷ (columns value x e ++ rest)) small (payload_take (room mode line) ps good) (few_row mode ps) (leaves_row mode ps)
    (λ ws h p. row_first bytes ws (columns value x e ++ rest) h p (video_good (active mode.across) bytes long ok.active_columns ok.few_columns are)
    (conforming_up value (e - x) x [] rest ∙ later (values value x (e - x)) (small_values value (sync_narrow mode line) (e - x) x)))

-- Lines.

unfoldable Goes : List Part → Type 0
Goes rest = (ws : List ℕ) → Small ws ≡ true → conforming ws rest ≡ true

blanks_conform : (mode : Mode) (v : Bool) (n : ℕ) (ps : List Packet) (rest : List Part) → list_all is_payload ps ≡ true → Goes rest → Goes (laid mode (replicate n (blank v)) ps ++ rest)
unfolding laid Goes
blanks_conform mode v zero ps rest good later = later
blanks_conform mode v (suc n) ps rest good later = grind (arith, conforming, append_assoc, blank_conforms, payload_take, payload_drop, length-take, blanks_conform mode v n)

rows_conform : (mode : Mode) → IsMode mode → (rows : List (List ℕ)) → AreRows (active mode.across) rows → list_all are_bytes rows ≡ true → (ps : List Packet) (rest : List Part) → list_all is_payload ps ≡ true → Goes rest → Goes (laid mode (map row_line rows) ps ++ rest)
unfolding laid Goes
rows_conform mode ok [] are bytes ps rest good later = later
rows_conform mode ok (row ∷ rows) are bytes ps rest good later = λ ws small.
    let line = row_line row in
    grind (arith, conforming, append_assoc, row_conforms, long_row, and-left, and-right, payload_drop, rows_conform mode ok rows)

payload_left : (mode : Mode) (lines : List Line) (ps : List Packet) → list_all is_payload ps ≡ true → list_all is_payload (left mode lines ps) ≡ true
unfolding left
payload_left mode [] ps h = h
payload_left mode (line ∷ lines) ps h = payload_left mode lines (drop (room mode line) ps) (payload_drop (room mode line) ps h)

same_small : (v n : ℕ) → nat_lt v 64 ≡ true → Small (replicate n v) ≡ true
same_small v zero h = refl
same_small v (suc n) h = both (nat_lt v 64) (Small (replicate n v)) h (same_small v n h)

conforming_same : (v n : ℕ) (vs : List ℕ) → conforming vs (replicate n (column v)) ≡ enough (vs ++ replicate n v)
unfolding conforming
conforming_same v zero vs = ap enough (sym (append-nil vs))
conforming_same v (suc n) vs = conforming_same v n (vs ++ v ∷ []) ∙ ap enough (append_assoc vs (v ∷ []) (replicate n v))

final_conforms : (mode : Mode) → Goes (parts_of mode [])
unfolding Goes
final_conforms mode = λ ws small.
    let v = 3 * one_if mode.positive in
    let l = length-append ws (replicate 32 v) in
    ap (conforming ws) (parts_none mode) ∙ conforming_same v 32 ws
    ∙ both (Small (ws ++ replicate 32 v)) (nat_le 12 (length (ws ++ replicate 32 v))) (small_both ws (replicate 32 v) small (same_small v 32 (final_small mode.positive))) (le-leb 12 (length (ws ++ replicate 32 v)) (omega (arith, l)))

parts_conform : (mode : Mode) → IsMode mode → (frames : List Frame) → AreFrames mode frames → are_content frames ≡ true → Goes (parts_of mode frames)
parts_conform mode ok [] are content = final_conforms mode
parts_conform mode ok (f ∷ frames) are content = grind (arith, and-left, and-right, payload_left, after_sync, after_back, parts_more, blanks_conform, rows_conform, parts_conform mode ok frames)

goes : (parts : List Part) → Goes parts → conforming [] parts ≡ true
unfolding Goes
goes parts h = h [] refl

pub conforms_by : (mode : Mode) → IsMode mode → (frames : List Frame) → AreFrames mode frames → are_content frames ≡ true → IsConforming (raster_of mode frames)
unfolding raster_of
conforms_by mode ok frames are content = gathered_conforms (parts_of mode frames) [] (goes (parts_of mode frames) (parts_conform mode ok frames are content))
