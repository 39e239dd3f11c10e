-- What is relayed of columns that conforming periods spell.
use Rattle.std.proofs.Common.{◌≡◌, ℕ, zero, suc, ◌+◌, ◌-◌, ◌*◌, ◌/◌, ◌%◌, ◌<◌, ◌≤◌, Bool, true, false, not, cond, ◌==◌, List, [], ◌∷◌, ◌++◌, length, map, take, drop, replicate, refl, ap, ap₂, sym, ◌∙◌, subst, arith, eq-eqb}
use Rattle.std.specs.Prelude.{nat_lt, nat_le, reverse}
use Rattle.std.specs.List.{list_all, fold}
use Rattle.std.proofs.lemmas.Bool.{and_parts, and_from, lt-ltb, le-leb, leb-true, eqb-true, ltb-true}
use Rattle.std.proofs.lemmas.List.{append_assoc, append-nil, map-append, length-append, length-map, length-drop, length-reverse, take_all, take_at, drop_at, take-append-le, take-append-drop, reverse-append, reverse-reverse}
use Rattle.tmds_word.specs.Column.{Column}
use Rattle.tmds_word.proofs.Below.{passes_below, passes_at}
use Rattle.tmds_code.specs.Coding.{decoded_byte}
use Rattle.terc4.specs.Tables.{control_words, terc_words, value_in}
use Rattle.terc4.specs.Columns.{one_if}
use Rattle.island_pack.specs.Nibbles.{nibble_of}
use Rattle.island_pack.specs.Periods.{ControlRun, SyncPair, DataIsland, Period, control, video, island, values_of, ctl, has_preamble, pixels_of, period_columns, columns_of}
use Rattle.island_pack.specs.Conforming.{is_run, is_control_period, is_video_period, is_sync_pair, is_data_island, conforms, are_bytes}
use Rattle.island_pack.specs.Ranges.{is_line_in_range}
use Rattle.island_pack.specs.Packets.{CarriesFreely}
use Rattle.island_pack.specs.Taken.{first_lost, spotless}
use Rattle.island_pack.specs.Repaired.{packet_in, verdicts_in, verdicts_of}
use Rattle.island_pack.specs.Runs.{longest}
use Rattle.island_pack.specs.Sparse.{unlike_words}
use Rattle.island_pack.specs.Spelling.{control_column, guard_column, column_words, SpellsPixels, SpellsVideo, SpellsPacketsBy, SpellsIslandBy, SpellsPeriodBy, SpellsBy, freely}
use Rattle.island_pack.specs.declared.packet.Packet.{Packet}
use Rattle.island_pack.specs.declared.packet.PacketVerdicts.{PacketVerdicts}
use Rattle.island_pack.proofs.Runs.{values_longest}
use Rattle.period_grammar.specs.Column.{control_bits, value_of, sync_digit}
use Rattle.period_grammar.specs.Cut.{Run, columns as same_columns, value, in_front, before_runs, runs as runs_in}
use Rattle.period_grammar.specs.Events.{Event}
use Rattle.link_laws.specs.Account.{byte, pixel_bytes, damage, sync_row, packet_row}
use Rattle.link_laws.proofs.Freely.{free_spelled}
use Rattle.link_laws.proofs.PacketRow.{one_is_as_sent}
use Rattle.relay.proofs.Below.{Facts}
use Rattle.relay.specs.Relayed.{Judged, WholeIsland, RelayedPart, some_line, some_island, sure, with_nulls, nulled, Data, a_line, an_island, Turn, Alternation, ended, joined, none, gathered, on_turn, filled, lengthened, with_ctl, announcing, preamble_of, announced_turn, period_of, periods_in, settled, conformed, kept, relayed}
use Rattle.relay.specs.Received.{runs_kept, packets_received, digits_of, island_received, period_received, received_from, received_at, reception}
use Rattle.relay.specs.Own.{normal, cut_first, OwnRelayed, RelayedAgain, WholeRelayed}
use Rattle.relay.proofs.Sound.{Small}
use Rattle.relay.proofs.Lists.{all_both, all_same, all_take, all_drop, all_reverse}
use Rattle.relay.proofs.Conforming.{control_sound, relayed_conforms}
use Rattle.relay.proofs.Gaining.{fold_both}
use Rattle.relay.proofs.Accounting.{pixel_count, relayed_account}

abbrev folded : Alternation → List RelayedPart → Alternation
folded t ks = fold joined t (nulled ks)

folded_both : (t : Alternation) (ks ls : List RelayedPart) → folded t (ks ++ ls) ≡ folded (folded t ks) ls
unfolding nulled
folded_both t ks ls = ap (fold joined t) (map-append with_nulls ks ls) ∙ fold_both t (map with_nulls ks) (map with_nulls ls)

-- Control columns.

abbrev longer : Alternation → List ℕ → Alternation
longer t vs = record { turns = t.turns; last = t.last ++ vs }

abbrev values_kept : List Run → List ℕ
values_kept [] = []
values_kept (same_columns v cs ∷ rs) = replicate (length cs) v ++ values_kept rs

runs_fold : (t : Alternation) (rs : List Run) → folded t (runs_kept rs) ≡ longer t (values_kept rs)
unfolding nulled runs_kept
runs_fold t [] = ap (λ (vs : List ℕ). record { turns = t.turns; last = vs }) (sym (append-nil t.last))
runs_fold t (same_columns v cs ∷ rs) =
    runs_fold (longer t (replicate (length cs) v)) rs
    ∙ ap (λ (vs : List ℕ). record { turns = t.turns; last = vs }) (append_assoc t.last (replicate (length cs) v) (values_kept rs))

front_values : (q : Bool) (c : Column) (r : Run) (rs : List Run) → (value_of c == value r) ≡ q → values_kept (in_front q c r rs) ≡ value_of c ∷ values_kept (r ∷ rs)
front_values q c r rs h = grind (arith, eqb-true)

before_values : (c : Column) (rs : List Run) → values_kept (before_runs c rs) ≡ value_of c ∷ values_kept rs
before_values c rs = grind (arith, front_values)

runs_values : (cs : List Column) → values_kept (runs_in cs) ≡ map value_of cs
unfolding runs_in
runs_values [] = refl
runs_values (c ∷ cs) = before_values c (runs_in cs) ∙ ap (λ vs. value_of c ∷ vs) (runs_values cs)

pub control_fold : (t : Alternation) (cs : List Column) → folded t (runs_kept (runs_in cs)) ≡ longer t (map value_of cs)
control_fold t cs = runs_fold t (runs_in cs) ∙ ap (longer t) (runs_values cs)

value_test : passes_below 64 (λ v. value_of (control_column v) == v) ≡ true
unfolding passes_below control_words value_in value_of control_bits
value_test = refl

values_back : (vs : List ℕ) → Small vs → map value_of (map control_column vs) ≡ vs
values_back [] h = refl
values_back (v ∷ vs) h =
    let p = and_parts (nat_lt v 64) (list_all (λ v. nat_lt v 64) vs) h in
    ap₂ (λ (w : ℕ) (ws : List ℕ). w ∷ ws) (eqb-true (value_of (control_column v)) v (passes_at 64 (λ v. value_of (control_column v) == v) v value_test (ltb-true v 64 p.0))) (values_back vs p.1)

small_runs : (rs : List ControlRun) → list_all is_run rs ≡ true → Small (values_of rs)
unfolding values_of
small_runs [] h = refl
small_runs (r ∷ rs) h = grind (arith, and_parts, all_both, all_same, small_runs rs)

-- A line.

own_byte : (b s : ℕ) → byte b s s ≡ b
own_byte b s = ap (λ (same : Bool). cond same b (decoded_byte s)) (eq-eqb s s refl)

own_bytes : (bytes : List ℕ) (cs : List Column) → length bytes % 3 ≡ 0 → length cs ≡ length (pixels_of bytes) → pixel_bytes (pixels_of bytes) cs cs ≡ bytes
unfolding pixels_of pixel_bytes
own_bytes [] cs whole long = refl
own_bytes (r ∷ []) cs whole long = absurd (omega (arith, whole))
own_bytes (r ∷ (g ∷ [])) cs whole long = absurd (omega (arith, whole))
own_bytes (r ∷ (g ∷ (b ∷ bytes))) [] whole long = absurd (omega (arith, long))
own_bytes (r ∷ (g ∷ (b ∷ bytes))) (c ∷ cs) whole long = grind (arith, own_byte, own_bytes bytes cs)

three : (bytes : List ℕ) → is_video_period bytes ≡ true → length bytes % 3 ≡ 0
unfolding is_video_period
three bytes h =
    let p = and_parts (are_bytes bytes) _ h in
    eqb-true _ 0 (and_parts (length bytes % 3 == 0) (is_line_in_range (length bytes / 3)) p.1).0

pixels_long : (bytes : List ℕ) (pp : List Column) → SpellsPixels (pixels_of bytes) pp → length pp ≡ length (pixels_of bytes)
pixels_long bytes pp h = sym (length-map pp (λ c. c.blue)) ∙ h.blue.same_length ∙ length-map (pixels_of bytes) (λ p. p.blue)

video_long : (bytes : List ℕ) (own : List Column) → SpellsVideo bytes own → length own ≡ 2 + length bytes / 3
video_long bytes own h = let a = ap length h.1 in let b = pixels_long bytes h.0 h.2 in let c = pixel_count bytes in omega arith

pub own_video : (bytes : List ℕ) (own : List Column) (m : ℕ) → is_video_period bytes ≡ true → SpellsVideo bytes own → 2 + length bytes / 3 < m → period_received m (video bytes) own own ≡ some_line bytes ∷ []
unfolding period_received period_columns
own_video bytes own m v h lt = grind (arith, lt-ltb, own_bytes, three, pixels_long)

-- An island.

sync_test : passes_below 4 (λ v. sync_digit (guard_column v).blue == v) ≡ true
unfolding passes_below sync_digit nibble_of value_in terc_words
sync_test = refl

sync_back : (v : ℕ) → nat_lt v 4 ≡ true → sync_digit (guard_column v).blue ≡ v
sync_back v h = eqb-true (sync_digit (guard_column v).blue) v (passes_at 4 (λ v. sync_digit (guard_column v).blue == v) v sync_test (ltb-true v 4 h))

guards_back : (pair : SyncPair) (rest : List Column) → is_sync_pair pair ≡ true → digits_of (guard_column pair.first ∷ (guard_column pair.second ∷ rest)) ≡ pair
unfolding digits_of
guards_back pair rest h =
    let p = and_parts (nat_lt pair.first 4) (nat_lt pair.second 4) h in
    ap₂ (λ (a b : ℕ). record { first = a; second = b }) (sync_back pair.first p.0) (sync_back pair.second p.1)

none_unlike : (ws : List ℕ) → unlike_words ws ws ≡ 0
unfolding unlike_words one_if
none_unlike [] = refl
none_unlike (w ∷ ws) = ap₂ (λ (b : Bool) (n : ℕ). one_if (not b) + n) (eq-eqb w w refl) (none_unlike ws)

own_damage : (cs : List Column) → damage cs cs ≡ 0
unfolding damage
own_damage [] = refl
own_damage (c ∷ cs) = ap₂ (λ (n m : ℕ). n + m) (none_unlike (column_words c)) (own_damage cs)

own_sync : (vs : List ℕ) (cs : List Column) → length vs ≡ length cs → sync_row vs cs cs ≡ vs
unfolding sync_row
own_sync [] cs long = refl
own_sync (v ∷ vs) [] long = absurd (omega (arith, long))
own_sync (v ∷ vs) (c ∷ cs) long =
    ap₂ (λ (w : ℕ) (ws : List ℕ). w ∷ ws) (ap (λ (same : Bool). cond same v (sync_digit c.blue)) (eq-eqb c.blue c.blue refl)) (own_sync vs cs (omega (arith, long)))

packet_long : (p : Packet) (own : List Column) → CarriesFreely p (map column_words own) → length own ≡ 32
packet_long p own c = sym (length-map own column_words) ∙ c.count

own_packet : (p : Packet) (own : List Column) → CarriesFreely p (map column_words own) → packet_row p own own ≡ p
unfolding packet_row
own_packet p own c = grind (arith, own_damage, packet_long, one_is_as_sent, own_sync)

own_verdicts : Facts → (p : Packet) (own : List Column) → CarriesFreely p (map column_words own) → verdicts_of own ≡ spotless
own_verdicts f p own c = (f.clean p (packet_in (map column_words own)) (verdicts_in (map column_words own)) (map column_words own) c (f.taken (map column_words own) c.count)).1

abbrev clean_one : Packet → Judged
clean_one p = record { packet = p; verdicts = spotless }

packets_long : (first : Bool) (ps : List Packet) (pp : List Column) → SpellsPacketsBy freely first ps pp → length pp ≡ 32 * length ps
packets_long first [] pp h = ap length h
packets_long first (p ∷ ps) pp h =
    let a = ap length h.2 in
    let b = length-append h.0 h.1 in
    let c = packet_long p h.0 h.3 in
    let d = packets_long false ps h.1 h.4 in
    omega arith

packets_own : Facts → (first : Bool) (ps : List Packet) (pp later : List Column) → SpellsPacketsBy freely first ps pp → packets_received ps (pp ++ later) (pp ++ later) ≡ map clean_one ps
unfolding packets_received
packets_own f first [] pp later h = refl
packets_own f first (p ∷ ps) pp later h =
    let own = h.0 in
    let rest = h.1 in
    let n = packet_long p own h.3 in
    let all = pp ++ later in
    let e : all ≡ own ++ (rest ++ later) = ap (λ cs. cs ++ later) h.2 ∙ append_assoc own rest later in
    let t : take 32 all ≡ own = ap (take 32) e ∙ take_at own (rest ++ later) 32 n in
    let d : drop 32 all ≡ rest ++ later = ap (drop 32) e ∙ drop_at own (rest ++ later) 32 n in
    ap₂ (λ (a b : List Column). record { packet = packet_row p a a; verdicts = verdicts_of a } ∷ packets_received ps b b) t d
    ∙ ap₂ (λ (q : Packet) (v : PacketVerdicts). record { packet = q; verdicts = v } ∷ packets_received ps (rest ++ later) (rest ++ later)) (own_packet p own h.3) (own_verdicts f p own h.3)
    ∙ ap (λ js. clean_one p ∷ js) (packets_own f false ps rest later h.4)

abbrev clean_island : DataIsland → WholeIsland
clean_island x = record { opening = x.opening; packets = map clean_one x.packets; closing = x.closing }

sure_back : (ps : List Packet) → map (λ p. p.packet) (map sure (map clean_one ps)) ≡ ps
unfolding first_lost
sure_back [] = refl
sure_back (p ∷ ps) = ap (λ qs. p ∷ qs) (sure_back ps)

island_fold : (t : Alternation) (x : DataIsland) → folded t (some_island (clean_island x) ∷ []) ≡ ended t (an_island x)
unfolding nulled
island_fold t x = ap (λ (ps : List Packet). ended t (an_island (record { opening = x.opening; packets = ps; closing = x.closing }))) (sure_back x.packets)

line_fold : (t : Alternation) (bytes : List ℕ) → folded t (some_line bytes ∷ []) ≡ ended t (a_line bytes)
unfolding nulled
line_fold t bytes = refl

island_long : (x : DataIsland) (own : List Column) → SpellsIslandBy freely x own → length own ≡ 4 + 32 * length x.packets
island_long x own h = grind (arith, length-append, packets_long)

own_island : Facts → (x : DataIsland) (own : List Column) (m : ℕ) → is_data_island x ≡ true → SpellsIslandBy freely x own → 4 + 32 * length x.packets ≤ m → period_received m (island x) own own ≡ some_island (clean_island x) ∷ []
unfolding period_received period_columns island_received is_data_island
own_island f x own m v h le = grind (arith, and_parts, packets_long, le-leb, guards_back, packets_own, drop_at)

-- All periods.

abbrev sent_turns : Alternation → List Period → Alternation
sent_turns t [] = t
sent_turns t (control runs ∷ ps) = sent_turns (longer t (values_of runs)) ps
sent_turns t (video bytes ∷ ps) = sent_turns (ended t (a_line bytes)) ps
sent_turns t (island x ∷ ps) = sent_turns (ended t (an_island x)) ps

received_step : (m : ℕ) (p : Period) (ps : List Period) (own rest : List Column) → length own ≡ period_columns p
    → received_from m (p ∷ ps) (own ++ rest) (own ++ rest) ≡ period_received m p own own ++ received_from (m - period_columns p) ps rest rest
unfolding received_from
received_step m p ps own rest h =
    let n = period_columns p in
    ap₂ (λ (a b : List Column). period_received m p a a ++ received_from (m - n) ps b b) (take_at own rest n h) (drop_at own rest n h)

control_step : (t : Alternation) (m : ℕ) (runs : List ControlRun) (own : List Column) → list_all is_run runs ≡ true → own ≡ map control_column (values_of runs) → length own ≤ m
    → folded t (period_received m (control runs) own own) ≡ longer t (values_of runs)
unfolding period_received
control_step t m runs own good h le =
    ap (λ (cs : List Column). folded t (runs_kept (runs_in cs))) (take_all m own le ∙ h)
    ∙ control_fold t (map control_column (values_of runs)) ∙ ap (longer t) (values_back (values_of runs) (small_runs runs good))

control_long : (runs : List ControlRun) (own : List Column) → own ≡ map control_column (values_of runs) → length own ≡ length (values_of runs)
control_long runs own h = ap length h ∙ length-map (values_of runs) control_column

runs_of_period : (runs : List ControlRun) → is_control_period runs ≡ true → (list_all is_run runs ≡ true) × (12 ≤ length (values_of runs))
unfolding is_control_period
runs_of_period runs h =
    let p = and_parts (list_all is_run runs) (nat_le 12 (length (values_of runs))) h in
    (p.0, leb-true 12 (length (values_of runs)) p.1)

first_control : (runs : List ControlRun) (ps : List Period) → conforms (control runs ∷ ps) ≡ true → is_control_period runs ≡ true
unfolding conforms
first_control runs ps h = grind (arith, and_parts)

-- what follows a control period
record IsVideo (runs : List ControlRun) (bytes : List ℕ) (ps : List Period) : Type 0 where
  lead : has_preamble 1 (values_of runs) ≡ true
  own : is_video_period bytes ≡ true
  rest : conforms ps ≡ true

record IsIsland (runs : List ControlRun) (x : DataIsland) (ps : List Period) : Type 0 where
  lead : has_preamble 5 (values_of runs) ≡ true
  own : is_data_island x ≡ true
  rest : conforms ps ≡ true

then_video : (runs : List ControlRun) (bytes : List ℕ) (ps : List Period) → conforms (control runs ∷ (video bytes ∷ ps)) ≡ true → IsVideo runs bytes ps
unfolding conforms
then_video runs bytes ps h = grind (arith, and_parts)

then_island : (runs : List ControlRun) (x : DataIsland) (ps : List Period) → conforms (control runs ∷ (island x ∷ ps)) ≡ true → IsIsland runs x ps
unfolding conforms
then_island runs x ps h = grind (arith, and_parts)

no_periods : conforms [] ≡ false
unfolding conforms
no_periods = refl

no_video : (bytes : List ℕ) (ps : List Period) → conforms (video bytes ∷ ps) ≡ false
unfolding conforms
no_video bytes ps = refl

no_island : (x : DataIsland) (ps : List Period) → conforms (island x ∷ ps) ≡ false
unfolding conforms
no_island x ps = refl

two_controls : (runs more : List ControlRun) (ps : List Period) → conforms (control runs ∷ (control more ∷ ps)) ≡ false
unfolding conforms
two_controls runs more ps = refl

clash : {A : Type 0} (b : Bool) → b ≡ false → b ≡ true → A
clash b e f = let g = sym e ∙ f in absurd cc

-- a control period that stands first, and what follows it
and_on : Facts → (runs : List ControlRun) (ps : List Period) → conforms (control runs ∷ ps) ≡ true → (m : ℕ) (cs : List Column) → SpellsBy freely (control runs ∷ ps) cs → length cs ≤ m → (t : Alternation)
    → ((k : ℕ) (ds : List Column) → SpellsBy freely ps ds → length ds ≤ k → (u : Alternation) → folded u (received_from k ps ds ds) ≡ sent_turns u ps)
    → folded t (received_from m (control runs ∷ ps) cs cs) ≡ sent_turns (longer t (values_of runs)) ps
unfolding period_columns
and_on f runs ps good m cs h le t later = grind (arith, runs_of_period, first_control, control_long, length-append, received_step, folded_both, control_step)

nothing_received : (m : ℕ) (cs : List Column) (t : Alternation) → folded t (received_from m [] cs cs) ≡ t
unfolding received_from nulled
nothing_received m cs t = refl

-- a period that stands first, and what follows it
after_part : (m : ℕ) (p : Period) (ps : List Period) (own rest cs : List Column) (ks : List RelayedPart) (t u v : Alternation) → cs ≡ own ++ rest → length own ≡ period_columns p → period_received m p own own ≡ ks
    → folded t ks ≡ u → folded u (received_from (m - period_columns p) ps rest rest) ≡ v → folded t (received_from m (p ∷ ps) cs cs) ≡ v
after_part m p ps own rest cs ks t u v is long first next last =
    let more = received_from (m - period_columns p) ps rest rest in
    ap (λ (xs : List Column). folded t (received_from m (p ∷ ps) xs xs)) is
    ∙ ap (folded t) (received_step m p ps own rest long ∙ ap (λ ls. ls ++ more) first)
    ∙ folded_both t ks more
    ∙ ap (λ w. folded w more) next
    ∙ last

own_tail : Facts → (before : List ControlRun) (ps : List Period) → conforms (control before ∷ ps) ≡ true → (m : ℕ) (cs : List Column) → SpellsBy freely ps cs → length cs ≤ m → (t : Alternation)
    → folded t (received_from m ps cs cs) ≡ sent_turns t ps
unfolding period_columns
own_tail f before [] good m cs h le t = nothing_received m cs t
own_tail f before (control more ∷ ps) good m cs h le t = clash _ (two_controls before more ps) good
own_tail f before (video bytes ∷ []) good m cs h le t = clash _ no_periods (then_video before bytes [] good).rest
own_tail f before (video bytes ∷ (video more ∷ ps)) good m cs h le t = clash _ (no_video more ps) (then_video before bytes (video more ∷ ps) good).rest
own_tail f before (video bytes ∷ (island x ∷ ps)) good m cs h le t = clash _ (no_island x ps) (then_video before bytes (island x ∷ ps) good).rest
own_tail f before (video bytes ∷ (control runs ∷ ps)) good m cs h le t =
    let own = h.0 in
    let rest = h.1 in
    let v = then_video before bytes (control runs ∷ ps) good in
    let n = video_long bytes own h.3 in
    let all = ap length h.2 ∙ length-append own rest in
    let many = runs_of_period runs (first_control runs ps v.rest) in
    let more = ap length h.4.2 ∙ length-append h.4.0 h.4.1 in
    let first = control_long runs h.4.0 h.4.3 in
    after_part m (video bytes) (control runs ∷ ps) own rest cs _ t _ _ h.2 n (own_video bytes own m v.own h.3 (omega (arith, le, all, n, many.1, more, first))) (line_fold t bytes)
    (and_on f runs ps v.rest (m - (2 + length bytes / 3)) rest h.4 (omega (arith, le, all, n)) (ended t (a_line bytes)) (own_tail f runs ps v.rest))
own_tail f before (island x ∷ []) good m cs h le t = clash _ no_periods (then_island before x [] good).rest
own_tail f before (island x ∷ (video more ∷ ps)) good m cs h le t = clash _ (no_video more ps) (then_island before x (video more ∷ ps) good).rest
own_tail f before (island x ∷ (island y ∷ ps)) good m cs h le t = clash _ (no_island y ps) (then_island before x (island y ∷ ps) good).rest
own_tail f before (island x ∷ (control runs ∷ ps)) good m cs h le t =
    let v = then_island before x (control runs ∷ ps) good in
    let n = island_long x h.0 h.3 in
    let all = ap length h.2 ∙ length-append h.0 h.1 in
    after_part m (island x) (control runs ∷ ps) h.0 h.1 cs _ t _ _ h.2 n (own_island f x h.0 m v.own h.3 (omega (arith, le, all, n))) (island_fold t x)
    (and_on f runs ps v.rest (m - (4 + 32 * length x.packets)) h.1 h.4 (omega (arith, le, all, n)) (ended t (an_island x)) (own_tail f runs ps v.rest))

-- Rules 4 to 6 change nothing.

abbrev settled_values : List ℕ → List ℕ
settled_values vs = lengthened (filled vs)

long_same : (vs : List ℕ) → 12 ≤ length vs → settled_values vs ≡ vs
long_same vs h = grind arith

ctl_same : (bits : ℕ) (us : List ℕ) → Small us → list_all (λ v. ctl v == bits) us ≡ true → map (with_ctl bits) us ≡ us
ctl_same bits [] s h = refl
ctl_same bits (u ∷ us) s h = grind (arith, and_parts, ltb-true, eqb-true, ctl_same bits us)

announced_same : (bits : ℕ) (vs : List ℕ) → Small vs → has_preamble bits vs ≡ true → announcing bits vs ≡ vs
unfolding announcing has_preamble
announced_same bits vs s h =
    let r = reverse vs in
    let p = and_parts (nat_le 8 (length vs)) (list_all (λ v. ctl v == bits) (take 8 r)) h in
    ap (λ us. reverse (us ++ drop 8 r)) (ctl_same bits (take 8 r) (all_take (λ v. nat_lt v 64) 8 r (all_reverse (λ v. nat_lt v 64) vs s)) p.1)
    ∙ ap reverse (take-append-drop 8 r) ∙ reverse-reverse vs

abbrev whole_turn : Turn → Turn
whole_turn x = announced_turn (on_turn lengthened (on_turn filled x))

abbrev front : List Turn → List Period
front [] = []
front (x ∷ xs) = control (longest (whole_turn x).values) ∷ (period_of x.inner ∷ front xs)

front_both : (xs ys : List Turn) → front (xs ++ ys) ≡ front xs ++ front ys
front_both [] ys = refl
front_both (x ∷ xs) ys = ap (λ ps. control (longest (whole_turn x).values) ∷ (period_of x.inner ∷ ps)) (front_both xs ys)

settled_in : (xs : List Turn) (last : List ℕ) → periods_in (map announced_turn (map (on_turn lengthened) (map (on_turn filled) xs))) (settled_values last) ≡ front xs ++ control (longest (settled_values last)) ∷ []
settled_in [] last = refl
settled_in (x ∷ xs) last = ap (λ ps. control (longest (whole_turn x).values) ∷ (period_of x.inner ∷ ps)) (settled_in xs last)

settled_is : (t : Alternation) → settled t ≡ front t.turns ++ control (longest (settled_values t.last)) ∷ []
unfolding settled
settled_is t = settled_in t.turns t.last

turn_same : (runs : List ControlRun) (d : Data) → is_control_period runs ≡ true → has_preamble (preamble_of d) (values_of runs) ≡ true
    → front (record { values = values_of runs; inner = d } ∷ []) ≡ control (longest (values_of runs)) ∷ (period_of d ∷ [])
turn_same runs d c h =
    let p = runs_of_period runs c in
    ap (λ vs. control (longest vs) ∷ (period_of d ∷ [])) (ap (announcing (preamble_of d)) (long_same (values_of runs) p.1) ∙ announced_same (preamble_of d) (values_of runs) (small_runs runs p.0) h)

abbrev at_turns : List Turn → List ℕ → Alternation
at_turns ts vs = record { turns = ts; last = vs }

-- after a turn more
turned : (ts : List Turn) (runs : List ControlRun) (d : Data) (ps : List Period) → is_control_period runs ≡ true → has_preamble (preamble_of d) (values_of runs) ≡ true
    → front (ts ++ record { values = values_of runs; inner = d } ∷ []) ++ ps ≡ front ts ++ control (longest (values_of runs)) ∷ (period_of d ∷ ps)
turned ts runs d ps c h =
    ap (λ qs. qs ++ ps) (front_both ts (record { values = values_of runs; inner = d } ∷ []) ∙ ap (λ qs. front ts ++ qs) (turn_same runs d c h))
    ∙ append_assoc (front ts) (control (longest (values_of runs)) ∷ (period_of d ∷ [])) ps

sent_settled : (ts : List Turn) (runs : List ControlRun) (ps : List Period) → conforms (control runs ∷ ps) ≡ true → settled (sent_turns (at_turns ts (values_of runs)) ps) ≡ front ts ++ normal (control runs ∷ ps)
unfolding normal
sent_settled ts runs [] good =
    let p = runs_of_period runs (first_control runs [] good) in
    settled_is (at_turns ts (values_of runs)) ∙ ap (λ vs. front ts ++ control (longest vs) ∷ []) (long_same (values_of runs) p.1)
sent_settled ts runs (control more ∷ ps) good = clash _ (two_controls runs more ps) good
sent_settled ts runs (video bytes ∷ []) good = clash _ no_periods (then_video runs bytes [] good).rest
sent_settled ts runs (video bytes ∷ (video more ∷ ps)) good = clash _ (no_video more ps) (then_video runs bytes (video more ∷ ps) good).rest
sent_settled ts runs (video bytes ∷ (island x ∷ ps)) good = clash _ (no_island x ps) (then_video runs bytes (island x ∷ ps) good).rest
sent_settled ts runs (video bytes ∷ (control next ∷ ps)) good =
    let v = then_video runs bytes (control next ∷ ps) good in
    sent_settled (ts ++ record { values = values_of runs; inner = a_line bytes } ∷ []) next ps v.rest
    ∙ turned ts runs (a_line bytes) (normal (control next ∷ ps)) (first_control runs (video bytes ∷ (control next ∷ ps)) good) v.lead
sent_settled ts runs (island x ∷ []) good = clash _ no_periods (then_island runs x [] good).rest
sent_settled ts runs (island x ∷ (video more ∷ ps)) good = clash _ (no_video more ps) (then_island runs x (video more ∷ ps) good).rest
sent_settled ts runs (island x ∷ (island y ∷ ps)) good = clash _ (no_island y ps) (then_island runs x (island y ∷ ps) good).rest
sent_settled ts runs (island x ∷ (control next ∷ ps)) good =
    let v = then_island runs x (control next ∷ ps) good in
    sent_settled (ts ++ record { values = values_of runs; inner = an_island x } ∷ []) next ps v.rest
    ∙ turned ts runs (an_island x) (normal (control next ∷ ps)) (first_control runs (island x ∷ (control next ∷ ps)) good) v.lead

-- The first control period, cut.

preamble_drop : (bits a : ℕ) (vs : List ℕ) → a + 12 ≤ length vs → has_preamble bits vs ≡ true → has_preamble bits (drop a vs) ≡ true
unfolding has_preamble
preamble_drop bits a vs long h =
    let p = and_parts (nat_le 8 (length vs)) (list_all (λ v. ctl v == bits) (take 8 (reverse vs))) h in
    let n = length-drop a vs in
    let m = length-reverse (drop a vs) in
    let e : take 8 (reverse vs) ≡ take 8 (reverse (drop a vs)) =
    ap (λ us. take 8 (reverse us)) (sym (take-append-drop a vs)) ∙ ap (take 8) (reverse-append (take a vs) (drop a vs)) ∙ take-append-le 8 (reverse (drop a vs)) (reverse (take a vs)) (omega arith) in
    and_from _ _ (le-leb 8 (length (drop a vs)) (omega arith)) (subst (λ us. list_all (λ v. ctl v == bits) us ≡ true) e p.1)

abbrev cut_runs : ℕ → List ControlRun → List ControlRun
cut_runs a runs = longest (drop a (values_of runs))

cut_values : (a : ℕ) (runs : List ControlRun) → values_of (cut_runs a runs) ≡ drop a (values_of runs)
cut_values a runs = values_longest (drop a (values_of runs))

cut_control : (a : ℕ) (runs : List ControlRun) → is_control_period runs ≡ true → a + 12 ≤ length (values_of runs) → is_control_period (cut_runs a runs) ≡ true
cut_control a runs c long = grind (arith, runs_of_period, length-drop, control_sound, all_drop, small_runs)

cut_lead : (bits a : ℕ) (runs : List ControlRun) → a + 12 ≤ length (values_of runs) → has_preamble bits (values_of runs) ≡ true → has_preamble bits (values_of (cut_runs a runs)) ≡ true
cut_lead bits a runs long h = subst (λ vs. has_preamble bits vs ≡ true) (sym (cut_values a runs)) (preamble_drop bits a (values_of runs) long h)

cut_conforms : (a : ℕ) (runs : List ControlRun) (ps : List Period) → conforms (control runs ∷ ps) ≡ true → a + 12 ≤ length (values_of runs) → conforms (control (cut_runs a runs) ∷ ps) ≡ true
unfolding conforms
cut_conforms a runs ps h k = grind (arith, cut_control, then_video, and_from, and_parts, cut_lead, then_island)

map-drop : (a : ℕ) (cs : List Column) → map value_of (drop a cs) ≡ drop a (map value_of cs)
map-drop zero cs = refl
map-drop (suc a) [] = refl
map-drop (suc a) (c ∷ cs) = map-drop a cs

normal_cut : (a : ℕ) (runs : List ControlRun) (ps : List Period) → normal (control (cut_runs a runs) ∷ ps) ≡ normal (cut_first a (control runs ∷ ps))
unfolding cut_first
normal_cut a runs ps = refl

pub own_relayed : Facts → OwnRelayed
unfolding reception received_at conformed gathered period_columns
own_relayed f runs ps cs good h a m long le =
    let vs = values_of runs in
    let n = length vs in
    let own = h.0 in
    let rest = h.1 in
    let c = control_long runs own h.3 in
    let all = ap length h.2 ∙ length-append own rest in
    let parts = runs_of_period runs (first_control runs ps good) in
    let back = ap (map value_of) h.3 ∙ values_back vs (small_runs runs parts.0) in
    let first = drop a own in
    let d = length-drop a own in
    let k = m - (n - a) in
    let start = at_turns [] (drop a vs) in
    let good2 = cut_conforms a runs ps good long in
    ap settled (
    ap (folded none) (
    ap (λ q. cond q (runs_kept (runs_in (take m (drop a (take n cs)))) ++ received_from k ps (drop n cs) (drop n cs)) (reception ps (drop n cs) (drop n cs) (a - n) m)) (lt-ltb a n (omega arith))
    ∙ ap (λ (xs : List Column). runs_kept (runs_in (take m (drop a (take n xs)))) ++ received_from k ps (drop n xs) (drop n xs)) h.2
    ∙ ap₂ (λ (xs ys : List Column). runs_kept (runs_in (take m (drop a xs))) ++ received_from k ps ys ys) (take_at own rest n c) (drop_at own rest n c)
    ∙ ap (λ (xs : List Column). runs_kept (runs_in xs) ++ received_from k ps rest rest) (take_all m first (omega arith))
    )
    ∙ folded_both none (runs_kept (runs_in first)) (received_from k ps rest rest)
    ∙ ap (λ u. folded u (received_from k ps rest rest)) (control_fold none first ∙ ap (at_turns []) (map-drop a own ∙ ap (drop a) back))
    ∙ own_tail f runs ps good k rest h.4 (omega arith) start
    )
    ∙ ap (λ (us : List ℕ). settled (sent_turns (at_turns [] us) ps)) (sym (cut_values a runs))
    ∙ sent_settled [] (cut_runs a runs) ps good2
    ∙ normal_cut a runs ps

-- What was relayed, again.

abbrev tail : List Period → List Period
tail [] = []
tail (p ∷ ps) = ps

period_long : (p : Period) (own : List Column) → SpellsPeriodBy freely p own → length own ≡ period_columns p
unfolding period_columns
period_long p own h = grind (arith, control_long, video_long, island_long)

pub spelled_long : (ps : List Period) (cs : List Column) → SpellsBy freely ps cs → length cs ≡ columns_of ps
unfolding columns_of
spelled_long [] cs h = ap length h
spelled_long (p ∷ ps) cs h = grind (arith, length-append, period_long, spelled_long ps)

normal_inner : (d : Data) (ps : List Period) → normal (period_of d ∷ ps) ≡ period_of d ∷ normal ps
unfolding normal
normal_inner d ps = grind arith

normal_turn : (x : Turn) (ps : List Period) → normal ps ≡ ps → normal (control (longest (whole_turn x).values) ∷ (period_of x.inner ∷ ps)) ≡ control (longest (whole_turn x).values) ∷ (period_of x.inner ∷ ps)
unfolding normal
normal_turn x ps e =
    ap₂ (λ (us : List ℕ) (qs : List Period). control (longest us) ∷ qs) (values_longest (whole_turn x).values) (normal_inner x.inner ps ∙ ap (λ qs. period_of x.inner ∷ qs) e)

normal_front : (xs : List Turn) (vs : List ℕ) → normal (front xs ++ control (longest vs) ∷ []) ≡ front xs ++ control (longest vs) ∷ []
unfolding normal
normal_front [] vs = ap (λ us. control (longest us) ∷ []) (values_longest vs)
normal_front (x ∷ xs) vs = normal_turn x (front xs ++ control (longest vs) ∷ []) (normal_front xs vs)

pub normal_relayed : (reported : List Event) → normal (relayed reported) ≡ relayed reported
unfolding relayed conformed
normal_relayed reported = let t = gathered (nulled (kept reported)) in ap normal (settled_is t) ∙ normal_front t.turns (settled_values t.last) ∙ sym (settled_is t)

normal_first : (a : ℕ) (runs : List ControlRun) (ps : List Period) → normal (control runs ∷ ps) ≡ control runs ∷ ps → normal (cut_first a (control runs ∷ ps)) ≡ cut_first a (control runs ∷ ps)
unfolding normal cut_first
normal_first a runs ps e = ap₂ (λ (us : List ControlRun) (qs : List Period). control us ∷ qs) (ap longest (values_longest (drop a (values_of runs)))) (ap tail e)

pub relayed_again : Facts → RelayedAgain
relayed_again f reported runs ps is cs h a m long le = grind (arith, relayed_conforms, free_spelled, spelled_long, normal_relayed, relayed_account, own_relayed, normal_first)

-- Columns that are spelled whole.

freely_normal : (ps : List Period) (cs : List Column) → SpellsBy freely ps cs → SpellsBy freely (normal ps) cs
unfolding normal
freely_normal [] cs h = h
freely_normal (control runs ∷ ps) cs h = (h.0, h.1, h.2, h.3 ∙ ap (map control_column) (sym (values_longest (values_of runs))), freely_normal ps h.1 h.4)
freely_normal (video bytes ∷ ps) cs h = (h.0, h.1, h.2, h.3, freely_normal ps h.1 h.4)
freely_normal (island x ∷ ps) cs h = (h.0, h.1, h.2, h.3, freely_normal ps h.1 h.4)

freely_cut : (runs : List ControlRun) (ps : List Period) (cs : List Column) → SpellsBy freely (control runs ∷ ps) cs → SpellsBy freely (cut_first 0 (control runs ∷ ps)) cs
unfolding cut_first
freely_cut runs ps cs h = (h.0, h.1, h.2, h.3 ∙ ap (map control_column) (sym (values_longest (values_of runs))), h.4)

pub whole_relayed : Facts → WholeRelayed
whole_relayed f cs w reported =
    let ps = control w.runs ∷ w.periods in
    let n = spelled_long ps cs w.spells in
    let parts = runs_of_period w.runs (first_control w.runs w.periods w.conforming) in
    grind (arith, relayed_account, own_relayed, freely_normal, freely_cut)
