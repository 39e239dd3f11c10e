-- What is reported of one period's columns, and at which column each event.
use Rattle.std.proofs.Common.{◌≡◌, ℕ, ◌+◌, ◌*◌, ◌-◌, ◌≤◌, Bool, true, false, not, List, [], ◌∷◌, ◌++◌, length, map, drop, refl, ap, ap₂, sym, ◌∙◌, append_assoc, arith, length-append, zero-add}
use Rattle.std.proofs.lemmas.List.{append-nil, take_all}
use Rattle.std.proofs.lemmas.Bool.{ne_eqb}
use Rattle.tmds_word.specs.Column.{Column}
use Rattle.terc4.specs.Columns.{closes}
use Rattle.island_pack.specs.Packets.{CarriesFreely}
use Rattle.island_pack.specs.Periods.{DataIsland, Period}
use Rattle.island_pack.specs.Spelling.{column_words}
use Rattle.island_pack.specs.declared.packet.Packet.{Packet}
use Rattle.period_grammar.specs.Cut.{Run, columns, before_runs, runs}
use Rattle.period_grammar.specs.Events.{Event, run, EventAt, at, all_at}
use Rattle.period_grammar.specs.Island.{Payload, parts, begins_close, with_packet, split, if_so, packet_events, in_packets, closing_events, in_left, left_at, in_island, breaks}
use Rattle.period_grammar.specs.Heard.{island as opens_an_island, words, in_runs, last_run, opened, in_gap, at_close}
use Rattle.period_grammar.proofs.Islands.{holds_is, holds_not, split_none}
use Rattle.link_laws.specs.Account.{open_video_row, open_island_row, packet_reported, close_island_row}
use Rattle.link_laws.specs.Literal.{runs_placed, video_placed, packets_placed, island_placed, period_placed}
use Rattle.link_laws.proofs.Between.{take_seam, drop_seam, lacks_preamble}
use Rattle.link_laws.proofs.Guards.{opens_video, opens_island, guards_close}
use Rattle.link_laws.proofs.VideoReported.{length_received, pixel_count, close_line, line_closes}
use Rattle.link_laws.proofs.IslandColumns.{AreParts, parts_open, ArePackets, no_packets, one_more, packet_sent, packet_received}
use Rattle.link_laws.proofs.IslandReported.{frame, framed, split_some, packet_events_are, closes_on}
use Rattle.link_laws.proofs.Joining.{ArrivesPeriod, controls, pixels, packets, IsBetween}

-- Control periods.

abbrev total : List Run → ℕ
total [] = 0
total (columns v cs ∷ rs) = length cs + total rs

first_total : (c : Column) (rs : List Run) → total (before_runs c rs) ≡ 1 + total rs
first_total c rs = grind arith

runs_total : (cs : List Column) → total (runs cs) ≡ length cs
unfolding runs
runs_total [] = refl
runs_total (c ∷ cs) = let e = first_total c (runs cs) in let ih = runs_total cs in omega arith

runs_end : (j n : ℕ) (rs : List Run) → n ≡ total rs → in_runs j rs ++ all_at (j + n) (last_run rs) ≡ runs_placed j rs
unfolding runs_placed
runs_end j n [] e = refl
runs_end j n (columns v cs ∷ []) e = let f : j + n ≡ j + length cs = omega arith in ap (λ k. words j cs ++ (at k (run v (length cs)) ∷ [])) f
runs_end j n (columns v cs ∷ (s ∷ rs)) e =
    let k = j + length cs in
    let m = total (s ∷ rs) in
    let f : j + n ≡ k + m = omega arith in
    append_assoc (words j cs) (at k (run v (length cs)) ∷ in_runs k (s ∷ rs)) (all_at (j + n) (last_run (s ∷ rs)))
    ∙ ap (λ i. words j cs ++ (at k (run v (length cs)) ∷ (in_runs k (s ∷ rs) ++ all_at i (last_run (s ∷ rs))))) f
    ∙ ap (λ ts. words j cs ++ (at k (run v (length cs)) ∷ ts)) (runs_end k m (s ∷ rs) refl)

-- the last run of control columns is reported at the first column after them
pub control_placed : (j : ℕ) (cs : List Column) → in_runs j (runs cs) ++ all_at (j + length cs) (last_run (runs cs)) ≡ runs_placed j (runs cs)
control_placed j cs = runs_end j (length cs) (runs cs) (sym (runs_total cs))

-- Video data periods.

-- Data islands.

abbrev placed : ℕ → ℕ → ℕ → Payload → List EventAt
placed b s k (parts ps t) = in_packets s k ps ++ in_left b (s + 32 * length ps) (k + length ps) t

placed_island : (b : ℕ) (p : Payload) → in_island b p ≡ placed b (b + 2) 0 p
unfolding in_island
placed_island b (parts ps t) = ap (λ k. in_packets (b + 2) 0 ps ++ in_left b (left_at b ps) k t) (sym (zero-add (length ps)))

placed_packet : (b s k : ℕ) (p : List Column) (rest : Payload) → placed b s k (with_packet p rest) ≡ all_at (s + 31) (packet_events s k p) ++ placed b (s + 32) (k + 1) rest
placed_packet b s k p (parts ps t) = grind (arith, append_assoc)

-- the first packet of columns
split_first : (m : ℕ) (first : Bool) (p : Packet) (own reception rest : List Column) → CarriesFreely p (map column_words own) → AreParts own reception → length (reception ++ rest) ≤ m
    → split m (reception ++ rest) ≡ with_packet reception (split (m - 1) rest)
split_first m first p own reception rest c are fuel =
    let sent = packet_sent first p own c in
    let long = packet_received first p own reception c are in
    let n = length (reception ++ rest) in
    let a = length-append reception rest in
    let shut = ap begins_close (sym (take_all n (reception ++ rest) (omega arith))) ∙ parts_open n own reception rest are (omega arith) in
    split_some m (reception ++ rest) (holds_is (reception ++ rest) shut (omega arith)) (omega arith) fuel
    ∙ ap₂ (λ (x y : List Column). with_packet x (split (m - 1) y)) (take_seam reception rest 32 long) (drop_seam reception rest 32 long)

split_placed : (first : Bool) (ps : List Packet) (pp qq : List Column) → ArePackets first ps pp qq → (m : ℕ) (close : List Column) (c d : Column) (b s k : ℕ) → closes c d ≡ true → 1 ≤ k + length ps → k + length ps ≤ 18
    → length (qq ++ (c ∷ (d ∷ []))) ≤ m → placed b s k (split m (qq ++ (c ∷ (d ∷ [])))) ≡ packets_placed s ps (pp ++ close) (qq ++ (c ∷ (d ∷ [])))
unfolding packets_placed closing_events close_island_row
split_placed _ _ _ _ (no_packets first) m close c d b s k shut some few fuel = grind (arith, split_none, holds_not, ne_eqb, append-nil)
split_placed _ _ _ _ (one_more first p ps own reception ss rs carries are hs) m close c d b s k shut some few fuel =
    let end = c ∷ (d ∷ []) in
    let e = append_assoc own ss close in
    let g = append_assoc reception rs end in
    let sent = packet_sent first p own carries in
    let long = packet_received first p own reception carries are in
    let a = length-append reception (rs ++ end) in
    let l = ap length g in
    ap (λ (cs : List Column). placed b s k (split m cs)) g
    ∙ ap (placed b s k) (split_first m first p own reception (rs ++ end) carries are (omega arith))
    ∙ placed_packet b s k reception (split (m - 1) (rs ++ end))
    ∙ ap₂ (λ (ts : List Event) (us : List EventAt). all_at (s + 31) ts ++ us) (packet_events_are s k first p own reception (omega arith) carries long)
    (split_placed false ps ss rs hs (m - 1) close c d b (s + 32) (k + 1) shut (omega arith) (omega arith) (omega arith))
    ∙ sym (
    ap₂ (λ (x z : List Column). all_at (s + 31) (packet_reported s p x z) ++ packets_placed (s + 32) ps (drop 32 (own ++ (ss ++ close))) (drop 32 (reception ++ (rs ++ end)))) (take_seam own (ss ++ close) 32 sent) (take_seam reception (rs ++ end) 32 long)
    ∙ ap₂ (λ (x z : List Column). all_at (s + 31) (packet_reported s p own reception) ++ packets_placed (s + 32) ps x z) (drop_seam own (ss ++ close) 32 sent) (drop_seam reception (rs ++ end) 32 long)
    )
    ∙ sym (ap₂ (λ (x z : List Column). packets_placed s (p ∷ ps) x z) e g)

-- what is left after the packets closes
abbrev is_shut : Payload → Bool
is_shut (parts ps t) = begins_close t

shut_with : (p : List Column) (x : Payload) → is_shut (with_packet p x) ≡ is_shut x
shut_with p (parts ps t) = refl

split_shut : (first : Bool) (ps : List Packet) (pp qq : List Column) → ArePackets first ps pp qq → (m : ℕ) (c d : Column) → closes c d ≡ true → length (qq ++ (c ∷ (d ∷ []))) ≤ m → is_shut (split m (qq ++ (c ∷ (d ∷ [])))) ≡ true
split_shut _ _ _ _ (no_packets first) m c d shut fuel = ap is_shut (split_none m (c ∷ (d ∷ [])) (holds_not (c ∷ (d ∷ [])) (omega arith))) ∙ shut
split_shut _ _ _ _ (one_more first p ps own reception ss rs carries are hs) m c d shut fuel =
    let end = c ∷ (d ∷ []) in
    let g = append_assoc reception rs end in
    let long = packet_received first p own reception carries are in
    let a = length-append reception (rs ++ end) in
    let l = ap length g in
    ap (λ (cs : List Column). is_shut (split m cs)) g
    ∙ ap is_shut (split_first m first p own reception (rs ++ end) carries are (omega arith))
    ∙ shut_with reception (split (m - 1) (rs ++ end))
    ∙ split_shut false ps ss rs hs (m - 1) c d shut (omega arith)

breaks_none : (f : ℕ → Event) (b : ℕ) (p : Payload) → is_shut p ≡ true → breaks f b p ≡ []
breaks_none f b (parts ps t) h = ap (λ q. if_so (not q) (f (left_at b ps))) h

whole_placed : (b : ℕ) (control : List Column) (x : DataIsland) (g h c d : Column) (pp qq : List Column) → 12 ≤ length control → opened g h ≡ opens_an_island → closes c d ≡ true
    → 1 ≤ length x.packets → length x.packets ≤ 18 → ArePackets true x.packets pp qq
    → in_gap b control (framed g h qq c d) ++ all_at (b + length (framed g h qq c d)) (at_close b (framed g h qq c d)) ≡ island_placed b control x (frame x pp) (framed g h qq c d)
unfolding island_placed in_gap open_island_row
whole_placed b control x g h c d pp qq long opens shut some few are = grind (arith, framed, closes_on, breaks_none, split_shut, append-nil, placed_island, split_placed, lacks_preamble)

-- an island that closes has nothing to report at the column after it
pub island_shuts : (b : ℕ) (x : DataIsland) (g h c d : Column) (pp qq : List Column) → opened g h ≡ opens_an_island → closes c d ≡ true → ArePackets true x.packets pp qq → at_close b (framed g h qq c d) ≡ []
island_shuts b x g h c d pp qq opens shut are = grind (arith, framed, closes_on, breaks_none, split_shut)

-- Periods between control periods.

pub period_places : (before : List Column) (x : Period) (own reception : List Column) → 12 ≤ length before → IsBetween x → ArrivesPeriod x own reception
    → (b : ℕ) → in_gap b before reception ++ all_at (b + length reception) (at_close b reception) ≡ period_placed b before x own reception
unfolding IsBetween period_placed video_placed in_gap open_video_row
period_places before _ _ _ long i (controls runs_sent cs n all) b = absurd i
period_places before _ _ _ long i (pixels bytes g h pp qq guards are) b = grind (arith, pixel_count, opens_video, length_received, line_closes, close_line, append-nil, lacks_preamble)
period_places before _ _ _ long i (packets x g h c d pp qq guards are) b = grind (arith, whole_placed, opens_island, guards_close)
