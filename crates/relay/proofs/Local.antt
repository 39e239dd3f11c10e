-- A line or an island that stands alone is sent on.
use Rattle.std.proofs.Common.{◌≡◌, ℕ, ◌+◌, ◌*◌, ◌≤◌, true, List, [], ◌∷◌, ◌++◌, length, map, take, drop, refl, ap, ap₂, sym, ◌∙◌, append_assoc, arith}
use Rattle.std.specs.Prelude.{Option, Some}
use Rattle.std.specs.List.{fold}
use Rattle.std.proofs.lemmas.List.{append-nil, map-append, drop-drop, length-drop}
use Rattle.tmds_word.specs.Column.{Column}
use Rattle.island_pack.specs.Periods.{SyncPair, DataIsland, Period, control, video, island, pixels_of, period_columns}
use Rattle.island_pack.specs.Conforming.{is_video_period, is_data_island}
use Rattle.island_pack.specs.Runs.{longest}
use Rattle.island_pack.specs.declared.packet.Packet.{Packet}
use Rattle.period_grammar.specs.Events.{Event, line, all_at, event_of}
use Rattle.period_grammar.specs.Heard.{codes_of}
use Rattle.period_grammar.proofs.Hearings.{events_at}
use Rattle.link_laws.specs.Account.{open_video_row, pixel_bytes, video_row, open_island_row, packet_reported, close_island_row}
use Rattle.link_laws.specs.Literal.{video_placed, packets_placed, island_placed, period_placed}
use Rattle.relay.specs.Laws.{begun_in, turns_in}
use Rattle.relay.specs.Relayed.{Said, pixels, opens, without_faults, Judged, Begun, data_of, RelayedPart, some_columns, some_line, some_island, where_so, closed, kept_from, with_nulls, nulled, Data, a_line, an_island, Turn, Alternation, ended, joined, on_turn, filled, lengthened, announced_turn, period_of, periods_in, settled, relayed}
use Rattle.relay.proofs.Gaining.{faults_both, gained}
use Rattle.relay.specs.Local.{IsRelayedAfter, line_sent, island_sent, LineRelayed, IslandRelayed}
use Rattle.relay.specs.Received.{packets_received, digits_of, island_received}
use Rattle.relay.proofs.Accounting.{keeps, judged, with_all, are_faults_video, reported_line, open_said, close_said, packet_said, nothing_more, closing_keeps, carrying_keeps, closed_whole}
use Rattle.relay.proofs.Below.{Facts}
use Rattle.relay.proofs.FaultsAlone.{are_faults_before}
use Rattle.relay.proofs.Fitting.{line_fits}

-- One part more, and what follows it.

-- turns are added after those that were gathered
turns_grow : (ks : List RelayedPart) (t : Alternation) → (ys : List Turn) × ((fold joined t ks).turns ≡ t.turns ++ ys)
turns_grow [] t = ([], sym (append-nil t.turns))
turns_grow (k ∷ ks) t =
    let one = one_more k t in
    let rest = turns_grow ks (joined t k) in
    (one.0 ++ rest.0, rest.1 ∙ ap (λ (xs : List Turn). xs ++ rest.0) one.1 ∙ append_assoc t.turns one.0 rest.0)
  where
    one_more : (k : RelayedPart) (t : Alternation) → (ys : List Turn) × ((joined t k).turns ≡ t.turns ++ ys)
    one_more (some_columns r) t = ([], sym (append-nil t.turns))
    one_more (some_line bytes) t = (record { values = t.last; inner = a_line bytes } ∷ [], refl)
    one_more (some_island x) t = (record { values = t.last; inner = an_island (data_of x) } ∷ [], refl)

-- turns with their control columns filled, lengthened and announced
abbrev made : List Turn → List Turn
made xs = map announced_turn (map (on_turn lengthened) (map (on_turn filled) xs))

made_both : (xs ys : List Turn) → made (xs ++ ys) ≡ made xs ++ made ys
made_both xs ys =
    ap (λ (zs : List Turn). map announced_turn (map (on_turn lengthened) zs)) (map-append (on_turn filled) xs ys)
    ∙ ap (map announced_turn) (map-append (on_turn lengthened) (map (on_turn filled) xs) (map (on_turn filled) ys))
    ∙ map-append announced_turn (map (on_turn lengthened) (map (on_turn filled) xs)) (map (on_turn lengthened) (map (on_turn filled) ys))

abbrev fronts : List Turn → List Period
fronts [] = []
fronts (x ∷ xs) = control (longest x.values) ∷ (period_of x.inner ∷ fronts xs)

periods_both : (xs ys : List Turn) (last : List ℕ) → periods_in (xs ++ ys) last ≡ fronts xs ++ periods_in ys last
periods_both [] ys last = refl
periods_both (x ∷ xs) ys last = ap (λ (ps : List Period). control (longest x.values) ∷ (period_of x.inner ∷ ps)) (periods_both xs ys last)

settled_is : (t : Alternation) → settled t ≡ periods_in (made t.turns) (lengthened (filled t.last))
unfolding settled
settled_is t = refl

settled_by : (t : Alternation) (xs ys : List Turn) → t.turns ≡ xs ++ ys → settled t ≡ fronts (made xs) ++ periods_in (made ys) (lengthened (filled t.last))
settled_by t xs ys e =
    settled_is t
    ∙ ap (λ (zs : List Turn). periods_in (made zs) (lengthened (filled t.last))) e
    ∙ ap (λ (zs : List Turn). periods_in zs (lengthened (filled t.last))) (made_both xs ys)
    ∙ periods_both (made xs) (made ys) (lengthened (filled t.last))

relayed_is : (reported : List Event) → relayed reported ≡ settled (turns_in reported)
relayed_is reported = (gained reported []).relayed_is

relayed_after : (first row later : List Event) (k : RelayedPart) (d : Data) → ((b : Option Begun) → kept_from b (without_faults row) ≡ k ∷ []) → ((t : Alternation) → joined t (with_nulls k) ≡ ended t d)
    → IsRelayedAfter first (first ++ (row ++ later)) d
unfolding nulled
relayed_after first row later k d keeps_one joins =
    let t = turns_in first in
    let all = first ++ (row ++ later) in
    let one = gained first row in
    let two = gained (first ++ row) later in
    let ks = nulled (kept_from (begun_in (first ++ row)) (without_faults later)) in
    let here : turns_in (first ++ row) ≡ ended t d = one.turns ∙ ap (λ ps. fold joined t (nulled ps)) (keeps_one (begun_in first)) ∙ joins t in
    let grown = turns_grow ks (ended t d) in
    let turn : Turn = record { values = t.last; inner = d } in
    let u = fold joined (ended t d) ks in
    let same : turns_in all ≡ u = ap turns_in (sym (append_assoc first row later)) ∙ two.turns ∙ ap (λ (v : Alternation). fold joined v ks) here in
    let turns : u.turns ≡ t.turns ++ (turn ∷ grown.0) = grown.1 ∙ append_assoc t.turns (turn ∷ []) grown.0 in
    record {
      front = fronts (made t.turns);
      values = lengthened (filled t.last);
      before = relayed_is first ∙ settled_by t t.turns [] (sym (append-nil t.turns));
      more = periods_in (made grown.0) (lengthened (filled u.last));
      whole = relayed_is all ∙ ap settled same ∙ settled_by u t.turns (turn ∷ grown.0) turns;
    }

-- Lines.

line_said : (b : ℕ) (before : List Column) (bytes : List ℕ) (ss rs : List Column)
    → without_faults (map event_of (period_placed b before (video bytes) ss rs)) ≡ pixels (pixel_bytes (pixels_of bytes) (drop 2 ss) (drop 2 rs)) ∷ []
unfolding period_placed video_placed video_row
line_said b before bytes ss rs =
    let own = pixel_bytes (pixels_of bytes) (drop 2 ss) (drop 2 rs) in
    let place = b + 2 + length (pixels_of bytes) in
    let row = line own ∷ codes_of (b + 2) (drop 2 rs) in
    ap without_faults (map-append event_of (all_at (b + 1) (open_video_row b before rs)) (all_at place row) ∙ ap₂ (λ (ts us : List Event). ts ++ us) (events_at (b + 1) (open_video_row b before rs)) (events_at place row))
    ∙ are_faults_before (open_video_row b before rs) row (are_faults_video b before rs)
    ∙ reported_line true b (b + 2) own (drop 2 rs)

line_kept : (bytes : List ℕ) → is_video_period bytes ≡ true → (b : Option Begun) → kept_from b (pixels bytes ∷ []) ≡ some_line bytes ∷ []
unfolding kept_from
line_kept bytes h b = ap (λ q. where_so q (some_line bytes) ++ []) h

pub line_relayed : Facts → LineRelayed
unfolding period_columns
line_relayed f bytes ss rs is a c b before first later =
    let own = pixel_bytes (pixels_of bytes) (drop 2 ss) (drop 2 rs) in
    let ds = length-drop 2 ss in
    let dr = length-drop 2 rs in
    let fits = line_fits f bytes (drop 2 ss) (drop 2 rs) is (omega arith) (omega arith) in
    relayed_after first (map event_of (period_placed b before (video bytes) ss rs)) later (some_line own) (line_sent bytes ss rs)
    (λ g. ap (kept_from g) (line_said b before bytes ss rs) ∙ line_kept own fits g) (λ t. refl)

-- Islands.

packets_kept : (s : ℕ) (ps : List Packet) (ss rs : List Column) (b : Begun) → 32 * length ps + 2 ≤ length rs
    → keeps (Some b) (map event_of (packets_placed s ps ss rs)) ≡ closed (digits_of (drop (32 * length ps) rs)) (Some (with_all b (packets_received ps ss rs)))
unfolding packets_placed packets_received
packets_kept s [] ss rs b long =
    ap (keeps (Some b)) (events_at (s + 1) (close_island_row s rs))
    ∙ ap (kept_from (Some b)) (close_said s rs (omega arith))
    ∙ closing_keeps b (digits_of rs)
    ∙ ap (λ (c : Begun). closed (digits_of rs) (Some c)) (nothing_more b)
packets_kept s (p ∷ ps) ss rs b long =
    let rest = packets_placed (s + 32) ps (drop 32 ss) (drop 32 rs) in
    let own = packet_reported s p (take 32 ss) (take 32 rs) in
    let j = judged p ss rs in
    let c : Begun = record { opening = b.opening; packets = b.packets ++ j ∷ [] } in
    let d = length-drop 32 rs in
    let n : 32 + 32 * length ps ≡ 32 * length (p ∷ ps) = omega arith in
    let pair = ap digits_of (drop-drop (32 * length ps) 32 rs ∙ ap (λ k. drop k rs) n) in
    let all_packets = append_assoc b.packets (j ∷ []) (packets_received ps (drop 32 ss) (drop 32 rs)) in
    ap (keeps (Some b)) (map-append event_of (all_at (s + 31) own) rest ∙ ap (λ (ts : List Event). ts ++ map event_of rest) (events_at (s + 31) own))
    ∙ ap (kept_from (Some b)) (packet_said s p ss rs (map event_of rest))
    ∙ carrying_keeps b p ss rs (map event_of rest)
    ∙ packets_kept (s + 32) ps (drop 32 ss) (drop 32 rs) c (omega arith)
    ∙ ap₂ (λ (q : SyncPair) (js : List Judged). closed q (Some (record { opening = b.opening; packets = js }))) pair all_packets

opening_kept : (g : Option Begun) (pair : SyncPair) (xs : List Said) → kept_from g (opens pair ∷ xs) ≡ kept_from (Some (record { opening = pair; packets = [] })) xs
unfolding kept_from
opening_kept g pair xs = refl

island_kept : Facts → (b : ℕ) (before : List Column) (x : DataIsland) (ss rs : List Column) → is_data_island x ≡ true → length ss ≡ 4 + 32 * length x.packets → length rs ≡ 4 + 32 * length x.packets
    → (g : Option Begun) → kept_from g (without_faults (map event_of (period_placed b before (island x) ss rs))) ≡ some_island (island_received x ss rs) ∷ []
unfolding period_placed island_placed
island_kept f b before x ss rs is a c g =
    let front = open_island_row b before rs in
    let rest = packets_placed (b + 2) x.packets (drop 2 ss) (drop 2 rs) in
    let d = length-drop 2 rs in
    ap (λ (ts : List Event). kept_from g (without_faults ts)) (map-append event_of (all_at (b + 1) front) rest ∙ ap (λ (ts : List Event). ts ++ map event_of rest) (events_at (b + 1) front))
    ∙ ap (kept_from g) (faults_both front (map event_of rest) ∙ ap (λ (xs : List Said). xs ++ without_faults (map event_of rest)) (open_said b before rs (omega arith)))
    ∙ opening_kept g (digits_of rs) (without_faults (map event_of rest))
    ∙ packets_kept (b + 2) x.packets (drop 2 ss) (drop 2 rs) (record { opening = digits_of rs; packets = [] }) (omega arith)
    ∙ closed_whole f x ss rs is a c

pub island_relayed : Facts → IslandRelayed
unfolding period_columns
island_relayed f x ss rs is a c b before first later =
    relayed_after first (map event_of (period_placed b before (island x) ss rs)) later (some_island (island_received x ss rs)) (island_sent x ss rs)
    (island_kept f b before x ss rs is (omega arith) (omega arith)) (λ t. refl)
