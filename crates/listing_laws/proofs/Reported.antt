-- The packets that are reported are those that were received whole, in order.
use Rattle.std.proofs.Common.{◌≡◌, ℕ, zero, suc, ◌+◌, ◌-◌, ◌*◌, ◌<◌, ◌≤◌, Bool, true, false, not, ◌&&◌, cond, List, [], ◌∷◌, ◌++◌, map, length, take, drop, Option, refl, sym, ap, ap₂, subst, ◌∙◌, append_assoc, arith, inl, inr, ◌⊎◌}
use Rattle.std.specs.Prelude.{nat_le}
use Rattle.std.proofs.lemmas.Bool.{le-leb, lt-leb, lt-ltb, le-ltb, cases_lt}
use Rattle.std.proofs.lemmas.List.{drop-drop, drop-take, take-take, map-append}
use Rattle.tmds_word.specs.Column.{Column}
use Rattle.terc4.specs.Tables.{is_control}
use Rattle.bch_block.specs.declared.Verdict.{Verdict}
use Rattle.island_pack.specs.Periods.{ControlRun, DataIsland, Period, control, video, island, values_of, Pixel, pixels_of, period_columns}
use Rattle.island_pack.specs.Kinds.{EndsAt, kinds_of}
use Rattle.island_pack.specs.declared.packet.Packet.{Packet}
use Rattle.period_grammar.specs.Events.{Event, preamble, cut, symbols, guard, all_at, event_of}
use Rattle.island_pack.specs.Repaired.{verdicts_of}
use Rattle.period_grammar.specs.Cut.{Run, columns, runs as runs_of}
use Rattle.period_grammar.specs.Island.{if_so, block_fault, block_faults, wrong_guards}
use Rattle.period_grammar.specs.Heard.{other_word, other_words, words, if_not, codes_of, code_fault}
use Rattle.period_grammar.proofs.Hearings.{events_at}
use Rattle.link_laws.specs.Account.{runs_row, control_row, open_video_row, open_island_row, close_island_row, video_row, video_reported, packet_row, packet_reported, packets_reported, island_reported, period_row, account_from, account_at, account}
use Rattle.link_laws.proofs.Conformed.{IsInner, Follows, ends, goes_on, Conforms, conforming}
use Rattle.link_laws.proofs.Start.{control_size}
use Rattle.link_laws.proofs.EndPlaces.{kinds_from, ends_first, ends_only, control_kinds, ends_late, kinds_size}
use Rattle.listing_laws.proofs.Accounted.{island_size}
use Rattle.listing_laws.specs.PacketLaws.{Placed, each_at, placed, ReportedPacket, reported_packet, reported_packets, received_packet, packets_received, PacketsComeBack}

pub reported_both : (xs ys : List Event) → reported_packets (xs ++ ys) ≡ reported_packets xs ++ reported_packets ys
unfolding reported_packets
reported_both [] ys = refl
reported_both (x ∷ xs) ys = ap (λ (ks : List ReportedPacket). reported_packet x ++ ks) (reported_both xs ys) ∙ sym (append_assoc (reported_packet x) (reported_packets xs) (reported_packets ys))

received_both : (ss rs : List Column) (a e : ℕ) (ks ls : List Placed) → packets_received ss rs a e (ks ++ ls) ≡ packets_received ss rs a e ks ++ packets_received ss rs a e ls
unfolding packets_received
received_both ss rs a e [] ls = refl
received_both ss rs a e (k ∷ ks) ls = grind (arith, append_assoc, received_both ss rs a e ks ls)

-- Events that are no packets.

no_both : (xs ys : List Event) → reported_packets xs ≡ [] → reported_packets ys ≡ [] → reported_packets (xs ++ ys) ≡ []
no_both xs ys h g = reported_both xs ys ∙ ap₂ (λ (a b : List ReportedPacket). a ++ b) h g

no_word : (lane j : ℕ) (t : Bool) → reported_packets (other_word lane j t) ≡ []
unfolding reported_packets
no_word lane j t = grind arith

no_other_words : (j : ℕ) (c : Column) → reported_packets (other_words j c) ≡ []
unfolding other_words
no_other_words j c =
    no_both (other_word 0 j (is_control c.blue)) _ (no_word 0 j (is_control c.blue))
    (no_both (other_word 1 j (is_control c.green)) _ (no_word 1 j (is_control c.green)) (no_word 2 j (is_control c.red)))

no_words : (j : ℕ) (cs : List Column) → reported_packets (map event_of (words j cs)) ≡ []
unfolding reported_packets
no_words j [] = refl
no_words j (c ∷ cs) =
    ap reported_packets (map-append event_of (all_at j (other_words j c)) (words (j + 1) cs) ∙ ap (λ (ts : List Event). ts ++ map event_of (words (j + 1) cs)) (events_at j (other_words j c)))
    ∙ no_both (other_words j c) (map event_of (words (j + 1) cs)) (no_other_words j c) (no_words (j + 1) cs)

no_runs : (j : ℕ) (rs : List Run) → reported_packets (runs_row j rs) ≡ []
unfolding runs_row reported_packets
no_runs j [] = refl
no_runs j (columns v cs ∷ rs) = reported_both (map event_of (words j cs)) _ ∙ ap₂ (λ (xs ys : List ReportedPacket). xs ++ ys) (no_words j cs) (no_runs (j + length cs) rs)

no_row : (j : ℕ) (cs : List Column) → reported_packets (control_row j cs) ≡ []
no_row j cs = no_runs j (runs_of cs)

no_code : (lane s : ℕ) (found : Option ℕ) → reported_packets (code_fault lane s found) ≡ []
unfolding reported_packets
no_code lane s found = grind arith

no_line : (t : Bool) (j : ℕ) (ps : List Pixel) (ss rs : List Column) → reported_packets (cond t (video_row j ps ss rs) (cut (j + 2) ∷ [])) ≡ []
unfolding reported_packets video_row codes_of
no_line t j ps ss rs = grind (arith, no_both, no_code)

no_lack : (t : Bool) (b : ℕ) → reported_packets (if_not t (preamble b)) ≡ []
unfolding reported_packets
no_lack t b = grind arith

no_guard : (t : Bool) (b : ℕ) → reported_packets (if_so t (guard b)) ≡ []
unfolding reported_packets
no_guard t b = grind arith

no_guards : (is : Column → Bool) (b : ℕ) (g h : Column) → reported_packets (wrong_guards is b g h) ≡ []
no_guards is b g h = no_both (if_so (not (is g)) (guard b)) (if_so (not (is h)) (guard (b + 1))) (no_guard (not (is g)) b) (no_guard (not (is h)) (b + 1))

no_open_video : (b : ℕ) (before rs : List Column) → reported_packets (open_video_row b before rs) ≡ []
unfolding open_video_row reported_packets
no_open_video b before rs = grind (arith, no_both, no_lack, no_guards)

pub no_open_island : (b : ℕ) (before rs : List Column) → reported_packets (open_island_row b before rs) ≡ []
unfolding open_island_row reported_packets
no_open_island b before rs = grind (arith, no_both, no_lack, no_guards)

pub no_close : (s : ℕ) (rs : List Column) → reported_packets (close_island_row s rs) ≡ []
unfolding close_island_row reported_packets
no_close s rs = grind (arith, no_guards)

no_video : (j m : ℕ) (before : List Column) (ps : List Pixel) (ss rs : List Column) → reported_packets (video_reported j m before ps ss rs) ≡ []
unfolding video_reported reported_packets
no_video j m before ps ss rs = grind (arith, no_both, no_open_video, no_line)

no_symbols : (t : Bool) (s n : ℕ) → reported_packets (if_so t (symbols s n)) ≡ []
unfolding reported_packets
no_symbols t s n = grind arith

no_block : (s b : ℕ) (v : Verdict) → reported_packets (block_fault s b v) ≡ []
unfolding reported_packets
no_block s b v = grind arith

no_blocks : (s b : ℕ) (vs : List Verdict) → reported_packets (block_faults s b vs) ≡ []
unfolding reported_packets
no_blocks s b [] = refl
no_blocks s b (v ∷ vs) = no_both (block_fault s b v) (block_faults s (b + 1) vs) (no_block s b v) (no_blocks s (b + 1) vs)

pub one_packet : (s : ℕ) (p : Packet) (ss rs : List Column) → reported_packets (packet_reported s p ss rs) ≡ record { packet = packet_row p ss rs; verdicts = verdicts_of rs; column = s } ∷ []
unfolding reported_packets packet_reported
one_packet s p ss rs = grind (arith, no_both, no_symbols, no_blocks)

-- Packets one after another.

-- a packet that was not received whole, and those after it
none_received : (ss rs : List Column) (a e y : ℕ) (ps : List Packet) → e < y + 32 → packets_received ss rs a e (each_at y ps) ≡ []
unfolding each_at packets_received
none_received ss rs a e y [] lt = refl
none_received ss rs a e y (p ∷ ps) lt =
    ap₂ (λ (t : Bool) (xs : List ReportedPacket). cond (nat_le a y && t) (received_packet ss rs a (record { packet = p; at = y }) ∷ []) [] ++ xs) (lt-leb (y + 32) e lt) (none_received ss rs a e (y + 32) ps (omega (arith, lt)))
    ∙ by_test (nat_le a y)
  where
    by_test : (t : Bool) → cond (t && false) (received_packet ss rs a (record { packet = p; at = y }) ∷ []) [] ++ [] ≡ []
    by_test true = refl
    by_test false = refl

-- packets before column a
past_none : (ss rs : List Column) (a e y : ℕ) (ps : List Packet) → y + 32 * length ps ≤ a → packets_received ss rs a e (each_at y ps) ≡ []
unfolding each_at packets_received
past_none ss rs a e y [] le = refl
past_none ss rs a e y (p ∷ ps) le =
    let lt : y < a = omega (arith, le) in
    let le2 : y + 32 + 32 * length ps ≤ a = omega (arith, le) in
    ap₂ (λ (t : Bool) (xs : List ReportedPacket). cond (t && nat_le (y + 32) e) (received_packet ss rs a (record { packet = p; at = y }) ∷ []) [] ++ xs) (lt-leb a y lt) (past_none ss rs a e (y + 32) ps le2)

one_received : (ss rs : List Column) (a e y : ℕ) (p : Packet) (ps : List Packet) → a ≤ y → y + 32 ≤ e → packets_received ss rs a e (each_at y (p ∷ ps)) ≡ received_packet ss rs a (record { packet = p; at = y }) ∷ packets_received ss rs a e (each_at (y + 32) ps)
unfolding each_at packets_received
one_received ss rs a e y p ps le to =
    ap₂ (λ (t u : Bool). cond (t && u) (received_packet ss rs a (record { packet = p; at = y }) ∷ []) [] ++ packets_received ss rs a e (each_at (y + 32) ps)) (le-leb a y le) (le-leb (y + 32) e to)

no_closing : (t : Bool) (s : ℕ) (rs : List Column) → reported_packets (cond t (close_island_row s rs) (cut s ∷ [])) ≡ []
unfolding reported_packets
no_closing t s rs = grind (arith, no_close)

take_less : (n k : ℕ) (cs : List Column) → take n (take (n + k) cs) ≡ take n cs
take_less n k cs = take-take n (n + k) cs (omega arith)

abbrev pub window : ℕ → ℕ → List Column → List Column
window n y cs = take (32 * n + 2) (drop y cs)

pub first_window : (n y : ℕ) (cs : List Column) → take 32 (window (suc n) y cs) ≡ take 32 (drop y cs)
first_window n y cs =
    let e : 32 * suc n + 2 ≡ 32 + (32 * n + 2) = omega arith in
    ap (λ (i : ℕ). take 32 (take i (drop y cs))) e ∙ take_less 32 (32 * n + 2) (drop y cs)

pub rest_window : (n y : ℕ) (cs : List Column) → drop 32 (window (suc n) y cs) ≡ window n (y + 32) cs
rest_window n y cs =
    let e : 32 * suc n + 2 ≡ 32 + (32 * n + 2) = omega arith in
    ap (λ (i : ℕ). drop 32 (take i (drop y cs))) e ∙ drop-take 32 (32 * n + 2) (drop y cs) ∙ ap (λ (ds : List Column). take (32 * n + 2) ds) (drop-drop 32 y cs)

whole_packet : (s i : ℕ) (p : Packet) (ps : List Packet) (ss rs : List Column) → 32 ≤ i
    → packets_reported cut s (p ∷ ps) i ss rs ≡ packet_reported s p (take 32 ss) (take 32 rs) ++ packets_reported cut (s + 32) ps (i - 32) (drop 32 ss) (drop 32 rs)
unfolding packets_reported
whole_packet s i p ps ss rs le =
    ap (λ (t : Bool). cond t (cut s ∷ []) (packet_reported s p (take 32 ss) (take 32 rs) ++ packets_reported cut (s + 32) ps (i - 32) (drop 32 ss) (drop 32 rs))) (le-ltb i 32 le)

cut_packet : (s i : ℕ) (p : Packet) (ps : List Packet) (ss rs : List Column) → i < 32 → packets_reported cut s (p ∷ ps) i ss rs ≡ cut s ∷ []
unfolding packets_reported
cut_packet s i p ps ss rs lt =
    ap (λ (t : Bool). cond t (cut s ∷ []) (packet_reported s p (take 32 ss) (take 32 rs) ++ packets_reported cut (s + 32) ps (i - 32) (drop 32 ss) (drop 32 rs))) (lt-ltb i 32 lt)

nothing_received : (ss rs : List Column) (a e y : ℕ) → packets_received ss rs a e (each_at y []) ≡ []
unfolding each_at packets_received
nothing_received ss rs a e y = refl

packets_are : (ps : List Packet) (ss rs : List Column) (a e y : ℕ) → a ≤ y
    → reported_packets (packets_reported cut (y - a) ps (e - y) (window (length ps) y ss) (window (length ps) y rs)) ≡ packets_received ss rs a e (each_at y ps)
unfolding packets_reported reported_packets
packets_are [] ss rs a e y le = grind (arith, nothing_received, no_closing)
packets_are (p ∷ ps) ss rs a e y le = grind (arith, cases_lt, cut_packet, none_received, whole_packet, reported_both, one_packet, first_window, rest_window, one_received, packets_are ps ss rs a e)

-- An island.

pub after_guard : (n x : ℕ) (cs : List Column) → drop 2 (take (4 + 32 * n) (drop x cs)) ≡ window n (x + 2) cs
after_guard n x cs =
    let e : 4 + 32 * n ≡ 2 + (32 * n + 2) = omega arith in
    ap (λ (i : ℕ). drop 2 (take i (drop x cs))) e ∙ drop-take 2 (32 * n + 2) (drop x cs) ∙ ap (λ (ds : List Column). take (32 * n + 2) ds) (drop-drop 2 x cs)

past_open : (before : List Column) (x : DataIsland) (s i : ℕ) (ss rs : List Column) → reported_packets (island_reported s (suc (suc i)) before x ss rs) ≡ reported_packets (packets_reported cut (s + 2) x.packets i (drop 2 ss) (drop 2 rs))
unfolding island_reported
past_open before x s i ss rs =
    reported_both (open_island_row s before rs) _
    ∙ ap (λ (ks : List ReportedPacket). ks ++ reported_packets (packets_reported cut (s + 2) x.packets i (drop 2 ss) (drop 2 rs))) (no_open_island s before rs)

few_reported : (before : List Column) (x : DataIsland) (s m : ℕ) (ss rs : List Column) → m ≤ 1 → reported_packets (island_reported s m before x ss rs) ≡ []
unfolding reported_packets island_reported
few_reported before x s m ss rs h = grind arith

island_are : (before : List Column) (i : DataIsland) (ss rs : List Column) (a e x m : ℕ) → a ≤ x → m ≡ e - x
    → reported_packets (island_reported (x - a) m before i (take (4 + 32 * length i.packets) (drop x ss)) (take (4 + 32 * length i.packets) (drop x rs))) ≡ packets_received ss rs a e (each_at (x + 2) i.packets)
island_are before i ss rs a e x zero le is = few_reported before i (x - a) 0 (take (4 + 32 * length i.packets) (drop x ss)) (take (4 + 32 * length i.packets) (drop x rs)) (omega arith) ∙ sym (none_received ss rs a e (x + 2) i.packets (omega (arith, is)))
island_are before i ss rs a e x (suc zero) le is = few_reported before i (x - a) 1 (take (4 + 32 * length i.packets) (drop x ss)) (take (4 + 32 * length i.packets) (drop x rs)) (omega arith) ∙ sym (none_received ss rs a e (x + 2) i.packets (omega (arith, is)))
island_are before i ss rs a e x (suc (suc k)) le is =
    let n = length i.packets in
    let d : x - a + 2 ≡ (x + 2) - a = omega (arith, le) in
    let f : k ≡ e - (x + 2) = omega (arith, is) in
    past_open before i (x - a) k (take (4 + 32 * n) (drop x ss)) (take (4 + 32 * n) (drop x rs))
    ∙ ap₂ (λ (cs ds : List Column). reported_packets (packets_reported cut (x - a + 2) i.packets k cs ds)) (after_guard n x ss) (after_guard n x rs)
    ∙ ap₂ (λ (s l : ℕ). reported_packets (packets_reported cut s i.packets l (window n (x + 2) ss) (window n (x + 2) rs))) d f
    ∙ packets_are i.packets ss rs a e (x + 2) (omega (arith, le))

-- Periods from column x on.

onward : (before : List Column) (periods : List Period) (ss rs : List Column) (a e x n : ℕ) → a ≤ x
    → reported_packets (account_from (x - a + n) (e - x - n) before periods (drop n (drop x ss)) (drop n (drop x rs))) ≡ reported_packets (account_from ((x + n) - a) (e - (x + n)) before periods (drop (x + n) ss) (drop (x + n) rs))
onward before periods ss rs a e x n le = grind (arith, drop-drop)

from_reported : (before : List Column) (periods : List Period) (ss rs : List Column) (a e x : ℕ) → a ≤ x → reported_packets (account_from (x - a) (e - x) before periods (drop x ss) (drop x rs)) ≡ packets_received ss rs a e (placed x periods)
unfolding account_from period_row placed reported_packets packets_received
from_reported before [] ss rs a e x le = grind arith
from_reported before (control runs ∷ periods) ss rs a e x le =
    let n = period_columns (control runs) in
    reported_both (control_row (x - a) (take (e - x) (take n (drop x rs)))) _
    ∙ ap₂ (λ (xs ys : List ReportedPacket). xs ++ ys) (no_row (x - a) (take (e - x) (take n (drop x rs)))) (onward (take n (drop x rs)) periods ss rs a e x n le ∙ from_reported (take n (drop x rs)) periods ss rs a e (x + n) (omega (arith, le)))
from_reported before (video bytes ∷ periods) ss rs a e x le =
    let n = period_columns (video bytes) in
    reported_both (video_reported (x - a) (e - x) before (pixels_of bytes) (take n (drop x ss)) (take n (drop x rs))) _
    ∙ ap₂ (λ (xs ys : List ReportedPacket). xs ++ ys) (no_video (x - a) (e - x) before (pixels_of bytes) (take n (drop x ss)) (take n (drop x rs))) (onward (take n (drop x rs)) periods ss rs a e x n le ∙ from_reported (take n (drop x rs)) periods ss rs a e (x + n) (omega (arith, le)))
from_reported before (island i ∷ periods) ss rs a e x le =
    let n = period_columns (island i) in
    reported_both (island_reported (x - a) (e - x) before i (take n (drop x ss)) (take n (drop x rs))) _
    ∙ ap₂ (λ (xs ys : List ReportedPacket). xs ++ ys)
    (ap (λ (k : ℕ). reported_packets (island_reported (x - a) (e - x) before i (take k (drop x ss)) (take k (drop x rs)))) (island_size i) ∙ island_are before i ss rs a e x (e - x) le refl)
    (onward (take n (drop x rs)) periods ss rs a e x n le ∙ from_reported (take n (drop x rs)) periods ss rs a e (x + n) (omega (arith, le)))
    ∙ sym (received_both ss rs a e (each_at (x + 2) i.packets) (placed (x + n) periods))

-- Where the start lies.

-- column n lies in a control period
unfoldable InControl : List Period → ℕ → Type 0
InControl [] n = ⊥
InControl (control runs ∷ periods) n = (n < period_columns (control runs)) ⊎ ((period_columns (control runs) ≤ n) × InControl periods (n - period_columns (control runs)))
InControl (video bytes ∷ periods) n = (period_columns (video bytes) ≤ n) × InControl periods (n - period_columns (video bytes))
InControl (island x ∷ periods) n = (period_columns (island x) ≤ n) × InControl periods (n - period_columns (island x))

in_period : (runs : List ControlRun) (periods : List Period) (ss rs : List Column) (n m : ℕ) → n < period_columns (control runs)
    → account (control runs ∷ periods) ss rs n m
    ≡ control_row 0 (take m (drop n (take (period_columns (control runs)) rs)))
    ++ account_from (period_columns (control runs) - n) (m - (period_columns (control runs) - n)) (drop n (take (period_columns (control runs)) rs)) periods (drop (period_columns (control runs)) ss) (drop (period_columns (control runs)) rs)
unfolding account account_at
in_period runs periods ss rs n m lt =
    let w = period_columns (control runs) in
    ap (λ (t : Bool). cond t (account_at (control runs) n m periods ss rs) (account periods (drop w ss) (drop w rs) (n - w) m)) (lt-ltb n w lt)

beyond : (p : Period) (periods : List Period) (ss rs : List Column) (a m x n : ℕ) → x + n ≡ a → period_columns p ≤ n
    → ((k : ℕ) → (x + period_columns p) + k ≡ a → k ≡ n - period_columns p → reported_packets (account periods (drop (x + period_columns p) ss) (drop (x + period_columns p) rs) k m) ≡ packets_received ss rs a (a + m) (placed (x + period_columns p) periods))
    → reported_packets (account (p ∷ periods) (drop x ss) (drop x rs) n m) ≡ packets_received ss rs a (a + m) (placed (x + period_columns p) periods)
unfolding account
beyond p periods ss rs a m x n place le later = grind (arith, drop-drop, le-ltb)

account_reported : (periods : List Period) (ss rs : List Column) (a m x n : ℕ) → x + n ≡ a → InControl periods n → reported_packets (account periods (drop x ss) (drop x rs) n m) ≡ packets_received ss rs a (a + m) (placed x periods)
unfolding InControl placed
account_reported [] ss rs a m x n place h = absurd h
account_reported (control runs ∷ periods) ss rs a m x n place (inl lt) =
    let w = period_columns (control runs) in
    let first = drop n (take w (drop x rs)) in
    let d : w - n ≡ (x + w) - a = omega (arith, place, lt) in
    let f : m - (w - n) ≡ (a + m) - (x + w) = omega (arith, place, lt) in
    ap reported_packets (in_period runs periods (drop x ss) (drop x rs) n m lt)
    ∙ reported_both (control_row 0 (take m first)) (account_from (w - n) (m - (w - n)) first periods (drop w (drop x ss)) (drop w (drop x rs)))
    ∙ ap₂ (λ (xs ys : List ReportedPacket). xs ++ ys) (no_row 0 (take m first))
    (ap₂ (λ (i k : ℕ). reported_packets (account_from i k first periods (drop w (drop x ss)) (drop w (drop x rs)))) d f
    ∙ ap₂ (λ (cs ds : List Column). reported_packets (account_from ((x + w) - a) ((a + m) - (x + w)) first periods cs ds)) (drop-drop w x ss) (drop-drop w x rs)
    ∙ from_reported first periods ss rs a (a + m) (x + w) (omega (arith, place, lt)))
account_reported (control runs ∷ periods) ss rs a m x n place (inr h) =
    beyond (control runs) periods ss rs a m x n place h.0 (λ k e is. account_reported periods ss rs a m (x + period_columns (control runs)) k e (subst (λ (i : ℕ). InControl periods i) (sym is) h.1))
account_reported (video bytes ∷ periods) ss rs a m x n place h =
    beyond (video bytes) periods ss rs a m x n place h.0 (λ k e is. account_reported periods ss rs a m (x + period_columns (video bytes)) k e (subst (λ (i : ℕ). InControl periods i) (sym is) h.1))
account_reported (island i ∷ periods) ss rs a m x n place h = grind (arith, island_size, beyond, received_both, past_none, account_reported periods ss rs a m)

-- what stands between control periods is past
past_inner : (vs : List ℕ) (x : Period) (rest : List Period) (n : ℕ) → IsInner vs x → period_columns x ≤ n → InControl rest (n - period_columns x) → InControl (x ∷ rest) n
unfolding IsInner InControl
past_inner vs x rest n h k l = grind arith

first_period : (runs : List ControlRun) (rest : List Period) (n : ℕ) → n < length (values_of runs) → InControl (control runs ∷ rest) n
unfolding InControl
first_period runs rest n lt = inl (omega (arith, control_size runs, lt))

later_period : (runs : List ControlRun) (rest : List Period) (n : ℕ) → length (values_of runs) ≤ n → InControl rest (n - length (values_of runs)) → InControl (control runs ∷ rest) n
unfolding InControl
later_period runs rest n le h = let s = control_size runs in inr (omega (arith, s, le), subst (λ (k : ℕ). InControl rest (n - k)) (sym s) h)

-- twelve columns before the end of a control period lies in it
in_control : (vs : List ℕ) (tail : List Period) → Follows vs tail → (runs : List ControlRun) → vs ≡ values_of runs → (a : ℕ) → EndsAt (kinds_from vs tail) (a + 11) → InControl (control runs ∷ tail) a
in_control _ _ (ends vs h) runs same a e = grind (arith, ends_only, first_period)
in_control _ _ (goes_on vs x next rest h v f) runs same a e =
    let l : length vs ≡ length (values_of runs) = ap length same in
    elim (ends_first vs x (control next ∷ rest) (a + 11) v e) [
      | inl first ↦ first_period runs (x ∷ (control next ∷ rest)) a (omega (arith, first, l))
      | inr later ↦
          let ends_next = subst (λ ks. EndsAt ks later.at) (control_kinds next rest) later.ends in
          let late = ends_late (values_of next) rest f later.at ends_next in
          let place = later.place in
          let s = kinds_size x in
          let c = later.at - 11 in
          let i : later.at ≡ c + 11 = omega (arith, late) in
          let k : a - length (values_of runs) - period_columns x ≡ c = omega (arith, place, late, l, s) in
          later_period runs (x ∷ (control next ∷ rest)) a (omega (arith, place, late, l))
          (past_inner vs x (control next ∷ rest) (a - length (values_of runs)) v (omega (arith, place, late, l, s))
          (subst (λ (n : ℕ). InControl (control next ∷ rest) n) (sym k) (in_control (values_of next) rest f next refl c (subst (λ (y : ℕ). EndsAt (kinds_from (values_of next) rest) y) i ends_next))))
    ]

of_periods : (periods : List Period) → Conforms periods → (a : ℕ) → EndsAt (kinds_of periods) (a + 11) → InControl periods a
unfolding Conforms
of_periods periods h k l = grind (arith, in_control, control_kinds)

pub packets_come_back : PacketsComeBack
packets_come_back periods ss rs reception a m end le =
    account_reported periods ss rs a m 0 a (omega arith) (of_periods periods (conforming periods reception.conforming) a end)
