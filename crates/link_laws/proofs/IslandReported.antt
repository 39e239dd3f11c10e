-- What is reported of a data island's columns as received.
use Rattle.std.proofs.Common.{◌≡◌, ℕ, suc, zero, ◌+◌, ◌*◌, ◌-◌, ◌<◌, ◌≤◌, Bool, true, false, cond, not, List, [], ◌∷◌, ◌++◌, length, map, take, drop, refl, ap, ap₂, sym, ◌∙◌, subst, append_assoc, arith, length-append, length-take, zero-add}
use Rattle.std.proofs.lemmas.List.{append-nil, take_all, map-append}
use Rattle.std.proofs.lemmas.List.Folds.{list_all-append}
use Rattle.std.proofs.lemmas.Bool.{cases_lt, ne_eqb, le-leb, le-ltb, lt-ltb}
use Rattle.std.proofs.Math.Seq.{take-append-add}
use Rattle.tmds_word.specs.Column.{Column}
use Rattle.terc4.specs.Columns.{closes}
use Rattle.island_pack.specs.Packets.{CarriesFreely}
use Rattle.island_pack.specs.Periods.{DataIsland, period_columns}
use Rattle.island_pack.specs.Spelling.{guard_column, guard_columns, column_words}
use Rattle.island_pack.specs.declared.packet.Packet.{Packet}
use Rattle.island_pack.specs.Repaired.{verdicts_of}
use Rattle.period_grammar.specs.Events.{Event, cut, broken, long_island, packet, event_of}
use Rattle.period_grammar.specs.Island.{Payload, parts, with_packet, when, if_so, packet_faults, packet_events, in_packets, left_at, begins_close, holds_packet, split, payload, closing_events, in_closing, in_left, in_island, breaks}
use Rattle.period_grammar.specs.Heard.{island, opened, opening, payload_closes, in_gap, at_close, at_end}
use Rattle.link_laws.specs.Account.{packet_row, packet_reported, open_island_row, close_island_row, packets_reported, island_reported, period_row}
use Rattle.link_laws.proofs.Cutting.{NoneControl, gap_events}
use Rattle.link_laws.proofs.Rows.{and_both}
use Rattle.link_laws.proofs.Conformed.{IsIsland}
use Rattle.link_laws.proofs.Between.{take_seam, drop_seam, IsGap, lacks_preamble}
use Rattle.link_laws.proofs.IslandColumns.{AreParts, parts_open, ArePackets, no_packets, one_more, packets_no_control, packet_sent, packet_received, packets_received}
use Rattle.link_laws.proofs.PacketRow.{packet_row_taken}
use Rattle.link_laws.proofs.Guards.{guard_no_control, stays_without_control, opens_island, guards_close}
use Rattle.period_grammar.proofs.Islands.{holds_is, holds_not, split_none, split_one}
use Rattle.period_grammar.proofs.Hearings.{events_at}
use Rattle.link_laws.proofs.VideoReported.{AreGuards}
use Rattle.island_pack.specs.Periods as sends

-- What is reported of packets and what is left, from column s on, after k packets.

abbrev reported : (ℕ → Event) → ℕ → ℕ → ℕ → Payload → List Event
reported f b s k (parts ps t) = map event_of (in_packets s k ps ++ in_left b (s + 32 * length ps) (k + length ps) t) ++ if_so (not (begins_close t)) (f (s + 32 * length ps))

reported_island : (f : ℕ → Event) (b : ℕ) (p : Payload) → map event_of (in_island b p) ++ breaks f b p ≡ reported f b (b + 2) 0 p
unfolding in_island
reported_island f b (parts ps t) =
    ap (λ k. map event_of (in_packets (b + 2) 0 ps ++ in_left b (left_at b ps) k t) ++ if_so (not (begins_close t)) (f (left_at b ps))) (sym (zero-add (length ps)))

reported_packet : (f : ℕ → Event) (b s k : ℕ) (p : List Column) (rest : Payload) → reported f b s k (with_packet p rest) ≡ packet_events s k p ++ reported f b (s + 32) (k + 1) rest
reported_packet f b s k p (parts ps t) = grind (arith, append_assoc, map-append, events_at)

-- what is left begins with no closing guard
reported_broken : (f : ℕ → Event) (b s k : ℕ) (cs : List Column) → begins_close cs ≡ false → reported f b s k (parts [] cs) ≡ f s ∷ []
reported_broken f b s k cs h =
    let e : s + 32 * 0 ≡ s = omega arith in
    ap (λ p. map event_of (when p (in_closing b (s + 32 * 0) (k + 0) cs)) ++ if_so (not p) (f (s + 32 * 0))) h ∙ ap (λ u. f u ∷ []) e

take_none : (i : ℕ) → take {A = Column} i [] ≡ []
take_none i = grind arith

closing_reported : (f : ℕ → Event) (c d : Column) (n b s k i : ℕ) (ss : List Column) → closes c d ≡ true → 1 ≤ k → reported f b s k (split n (take i (c ∷ (d ∷ [])))) ≡ packets_reported f s [] i ss (c ∷ (d ∷ []))
unfolding packets_reported closing_events close_island_row
closing_reported f c d n b s k zero ss h some = ap (reported f b s k) (split_none n [] (holds_not [] (omega arith))) ∙ reported_broken f b s k [] refl
closing_reported f c d n b s k (suc zero) ss h some =
    ap (reported f b s k) (split_none n (c ∷ []) (holds_not (c ∷ []) (omega arith))) ∙ reported_broken f b s k (c ∷ []) refl
closing_reported f c d n b s k (suc (suc i)) ss h some = grind (arith, take_none, split_none, holds_not, le-leb, ne_eqb, append-nil, events_at)

pub split_some : (m : ℕ) (cs : List Column) → holds_packet cs ≡ true → 32 ≤ length cs → length cs ≤ m → split m cs ≡ with_packet (take 32 cs) (split (m - 1) (drop 32 cs))
split_some zero cs h long le = absurd (omega arith)
split_some (suc m) cs h long le = let e : m ≡ suc m - 1 = omega arith in split_one m cs h ∙ ap (λ l. with_packet (take 32 cs) (split l (drop 32 cs))) e

-- a whole packet, of the first eighteen of an island
pub packet_events_are : (s k : ℕ) (first : Bool) (p : Packet) (ss rs : List Column) → k < 18 → CarriesFreely p (map column_words ss) → length rs ≡ 32 → packet_events s k rs ≡ packet_reported s p ss rs
unfolding packet_events packet_reported
packet_events_are s k first p ss rs lt c long =
    ap₂ (λ (q : Packet) (t : Bool). packet q (verdicts_of rs) s ∷ (packet_faults s (verdicts_of rs) ++ if_so t (long_island s))) (packet_row_taken p first ss rs c long) (ne_eqb k 18 (λ e. omega arith))
    ∙ ap (λ ts. packet (packet_row p ss rs) (verdicts_of rs) s ∷ ts) (append-nil (packet_faults s (verdicts_of rs)))

one_whole : (m : ℕ) (f : ℕ → Event) (first : Bool) (p : Packet) (ps : List Packet) (own reception more rest : List Column) (b s k i : ℕ)
    → CarriesFreely p (map column_words own) → AreParts own reception → k < 18 → length (take i (reception ++ rest)) ≤ m → 32 ≤ i
    → ((l : ℕ) → length (take (i - 32) rest) ≤ l → reported f b (s + 32) (k + 1) (split l (take (i - 32) rest)) ≡ packets_reported f (s + 32) ps (i - 32) more rest)
    → reported f b s k (split m (take i (reception ++ rest))) ≡ packets_reported f s (p ∷ ps) i (own ++ more) (reception ++ rest)
unfolding packets_reported
one_whole m f first p ps own reception more rest b s k i c are few fuel whole ih =
    let sent = packet_sent first p own c in
    let long = packet_received first p own reception c are in
    let e : i ≡ length reception + (i - 32) = omega arith in
    let cs = reception ++ take (i - 32) rest in
    let taken : take i (reception ++ rest) ≡ cs = ap (λ (j : ℕ). take j (reception ++ rest)) e ∙ take-append-add reception rest (i - 32) in
    let l = ap length taken in
    let u = length-append reception (take (i - 32) rest) in
    ap (reported f b s k) (ap (split m) taken ∙ split_some m cs (holds_is cs (ap begins_close (sym taken) ∙ parts_open i own reception rest are (omega arith)) (omega arith)) (omega arith) (omega arith))
    ∙ reported_packet f b s k (take 32 cs) (split (m - 1) (drop 32 cs))
    ∙ ap₂ (λ (a d : List Column). packet_events s k a ++ reported f b (s + 32) (k + 1) (split (m - 1) d)) (take_seam reception (take (i - 32) rest) 32 long) (drop_seam reception (take (i - 32) rest) 32 long)
    ∙ ap₂ (λ (ts us : List Event). ts ++ us) (packet_events_are s k first p own reception few c long) (ih (m - 1) (omega arith))
    ∙ sym (
    ap (λ q. cond q (f s ∷ []) (packet_reported s p (take 32 (own ++ more)) (take 32 (reception ++ rest)) ++ packets_reported f (s + 32) ps (i - 32) (drop 32 (own ++ more)) (drop 32 (reception ++ rest)))) (le-ltb i 32 whole)
    ∙ ap₂ (λ (a d : List Column). packet_reported s p a d ++ packets_reported f (s + 32) ps (i - 32) (drop 32 (own ++ more)) (drop 32 (reception ++ rest))) (take_seam own more 32 sent) (take_seam reception rest 32 long)
    ∙ ap₂ (λ (a d : List Column). packet_reported s p own reception ++ packets_reported f (s + 32) ps (i - 32) a d) (drop_seam own more 32 sent) (drop_seam reception rest 32 long)
    )

-- a packet before others
packet_first : (m : ℕ) (f : ℕ → Event) (first : Bool) (p : Packet) (ps : List Packet) (own reception more rest : List Column) (b s k i : ℕ)
    → CarriesFreely p (map column_words own) → AreParts own reception → k < 18 → length (take i (reception ++ rest)) ≤ m
    → ((l : ℕ) → length (take (i - 32) rest) ≤ l → reported f b (s + 32) (k + 1) (split l (take (i - 32) rest)) ≡ packets_reported f (s + 32) ps (i - 32) more rest)
    → reported f b s k (split m (take i (reception ++ rest))) ≡ packets_reported f s (p ∷ ps) i (own ++ more) (reception ++ rest)
unfolding packets_reported
packet_first m f first p ps own reception more rest b s k i c are few fuel ih = grind (arith, cases_lt, packet_received, parts_open, one_whole, length-take, split_none, holds_not, reported_broken, lt-ltb)

-- the law of packets, k of which were received before
split_reported : (first : Bool) (ps : List Packet) (pp qq : List Column) → ArePackets first ps pp qq → (m : ℕ) (f : ℕ → Event) (close : List Column) (c d : Column) (b s k i : ℕ) → closes c d ≡ true → 1 ≤ k + length ps → k + length ps ≤ 18
    → length (take i (qq ++ (c ∷ (d ∷ [])))) ≤ m → reported f b s k (split m (take i (qq ++ (c ∷ (d ∷ []))))) ≡ packets_reported f s ps i (pp ++ close) (qq ++ (c ∷ (d ∷ [])))
split_reported _ _ _ _ (no_packets first) m f close c d b s k i shut some few fuel = closing_reported f c d m b s k i close shut (omega arith)
split_reported _ _ _ _ (one_more first p ps own reception ss rs carries are hs) m f close c d b s k i shut some few fuel =
    let end = c ∷ (d ∷ []) in
    let e = append_assoc own ss close in
    let g = append_assoc reception rs end in
    ap (λ (cs : List Column). reported f b s k (split m (take i cs))) g
    ∙ packet_first m f first p ps own reception (ss ++ close) (rs ++ end) b s k i carries are (omega arith) (subst (λ (cs : List Column). length (take i cs) ≤ m) g fuel)
    (λ l le. split_reported false ps ss rs hs l f close c d b (s + 32) (k + 1) (i - 32) shut (omega arith) (omega arith) le)
    ∙ sym (ap₂ (λ (a z : List Column). packets_reported f s (p ∷ ps) i a z) e g)

-- where all were received, what is reported of a part that is not whole does not matter
whole_same : (ps : List Packet) (f g : ℕ → Event) (s i : ℕ) (ss rs : List Column) → 32 * length ps + 2 ≤ i → packets_reported f s ps i ss rs ≡ packets_reported g s ps i ss rs
unfolding packets_reported
whole_same [] f g s i ss rs le = grind (arith, le-leb)
whole_same (p ∷ ps) f g s i ss rs le = grind (arith, le-ltb, whole_same ps f g)

-- The whole island.

abbrev pub framed : Column → Column → List Column → Column → Column → List Column
framed g h qq c d = g ∷ (h ∷ (qq ++ (c ∷ (d ∷ []))))

-- the columns of an island as sent
abbrev pub frame : DataIsland → List Column → List Column
frame x pp = guard_columns x.opening ++ (pp ++ guard_columns x.closing)

going_on : (b : ℕ) (control : List Column) (g h : Column) (rest : List Column) → 12 ≤ length control → opened g h ≡ island
    → gap_events b control (g ∷ (h ∷ rest)) ≡ open_island_row b control (g ∷ (h ∷ rest)) ++ map event_of (in_island b (payload rest))
unfolding in_gap open_island_row
going_on b control g h rest long opens = grind (arith, map-append, events_at, lacks_preamble)

pub closes_on : (b : ℕ) (g h : Column) (rest : List Column) → opened g h ≡ island → at_close b (g ∷ (h ∷ rest)) ≡ breaks broken b (payload rest)
unfolding at_close
closes_on b g h rest opens = ap (λ k. payload_closes b k rest) opens

open_row_part : (b : ℕ) (control : List Column) (g h : Column) (xs ys : List Column) → open_island_row b control (g ∷ (h ∷ xs)) ≡ open_island_row b control (g ∷ (h ∷ ys))
unfolding open_island_row
open_row_part b control g h xs ys = refl

packets_all : (f : ℕ → Event) (x : DataIsland) (pp qq : List Column) (c d : Column) (b i : ℕ) → IsIsland x → closes c d ≡ true → ArePackets true x.packets pp qq
    → map event_of (in_island b (payload (take i (qq ++ (c ∷ (d ∷ [])))))) ++ breaks f b (payload (take i (qq ++ (c ∷ (d ∷ [])))))
    ≡ packets_reported f (b + 2) x.packets i (pp ++ guard_columns x.closing) (qq ++ (c ∷ (d ∷ [])))
packets_all f x pp qq c d b i h shut are = grind (arith, reported_island, split_reported)

part : (x : DataIsland) (g h c d : Column) (pp qq control : List Column) (b k : ℕ) → IsIsland x → opened g h ≡ island → closes c d ≡ true → ArePackets true x.packets pp qq → 12 ≤ length control → 1 ≤ k
    → gap_events b control (take k (framed g h qq c d)) ++ at_end b (take k (framed g h qq c d)) ≡ island_reported b k control x (frame x pp) (framed g h qq c d)
unfolding island_reported at_end in_gap
part x g h c d pp qq control b k l m p q r s = grind (arith, going_on, append_assoc, open_row_part, packets_all)

whole : (x : DataIsland) (g h c d : Column) (pp qq control : List Column) (b k : ℕ) → IsIsland x → opened g h ≡ island → closes c d ≡ true → ArePackets true x.packets pp qq → 12 ≤ length control → 4 + 32 * length x.packets < k
    → gap_events b control (framed g h qq c d) ++ at_close b (framed g h qq c d) ≡ island_reported b k control x (frame x pp) (framed g h qq c d)
unfolding island_reported
whole x g h c d pp qq control b zero i opens shut are long lt = absurd (omega arith)
whole x g h c d pp qq control b (suc zero) i opens shut are long lt = absurd (omega arith)
whole x g h c d pp qq control b (suc (suc k)) i opens shut are long lt =
    let rest = qq ++ (c ∷ (d ∷ [])) in
    let n = packets_received true x.packets pp qq are in
    let a = length-append qq (c ∷ (d ∷ [])) in
    let row = open_island_row b control (g ∷ (h ∷ rest)) in
    ap₂ (λ (a e : List Event). a ++ e) (going_on b control g h rest long opens) (closes_on b g h rest opens)
    ∙ append_assoc row (map event_of (in_island b (payload rest))) (breaks broken b (payload rest))
    ∙ ap (λ (cs : List Column). row ++ (map event_of (in_island b (payload cs)) ++ breaks broken b (payload cs))) (sym (take_all k rest (omega arith)))
    ∙ ap (λ ts. row ++ ts)
    (packets_all broken x pp qq c d b k i shut are ∙ whole_same x.packets broken cut (b + 2) k (pp ++ guard_columns x.closing) rest (omega arith))

guards_no_control : (u v : ℕ) (g h : Column) (rs : List Column) → u < 4 → v < 4 → AreGuards (guard_column u) (guard_column v) g h → NoneControl rs → NoneControl (g ∷ (h ∷ rs))
guards_no_control u v g h rs lu lv are none =
    let one = are.one in
    and_both _ _ (ap not (stays_without_control (guard_column u) g (guard_no_control u lu) (omega arith))) (and_both _ _ (ap not (stays_without_control (guard_column v) h (guard_no_control v lv) (omega arith))) none)

-- an island's guard columns as received
pub record AreIslandGuards (x : DataIsland) (g h c d : Column) : Type 0 where
  pub opening : AreGuards (guard_column x.opening.first) (guard_column x.opening.second) g h
  pub closing : AreGuards (guard_column x.closing.first) (guard_column x.closing.second) c d

framed_no_control : (x : DataIsland) (g h c d : Column) (qq : List Column) → IsIsland x → AreIslandGuards x g h c d → NoneControl qq → NoneControl (framed g h qq c d)
framed_no_control x g h c d qq i are none = grind (arith, guards_no_control, list_all-append, and_both)

-- the law of a data island
pub island_gap : (before : List Column) (x : DataIsland) (g h c d : Column) (pp qq : List Column) → 12 ≤ length before → IsIsland x → AreIslandGuards x g h c d → ArePackets true x.packets pp qq
    → IsGap before (sends.island x) (frame x pp) (framed g h qq c d)
unfolding period_columns period_row island_reported
island_gap before x g h c d pp qq long i guards are = grind (arith, packets_received, opens_island, guards_close, framed_no_control, packets_no_control, length-append, part, whole)
