-- A packet of a data island in a stream, and the columns that it was sent in.
use Rattle.std.proofs.Common.{◌≡◌, ℕ, suc, zero, ◌+◌, ◌-◌, ◌*◌, ◌<◌, ◌≤◌, Bool, true, false, not, List, [], ◌∷◌, ◌++◌, length, map, take, drop, refl, ap, ap₂, sym, ◌∙◌, subst, append_assoc, arith, length-take-le, length-drop}
use Rattle.std.specs.Prelude.{Some, slice_get}
use Rattle.std.proofs.lemmas.List.{append-nil, map-append, length-map, drop-drop, drop-take, take-take, take_at, drop-append-le, take-append-le}
use Rattle.std.proofs.lemmas.Option.{slice_get_within}
use Rattle.std.proofs.Math.Seq.{take-add}
use Rattle.tmds_word.specs.Column.{Column}
use Rattle.terc4.specs.Columns.{is_control_column}
use Rattle.island_pack.specs.Packets.{CarriesFreely}
use Rattle.island_pack.specs.Periods.{DataIsland, Period, island, period_columns, columns_of}
use Rattle.island_pack.specs.Sparse.{column_at}
use Rattle.island_pack.specs.Spelling.{column_words, guard_columns, SpellsPacketsBy, SpellsBy, freely}
use Rattle.island_pack.specs.declared.packet.Packet.{Packet}
use Rattle.period_grammar.specs.Events.{Event, event_of}
use Rattle.period_grammar.specs.Island.{begins_close, packet_events}
use Rattle.period_grammar.specs.Heard.{opened, island as opens_island, heard_so_far}
use Rattle.period_grammar.proofs.Hearings.{events_at}
use Rattle.link_laws.specs.Local.{part_at, PacketInStream}
use Rattle.link_laws.proofs.Cutting.{NoneControl}
use Rattle.link_laws.proofs.LocalPackets.{ArePlaced, none_placed, one_placed, packet_anywhere}
use Rattle.link_laws.proofs.LocalStream.{heard_front, spelled_at}
use Rattle.link_laws.proofs.Rows.{and_both}
use Rattle.link_laws.proofs.SpelledWords.{packets_size}
use Rattle.link_laws.proofs.Start.{drop_over}

-- Columns from a place on.

none_at : (cs : List Column) (j n : ℕ) → j + n ≤ length cs → ((i : ℕ) → j ≤ i → i < j + n → is_control_column (column_at cs i) ≡ false) → NoneControl (take n (drop j cs))
none_at cs zero zero le none = refl
none_at [] zero (suc n) le none = absurd (omega arith)
none_at (c ∷ cs) zero (suc n) le none = and_both _ _ (ap not (none zero (omega arith) (omega arith))) (none_at cs zero n (omega arith) (λ i from to. none (suc i) (omega arith) (omega arith)))
none_at [] (suc j) zero le none = refl
none_at [] (suc j) (suc n) le none = absurd (omega arith)
none_at (c ∷ cs) (suc j) n le none = none_at cs j n (omega arith) (λ i from to. none (suc i) (omega arith) (omega arith))

three_taken : (cs : List Column) (i n : ℕ) → i + 3 + n ≤ length cs
    → take (suc (suc (suc n))) (drop i cs) ≡ column_at cs i ∷ (column_at cs (suc i) ∷ (column_at cs (suc (suc i)) ∷ take n (drop (suc (suc (suc i))) cs)))
three_taken [] i n le = absurd (omega arith)
three_taken (c ∷ []) zero n le = absurd (omega arith)
three_taken (c ∷ (d ∷ [])) zero n le = absurd (omega arith)
three_taken (c ∷ (d ∷ (e ∷ cs))) zero n le = refl
three_taken (c ∷ cs) (suc i) n le = three_taken cs i n (omega arith)

-- columns from a on: those before column i, it, the next two, and n more
pieces : (cs : List Column) (a i n : ℕ) → a ≤ i → i + 3 + n ≤ length cs
    → take (i + 3 + n - a) (drop a cs) ≡ take (i - a) (drop a cs) ++ ((column_at cs i ∷ []) ++ (column_at cs (suc i) ∷ (column_at cs (suc (suc i)) ∷ take n (drop (suc (suc (suc i))) cs))))
pieces cs a i n late le =
    let x = i - a in
    let e : i + 3 + n - a ≡ x + suc (suc (suc n)) = omega arith in
    let f : a + x ≡ i = omega arith in
    ap (λ y. take y (drop a cs)) e
    ∙ take-add x (suc (suc (suc n))) (drop a cs)
    ∙ ap (λ ds. take x (drop a cs) ++ take (suc (suc (suc n))) ds) (drop-drop x a cs ∙ ap (λ y. drop y cs) f)
    ∙ ap (λ ds. take x (drop a cs) ++ ds) (three_taken cs i n le)

-- Packets one after another.

abbrev chunks : ℕ → List Column → List (List Column)
chunks zero cs = []
chunks (suc k) cs = take 32 cs ∷ chunks k (drop 32 cs)

chunks_long : (k : ℕ) (cs : List Column) → length (chunks k cs) ≡ k
chunks_long zero cs = refl
chunks_long (suc k) cs = ap suc (chunks_long k (drop 32 cs))

close_taken : (n : ℕ) (cs : List Column) → begins_close (take (suc (suc n)) cs) ≡ begins_close cs
close_taken n [] = refl
close_taken n (c ∷ []) = refl
close_taken n (c ∷ (d ∷ cs)) = refl

chunks_placed : (k : ℕ) (cs : List Column) → 32 * k ≤ length cs → ((i : ℕ) → i < k → begins_close (drop (32 * i) cs) ≡ false) → ArePlaced (chunks k cs) (take (32 * k) cs)
chunks_placed zero cs le unshut = none_placed
chunks_placed (suc k) cs le unshut =
    let e : 32 * suc k ≡ 32 + 32 * k = omega arith in
    let l = length-drop 32 cs in
    let more : (i : ℕ) → i < k → begins_close (drop (32 * i) (drop 32 cs)) ≡ false =
    λ i lt. let f : 32 + 32 * i ≡ 32 * suc i = omega arith in ap begins_close (drop-drop (32 * i) 32 cs ∙ ap (λ n. drop n cs) f) ∙ unshut (suc i) (omega arith) in
    subst (ArePlaced (chunks (suc k) cs)) (sym (ap (λ n. take n cs) e ∙ take-add 32 (32 * k) cs))
    (one_placed (take 32 cs) (chunks k (drop 32 cs)) (take (32 * k) (drop 32 cs)) (length-take-le 32 cs (omega arith)) (close_taken 30 cs ∙ unshut zero (omega arith)) (chunks_placed k (drop 32 cs) (omega arith) more))

-- In a stream.

pub packet_in_stream : PacketInStream
packet_in_stream received zero k a m h late past within = absurd (let one = h.after in omega arith)
packet_in_stream received (suc i) k a m h late past within =
    let place = suc i + 2 + 32 * k in
    let from = suc (suc (suc i)) in
    let rest = drop from received in
    let cs = take m (drop a received) in
    let c = column_at received i in
    let g = column_at received (suc i) in
    let d = column_at received (suc (suc i)) in
    let few = take (32 * k) rest in
    let p = take 32 (drop place received) in
    let earlier = take (i - a) (drop a received) in
    let ps = chunks k rest in
    let l = length-drop a received in
    let lp = length-drop place received in
    let lr = length-drop from received in
    let size : length earlier ≡ i - a = length-take-le (i - a) (drop a received) (omega arith) in
    let count = chunks_long k rest in
    let last : take (32 * k + 32) rest ≡ few ++ (p ++ []) =
    take-add (32 * k) 32 rest ∙ ap (λ ds. few ++ take 32 ds) (drop-drop (32 * k) from received ∙ ap (λ n. drop n received) (same_place i k)) ∙ ap (λ ds. few ++ ds) (sym (append-nil p)) in
    let to_first : take (place - a) cs ≡ earlier ++ ((c ∷ []) ++ (g ∷ (d ∷ few))) =
    take-take (place - a) m (drop a received) (omega arith) ∙ ap (λ n. take n (drop a received)) (first_columns i k a) ∙ pieces received a i (32 * k) (omega arith) (omega arith) in
    let to_last : take (place + 32 - a) cs ≡ earlier ++ ((c ∷ []) ++ (g ∷ (d ∷ (few ++ (p ++ []))))) =
    take-take (place + 32 - a) m (drop a received) (omega arith)
    ∙ ap (λ n. take n (drop a received)) (last_columns i k a)
    ∙ pieces received a i (32 * k + 32) (omega arith) (omega arith)
    ∙ ap (λ ds. earlier ++ ((c ∷ []) ++ (g ∷ (d ∷ ds)))) last in
    let none_few : NoneControl few = none_at received from (32 * k) (omega arith) (λ n low high. h.going n (omega arith) (omega arith)) in
    let none_more : NoneControl (few ++ (p ++ [])) = subst NoneControl last (none_at received from (32 * k + 32) (omega arith) (λ n low high. h.going n (omega arith) (omega arith))) in
    let none_g = ap not (h.going (suc i) (omega arith) (omega arith)) in
    let none_d = ap not (h.going (suc (suc i)) (omega arith) (omega arith)) in
    let placed : ArePlaced ps few = chunks_placed k rest (omega arith)
    (λ n lt. ap begins_close (drop-drop (32 * n) from received ∙ ap (λ x. drop x received) (same_place i n)) ∙ h.unshut n (omega arith)) in
    let law = packet_anywhere earlier (c ∷ []) g d ps few p (omega arith) (and_both _ _ (subst (λ n. is_control_column (column_at received n) ≡ true) (one_before i) h.control) refl)
    (subst (λ n. opened g (column_at received n) ≡ opens_island) (one_after i) h.opens) placed (length-take-le 32 (drop place received) (omega arith)) (close_taken 30 (drop place received) ∙ h.unshut k (omega arith))
    (and_both _ _ none_g (and_both _ _ none_d none_few)) (and_both _ _ none_g (and_both _ _ none_d none_more)) in
    let n = length earlier + length (c ∷ []) + 2 + 32 * length ps in
    let here : n ≡ place - a = omega arith in
    let front = heard_front (place + 32 - a) cs in
    let is : map event_of (heard_so_far (take (place + 32 - a) cs)) ≡ map event_of (heard_so_far (take (place - a) cs)) ++ packet_events (place - a) k p =
    ap (λ ds. map event_of (heard_so_far ds)) to_last
    ∙ ap (map event_of) law
    ∙ map-append event_of (heard_so_far (earlier ++ ((c ∷ []) ++ (g ∷ (d ∷ few))))) _
    ∙ ap₂ (λ (us vs : List Event). us ++ vs) (ap (λ ds. map event_of (heard_so_far ds)) (sym to_first))
    (events_at (n + 31) (packet_events n (length ps) p) ∙ ap₂ (λ (x y : ℕ). packet_events x y p) here count) in
    (front.0, front.1 ∙ ap (λ ts. ts ++ front.0) is ∙ append_assoc (map event_of (heard_so_far (take (place - a) cs))) (packet_events (place - a) k p) front.0)
  where
    same_place : (i k : ℕ) → suc (suc (suc i)) + 32 * k ≡ suc i + 2 + 32 * k
    same_place i k = omega arith

    first_columns : (i k a : ℕ) → suc i + 2 + 32 * k - a ≡ i + 3 + 32 * k - a
    first_columns i k a = omega arith

    last_columns : (i k a : ℕ) → suc i + 2 + 32 * k + 32 - a ≡ i + 3 + (32 * k + 32) - a
    last_columns i k a = omega arith

    one_before : (i : ℕ) → suc i - 1 ≡ i
    one_before i = omega arith

    one_after : (i : ℕ) → suc i + 1 ≡ suc (suc i)
    one_after i = omega arith

-- The columns of packet k as it was sent.

carried_at : (first : Bool) (ps : List Packet) (cs : List Column) → SpellsPacketsBy freely first ps cs → (k : ℕ) (p : Packet) → slice_get ps k ≡ Some p → CarriesFreely p (map column_words (take 32 (drop (32 * k) cs)))
carried_at first [] cs h k p is = grind arith
carried_at first (q ∷ ps) cs h zero p is =
    let n = h.3.count in
    let l = length-map h.0 column_words in
    subst (λ r. CarriesFreely r (map column_words (take 32 (drop (32 * zero) cs)))) (some_same q p is)
    (subst (λ ds. CarriesFreely q (map column_words ds)) (sym (ap (take 32) h.2 ∙ take_at h.0 h.1 32 (omega arith))) h.3)
  where
    some_same : (q p : Packet) → Some q ≡ Some p → q ≡ p
    some_same q p e = grind arith
carried_at first (q ∷ ps) cs h (suc k) p is =
    let n = h.3.count in
    let l = length-map h.0 column_words in
    let e : 32 * suc k ≡ 32 + 32 * k = omega arith in
    subst (λ ds. CarriesFreely p (map column_words (take 32 ds)))
    (sym (ap₂ (λ (x : ℕ) (ds : List Column). drop x ds) e h.2 ∙ drop_over h.0 h.1 32 (32 * k) (omega arith)))
    (carried_at false ps h.1 h.4 k p is)

-- of an island that stands in columns from column j on
within_island : (x : DataIsland) (j : ℕ) (cs pp : List Column) → part_at j (island x) cs ≡ guard_columns x.opening ++ (pp ++ guard_columns x.closing) → length pp ≡ 32 * length x.packets
    → (k : ℕ) → k < length x.packets → take 32 (drop (j + 2 + 32 * k) cs) ≡ take 32 (drop (32 * k) pp)
unfolding period_columns
within_island x j cs pp is long k lt =
    let n = length x.packets in
    let y = 2 + 32 * k in
    let m = 4 + 32 * n - y in
    let size : period_columns (island x) ≡ y + m = omega arith in
    let e : j + y ≡ j + 2 + 32 * k = omega arith in
    let l = length-drop (32 * k) pp in
    let there : drop y (part_at j (island x) cs) ≡ take m (drop (j + 2 + 32 * k) cs) =
    ap (λ z. drop y (take z (drop j cs))) size ∙ drop-take y m (drop j cs) ∙ ap (take m) (drop-drop y j cs ∙ ap (λ z. drop z cs) e) in
    sym (take-take 32 m (drop (j + 2 + 32 * k) cs) (omega arith))
    ∙ ap (take 32) (sym there ∙ ap (drop y) is ∙ drop_over (guard_columns x.opening) (pp ++ guard_columns x.closing) 2 (32 * k) refl ∙ drop-append-le (32 * k) pp (guard_columns x.closing) (omega arith))
    ∙ take-append-le 32 (drop (32 * k) pp) (guard_columns x.closing) (omega arith)

pub carried_in_stream : (front : List Period) (x : DataIsland) (back : List Period) (sent : List Column) → SpellsBy freely (front ++ (island x ∷ back)) sent
    → (k : ℕ) (p : Packet) → slice_get x.packets k ≡ Some p → CarriesFreely p (map column_words (take 32 (drop (columns_of front + 2 + 32 * k) sent)))
carried_in_stream front x back sent h k p is =
    let own = spelled_at front (island x) back sent h in
    let long = packets_size true x.packets own.0 own.2 in
    subst (λ ds. CarriesFreely p (map column_words ds)) (sym (within_island x (columns_of front) sent own.0 own.1 long k (slice_get_within x.packets k p is)))
    (carried_at true x.packets own.0 own.2 k p is)
