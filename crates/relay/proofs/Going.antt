-- What a relay keeps, one period more.
use Rattle.std.proofs.Common.{◌⊎◌, inl, inr, Bool, true, false, min, take, ◌≡◌, ℕ, ◌+◌, ◌-◌, ◌^◌, ◌≤◌, max, List, [], ◌∷◌, ◌++◌, length, map, refl, ap, ap₂, sym, ◌∙◌, subst, arith, zero, suc}
use Rattle.std.specs.Prelude.{Option, Some, None, Result, Ok, Err, not, nat_le}
use Rattle.std.specs.Result.{IsErrAnd}
use Rattle.std.specs.List.{list_all, fold}
use Rattle.std.proofs.lemmas.Bool.{and_parts, and_from, le-leb}
use Rattle.std.proofs.lemmas.List.{append_assoc, map-append, length-map}
use Rattle.island_pack.specs.Periods.{SyncPair, DataIsland, period_columns, columns_of}
use Rattle.island_pack.specs.Conforming.{is_sync_pair, is_packet, is_data_island}
use Rattle.island_pack.specs.Ranges.{is_island_in_range}
use Rattle.island_pack.specs.Runs.{longest}
use Rattle.island_pack.specs.declared.packet.Packet.{Packet}
use Rattle.island_pack.specs.declared.ranges.TheConstants.{COLUMN_LIMIT}
use Rattle.source_end.specs.declared.gathering.Gathering.{Gathering}
use Rattle.source_end.specs.Gathering.{part_size, Has}
use Rattle.source_end.specs.Gathering.{size as parts_size}
use Rattle.source_end.specs.Raster.{Part, column, gathered}
use Rattle.source_end.proofs.Gathered.{same_some}
use Rattle.period_grammar.specs.Events.{Event}
use Rattle.relay.specs.declared.relaying.Relay.{Relay}
use Rattle.relay.specs.declared.relaying.RelayFault.{RelayFault}
use Rattle.relay.specs.declared.relaying.RelayFault.TheVariants.{Long, NoMemory}
use Rattle.relay.specs.Relayed.{Judged, Begun, WholeIsland, data_of, some_island, where_so, closed, sure, with_nulls, nulled, joined, with_packet, Data, a_line, an_island, Turn, Alternation, ended, on_turn, filled, lengthened, announcing, preamble_of, announced_turn, announced, on_values, period_of, settled, relayed}
use Rattle.relay.specs.Changed.{changed_from}
use Rattle.relay.specs.Handed.{Took}
use Rattle.relay.specs.Parts.{part_of, parts_in, AreSome}
use Rattle.relay.specs.Laws.{turns_in}
use Rattle.relay.specs.Sizes.{size_in, size}
use Rattle.relay.specs.Standing.{settled_parts, no_pair, held, Fits, IsAt}
use Rattle.relay.specs.Steps.{Steps, IsSettled}
use Rattle.relay.proofs.Lists.{all_both}
use Rattle.relay.proofs.Changing.{announced_from, changed_none}
use Rattle.relay.proofs.Conforming.{length-lengthened, length-announcing}
use Rattle.relay.proofs.Gaining.{gained}
use Rattle.relay.proofs.Growing.{size_both, size_ended, columns_settled}
use Rattle.relay.proofs.Parting.{parts_gather}

parts_more : (xs : List Turn) (y : Turn) → parts_in (xs ++ y ∷ []) [] ≡ parts_in xs [] ++ (map column y.values ++ part_of y.inner ∷ [])
parts_more [] y = refl
parts_more (x ∷ xs) y = grind (arith, append_assoc, parts_more xs y)

abbrev settled_turn : Turn → Turn
settled_turn x = announced_turn (on_turn lengthened (on_turn filled x))

turns_more : (xs : List Turn) (x : Turn) → map announced_turn (map (on_turn lengthened) (map (on_turn filled) (xs ++ x ∷ []))) ≡ map announced_turn (map (on_turn lengthened) (map (on_turn filled) xs)) ++ settled_turn x ∷ []
turns_more [] x = refl
turns_more (y ∷ ys) x = ap (λ us. settled_turn y ∷ us) (turns_more ys x)

-- one turn more
pub settled_more : (xs : List Turn) (x : Turn) → settled_parts (xs ++ x ∷ []) ≡ settled_parts xs ++ (map column (announcing (preamble_of x.inner) (lengthened (filled x.values))) ++ part_of x.inner ∷ [])
settled_more xs x = ap (λ ys. parts_in ys []) (turns_more xs x) ∙ parts_more (map announced_turn (map (on_turn lengthened) (map (on_turn filled) xs))) (settled_turn x)

part_long : (d : Data) → part_size (part_of d) ≡ period_columns (period_of d)
unfolding period_columns
part_long (a_line bytes) = refl
part_long (an_island x) = refl

one_size : (vs : List ℕ) (d : Data) (ps : List Part) → parts_size (map column vs ++ (part_of d ∷ ps)) ≡ length vs + period_columns (period_of d) + parts_size ps
unfolding parts_size
one_size [] d ps = let e = part_long d in omega arith
one_size (v ∷ vs) d ps = let ih = one_size vs d ps in omega arith

none_size : parts_size [] ≡ 0
unfolding parts_size
none_size = refl

pub settled_size : (xs : List Turn) → parts_size (settled_parts xs) ≡ size_in xs
settled_size [] = none_size
settled_size (x ∷ xs) = grind (arith, one_size, length-announcing, length-lengthened, settled_size xs)

length-changed : (bits k : ℕ) (vs : List ℕ) → length (changed_from bits k vs) ≡ length vs
unfolding changed_from
length-changed bits k [] = refl
length-changed bits zero (v ∷ vs) = ap suc (length-changed bits zero vs)
length-changed bits (suc k) (v ∷ vs) = ap suc (length-changed bits k vs)

pub settled_has : (old now : Gathering) (t : Alternation) (bits k : ℕ) → Has old (settled_parts t.turns) → size_in t.turns + max 12 (length t.last) ≤ COLUMN_LIMIT
    → Took old now (changed_from bits k (lengthened (filled t.last))) → Has now (settled_parts t.turns ++ map column (changed_from bits k (lengthened (filled t.last))))
settled_has old now t bits k h few f = grind (arith, settled_size, length-changed, length-lengthened)

-- the last eight columns announce what follows
pub last_announced : (bits : ℕ) (last : List ℕ) → changed_from bits (length (lengthened (filled last)) - 8) (lengthened (filled last)) ≡ announcing bits (lengthened (filled last))
last_announced bits last = grind (arith, length-lengthened, announced_from)

-- what stands after a settled control period
pub ended_has : (now : Gathering) (t : Alternation) (d : Data) → Has now ((settled_parts t.turns ++ map column (changed_from (preamble_of d) (length (lengthened (filled t.last)) - 8) (lengthened (filled t.last)))) ++ part_of d ∷ []) → Has now (settled_parts (ended t d).turns)
ended_has now t d h = grind (arith, last_announced, append_assoc, settled_more)

pub ended_columns : (t : Alternation) (d : Data) (n m : ℕ) → n ≡ size t → m ≡ n + period_columns (period_of d) → m ≡ size_in (ended t d).turns
ended_columns t d n m a b = let s = size_both t.turns (record { values = t.last; inner = d } ∷ []) in omega arith

-- after a line or an island
pub at_ended : (old mid now : Relay) (t : Alternation) (d : Data) (good : Bool) (more : ℕ) → more ≡ period_columns (period_of d)
    → IsSettled old mid t (changed_from (preamble_of d) (length (lengthened (filled t.last)) - 8) (lengthened (filled t.last)))
    → old.faulty ≡ not good → old.island ≡ None → size (ended t d) ≤ COLUMN_LIMIT
    → Has now.whole ((settled_parts t.turns ++ map column (changed_from (preamble_of d) (length (lengthened (filled t.last)) - 8) (lengthened (filled t.last)))) ++ part_of d ∷ [])
    → now.period ≡ mid.period → now.period_columns ≡ mid.period_columns → now.columns ≡ min (mid.columns + more) (2 ^ 32 - 1) → now.island ≡ mid.island → now.faulty ≡ mid.faulty
    → IsAt now (ended t d) None good
unfolding longest
at_ended old mid now t d good more m s f i few h e0 e1 e2 e3 e4 = grind (arith, size_ended, ended_columns, ended_has)

-- Islands that go on.

take_none : (n : ℕ) (f : Judged → Packet) → map f (take n []) ≡ take n []
take_none zero f = refl
take_none (suc n) f = refl

take_more : (n : ℕ) (f : Judged → Packet) (xs : List Judged) (y : Judged) → take n (map f (take n xs) ++ f y ∷ []) ≡ map f (take n (xs ++ y ∷ []))
take_more zero f xs y = refl
take_more (suc n) f [] y = ap (λ ps. f y ∷ ps) (sym (take_none n f))
take_more (suc n) f (x ∷ xs) y = ap (λ ps. f x ∷ ps) (take_more n f xs y)

few_taken : (n : ℕ) (xs : List Judged) → length (take n xs) ≤ n
few_taken zero xs = omega arith
few_taken (suc n) [] = omega arith
few_taken (suc n) (x ∷ xs) = let ih = few_taken n xs in omega arith

pub few_held : (b : Option Begun) (x : DataIsland) → Some x ≡ held b → length x.packets ≤ 18
few_held None x e = absurd cc
few_held (Some b) x e = grind (arith, same_some, length-map, few_taken)

pub held_packet : (b : Option Begun) (x now : DataIsland) (j : Judged) (sent : Packet) → Some x ≡ held b → sent ≡ (sure j).packet
    → now ≡ record { opening = x.opening; packets = take 18 (x.packets ++ sent ∷ []); closing = x.closing } → Some now ≡ held (with_packet j b)
held_packet None x now j sent e s n = absurd cc
held_packet (Some b) x now j sent e s n =
    let f : Judged → Packet = λ p. (sure p).packet in
    let y : DataIsland = record { opening = b.opening; packets = map f (take 18 b.packets); closing = no_pair } in
    let same = same_some x y e in
    ap Some (n
    ∙ ap₂ (λ (z : DataIsland) (p : Packet). record { opening = z.opening; packets = take 18 (z.packets ++ p ∷ []); closing = z.closing }) same s
    ∙ ap (λ (ps : List Packet). record { opening = b.opening; packets = ps; closing = no_pair }) (take_more 18 f b.packets j))

pub fits_packet : (b : Option Begun) (j : Judged) → Fits b → is_packet j.packet ≡ true → Fits (with_packet j b)
fits_packet None j h p = tt
fits_packet (Some b) j h p =
    (h.0, ap (list_all is_packet) (map-append (λ (q : Judged). q.packet) b.packets (j ∷ [])) ∙ all_both is_packet (map (λ q. q.packet) b.packets) (j.packet ∷ []) h.1 (and_from (is_packet j.packet) true p refl))

-- Islands that close.

all_taken : (n : ℕ) (xs : List Judged) → list_all is_packet (map (λ p. p.packet) xs) ≡ true → list_all is_packet (map (λ p. p.packet) (take n xs)) ≡ true
all_taken zero xs h = refl
all_taken (suc n) [] h = refl
all_taken (suc n) (x ∷ xs) h = grind (arith, and_parts, and_from, all_taken n xs)

abbrev whole_of : Begun → SyncPair → WholeIsland
whole_of b pair = record { opening = b.opening; packets = take 18 b.packets; closing = pair }

whole_fits : (b : Begun) (pair : SyncPair) → Fits (Some b) → is_sync_pair pair ≡ true → is_data_island (data_of (whole_of b pair)) ≡ is_island_in_range (length (take 18 b.packets))
unfolding is_data_island
whole_fits b pair h p = grind (arith, length-map, all_taken)

in_range : (xs : List Judged) → length xs ≤ 18 → (xs ≡ [] → ⊥) → is_island_in_range (length xs) ≡ true
in_range [] few some = absurd (some refl)
in_range (x ∷ xs) few some = and_from (nat_le 1 (length (x ∷ xs))) (nat_le (length (x ∷ xs)) 18) (le-leb 1 (length (x ∷ xs)) (omega arith)) (le-leb (length (x ∷ xs)) 18 few)

map_map : (xs : List Judged) → map (λ p. p.packet) (map sure xs) ≡ map (λ p. (sure p).packet) xs
map_map [] = refl
map_map (x ∷ xs) = ap (λ ps. (sure x).packet ∷ ps) (map_map xs)

closes_some : (t : Alternation) (b : Begun) (pair : SyncPair) → is_data_island (data_of (whole_of b pair)) ≡ true
    → fold joined t (nulled (closed pair (Some b))) ≡ ended t (an_island (record { opening = b.opening; packets = map (λ p. (sure p).packet) (take 18 b.packets); closing = pair }))
unfolding nulled
closes_some t b pair e =
    ap (λ q. fold joined t (map with_nulls (where_so q (some_island (whole_of b pair))))) e
    ∙ ap (λ (ps : List Packet). ended t (an_island (record { opening = b.opening; packets = ps; closing = pair }))) (map_map (take 18 b.packets))

closes_none : (t : Alternation) (b : Begun) (pair : SyncPair) → is_data_island (data_of (whole_of b pair)) ≡ false → fold joined t (nulled (closed pair (Some b))) ≡ t
unfolding nulled
closes_none t b pair e = ap (λ q. fold joined t (map with_nulls (where_so q (some_island (whole_of b pair))))) e

no_map : (xs : List Judged) → map (λ p. (sure p).packet) xs ≡ [] → xs ≡ []
no_map [] e = refl
no_map (x ∷ xs) e = absurd cc

pub closed_empty : (t : Alternation) (b : Option Begun) (x : DataIsland) (pair : SyncPair) → Some x ≡ held b → Fits b → is_sync_pair pair ≡ true → x.packets ≡ [] → fold joined t (nulled (closed pair b)) ≡ t
closed_empty t None x pair e h p none = absurd cc
closed_empty t (Some b) x pair e h p none =
    let same = same_some x (record { opening = b.opening; packets = map (λ p. (sure p).packet) (take 18 b.packets); closing = no_pair }) e in
    let z = no_map (take 18 b.packets) (ap (λ (y : DataIsland). y.packets) (sym same) ∙ none) in
    closes_none t b pair (whole_fits b pair h p ∙ ap (λ (xs : List Judged). is_island_in_range (length xs)) z)

pub closed_some : (t : Alternation) (b : Option Begun) (x : DataIsland) (pair : SyncPair) → Some x ≡ held b → Fits b → is_sync_pair pair ≡ true → (x.packets ≡ [] → ⊥)
    → fold joined t (nulled (closed pair b)) ≡ ended t (an_island (record { opening = x.opening; packets = x.packets; closing = pair }))
closed_some t None x pair e h p some = absurd cc
closed_some t (Some b) x pair e h p some =
    let f : Judged → Packet = λ p. (sure p).packet in
    let same = same_some x (record { opening = b.opening; packets = map f (take 18 b.packets); closing = no_pair }) e in
    let z : take 18 b.packets ≡ [] → ⊥ = λ n. some (ap (λ (y : DataIsland). y.packets) same ∙ ap (map f) n) in
    closes_some t b pair (whole_fits b pair h p ∙ in_range (take 18 b.packets) (few_taken 18 b.packets) z)
    ∙ sym (ap (λ (y : DataIsland). ended t (an_island (record { opening = y.opening; packets = y.packets; closing = pair }))) same)

pub closed_none : (t : Alternation) (b : Option Begun) (pair : SyncPair) → None ≡ held b → fold joined t (nulled (closed pair b)) ≡ t
unfolding nulled
closed_none t None pair e = refl
closed_none t (Some b) pair e = absurd cc

some_or_none : (ps : List Packet) → (ps ≡ []) ⊎ (ps ≡ [] → ⊥)
some_or_none [] = inl refl
some_or_none (p ∷ ps) = inr (λ e. absurd cc)

pub closed_steps : {A : Type 0} (now : Relay) (r : Result A RelayFault) (t : Alternation) (b : Option Begun) (good : Bool) (x : DataIsland) (pair : SyncPair) → Some x ≡ held b → Fits b → is_sync_pair pair ≡ true
    → (x.packets ≡ [] → Steps now r t None good)
    → ((x.packets ≡ [] → ⊥) → length x.packets ≤ 18 → Steps now r (ended t (an_island (record { opening = x.opening; packets = x.packets; closing = pair }))) None good)
    → Steps now r (fold joined t (nulled (closed pair b))) None good
closed_steps now r t b good x pair e h p f g = grind (arith, some_or_none, closed_empty, closed_some, few_held)

-- memory was wanting for what is not too long
pub wanting_steps : {A : Type 0} (now : Relay) (r : Result A RelayFault) (t : Alternation) (b : Option Begun) (good : Bool) → IsErrAnd r (λ e. e ≡ NoMemory) → size t ≤ COLUMN_LIMIT → Steps now r t b good
wanting_steps now (Ok a) t b good h few = absurd h
wanting_steps now (Err Long) t b good h few = absurd (cc h)
wanting_steps now (Err NoMemory) t b good h few = (tt, few)

-- The stream.

parts_last : (xs : List Turn) (last : List ℕ) → parts_in xs last ≡ parts_in xs [] ++ map column last
parts_last [] last = refl
parts_last (x ∷ xs) last = grind (arith, append_assoc, parts_last xs last)

some_values : (vs : List ℕ) → 1 ≤ length vs → vs ≡ [] → ⊥
some_values [] h e = absurd (omega (arith, h))
some_values (v ∷ vs) h e = absurd cc

are_some : (xs : List Turn) → AreSome (map announced_turn (map (on_turn lengthened) (map (on_turn filled) xs)))
are_some [] = tt
are_some (x ∷ xs) =
    let vs = lengthened (filled x.values) in
    let a = length-announcing (preamble_of x.inner) vs in
    let b = length-lengthened x.values in
    (some_values (announcing (preamble_of x.inner) vs) (omega arith), are_some xs)

pub stream_parts : (reported : List Event) → gathered (settled_parts (turns_in reported).turns ++ map column (lengthened (filled (turns_in reported).last))) ≡ relayed reported
unfolding settled
stream_parts reported =
    let t = turns_in reported in
    let last = lengthened (filled t.last) in
    let n = length-lengthened t.last in
    let u : Alternation = announced (on_values lengthened (on_values filled t)) in
    ap gathered (sym (parts_last (map announced_turn (map (on_turn lengthened) (map (on_turn filled) t.turns))) last))
    ∙ sym (parts_gather u (are_some t.turns) (some_values last (omega arith)))
    ∙ sym (gained reported []).relayed_is

pub stream_has : (now : Gathering) (reported : List Event) → Has now (settled_parts (turns_in reported).turns ++ map column (changed_from 0 (length (lengthened (filled (turns_in reported).last)) - 0) (lengthened (filled (turns_in reported).last))))
    → Has now (settled_parts (turns_in reported).turns ++ map column (lengthened (filled (turns_in reported).last)))
stream_has now reported h =
    let ws = lengthened (filled (turns_in reported).last) in
    let n : length ws - 0 ≡ length ws = omega arith in
    subst (λ vs. Has now (settled_parts (turns_in reported).turns ++ map column vs)) (ap (λ k. changed_from 0 k ws) n ∙ changed_none 0 ws) h

pub stream_columns : (reported : List Event) → size (turns_in reported) ≡ columns_of (relayed reported)
stream_columns reported = sym (ap columns_of (gained reported []).relayed_is ∙ columns_settled (turns_in reported))
