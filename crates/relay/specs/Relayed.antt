-- What a relay makes of what is reported to it: a list of periods that conforms, by six rules. Each rule is a function
-- of lists.
use Rattle.std.specs.Prelude.{ℕ, ◌+◌, ◌-◌, ◌*◌, ◌%◌, Bool, true, false, ◌||◌, cond, List, [], ◌∷◌, ◌++◌, map, length, take, drop, reverse, replicate, Option, Some, None, is_some}
use Rattle.std.specs.List.{fold}
use Rattle.island_pack.specs.Periods.{ControlRun, SyncPair, DataIsland, Period, control, video, island, VIDEO_PREAMBLE, ISLAND_PREAMBLE}
use Rattle.island_pack.specs.Conforming.{is_run, is_video_period, is_data_island}
use Rattle.island_pack.specs.Runs.{longest}
use Rattle.island_pack.specs.Taken.{first_lost}
use Rattle.island_pack.specs.declared.packet.Packet.{Packet}
use Rattle.island_pack.specs.declared.packet.PacketVerdicts.{PacketVerdicts}
use Rattle.period_grammar.specs.Events.{Event, run, line, cut, open_island, packet, close_island}

-- Faults are left out, and what is no whole period.

-- an event that is no fault
pub data Said : Type 0 where
  columns : ControlRun → Said
  pixels : List ℕ → Said
  opens : SyncPair → Said
  carries : Packet → PacketVerdicts → Said
  closes : SyncPair → Said
  ends : Said

abbrev pub said : Event → List Said
said (run v n) = columns (record { value = v; count = n }) ∷ []
said (line bytes) = pixels bytes ∷ []
said (open_island a b) = opens (record { first = a; second = b }) ∷ []
said (packet p v s) = carries p v ∷ []
said (close_island a b) = closes (record { first = a; second = b }) ∷ []
said (cut j) = ends ∷ []
said _ = []

unfoldable pub without_faults : List Event → List Said
without_faults [] = []
without_faults (t ∷ ts) = said t ++ without_faults ts

-- a packet with the verdicts on its blocks
pub record Judged : Type 0 where
  pub packet : Packet
  pub verdicts : PacketVerdicts

pub record Begun : Type 0 where
  pub opening : SyncPair
  pub packets : List Judged

abbrev pub with_packet : Judged → Option Begun → Option Begun
with_packet p None = None
with_packet p (Some b) = Some (record { opening = b.opening; packets = b.packets ++ p ∷ [] })

-- the island that goes on after an event, where it went on before it or not: an opening begins one, a packet stays in
-- it, anything else ends it
abbrev pub goes_on : Said → Option Begun → Option Begun
goes_on (columns r) b = None
goes_on (pixels bytes) b = None
goes_on (opens pair) b = Some (record { opening = pair; packets = [] })
goes_on (carries p v) b = with_packet (record { packet = p; verdicts = v }) b
goes_on (closes pair) b = None
goes_on ends b = None

pub record WholeIsland : Type 0 where
  pub opening : SyncPair
  pub packets : List Judged
  pub closing : SyncPair

abbrev pub data_of : WholeIsland → DataIsland
data_of x = record { opening = x.opening; packets = map (λ p. p.packet) x.packets; closing = x.closing }

-- control columns of one value, a line, or a whole island with what was found of its packets
pub data RelayedPart : Type 0 where
  some_columns : ControlRun → RelayedPart
  some_line : List ℕ → RelayedPart
  some_island : WholeIsland → RelayedPart

abbrev pub where_so : Bool → RelayedPart → List RelayedPart
where_so true k = k ∷ []
where_so false k = []

-- an island that closes keeps eighteen packets at most
abbrev pub closed : SyncPair → Option Begun → List RelayedPart
closed pair None = []
closed pair (Some b) =
    let x : WholeIsland = record { opening = b.opening; packets = take 18 b.packets; closing = pair } in
    where_so (is_data_island (data_of x)) (some_island x)

-- what an event adds, after an island that goes on or none
abbrev pub adds : Option Begun → Said → List RelayedPart
adds b (columns r) = where_so (is_run r) (some_columns r)
adds b (pixels bytes) = where_so (is_video_period bytes) (some_line bytes)
adds b (opens pair) = []
adds b (carries p v) = []
adds b (closes pair) = closed pair b
adds b ends = []

-- what is kept of events after an island that goes on or none
unfoldable pub kept_from : Option Begun → List Said → List RelayedPart
kept_from b [] = []
kept_from b (x ∷ xs) = adds b x ++ kept_from (goes_on x b) xs

unfoldable pub kept : List Event → List RelayedPart
kept reported = kept_from None (without_faults reported)

-- A packet with a lost block becomes the Null packet, with its sync values.

abbrev pub null_packet : List ℕ → Packet
null_packet sync = record { header = replicate 3 0; bodies = replicate 28 0; sync = sync }

abbrev pub sure : Judged → Judged
sure p = record { packet = cond (is_some (first_lost p.verdicts)) (null_packet p.packet.sync) p.packet; verdicts = p.verdicts }

abbrev pub with_nulls : RelayedPart → RelayedPart
with_nulls (some_columns r) = some_columns r
with_nulls (some_line bytes) = some_line bytes
with_nulls (some_island x) = some_island (record { opening = x.opening; packets = map sure x.packets; closing = x.closing })

unfoldable pub nulled : List RelayedPart → List RelayedPart
nulled ks = map with_nulls ks

-- Neighbouring runs become one control period.

-- what is no control period
pub data Data : Type 0 where
  a_line : List ℕ → Data
  an_island : DataIsland → Data

-- the values of control columns, and what stands after them
pub record Turn : Type 0 where
  pub values : List ℕ
  pub inner : Data

-- control columns, which may be none, and what stands between them
pub record Alternation : Type 0 where
  pub turns : List Turn
  pub last : List ℕ

abbrev pub ended : Alternation → Data → Alternation
ended t d = record { turns = t.turns ++ record { values = t.last; inner = d } ∷ []; last = [] }

abbrev pub joined : Alternation → RelayedPart → Alternation
joined t (some_columns r) = record { turns = t.turns; last = t.last ++ replicate r.count r.value }
joined t (some_line bytes) = ended t (a_line bytes)
joined t (some_island x) = ended t (an_island (data_of x))

abbrev pub none : Alternation
none = record { turns = []; last = [] }

unfoldable pub gathered : List RelayedPart → Alternation
gathered ks = fold joined none ks

-- all control columns, changed
abbrev pub on_turn : (List ℕ → List ℕ) → Turn → Turn
on_turn f x = record { values = f x.values; inner = x.inner }

abbrev pub on_values : (List ℕ → List ℕ) → Alternation → Alternation
on_values f t = record { turns = map (on_turn f) t.turns; last = f t.last }

-- Where there are no control columns, before the first, between two or after the last of what is none, twelve of
-- value 0 stand.

abbrev pub filled : List ℕ → List ℕ
filled [] = replicate 12 0
filled (v ∷ vs) = v ∷ vs

-- Fewer than twelve become twelve, by columns of the first value before them.

abbrev pub lengthened : List ℕ → List ℕ
lengthened [] = []
lengthened (v ∷ vs) = replicate (12 - length (v ∷ vs)) v ++ (v ∷ vs)

-- The last eight columns before a line or an island carry its preamble.

abbrev pub with_ctl : ℕ → ℕ → ℕ
with_ctl bits value = value % 4 + 4 * bits

unfoldable pub announcing : ℕ → List ℕ → List ℕ
announcing bits vs = reverse (map (with_ctl bits) (take 8 (reverse vs)) ++ drop 8 (reverse vs))

abbrev pub preamble_of : Data → ℕ
preamble_of (a_line bytes) = VIDEO_PREAMBLE
preamble_of (an_island x) = ISLAND_PREAMBLE

abbrev pub announced_turn : Turn → Turn
announced_turn x = record { values = announcing (preamble_of x.inner) x.values; inner = x.inner }

abbrev pub announced : Alternation → Alternation
announced t = record { turns = map announced_turn t.turns; last = t.last }

-- The periods.

abbrev pub period_of : Data → Period
period_of (a_line bytes) = video bytes
period_of (an_island x) = island x

abbrev pub periods_in : List Turn → List ℕ → List Period
periods_in [] last = control (longest last) ∷ []
periods_in (x ∷ xs) last = control (longest x.values) ∷ (period_of x.inner ∷ periods_in xs last)

abbrev pub periods_of : Alternation → List Period
periods_of t = periods_in t.turns t.last

-- rules 4 to 6
unfoldable pub settled : Alternation → List Period
settled t = periods_of (announced (on_values lengthened (on_values filled t)))

-- rules 2 to 6
unfoldable pub conformed : List RelayedPart → List Period
conformed ks = settled (gathered (nulled ks))

unfoldable pub relayed : List Event → List Period
relayed reported = conformed (kept reported)
