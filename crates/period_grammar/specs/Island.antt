-- The columns of a data island after its leading guard: packets of 32 columns, then the trailing guard of two columns
-- (HDMI 1.4, sections 5.2.3 and 5.2.3.3). What is reported of packets and guards that are not right is
-- this project's own.
use Rattle.std.specs.Prelude.{ℕ, zero, suc, ◌+◌, ◌*◌, Bool, true, false, not, ◌==◌, ◌&&◌, List, [], ◌∷◌, ◌++◌, length, take, drop, nat_le}
use Rattle.tmds_word.specs.Column.{Column}
use Rattle.terc4.specs.Columns.{is_island_guard, closes}
use Rattle.period_grammar.specs.Column.{sync_digit}
use Rattle.bch_block.specs.declared.Verdict.{Verdict}
use Rattle.bch_block.specs.declared.Verdict.TheVariants.{Clean, Mended, Lost}
use Rattle.island_pack.specs.declared.packet.PacketVerdicts.{PacketVerdicts}
use Rattle.island_pack.specs.Repaired.{packet_of, verdicts_of}
use Rattle.period_grammar.specs.Events.{Event, packet, symbols, mended, lost, close_island, long_island, guard, empty, noise, EventAt, all_at}

-- whole packets, and the columns after them
pub data Payload : Type 0 where
  parts : List (List Column) → List Column → Payload

-- whether columns begin with a closing guard: the one test by which a closing is decided
abbrev pub begins_close : List Column → Bool
begins_close [] = false
begins_close (c ∷ []) = false
begins_close (c ∷ (d ∷ cs)) = closes c d

-- whether columns begin with a whole packet
unfoldable pub holds_packet : List Column → Bool
holds_packet cs = not (begins_close cs) && nat_le 32 (length cs)

abbrev pub with_packet : List Column → Payload → Payload
with_packet p (parts ps t) = parts (p ∷ ps) t

abbrev pub split_by : Bool → List Column → Payload → Payload
split_by true cs rest = with_packet (take 32 cs) rest
split_by false cs rest = parts [] cs

-- as many packets as there are, in at most n steps
unfoldable pub split : ℕ → List Column → Payload
split zero cs = parts [] cs
split (suc n) cs = split_by (holds_packet cs) cs (split n (drop 32 cs))

abbrev pub payload : List Column → Payload
payload cs = split (length cs) cs

abbrev pub when : {A : Type 0} → Bool → List A → List A
when true xs = xs
when false xs = []

abbrev pub if_so : Bool → Event → List Event
if_so true t = t ∷ []
if_so false t = []

-- what is reported for a verdict on block b of a packet at column s
abbrev pub block_fault : ℕ → ℕ → Verdict → List Event
block_fault s b Clean = []
block_fault s b (Mended i) = mended s b i ∷ []
block_fault s b Lost = lost s b ∷ []

abbrev pub block_faults : ℕ → ℕ → List Verdict → List Event
block_faults s b [] = []
block_faults s b (v ∷ vs) = block_fault s b v ++ block_faults s (b + 1) vs

-- the words that are no TERC4 words, then the blocks
abbrev pub packet_faults : ℕ → PacketVerdicts → List Event
packet_faults s v = if_so (not (v.symbols == 0)) (symbols s v.symbols) ++ block_faults s 0 v.blocks

-- a packet at column s, after k packets
unfoldable pub packet_events : ℕ → ℕ → List Column → List Event
packet_events s k p = packet (packet_of p) (verdicts_of p) s ∷ (packet_faults s (verdicts_of p) ++ if_so (k == 18) (long_island s))

abbrev pub in_packets : ℕ → ℕ → List (List Column) → List EventAt
in_packets s k [] = []
in_packets s k (p ∷ ps) = all_at (s + 31) (packet_events s k p) ++ in_packets (s + 32) (k + 1) ps

-- each of two columns that is no guard column of its kind, from column s on
abbrev pub wrong_guards : (Column → Bool) → ℕ → Column → Column → List Event
wrong_guards is s c d = if_so (not (is c)) (guard s) ++ if_so (not (is d)) (guard (s + 1))

-- the closing guard at columns s and s + 1 of an island at column b with k packets
unfoldable pub closing_events : ℕ → ℕ → ℕ → Column → Column → List Event
closing_events b s k c d =
    close_island (sync_digit c.blue) (sync_digit d.blue) ∷ (wrong_guards is_island_guard s c d ++ if_so (k == 0) (empty b))

-- a closing guard from column s on, and what follows it
abbrev pub in_closing : ℕ → ℕ → ℕ → List Column → List EventAt
in_closing b s k [] = []
in_closing b s k (c ∷ []) = []
in_closing b s k (c ∷ (d ∷ [])) = all_at (s + 1) (closing_events b s k c d)
in_closing b s k (c ∷ (d ∷ (e ∷ cs))) = all_at (s + 1) (closing_events b s k c d) ++ all_at (s + 2) (noise (s + 2) ∷ [])

-- what is left, from column s on
abbrev pub in_left : ℕ → ℕ → ℕ → List Column → List EventAt
in_left b s k t = when (begins_close t) (in_closing b s k t)

-- where what is left begins
abbrev pub left_at : ℕ → List (List Column) → ℕ
left_at b ps = (b + 2) + 32 * length ps

unfoldable pub in_island : ℕ → Payload → List EventAt
in_island b (parts ps t) = in_packets (b + 2) 0 ps ++ in_left b (left_at b ps) (length ps) t

-- a packet or closing guard that is not whole
abbrev pub breaks : (ℕ → Event) → ℕ → Payload → List Event
breaks f b (parts ps t) = if_so (not (begins_close t)) (f (left_at b ps))
