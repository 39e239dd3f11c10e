-- Columns that a source spells are spelled whatever bit 3 of lane 0 is, and clean columns are received so, taken as
-- what was sent.
use Rattle.std.proofs.Common.{◌≡◌, ℕ, ◌+◌, ◌<◌, Bool, false, List, [], ◌∷◌, length, refl, ap₂, arith, not}
use Rattle.std.proofs.lemmas.Bool.{eq-eqb}
use Rattle.tmds_word.specs.Column.{Column}
use Rattle.terc4.specs.Columns.{one_if}
use Rattle.island_pack.specs.Packets.{Carries}
use Rattle.island_pack.specs.Periods.{Period}
use Rattle.island_pack.specs.Sparse.{unlike_words, IsNarrow, column_at, IsSparse}
use Rattle.island_pack.specs.Spelling.{SpellsPacketsBy, SpellsPeriodBy, SpellsBy, Spells, freely}
use Rattle.island_pack.specs.declared.packet.Packet.{Packet}
use Rattle.link_laws.specs.Freely.{FreeReceived}

free_packets : (first : Bool) (ps : List Packet) (cs : List Column) → SpellsPacketsBy Carries first ps cs → SpellsPacketsBy freely first ps cs
free_packets first [] cs h = h
free_packets first (p ∷ ps) cs h = (h.0, h.1, h.2, h.3.free, free_packets false ps h.1 h.4)

pub free_period : (p : Period) (own : List Column) → SpellsPeriodBy Carries p own → SpellsPeriodBy freely p own
free_period p own h = grind (arith, free_packets)

pub free_spelled : (ps : List Period) (cs : List Column) → Spells ps cs → SpellsBy freely ps cs
free_spelled [] cs h = h
free_spelled (p ∷ ps) cs h = (h.0, h.1, h.2, free_period p h.0 h.3, free_spelled ps h.1 h.4)

pub free_received : FreeReceived
free_received ps sent received reception = record { conforming = reception.conforming; spelled = free_spelled ps sent reception.spelled; sparse = reception.sparse }

-- No damage.

none_unlike : (ws : List ℕ) → unlike_words ws ws ≡ 0
unfolding unlike_words one_if
none_unlike [] = refl
none_unlike (w ∷ ws) = ap₂ (λ (b : Bool) (n : ℕ). one_if (not b) + n) (eq-eqb w w refl) (none_unlike ws)

pub spared : (ps : List Period) (cs : List Column) → ((i : ℕ) → i < length cs → IsNarrow (column_at cs i)) → IsSparse ps cs cs
spared ps cs narrow = grind (arith, none_unlike)
