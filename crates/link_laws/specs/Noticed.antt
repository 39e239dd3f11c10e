-- A packet is reported with a fault or as it was sent, where few of its words were received unlike: at most three on lane 0,
-- and at most three on lanes 1 and 2 together, wherever they lie in it.
use Rattle.std.specs.Prelude.{◌≡◌, ℕ, ◌+◌, ◌≤◌, true, List, [], ◌∷◌, length, map}
use Rattle.tmds_word.specs.Column.{Column, blues, greens, reds}
use Rattle.island_pack.specs.Packets.{CarriesFreely}
use Rattle.island_pack.specs.Repaired.{packet_of, verdicts_of}
use Rattle.island_pack.specs.Sparse.{unlike_words}
use Rattle.island_pack.specs.Spelling.{column_words}
use Rattle.island_pack.specs.declared.packet.Packet.{Packet}
use Rattle.period_grammar.specs.Events.{packet}
use Rattle.period_grammar.specs.Island.{packet_faults}
use Rattle.link_laws.specs.Account.{sync_row, damage, is_as_sent, packet_reported}

-- columns that carry a packet, of which at most three words were received unlike on lane 0 and at most three on the other
-- lanes, and of which no fault is reported
pub record FewUnlike (p : Packet) (sent received : List Column) (column : ℕ) : Type 0 where
  pub carries : CarriesFreely p (map column_words sent)
  pub long : length received ≡ 32
  pub blue : unlike_words (blues sent) (blues received) ≤ 3
  pub others : unlike_words (greens sent) (greens received) + unlike_words (reds sent) (reds received) ≤ 3
  pub unmarked : packet_faults column (verdicts_of received) ≡ []

-- such a packet has its header and bodies as they were sent
abbrev pub Noticed : Type 0
Noticed =
    (p : Packet) (sent received : List Column) (column : ℕ) → FewUnlike p sent received column
    → packet_of received ≡ record { header = p.header; bodies = p.bodies; sync = sync_row p.sync sent received }

-- so its row in the account is that packet alone
abbrev pub NoticedReported : Type 0
NoticedReported =
    (p : Packet) (sent received : List Column) (column : ℕ) → FewUnlike p sent received column
    → packet_reported column p sent received ≡ packet (record { header = p.header; bodies = p.bodies; sync = sync_row p.sync sent received }) (verdicts_of received) column ∷ []

-- and fewer damaged words are few on each lane
abbrev pub FewOnLanes : Type 0
FewOnLanes =
    (sent received : List Column)
    → unlike_words (blues sent) (blues received) + (unlike_words (greens sent) (greens received) + unlike_words (reds sent) (reds received)) ≡ damage sent received

-- a packet of which at most one word was received unlike, or few were and no fault is reported, is as sent in the account
abbrev pub OneIsAsSent : Type 0
OneIsAsSent = (sent received : List Column) → damage sent received ≤ 1 → is_as_sent sent received ≡ true

abbrev pub FewIsAsSent : Type 0
FewIsAsSent =
    (sent received : List Column)
    → unlike_words (blues sent) (blues received) ≤ 3
    → unlike_words (greens sent) (greens received) + unlike_words (reds sent) (reds received) ≤ 3
    → (column : ℕ) → packet_faults column (verdicts_of received) ≡ [] → is_as_sent sent received ≡ true
