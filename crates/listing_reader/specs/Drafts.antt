-- What the lines of a listing have said so far: periods, and the data island that is still open.
use Rattle.std.specs.Prelude.{ℕ, ◌+◌, ◌*◌, List, [], ◌∷◌, ◌++◌, length, Option, Some, None}
use Rattle.island_pack.specs.declared.packet.Packet.{Packet}
use Rattle.island_pack.specs.Periods.{ControlRun, SyncPair, Period, control, video, island, columns_of}
use Rattle.listing_reader.specs.Forms.{LineForm, control_line, video_line, island_line, packet_line, close_line, end_line, fault_line, no_line}

-- a data island whose closing guard is still to follow
pub record OpenIsland : Type 0 where
  pub opening : SyncPair
  pub packets : List Packet

pub record Draft : Type 0 where
  pub periods : List Period
  pub opened : Option OpenIsland

abbrev pub nothing_reported : Draft
nothing_reported = record { periods = []; opened = None }

-- two guard columns, and 32 columns for each packet
abbrev pub open_columns : Option OpenIsland → ℕ
open_columns None = 0
open_columns (Some x) = 2 + 32 * length x.packets

abbrev pub draft_columns : Draft → ℕ
draft_columns draft = columns_of draft.periods + open_columns draft.opened

-- neighbouring `c` lines give one control period
abbrev pub with_run : List Period → ControlRun → List Period
with_run [] r = control (r ∷ []) ∷ []
with_run (control rs ∷ []) r = control (rs ++ r ∷ []) ∷ []
with_run (video bytes ∷ []) r = video bytes ∷ (control (r ∷ []) ∷ [])
with_run (island x ∷ []) r = island x ∷ (control (r ∷ []) ∷ [])
with_run (p ∷ (q ∷ ps)) r = p ∷ with_run (q ∷ ps) r

-- one packet more
abbrev pub with_packet : Packet → Option OpenIsland → Option OpenIsland
with_packet p None = None
with_packet p (Some x) = Some (record { opening = x.opening; packets = x.packets ++ p ∷ [] })

-- the island that was open, with the guard that closes it
abbrev pub closed_by : SyncPair → List Period → Option OpenIsland → List Period
closed_by closing periods None = periods
closed_by closing periods (Some x) = periods ++ island (record { opening = x.opening; packets = x.packets; closing = closing }) ∷ []

abbrev pub with_island : SyncPair → Draft → Draft
with_island closing draft = record { periods = closed_by closing draft.periods draft.opened; opened = None }

-- what is given after a line that is taken
abbrev pub with_line : LineForm → Draft → Draft
with_line (control_line value count) draft = record { periods = with_run draft.periods (record { value = value; count = count }); opened = draft.opened }
with_line (video_line bytes) draft = record { periods = draft.periods ++ video bytes ∷ []; opened = draft.opened }
with_line (island_line a b) draft = record { periods = draft.periods; opened = Some (record { opening = record { first = a; second = b }; packets = [] }) }
with_line (packet_line p) draft = record { periods = draft.periods; opened = with_packet p draft.opened }
with_line (close_line a b) draft = with_island (record { first = a; second = b }) draft
with_line end_line draft = draft
with_line fault_line draft = draft
with_line no_line draft = draft
