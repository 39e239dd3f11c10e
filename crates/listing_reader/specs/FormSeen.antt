-- How what is seen in a line shows its form.
use Rattle.std.specs.Prelude.{◌≡◌, ℕ, ◌+◌, ◌*◌, ◌%◌, ◌<◌, Bool, true, false, List, [], length, take, drop, slice_index, Option, Some, None, Ok, IsErr}
use Rattle.hex.specs.Hex.{decode_of}
use Rattle.island_pack.specs.declared.packet.Packet.{Packet}
use Rattle.listing_reader.specs.Forms.{LineForm, control_line, video_by, island_line, packet_line, close_line, end_line, fault_line, no_line, pair_form, part, packet_form}
use Rattle.listing_reader.specs.declared.form.Form.{Form}
use Rattle.listing_reader.specs.declared.form.Form.TheVariants.{Control, Video, Island, Packet as Packet_seen, Close, End, Fault, Other}

-- what follows `v `, six bytes a pixel: whether they are digits, only their decoding shows
pub record IsVideo (digits : List ℕ) (form : LineForm) : Type 0 where
  pub pixels : length digits % 6 ≡ 0
  pub reported : form ≡ video_by true (decode_of digits)

-- what is seen shows this form
abbrev pub IsForm : Form → LineForm → Type 0
IsForm (Control value count) form = form ≡ control_line value count
IsForm (Video digits) form = IsVideo digits.now form
IsForm (Island sync) form = form ≡ island_line (slice_index sync 0) (slice_index sync 1)
IsForm (Packet_seen packet) form = form ≡ packet_line packet
IsForm (Close sync) form = form ≡ close_line (slice_index sync 0) (slice_index sync 1)
IsForm End form = form ≡ end_line
IsForm Fault form = form ≡ fault_line
IsForm Other form = form ≡ no_line

-- what follows `v `, of a line that has it
abbrev pub digits_of : Form → List ℕ
digits_of (Video digits) = digits.now
digits_of (Control value count) = []
digits_of (Island sync) = []
digits_of (Packet_seen packet) = []
digits_of (Close sync) = []
digits_of End = []
digits_of Fault = []
digits_of Other = []

-- the sync values of a guard's line, or what is none
abbrev pub IsPair : List ℕ → Option (List ℕ) → Type 0
IsPair rest None = (form : ℕ → ℕ → LineForm) → pair_form form rest ≡ no_line
IsPair rest (Some sync) = (form : ℕ → ℕ → LineForm) → pair_form form rest ≡ form (slice_index sync 0) (slice_index sync 1)

-- the packet of a packet's line, or what is none
abbrev pub IsPacketForm : List ℕ → Option Packet → Type 0
IsPacketForm rest None = packet_form rest ≡ no_line
IsPacketForm rest (Some packet) = packet_form rest ≡ packet_line packet

-- the bodies of a packet's line, or one that is none
abbrev pub HasBodies : List ℕ → List ℕ → Bool → Type 0
HasBodies rest bodies true = (b : ℕ) → b < 4 → decode_of (part (7 + 15 * b) 14 rest) ≡ Ok (take 7 (drop (7 * b) bodies))
HasBodies rest bodies false = (b : ℕ) × (b < 4) × IsErr (decode_of (part (7 + 15 * b) 14 rest))
