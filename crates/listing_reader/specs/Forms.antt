-- The forms of the lines of a link listing (docs/guide/FORMATS.md).
use Rattle.std.specs.Prelude.{ℕ, ◌+◌, ◌-◌, ◌*◌, ◌%◌, Bool, true, false, ◌==◌, ◌&&◌, ◌||◌, if◌then◌else◌, List, [], ◌∷◌, ◌++◌, map, length, take, drop, nat_le, nat_lt, nat_eq, slice_index, Option, Some, None, Result, Ok, codes}
use Rattle.std.specs.List.{list_all, starts_with}
use Rattle.hex.specs.Hex.{decode_of}
use Rattle.island_pack.specs.declared.packet.Packet.{Packet}
use Rattle.hex.specs.declared.error.FromHexError.{FromHexError}
use Rattle.listing_reader.specs.declared.lines.TheConstants.{LINE_LIMIT}

pub data LineForm : Type 0 where
  -- `c HH N`: the value and the number of columns
  control_line : ℕ → ℕ → LineForm
  -- `v X`: the bytes of the pixels
  video_line : List ℕ → LineForm
  -- `i AB`: the sync values of the guard that opens a data island
  island_line : ℕ → ℕ → LineForm
  -- `p H B0 B1 B2 B3 S`: a packet
  packet_line : Packet → LineForm
  -- `e AB`: the sync values of the guard that closes it
  close_line : ℕ → ℕ → LineForm
  end_line : LineForm
  -- `! ..` and `cut ..`, which only a receiver writes
  fault_line : LineForm
  -- none of these
  no_line : LineForm

abbrev pub is_digit : ℕ → Bool
is_digit c = nat_le 48 c && nat_le c 57

-- the number of decimal digits, the highest first, after those of n
unfoldable pub digits_after : ℕ → List ℕ → ℕ
digits_after n [] = n
digits_after n (d ∷ ds) = digits_after (10 * n + (d - 48)) ds

-- one to ten decimal digits are a number
unfoldable pub number_of : List ℕ → Option ℕ
number_of digits =
    if nat_le 1 (length digits) && (nat_le (length digits) 10 && list_all is_digit digits) then Some (digits_after 0 digits) else None

-- what follows `c `: two hexadecimal digits, a space, a number
abbrev pub control_by : Result (List ℕ) FromHexError → Bool → Option ℕ → LineForm
control_by (Ok (value ∷ [])) true (Some count) = control_line value count
control_by _ _ _ = no_line

unfoldable pub control_form : List ℕ → LineForm
control_form rest = control_by (decode_of (take 2 rest)) (slice_index rest 2 == 32) (number_of (drop 3 rest))

-- what follows `v `: six hexadecimal digits a pixel
abbrev pub video_by : Bool → Result (List ℕ) FromHexError → LineForm
video_by true (Ok bytes) = video_line bytes
video_by _ _ = no_line

unfoldable pub video_form : List ℕ → LineForm
video_form rest = video_by (length rest % 6 == 0) (decode_of rest)

-- what follows `i ` or `e `: two decimal digits
abbrev pub pair_by : (ℕ → ℕ → LineForm) → Bool → ℕ → ℕ → LineForm
pair_by form true a b = form (a - 48) (b - 48)
pair_by form false a b = no_line

unfoldable pub pair_form : (ℕ → ℕ → LineForm) → List ℕ → LineForm
pair_form form rest =
    pair_by form ((length rest == 2) && (is_digit (slice_index rest 0) && is_digit (slice_index rest 1))) (slice_index rest 0) (slice_index rest 1)

-- what follows `p `: fields of 6, 14, 14, 14 and 14 hexadecimal digits and of 32 decimal digits, a space between any two
abbrev pub part : ℕ → ℕ → List ℕ → List ℕ
part from count rest = take count (drop from rest)

unfoldable pub has_spaces : List ℕ → Bool
has_spaces rest = list_all (λ i. slice_index rest i == 32) (6 ∷ 21 ∷ 36 ∷ 51 ∷ 66 ∷ [])

abbrev pub packet_by : Bool → Result (List ℕ) FromHexError → Result (List ℕ) FromHexError → Result (List ℕ) FromHexError → Result (List ℕ) FromHexError → Result (List ℕ) FromHexError → List ℕ → LineForm
packet_by true (Ok header) (Ok a) (Ok b) (Ok c) (Ok d) sync =
    packet_line (record { header = header; bodies = a ++ b ++ c ++ d; sync = map (λ digit. digit - 48) sync })
packet_by _ _ _ _ _ _ _ = no_line

unfoldable pub packet_form : List ℕ → LineForm
packet_form rest =
    packet_by ((length rest == 99) && (has_spaces rest && list_all is_digit (part 67 32 rest)))
    (decode_of (part 0 6 rest)) (decode_of (part 7 14 rest)) (decode_of (part 22 14 rest)) (decode_of (part 37 14 rest)) (decode_of (part 52 14 rest))
    (part 67 32 rest)

unfoldable pub is_fault : List ℕ → Bool
is_fault line = starts_with nat_eq line (codes "! ") || starts_with nat_eq line (codes "cut ")

-- the form of a line without its line feed; a line of more than 32,768 bytes has none
unfoldable pub form_of : List ℕ → LineForm
form_of line =
    if is_fault line then fault_line
    else if nat_lt LINE_LIMIT (length line) then no_line
    else if starts_with nat_eq line (codes "c ") then control_form (drop 2 line)
    else if starts_with nat_eq line (codes "v ") then video_form (drop 2 line)
    else if starts_with nat_eq line (codes "i ") then pair_form island_line (drop 2 line)
    else if starts_with nat_eq line (codes "p ") then packet_form (drop 2 line)
    else if starts_with nat_eq line (codes "e ") then pair_form close_line (drop 2 line)
    else if starts_with nat_eq line (codes "end") && (length line == 3) then end_line
    else no_line
