-- The values of words, read from the front.
use Rattle.std.specs.Prelude.{ℕ, ◌+◌, ◌-◌, ◌*◌, Bool, ◌&&◌, if◌then◌else◌, nat_le, nat_lt, nat_eq, List, [], ◌∷◌, ◌++◌, length, Option, Some, None, Result, Ok, codes}
use Rattle.std.specs.Str.{bytes_eq}
use Rattle.std.specs.List.{position_or_len, before_first, after_first}
use Rattle.hex.specs.Hex.{decode_of}
use Rattle.hex.specs.declared.error.FromHexError.{FromHexError}
use Rattle.command_line.specs.Numbers.{number_of}
use Rattle.command_line.specs.declared.damage.DamageWord.{DamageWord}
use Rattle.command_line.specs.declared.slip.SlipWord.{SlipWord}

-- the number of a text, where it is at most so great

abbrev pub at_most : ℕ → Option ℕ → Option ℕ
at_most most (Some n) = if nat_le n most then Some n else None
at_most most None = None

unfoldable pub within : ℕ → List ℕ → Option ℕ
within most text = at_most most (number_of text)

-- the number of a text of one digit, where it is in a range

unfoldable pub digit_within : ℕ → ℕ → List ℕ → Option ℕ
digit_within least most [] = None
digit_within least most (c ∷ []) = if nat_le (48 + least) c && nat_le c (48 + most) then Some (c - 48) else None
digit_within least most (c ∷ d ∷ more) = None

-- what stands before the first mark of a text, and after it

abbrev pub is_mark : ℕ → ℕ → Bool
is_mark mark c = nat_eq c mark

unfoldable pub mark_split : ℕ → List ℕ → Option (List ℕ × List ℕ)
mark_split mark text =
    if nat_lt (position_or_len (is_mark mark) text) (length text) then Some (before_first (is_mark mark) text, after_first (is_mark mark) text)
    else None

-- the three numbers of a text that its first two commas part

abbrev pub three_by : Option ℕ → Option ℕ → Option ℕ → Option (List ℕ)
three_by (Some a) (Some b) (Some c) = Some (a ∷ b ∷ c ∷ [])
three_by (Some a) (Some b) None = None
three_by (Some a) None last = None
three_by None second last = None

abbrev pub three_after : ℕ → List ℕ → Option (List ℕ × List ℕ) → Option (List ℕ)
three_after most first (Some parts) = three_by (within most first) (within most parts.0) (within most parts.1)
three_after most first None = None

abbrev pub three_parted : ℕ → Option (List ℕ × List ℕ) → Option (List ℕ)
three_parted most (Some parts) = three_after most parts.0 (mark_split 44 parts.1)
three_parted most None = None

unfoldable pub three_of : ℕ → List ℕ → Option (List ℕ)
three_of most text = three_parted most (mark_split 44 text)

-- the lane of a digit

abbrev pub lane_of : List ℕ → Option ℕ
lane_of text = if bytes_eq text (codes "0") then Some 0 else if bytes_eq text (codes "1") then Some 1 else if bytes_eq text (codes "2") then Some 2 else None

-- the character of three hexadecimal digits

abbrev pub character_below : ℕ → Option ℕ
character_below value = if nat_lt value 1024 then Some value else None

abbrev pub character_by : Result (List ℕ) FromHexError → Option ℕ
character_by (Ok (high ∷ low ∷ [])) = character_below (256 * high + low)
character_by _ = None

unfoldable pub character_of : List ℕ → Option ℕ
character_of digits = if nat_eq (length digits) 3 then character_by (decode_of (codes "0" ++ digits)) else None

-- the damage of a word that its first two colons part

abbrev pub damage_by : Option ℕ → Option ℕ → Option ℕ → Option DamageWord
damage_by (Some lane) (Some place) (Some value) = Some (record { lane = lane; place = place; value = value })
damage_by (Some lane) (Some place) None = None
damage_by (Some lane) None value = None
damage_by None place value = None

abbrev pub damage_after : List ℕ → Option (List ℕ × List ℕ) → Option DamageWord
damage_after first (Some parts) = damage_by (lane_of first) (within 4294967295 parts.0) (character_of parts.1)
damage_after first None = None

abbrev pub damage_parted : Option (List ℕ × List ℕ) → Option DamageWord
damage_parted (Some parts) = damage_after parts.0 (mark_split 58 parts.1)
damage_parted None = None

unfoldable pub damage_of : List ℕ → Option DamageWord
damage_of text = damage_parted (mark_split 58 text)

-- the slip of a word that its first two colons part

abbrev pub slip_by : Option ℕ → Option ℕ → Option ℕ → Option SlipWord
slip_by (Some lane) (Some place) (Some bits) = Some (record { lane = lane; place = place; bits = bits })
slip_by (Some lane) (Some place) None = None
slip_by (Some lane) None bits = None
slip_by None place bits = None

abbrev pub slip_after : List ℕ → Option (List ℕ × List ℕ) → Option SlipWord
slip_after first (Some parts) = slip_by (lane_of first) (within 4294967295 parts.0) (digit_within 1 9 parts.1)
slip_after first None = None

abbrev pub slip_parted : Option (List ℕ × List ℕ) → Option SlipWord
slip_parted (Some parts) = slip_after parts.0 (mark_split 58 parts.1)
slip_parted None = None

unfoldable pub slip_of : List ℕ → Option SlipWord
slip_of text = slip_parted (mark_split 58 text)
