-- What a word decodes to, whether it codes anything or not.
use Rattle.std.specs.Prelude.{ℕ, ◌<◌}
use Rattle.tmds_code.specs.Coding.{decoded_byte}

-- is a byte
abbrev pub DecodedIsByte : Type 0
DecodedIsByte = (w : ℕ) → decoded_byte w < 256
