-- How the bits of lanes lie in the bytes of a capture: packed, and block after block; and the header of version 1, whose lanes
-- are all of one length. It is this project's own format. `Captures` says what a capture of either version is.
use Rattle.std.specs.Prelude.{ℕ, ◌+◌, ◌-◌, ◌*◌, ◌/◌, ◌%◌, ◌^◌, Bool, List, [], ◌∷◌, ◌++◌, length, take, drop, codes}
use Rattle.std.proofs.Common.{suc, zero}
use Rattle.tmds_word.specs.Bits.{bytes_of, number}
use Rattle.capture_file.specs.declared.TheConstants.{BLOCK_BYTES}

-- a lane's bits eight to a byte: bit i is bit i mod 8 of byte i / 8, and the spare bits of the last byte are 0
unfoldable pub packed : List Bool → List ℕ
packed bits = bytes_of ((length bits + 7) / 8) (number bits)

-- a number as four bytes, the high byte first
unfoldable pub high_first : ℕ → List ℕ
high_first n = n / 2 ^ 24 % 256 ∷ n / 2 ^ 16 % 256 ∷ n / 2 ^ 8 % 256 ∷ n % 256 ∷ []

-- the mark, the version 1, and how many bits each lane has
unfoldable pub header : ℕ → List ℕ
header count = codes "TMC1" ++ high_first count

-- chunk j of a lane's bytes: those of its bits in block j
unfoldable pub chunk : ℕ → List ℕ → List ℕ
chunk j lane = take BLOCK_BYTES (drop (BLOCK_BYTES * j) lane)

-- block j: the chunks j of the three lanes, one after another
unfoldable pub block : ℕ → List ℕ → List ℕ → List ℕ → List ℕ
block j a b c = chunk j a ++ chunk j b ++ chunk j c

-- the blocks 0, 1, .. below a number, one after another
unfoldable pub blocks_below : ℕ → List ℕ → List ℕ → List ℕ → List ℕ
blocks_below zero a b c = []
blocks_below (suc j) a b c = blocks_below j a b c ++ block j a b c

-- how many blocks lanes of so many bytes have
abbrev pub blocks_of : ℕ → ℕ
blocks_of bytes = (bytes + (BLOCK_BYTES - 1)) / BLOCK_BYTES
