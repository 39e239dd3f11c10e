-- The table of four bits holds what the code has: each level, four bits and byte of half cells is computed.
use Rattle.std.proofs.Common.{arith, ◌≡◌, ℕ, ◌+◌, ◌*◌, ◌/◌, ◌^◌, ◌<◌, Bool, true, false, refl, ◌==◌, slice_index, eqb-true}
use Rattle.tmds_word.specs.Bits.{bits_of}
use Rattle.tmds_word.proofs.Below.{passes_below, passes_at}
use Rattle.audio_packets.proofs.Pairs.{same, same_is}
use Rattle.audio_out.specs.Levels.{last_of, level_after}
use Rattle.audio_out.specs.Subframes.{carries}
use Rattle.audio_out.specs.declared.tables.TheConstants.{CELLS}

abbrev pub digit : Bool → ℕ
digit true = 1
digit false = 0

unfoldable level_holds : ℕ → Bool
level_holds byte = byte / 2 ^ 7 == digit (level_after byte)

pub level_is : (byte : ℕ) → byte < 256 → byte / 2 ^ 7 ≡ digit (level_after byte)
unfolding level_holds passes_below level_after last_of bits_of
level_is byte lt = grind (arith, eqb-true, passes_at)

unfoldable cells_hold : Bool → ℕ → ℕ → Bool
cells_hold level n byte = same (carries level (bits_of 4 n) (bits_of 8 byte)) (slice_index CELLS (16 * digit level + n) == byte)

all_high : passes_below 16 (λ n. passes_below 256 (cells_hold true n)) ≡ true
unfolding passes_below cells_hold carries bits_of same
all_high = refl

all_cells : (level : Bool) → passes_below 16 (λ n. passes_below 256 (cells_hold level n)) ≡ true
unfolding passes_below cells_hold carries bits_of same
all_cells true = all_high
all_cells false = refl

-- four bits have one byte of half cells
pub cells_are : (level : Bool) (n byte : ℕ) → n < 16 → byte < 256
    → carries level (bits_of 4 n) (bits_of 8 byte) ≡ (slice_index CELLS (16 * digit level + n) == byte)
unfolding cells_hold
cells_are level n byte a b =
    same_is _ _ (passes_at 256 (cells_hold level n) byte (passes_at 16 (λ n. passes_below 256 (cells_hold level n)) n (all_cells level) a) b)
