use Rattle.std.proofs.Common.{◌≡◌, ℕ, ◌*◌, ◌<◌, get_or, take, drop}
use Rattle.tmds_word.specs.Bits.{number}
use Rattle.audio_out.proofs.blocks.packed.Given as goal

abbrev pub invariant-loop-place : goal.invariant-loop-place
invariant-loop-place l = (k : ℕ) → k < l.place → get_or l.byte-items k 0 ≡ number (take 8 (drop (8 * k) l.bits))
