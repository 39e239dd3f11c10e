use Rattle.std.proofs.Common.{◌≡◌, ℕ, ◌+◌, ◌-◌, Bool, true, not, refl, arith}
use Rattle.std.specs.Prelude.{cond, nat_le}
use Rattle.std.specs.Int.Bits.{bit_and, bit_xor}
use Rattle.tmds_word.proofs.Below.{passes_below, passes_at}
use Rattle.terc4.specs.Tables.{is_control, control_words, is_in}
use Rattle.island_pack.proofs.packet_columns.mark.Goals as goal

marks : ℕ → Bool
marks w = nat_le 512 (512 - bit_and (bit_xor w 171 + 1) 510)

same : Bool → Bool → Bool
same a b = cond a b (not b)

same-true : (a b : Bool) → same a b ≡ true → a ≡ b
unfolding same
same-true a b e = grind arith

alike : ℕ → Bool
alike w = same (marks w) (is_control w)

all_alike : passes_below 1024 alike ≡ true
unfolding passes_below alike same marks is_control control_words is_in
all_alike = refl

pub returns-clause-marks : goal.returns-clause-marks
unfolding marks alike
returns-clause-marks c = same-true (marks c.args.word) (is_control c.args.word) (passes_at 1024 alike c.args.word all_alike c.requires)
