use Rattle.std.proofs.Common.{arith, ◌≡◌, ◌+◌, ◌/◌, ◌%◌, ◌^◌, ◌<◌, ◌≤◌, ◌∙◌, take, drop, length, bit_and}
use Rattle.std.proofs.lemmas.Bool.{cases_lt}
use Rattle.std.proofs.lemmas.Nat.{and_mask}
use Rattle.tmds_word.specs.Bits.{number}
use Rattle.tmds_word.proofs.Rows.{length-row, word_in_whole}
use Rattle.tmds_word.proofs.row.BitRow.window.Goals as goal
use Rattle.tmds_word.proofs.row.BitRow.window.Goals.{After-new, then-at-len, else-at-len+in_ok-bits}

ten_more : (c : After-new) → c.args.p + 10 ≤ length c.args.self.now
ten_more c = grind (arith, then-at-len, length-row, cases_lt)

word_of_bits : (c : After-new) → (c.if-at-len.bits / 2 ^ (c.args.p % 8)) % 1024 ≡ number (take 10 (drop c.args.p c.args.self.now))
word_of_bits c = grind (arith, then-at-len, word_in_whole)

pub returns-clause-none : goal.returns-clause-none
returns-clause-none c =
    let ten = c.if-at-len.bits / 2 ^ (c.args.p % 8) in
    let below : bit_and ten 1023 < 1024 = rw (and_mask ten 10) (omega arith) in
    (λ none. absurd (omega (arith, c.new.ensures.none.0 none, below)), λ short. absurd (omega (arith, short, ten_more c)))

pub returns-clause-some : goal.returns-clause-some
returns-clause-some c = rw (and_mask (c.if-at-len.bits / 2 ^ (c.args.p % 8)) 10 ∙ word_of_bits c) at c.new.ensures.some
