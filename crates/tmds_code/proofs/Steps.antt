-- A coder's disparity stays even and from -8 to 8: each byte at each such disparity is computed.
use Rattle.std.proofs.Common.{◌≡◌, ℕ, ◌+◌, ◌-◌, ◌*◌, ◌<◌, ◌≤◌, Bool, true, List, drop, get_or, refl, sym, ◌∙◌, nat_le, ◌==◌, ◌&&◌, arith, slice_index, eqb-true}
use Rattle.std.specs.Prelude.{pos, ◌+ℤ◌, ◌-ℤ◌}
use Rattle.std.proofs.lemmas.Int.{ints}
use Rattle.std.proofs.lemmas.List.{get_or-drop}
use borrow.Author.Tests.{leb-true}
use Rattle.tmds_word.specs.Bits.{bits_of, word_bits, number, ones, zeros, balance}
use Rattle.tmds_word.proofs.Below.{passes_below, passes_at, and-left, and-right}
use Rattle.tmds_word.proofs.Words.{ten_bits}
use Rattle.tmds_code.specs.declared.stepping.TheConstants.{STEPPED}
use Rattle.tmds_code.proofs.TableWords.{coded_below}
use Rattle.tmds_code.specs.Coding.{sign_of, coded_word, coded_at, coded_bits, balanced, minimised, takes_xnor}

-- the character after k steps up from -8
word_after : ℕ → ℕ → ℕ
word_after k b = coded_word (pos (2 * k) -ℤ pos 8) b

stays : ℕ → ℕ → Bool
stays k b = nat_le 5 (k + ones (word_bits (word_after k b))) && nat_le (k + ones (word_bits (word_after k b))) 13

all_stay : passes_below 9 (λ k. passes_below 256 (stays k)) ≡ true
unfolding passes_below stays word_after coded_at coded_bits balanced minimised takes_xnor bits_of word_bits number ones zeros balance
all_stay = refl

stays_at : (k b : ℕ) → k ≤ 8 → b < 256 → stays k b ≡ true
stays_at k b le lt = passes_at 256 (stays k) b (passes_at 9 (λ j. passes_below 256 (stays j)) k all_stay (omega arith)) lt

pub step_low : (k b : ℕ) → k ≤ 8 → b < 256 → 5 ≤ k + ones (word_bits (coded_word (pos (2 * k) -ℤ pos 8) b))
unfolding stays word_after
step_low k b le lt = leb-true _ _ (and-left _ _ (stays_at k b le lt))

pub step_high : (k b : ℕ) → k ≤ 8 → b < 256 → k + ones (word_bits (coded_word (pos (2 * k) -ℤ pos 8) b)) ≤ 13
unfolding stays word_after
step_high k b le lt = leb-true _ _ (and-right _ _ (stays_at k b le lt))

-- the disparity after a character
pub step_balance : (k w : ℕ) → w < 1024 → 5 ≤ k + ones (word_bits w) → pos (2 * (k + ones (word_bits w) - 5)) -ℤ pos 8 ≡ (pos (2 * k) -ℤ pos 8) +ℤ balance (word_bits w)
unfolding balance
step_balance k w lt low = omega (arith, ints, ten_bits w lt, low)

-- The table has at each disparity the character of each byte, and the steps after it above its ten bits.

entry_holds : ℕ → ℕ → Bool
entry_holds k b = slice_index STEPPED (256 * k + b) == word_after k b + 16777216 * (k + ones (word_bits (word_after k b)) - 5)

-- the same of a row, which is cut out of the table once: an entry is read in as many steps as stand before it
row_holds : ℕ → List ℕ → Bool
row_holds k row = passes_below 256 (λ b. get_or row b 0 == word_after k b + 16777216 * (k + ones (word_bits (word_after k b)) - 5))

all_rows : passes_below 9 (λ k. row_holds k (drop (256 * k) STEPPED)) ≡ true
unfolding passes_below row_holds word_after coded_at coded_bits balanced minimised takes_xnor bits_of word_bits number ones zeros balance
all_rows = refl

all_entries : passes_below 9 (λ k. passes_below 256 (entry_holds k)) ≡ true
unfolding row_holds entry_holds
all_entries =
    (λ i. passes_below 9 (λ k. passes_below 256 (λ b. sym (get_or-drop (256 * k) STEPPED b 0) i == word_after k b + 16777216 * (k + ones (word_bits (word_after k b)) - 5))))
    ∙ all_rows

pub table_entry : (k b : ℕ) → k ≤ 8 → b < 256
    → slice_index STEPPED (256 * k + b) ≡ coded_word (pos (2 * k) -ℤ pos 8) b + 16777216 * (k + ones (word_bits (coded_word (pos (2 * k) -ℤ pos 8) b)) - 5)
unfolding entry_holds word_after
table_entry k b le lt = eqb-true _ _ (passes_at 256 (entry_holds k) b (passes_at 9 (λ j. passes_below 256 (entry_holds j)) k all_entries (omega arith)) lt)

pub word_below : (k b : ℕ) → b < 256 → coded_word (pos (2 * k) -ℤ pos 8) b < 1024
word_below k b lt = coded_below (sign_of (pos (2 * k) -ℤ pos 8)) b lt
