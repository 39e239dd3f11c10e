use Rattle.std.proofs.Common.{arith, ◌≡◌, ℕ, ◌<◌, ◌≤◌, ◌+◌, ◌-◌, ◌*◌, ◌/◌, ◌%◌, ◌∙◌, ap, sym, subst, refl, bit_and, slice_index}
use Rattle.std.specs.Prelude.{pos, ◌-ℤ◌, ◌+ℤ◌}
use Rattle.std.proofs.lemmas.Nat.{and_mask}
use Rattle.tmds_word.specs.Bits.{word_bits, ones, balance}
use Rattle.tmds_code.specs.Coding.{coded_word}
use Rattle.tmds_code.specs.declared.stepping.TheConstants.{STEPPED}
use Rattle.tmds_code.proofs.Steps.{table_entry, word_below, step_low, step_high, step_balance}
use Rattle.tmds_code.proofs.Lanes.{lane_more, disparity_of-more}
use Rattle.tmds_code.proofs.coder.VideoCoder.next.Goals as goal

-- the character at k steps up from -8
word_at : ℕ → ℕ → ℕ
word_at k b = coded_word (pos (2 * k) -ℤ pos 8) b

steps_at : ℕ → ℕ → ℕ
steps_at k b = k + ones (word_bits (coded_word (pos (2 * k) -ℤ pos 8) b)) - 5

entry_is : (row b v p q : ℕ) → v ≡ slice_index STEPPED (p + q) → p ≡ row → q ≡ b → row ≤ 2048 → row % 256 ≡ 0 → b < 256 → v ≡ word_at (row / 256) b + 16777216 * steps_at (row / 256) b
unfolding word_at steps_at
entry_is row b v p q e f g le whole lt = grind (arith, table_entry)

low_part : (v w m : ℕ) → v ≡ w + 16777216 * m → w < 1024 → bit_and v 65535 ≡ w
low_part v w m e lt = and_mask v 16 ∙ omega (arith, e, lt)

word_is : (row b v p q w : ℕ) → v ≡ slice_index STEPPED (p + q) → p ≡ row → q ≡ b → row ≤ 2048 → row % 256 ≡ 0 → b < 256 → w ≡ bit_and v 65535 → w ≡ coded_word (pos (2 * (row / 256)) -ℤ pos 8) b
unfolding word_at
word_is row b v p q w e f g le whole lt same =
    same ∙ low_part v (word_at (row / 256) b) (steps_at (row / 256) b) (entry_is row b v p q e f g le whole lt) (word_below (row / 256) b lt)

-- the row after the character
row_is : (row b v p q : ℕ) → v ≡ slice_index STEPPED (p + q) → p ≡ row → q ≡ b → row ≤ 2048 → row % 256 ≡ 0 → b < 256
    → v / 65536 ≡ 256 * (row / 256 + ones (word_bits (coded_word (pos (2 * (row / 256)) -ℤ pos 8) b)) - 5)
unfolding word_at steps_at
row_is row b v p q e f g le whole lt =
    let few : row / 256 ≤ 8 = omega arith in
    let w : word_at (row / 256) b < 1024 = word_below (row / 256) b lt in
    omega (arith, entry_is row b v p q e f g le whole lt, w)

few_rows : (row b v p q : ℕ) → v ≡ slice_index STEPPED (p + q) → p ≡ row → q ≡ b → row ≤ 2048 → row % 256 ≡ 0 → b < 256 → (v / 65536 ≤ 2048) × (v / 65536 % 256 ≡ 0)
few_rows row b v p q e f g le whole lt =
    let few : row / 256 ≤ 8 = omega arith in
    let is = row_is row b v p q e f g le whole lt in
    (omega (arith, is, step_high (row / 256) b few lt), omega (arith, is))

pub of-requires : goal.of-requires
of-requires c =
    let row = c.self.inside.row in
    let is = word_is row c.args.byte c.stepped-entry.result c.from.result c.from-2.result (bit_and c.stepped-entry.result 65535) c.stepped-entry.ensures c.from.ensures c.from-2.ensures c.self.invariant.0 c.self.invariant.1 c.ranges.byte.fits refl in
    subst (λ n. n < 1024) (sym is) (word_below (row / 256) c.args.byte c.ranges.byte.fits)

pub invariant_of-self : goal.invariant_of-self
invariant_of-self c = few_rows c.self.inside.row c.args.byte c.stepped-entry.result c.from.result c.from-2.result c.stepped-entry.ensures c.from.ensures c.from-2.ensures c.self.invariant.0 c.self.invariant.1 c.ranges.byte.fits

pub returns-clause-coded : goal.returns-clause-coded
returns-clause-coded c =
    word_is c.self.inside.row c.args.byte c.stepped-entry.result c.from.result c.from-2.result c.of.result c.stepped-entry.ensures c.from.ensures c.from-2.ensures c.self.invariant.0 c.self.invariant.1 c.ranges.byte.fits c.of.ensures
    ∙ ap (λ y. coded_word y c.args.byte) c.self.view_is

pub returns-clause-stands : goal.returns-clause-stands
returns-clause-stands c = λ bytes words past.
    let row = c.self.inside.row in
    let k = row / 256 in
    let few : k ≤ 8 = omega (arith, c.self.invariant.0) in
    let b = c.args.byte in
    let w = c.of.result in
    let is = word_is row b c.stepped-entry.result c.from.result c.from-2.result w c.stepped-entry.ensures c.from.ensures c.from-2.ensures c.self.invariant.0 c.self.invariant.1 c.ranges.byte.fits c.of.ensures in
    let steps = row_is row b c.stepped-entry.result c.from.result c.from-2.result c.stepped-entry.ensures c.from.ensures c.from-2.ensures c.self.invariant.0 c.self.invariant.1 c.ranges.byte.fits in
    let below : w < 1024 = subst (λ n. n < 1024) (sym is) (word_below k b c.ranges.byte.fits) in
    let least : 5 ≤ k + ones (word_bits w) = subst (λ n. 5 ≤ k + ones (word_bits n)) (sym is) (step_low k b few c.ranges.byte.fits) in
    record {
      lane = lane_more bytes words b w past.lane (is ∙ ap (λ y. coded_word y b) (c.self.view_is ∙ past.disparity));
      disparity =
          ap (λ n. pos (2 * n) -ℤ pos 8) (omega (arith, steps) ∙ ap (λ n. k + ones (word_bits n) - 5) (sym is))
          ∙ step_balance k w below least
          ∙ ap (λ z. z +ℤ balance (word_bits w)) (c.self.view_is ∙ past.disparity)
          ∙ sym (disparity_of-more words w);
    }
