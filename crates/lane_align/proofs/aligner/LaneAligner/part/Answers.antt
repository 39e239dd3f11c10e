use Rattle.std.proofs.Common.{◌≡◌, ℕ, ◌*◌, ◌-◌, ◌%◌, ◌^◌, ◌<◌, ◌∙◌, arith, sym, bit_and, Option, None, Some, true, is_some}
use Rattle.tmds_word.specs.Bits.{bits_of}
use Rattle.tmds_word.proofs.Numbers.{number-bits_of, pow_positive}
use Rattle.tmds_word.proofs.Lists.{length-bits_of}
use Rattle.tmds_word.proofs.Rows.{mask_is}
use Rattle.lane_align.proofs.Cutting.{small_written}
use Rattle.lane_align.proofs.Feeding.{cut_stands, cut_words}
use Rattle.lane_align.proofs.aligner.LaneAligner.part.Goals as goal

not_none : (o : Option ℕ) → is_some o ≡ true → o ≡ None → ⊥
not_none None h e = cc
not_none (Some p) h e = cc

masked_below : (b k : ℕ) → k < 8 → bit_and b (1 * 2 ^ k % 256 - 1) < 2 ^ k
masked_below b k few = grind (arith, pow_positive, mask_is)

pub cut-requires-clause-value : goal.cut-requires-clause-value
cut-requires-clause-value c = masked_below c.args.byte c.args.count c.requires.count

pub returns-clause-stands : goal.returns-clause-stands
returns-clause-stands c xs stands =
    let old = c.args.self.now in
    let k = c.args.count in
    cut_stands old c.cut.new.self xs (bits_of k c.args.byte) (bit_and c.args.byte (1 * 2 ^ k % 256 - 1)) k (λ o e. c.cut.ensures.lock ∙ e) (not_none old.lock c.requires.lock)
    (record { rest = c.cut.ensures.rest; held = c.cut.ensures.held }) (length-bits_of k c.args.byte) (number-bits_of k c.args.byte ∙ sym (mask_is c.args.byte k c.requires.count)) c.cut.ensures.fed stands

pub returns-clause-words : goal.returns-clause-words
returns-clause-words c xs ws stands all = grind (arith, cut_words, not_none, length-bits_of, number-bits_of, mask_is)

pub returns-clause-small : goal.returns-clause-small
returns-clause-small c small = small_written _ _ _ _ c.cut.ensures.row small
