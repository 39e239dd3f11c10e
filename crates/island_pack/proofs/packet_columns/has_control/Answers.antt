use Rattle.std.proofs.Common.{◌≡◌, ℕ, ◌||◌, ap, ap₂, sym, ◌∙◌, arith}
use Rattle.std.specs.Prelude.{nat_le}
use Rattle.std.specs.Int.Bits.{bit_or}
use Rattle.std.specs.List.{list_any}
use Rattle.std.proofs.lemmas.Nat.{le_or_l, le_or_r, or_lt}
use Rattle.std.proofs.lemmas.List.{take_all}
use Rattle.std.proofs.lemmas.List.Folds.{list_any_more}
use Rattle.terc4.specs.Tables.{is_control}
use Rattle.island_pack.proofs.packet_columns.has_control.Goals as goal

or_reaches : (a b : ℕ) → nat_le 512 (bit_or a b) ≡ (nat_le 512 a || nat_le 512 b)
or_reaches a b = grind (arith, le_or_l a b, le_or_r a b, or_lt 9 a b)

pub loop-i-preserved : goal.loop-i-preserved
loop-i-preserved c =
    record {
      any =
          or_reaches c.loop-i.marks c.mark-marks.result
          ∙ ap₂ (λ a b. a || b) c.loop-i.invariant.any c.mark-marks.ensures.marks
          ∙ sym (list_any_more is_control c.args.words.now c.loop-i.i 0 (omega arith));
    }

pub returns : goal.returns
returns c = c.loop-i.invariant.any ∙ ap (list_any is_control) (take_all c.loop-i.i c.args.words.now (omega arith))
