use Rattle.std.proofs.Common.{arith, ◌≡◌, ◌<◌, ◌+◌, ◌*◌, ◌%◌, ◌++◌, ℕ, Bool, List, ◌∙◌, ap, length, length-append}
use Rattle.tmds_word.specs.Bits.{bits_of, bytes_bits}
use Rattle.tmds_word.proofs.Rows.{length-row}
use Rattle.tmds_word.proofs.Eights.{row_shifted}
use Rattle.tmds_word.proofs.row.BitRow.push_eights.Goals as goal

grown_room : (whole shifted grown : List ℕ) (h t n : ℕ) (view : List Bool) → bytes_bits whole ++ bits_of h t ≡ view → length view + 8 * n < 4294967296
    → n % 8 ≡ 0 → length shifted ≡ n → grown ≡ whole ++ shifted → 8 * length grown + h < 4294967296
grown_room whole shifted grown h t n view e room fours size g = omega (arith, length-row whole h t, ap length e, ap length g ∙ length-append whole shifted)

pub invariant_of-self-2 : goal.invariant_of-self-2
invariant_of-self-2 c =
    (c.self.invariant.0, c.shift-tail.ensures.narrow, grown_room c.self.inside.whole.items c.shift-tail.new.into c.extend_from_slice.new.self.items c.self.inside.held c.self.inside.tail (length c.args.bytes.now) c.args.self.now c.self.view_is c.requires.room c.requires.eights c.shift-tail.ensures.size c.in_ok-extend_from_slice.ensures.items)

pub returns-clause-ok : goal.returns-clause-ok
returns-clause-ok c =
    ap (λ bs. bytes_bits bs ++ bits_of c.self.inside.held c.shift-tail.result) c.in_ok-extend_from_slice.ensures.items
    ∙ row_shifted c.self.inside.whole.items c.shift-tail.new.into c.args.bytes.now c.self.inside.held c.self.inside.tail c.shift-tail.result c.args.self.now c.shift-tail.ensures.bits c.self.view_is
