use Rattle.std.proofs.Common.{arith, ◌≡◌, ◌<◌, ◌+◌, ◌*◌, ◌/◌, ◌%◌, ◌++◌, ℕ, Bool, List, ◌∙◌, ap, length, length-append}
use Rattle.tmds_word.specs.Bits.{bits_of, bytes_bits}
use Rattle.tmds_word.proofs.Rows.{length-row}
use Rattle.tmds_word.proofs.Fives.{row_packed}
use Rattle.tmds_word.proofs.row.BitRow.push_fours.Goals as goal

grown_room : (whole packed grown : List ℕ) (h t n : ℕ) (view : List Bool) → bytes_bits whole ++ bits_of h t ≡ view → length view + 10 * n < 4294967296
    → n % 4 ≡ 0 → length packed ≡ n / 4 * 5 → grown ≡ whole ++ packed → 8 * length grown + h < 4294967296
grown_room whole packed grown h t n view e room fours size g = omega (arith, length-row whole h t, ap length e, ap length g ∙ length-append whole packed)

pub invariant_of-self-2 : goal.invariant_of-self-2
invariant_of-self-2 c =
    (c.self.invariant.0, c.pack-tail.ensures.narrow, grown_room c.self.inside.whole.items c.pack-tail.new.into c.extend_from_slice.new.self.items c.self.inside.held c.self.inside.tail (length c.args.words.now) c.args.self.now c.self.view_is c.requires.room c.requires.fours c.pack-tail.ensures.size c.in_ok-extend_from_slice.ensures.items)

pub returns-clause-ok : goal.returns-clause-ok
returns-clause-ok c =
    ap (λ bs. bytes_bits bs ++ bits_of c.self.inside.held c.pack-tail.result) c.in_ok-extend_from_slice.ensures.items
    ∙ row_packed c.self.inside.whole.items c.pack-tail.new.into c.args.words.now c.self.inside.held c.self.inside.tail c.pack-tail.result c.args.self.now c.pack-tail.ensures.bits c.self.view_is
