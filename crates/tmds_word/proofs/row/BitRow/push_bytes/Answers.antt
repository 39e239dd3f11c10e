use Rattle.std.proofs.Common.{arith, ◌≡◌, ◌<◌, ◌+◌, ◌*◌, ◌++◌, ℕ, Bool, List, ◌∙◌, ap, length, length-append}
use Rattle.tmds_word.specs.Bits.{bits_of, bytes_bits}
use Rattle.tmds_word.proofs.Rows.{length-row, row_aligned}
use Rattle.tmds_word.proofs.row.BitRow.push_bytes.Goals as goal

grown_room : (whole more grown : List ℕ) (h t : ℕ) (view : List Bool) → bytes_bits whole ++ bits_of h t ≡ view → length view + 8 * length more < 4294967296 → grown ≡ whole ++ more → 8 * length grown + h < 4294967296
grown_room whole more grown h t view e room g = omega (arith, length-row whole h t, ap length e, ap length g ∙ length-append whole more)

pub invariant_of-self-then-self-eq0 : goal.invariant_of-self-then-self-eq0
invariant_of-self-then-self-eq0 c =
    (c.self.invariant.0, c.self.invariant.1, grown_room c.self.inside.whole.items c.args.bytes.now c.extend_from_slice.new.self.items c.self.inside.held c.self.inside.tail c.args.self.now c.self.view_is c.requires c.in_ok-extend_from_slice.ensures.items)

pub returns-then-self-eq0-clause-ok : goal.returns-then-self-eq0-clause-ok
returns-then-self-eq0-clause-ok c = grind (arith, row_aligned)
