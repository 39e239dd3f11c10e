use Rattle.std.proofs.Common.{Bool, List, take, drop, refl, sym, arith, length-drop}
use Rattle.std.proofs.lemmas.List.{length-take-le}
use Rattle.tmds_word.specs.Bits.{bytes_bits}
use Rattle.tmds_word.proofs.Lists.{length-bytes_bits}
use Rattle.alignment_search.specs.Parts.{HasRoom, IsPartOf}
use Rattle.alignment_search.specs.declared.lane.LanePart.{LanePart}
use Rattle.lane_tests.proofs.tests.alignments.parts_of.Goals as goal

-- bits that are lent are a lane
abbrev lent : LanePart → List Bool
lent part = take part.count (drop part.skip (bytes_bits part.bytes.now))

is_lent : (part : LanePart) → HasRoom part → IsPartOf part 0 (lent part)
is_lent part room =
    let bits = bytes_bits part.bytes.now in
    let behind = room.behind in
    record {
      bits = refl;
      many = sym (length-take-le part.count (drop part.skip bits) (omega (arith, length-drop part.skip bits, length-bytes_bits part.bytes.now)));
    }

pub returns-clause-parts : goal.returns-clause-parts
returns-clause-parts g c =
    let blue = c.part_of.result in
    let green = c.part_of-2.result in
    let red = c.part_of-3.result in (
      lent blue,
      lent green,
      lent red,
      record { blue = is_lent blue c.part_of.ensures.room; green = is_lent green c.part_of-2.ensures.room; red = is_lent red c.part_of-3.ensures.room },
    )
