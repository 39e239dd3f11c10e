use Rattle.std.proofs.Common.{◌+◌, ◌*◌, ◌∙◌, ap, slice_index, List, ℕ}
use Rattle.island_pack.proofs.NibblePairs.{crossed_parts}
use Rattle.island_pack.proofs.pairs.crossed_pairs.Goals as goal

pub returns : goal.returns
returns c =
    let parts =
    crossed_parts c.args.blocks.now c.args.r c.byte.result c.byte-2.result c.byte-3.result c.byte-4.result _ c.byte.ensures c.byte-2.ensures c.byte-3.ensures c.byte-4.ensures
    (λ j. c.parted.ensures.value j + 2 * c.parted-2.ensures.value j + 4 * c.parted-3.ensures.value j + 8 * c.parted-4.ensures.value j) in
    record {
      first_even = ap (λ (ys : List ℕ). slice_index ys 0) c.to_le_bytes.ensures ∙ parts.0;
      first_odd = ap (λ (ys : List ℕ). slice_index ys 1) c.to_le_bytes.ensures ∙ parts.1;
      second_even = ap (λ (ys : List ℕ). slice_index ys 2) c.to_le_bytes.ensures ∙ parts.2;
      second_odd = ap (λ (ys : List ℕ). slice_index ys 3) c.to_le_bytes.ensures ∙ parts.3;
    }
