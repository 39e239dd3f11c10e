use Rattle.std.proofs.Common.{ℕ, List, [], ◌∷◌, ◌++◌, arith}
use Rattle.infoframe.specs.Fields.{spd_of}
use Rattle.infoframe.proofs.Lists.{items_from, all_items}
use Rattle.infoframe.proofs.Numbers.{field_whole}
use Rattle.infoframe.proofs.writing.spd_bytes.Goals as goal

pub returns-clause-fields : goal.returns-clause-fields
unfolding spd_of
returns-clause-fields c =
    let bytes : List ℕ = items_from c.args.vendor.now 0 8 ++ items_from c.args.product.now 0 16 ++ c.args.kind ∷ [] in
    let kind = field_whole bytes 25 (omega arith) c.ranges.kind.fits in
    λ i. record {
      vendor = all_items c.args.vendor.now 8 c.told-vendor i;
      product = all_items c.args.product.now 16 c.told-product i;
      kind = kind i;
    }
