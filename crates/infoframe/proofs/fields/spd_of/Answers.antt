use Rattle.std.proofs.Common.{sym, arith}
use Rattle.infoframe.specs.Fields.{spd_of}
use Rattle.infoframe.proofs.Numbers.{field_whole}
use Rattle.infoframe.proofs.fields.spd_of.Goals as goal

pub returns : goal.returns
unfolding spd_of
returns c =
    let kind = sym (field_whole c.args.payload.now 25 (omega (arith, c.requires)) (c.type_inv.payload 24).fits) in
    λ i. record { vendor = c.copy_from_slice.ensures.after i; product = c.copy_from_slice-2.ensures.after i; kind = kind i }
