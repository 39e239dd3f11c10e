use Rattle.std.proofs.Common.{◌∙◌, ap, arith, slice_index}
use Rattle.terc4.specs.declared.tables.TheConstants.{TERC_CODES}
use Rattle.terc4.proofs.Entries.{terc_code_is}
use Rattle.terc4.proofs.values.nibble_code.Goals as goal

pub returns : goal.returns
returns c =
    let code = terc_code_is c.args.word c.terc_code.result (omega (arith, c.value.ensures.value, c.value.ensures.below)) (c.terc_code.ensures ∙ ap (slice_index TERC_CODES) c.value.ensures.value) in
    record { value = code.value; most = omega (arith, code.most) }
