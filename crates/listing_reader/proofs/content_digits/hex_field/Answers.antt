use Rattle.std.proofs.Common.{sym}
use Rattle.listing_reader.proofs.ContentLines.{hex_seen}
use Rattle.listing_reader.proofs.content_digits.hex_field.Goals as goal

pub returns-clause-value : goal.returns-clause-value
returns-clause-value c =
    hex_seen c.args.digits.now c.decode_to_slice.new.out _ c.decode_to_slice.result c.is_ok.result c.requires c.decode_to_slice.ensures.value (sym c.is_ok.ensures.value)
