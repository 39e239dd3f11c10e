use Rattle.std.proofs.Common.{◌∙◌, sym}
use Rattle.capture_file.proofs.Heads.{header_if_two, header_if_one}
use Rattle.capture_file.proofs.writing.write_header.Goals as goal

pub returns-then-version-eq2-clause-size : goal.returns-then-version-eq2-clause-size
returns-then-version-eq2-clause-size g c = rw (header_if_two c.args.version c.args.bits c.if-version-eq2.true ∙ sym c.wide_header_bytes.ensures) c.write_piece.ensures.size

pub returns-then-version-eq2-clause-whole : goal.returns-then-version-eq2-clause-whole
returns-then-version-eq2-clause-whole g c = rw (header_if_two c.args.version c.args.bits c.if-version-eq2.true ∙ sym c.wide_header_bytes.ensures) c.write_piece.ensures.whole

pub returns-then-version-eq2-clause-part : goal.returns-then-version-eq2-clause-part
returns-then-version-eq2-clause-part g c = rw (header_if_two c.args.version c.args.bits c.if-version-eq2.true ∙ sym c.wide_header_bytes.ensures) c.write_piece.ensures.part

pub returns-then-version-eq2-clause-missing : goal.returns-then-version-eq2-clause-missing
returns-then-version-eq2-clause-missing g c = rw (header_if_two c.args.version c.args.bits c.if-version-eq2.true ∙ sym c.wide_header_bytes.ensures) c.write_piece.ensures.missing

pub returns-else-version-eq2-clause-size : goal.returns-else-version-eq2-clause-size
returns-else-version-eq2-clause-size g c = rw (header_if_one c.args.version c.args.bits c.if-version-eq2.false ∙ sym c.header_bytes.ensures) c.write_piece-else-version-eq2.ensures.size

pub returns-else-version-eq2-clause-whole : goal.returns-else-version-eq2-clause-whole
returns-else-version-eq2-clause-whole g c = rw (header_if_one c.args.version c.args.bits c.if-version-eq2.false ∙ sym c.header_bytes.ensures) c.write_piece-else-version-eq2.ensures.whole

pub returns-else-version-eq2-clause-part : goal.returns-else-version-eq2-clause-part
returns-else-version-eq2-clause-part g c = rw (header_if_one c.args.version c.args.bits c.if-version-eq2.false ∙ sym c.header_bytes.ensures) c.write_piece-else-version-eq2.ensures.part

pub returns-else-version-eq2-clause-missing : goal.returns-else-version-eq2-clause-missing
returns-else-version-eq2-clause-missing g c = rw (header_if_one c.args.version c.args.bits c.if-version-eq2.false ∙ sym c.header_bytes.ensures) c.write_piece-else-version-eq2.ensures.missing
