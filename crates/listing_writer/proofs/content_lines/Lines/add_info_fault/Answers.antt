use Rattle.std.proofs.Common.{refl, sym}
use Rattle.std.specs.Prelude.{Err}
use Rattle.infoframe.specs.declared.content.InfoFault.{InfoFault}
use Rattle.listing_writer.specs.ContentText.{info_lines, checksum_words}
use Rattle.listing_writer.proofs.ContentAdding.{adds_as, adds_none}
use Rattle.listing_writer.proofs.content_lines.Lines.add_info_fault.Goals as goal

pub returns-in-Length : goal.returns-in-Length
unfolding info_lines
returns-in-Length c =
    adds_as (λ (fault : InfoFault). info_lines c.args.column (Err fault)) _ _ _ _ (sym c.in-Length.is) (c.add_fault.ensures.added _ c.long_line.ensures refl)

pub returns-in-Checksum : goal.returns-in-Checksum
unfolding info_lines checksum_words
returns-in-Checksum c =
    adds_as (λ (fault : InfoFault). info_lines c.args.column (Err fault)) _ _ _ _ (sym c.in-Checksum.is)
    (c.add_fault-in-Checksum.ensures.added (checksum_words c.args.column c.in-Checksum.sum) c.checksum_line.ensures refl)

pub returns-in-Lost : goal.returns-in-Lost
unfolding info_lines
returns-in-Lost c =
    adds_as (λ (fault : InfoFault). info_lines c.args.column (Err fault)) _ _ _ _ (sym c.in-Lost.is) (adds_none c.args.self.now)
