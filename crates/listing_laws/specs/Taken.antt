-- A content listing that is taken gives bytes and packets of bytes.
use Rattle.std.specs.Prelude.{◌≡◌, ℕ, List, IsTrue}
use Rattle.source_end.specs.Content.{Frame, are_content}
use Rattle.source_end.specs.declared.mode.Mode.{Mode}
use Rattle.listing_reader.specs.ContentReading.{content_reads_as}
use Rattle.listing_reader.specs.LineSteps.{accepts}

abbrev pub TakenIsContent : Type 0
TakenIsContent = (text : List ℕ) (mode : Mode) (frames : List Frame) → content_reads_as text ≡ accepts (mode, frames) → IsTrue (are_content frames)
