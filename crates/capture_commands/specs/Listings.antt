-- The listings that the program can write of what is reported of lanes.
use Rattle.std.specs.Prelude.{ℕ, List}
use Rattle.period_grammar.specs.Events.{Event}
use Rattle.biphase_listing.specs.StreamText.{biphase_text, biphase_faults}
use Rattle.listing_writer.specs.Texts.{lines_of, link_text, fault_lines}
use Rattle.listing_writer.specs.Checks.{check_lines, check_text}
use Rattle.listing_writer.specs.ContentText.{content_lines, content_text, content_faults, text_of}

-- how events are listed: the lines of what is reported so far, the whole text of all that is reported, and how many of
-- the lines are of faults
pub record Listing : Type 0 where
  pub lines : List Event → List ℕ
  pub text : List Event → List ℕ
  pub faults : List Event → ℕ

abbrev pub link_listing : Listing
link_listing = record { lines = lines_of; text = link_text; faults = fault_lines }

abbrev pub check_listing : Listing
check_listing = record { lines = check_lines; text = check_text; faults = fault_lines }

abbrev pub content_listing : Listing
content_listing = record { lines = λ events. text_of (content_lines events); text = content_text; faults = content_faults }

-- the biphase stream of a pair of channels, which has no lines and no last one; a fault is a packet of samples that has lost a block
abbrev pub biphase_listing : ℕ → Listing
biphase_listing pair = record { lines = biphase_text pair; text = biphase_text pair; faults = biphase_faults }
