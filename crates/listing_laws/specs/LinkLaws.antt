-- What a link listing reads back as.
use Rattle.std.specs.Prelude.{◌≡◌, ◌↔◌, ◌≤◌, List, length}
use Rattle.tmds_word.specs.Column.{Column}
use Rattle.island_pack.specs.Periods.{Period, columns_of}
use Rattle.island_pack.specs.Conforming.{IsConforming}
use Rattle.island_pack.specs.Spelling.{Spells}
use Rattle.island_pack.specs.declared.ranges.TheConstants.{COLUMN_LIMIT}
use Rattle.link_laws.specs.Account.{account}
use Rattle.listing_reader.specs.LineSteps.{accepts}
use Rattle.listing_reader.specs.Reading.{reads_as}
use Rattle.listing_writer.specs.Texts.{link_text}

-- the listing of a stream that was received whole and undamaged reads back as a stream with the same columns
unfoldable pub AccountReadsBack : Type 0
AccountReadsBack =
    (periods : List Period) (sent : List Column) → IsConforming periods → Spells periods sent → columns_of periods ≤ COLUMN_LIMIT
    → (again : List Period) × (reads_as (link_text (account periods sent sent 0 (length sent))) ≡ accepts again)
    × IsConforming again × ((columns : List Column) → Spells again columns ↔ Spells periods columns)
