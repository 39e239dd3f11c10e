-- What `recover relock` makes of a stream from one control period on that is received whole, whatever bits came before.
use Rattle.std.specs.Prelude.{◌≡◌, ℕ, ◌+◌, ◌-◌, ◌/◌, min, List, ◌++◌, length, drop, Option}
use Rattle.std.specs.Io.KnownBytes.{Appends}
use Rattle.capture_file.specs.Captures.{IsCaptureOf}
use Rattle.island_pack.specs.Periods.{Period, columns_of}
use Rattle.link_laws.specs.Account.{account_from}
use Rattle.link_laws.specs.Local.{twelve_before}
use Rattle.link_sink.specs.Sinks.{Fed}
use Rattle.listing_writer.specs.Texts.{link_text}
use Rattle.relock_laws.specs.Doubted.{EachIsSpared}
use Rattle.relock_laws.specs.WholePeriods.{ComesWholeAgain}
use Rattle.hdmi_cli.specs.RelockAgain.{AgainStream}

-- Any bits come first, and then those of a tapped stream, received with sparse damage. One control period of it came whole: its columns,
-- nineteen at least from column j on, the three before them and the fifteen after them were received as they were sent. After it damage
-- spares the beginning or the end of each control period.
pub record ComesWhole (t : AgainStream) (j : ℕ) : Type 0 where
  pub comes : ComesWholeAgain t.periods t.sent t.received t.offset t.skews t.counts t.tapped t.lanes t.before j t.a t.blue t.green t.red
  pub captured : IsCaptureOf t.lanes.blue t.lanes.green t.lanes.red t.bytes
  pub spared : EachIsSpared t.periods t.sent t.received (t.a + 13)

-- how many whole columns three lanes have from three places on
abbrev pub columns_left : Fed → (d e f : ℕ) → ℕ
columns_left fed d e f = min ((length fed.blue - d) / 10) (min ((length fed.green - e) / 10) ((length fed.red - f) / 10))

-- The output grew by a text that ends with the link listing of all that follows the control period. That is the account of the
-- periods after it, as far as the lanes go. Columns are counted from an earlier one.
pub record IsListedOn (t : AgainStream) (old new : Option (List ℕ)) : Type 0 where
  pub front : List Period
  pub later : List Period
  pub are : t.periods ≡ front ++ later
  pub upto : columns_of front ≡ t.a + 12
  pub first : List ℕ
  pub count : ℕ
  pub written :
      Appends old new (first ++ link_text (account_from count (columns_left t.lanes t.blue t.green t.red) (twelve_before (t.a + 12) t.received) later
      (drop (t.a + 12) t.sent) (drop (t.a + 12) t.received)))

-- There is such a stream, after other bits.
abbrev pub HasWholeStream : Type 0
HasWholeStream = (t : AgainStream) × (j : ℕ) × ComesWhole t j
