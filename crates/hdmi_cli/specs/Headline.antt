-- What `recover` makes of the capture of a tap of columns that conforming periods spell, whatever the bit offset, with
-- skews of at most 70 bits and with sparse damage.
use Rattle.std.specs.Prelude.{◌≡◌, ◌⊎◌, ◌+◌, ◌≤◌, ℕ, Bool, List, length, Option}
use Rattle.std.specs.Io.KnownBytes.{Appends}
use Rattle.tmds_word.specs.Column.{Column}
use Rattle.tmds_word.specs.Taps.{IsTap, HasSmallSkew}
use Rattle.capture_file.specs.Captures.{IsCaptureOf}
use Rattle.lane_deskew.specs.Aligned.{aligned_columns}
use Rattle.lane_deskew.specs.Triples.{IsFirst}
use Rattle.island_pack.specs.Periods.{Period}
use Rattle.island_pack.specs.Sparse.{IsSparseInPayload}
use Rattle.link_laws.specs.Laws.{ReceivedOf, IsAccounted, AlignsUntil, BeginColumn}
use Rattle.link_laws.specs.Account.{account}
use Rattle.relock_laws.specs.Doubted.{OneOfTwoIsSpared}
use Rattle.source_end.specs.DviPeriods.{IsDviConforming, DviSpells, IsDviSparse, HasThree}
use Rattle.dvi_laws.specs.DviAccount.{dvi_account}
use Rattle.dvi_laws.specs.DviLaws.{IsDviAccounted}
use Rattle.listing_writer.specs.Texts.{fault_lines, link_text}
use Rattle.island_pack.specs.Spelling.{Spells}
use Rattle.capture_file.specs.Taps.{tapped_capture}
use Rattle.period_grammar.specs.Exact.{faultless}
use Rattle.relay.specs.Received.{reception}
use Rattle.relay.specs.Relayed.{conformed}
use Rattle.capture_commands.specs.Relays.{relay_status, whole_tap}
use Rattle.capture_commands.specs.Listings.{Listing}
use Rattle.capture_commands.specs.Outcome.{status_with}

-- a tapped stream: the periods that were sent, the columns as they were sent and as they were received, where in them
-- each lane begins and how many bits it has, and the bits and bytes of the capture
pub record TappedStream : Type 0 where
  pub periods : List Period
  pub sent : List Column
  pub received : List Column
  pub offset : ℕ
  pub skews : List ℕ
  pub counts : List ℕ
  pub blue : List Bool
  pub green : List Bool
  pub red : List Bool
  pub bytes : List ℕ

-- its bytes are the capture, of either version, of a tap of columns of conforming periods received with sparse damage
pub record IsTapped (t : TappedStream) : Type 0 where
  pub reception : ReceivedOf t.periods t.sent t.received
  pub tap : IsTap t.received t.offset t.skews t.counts t.blue t.green t.red
  pub small : HasSmallSkew t.skews
  pub captured : IsCaptureOf t.blue t.green t.red t.bytes

-- damage that spares control, guard and preamble words until a column, which each of its lanes has with the twelve before it
abbrev pub AlignsBy : TappedStream → ℕ → Type 0
AlignsBy t until = AlignsUntil t.periods t.sent t.received t.offset t.skews t.counts until

-- its columns that are aligned at three edges
abbrev pub aligned_of : TappedStream → ℕ → ℕ → ℕ → List Column
aligned_of t d e f = aligned_columns t.blue t.green t.red d e f

-- three edges are its first full alignment
abbrev pub IsFirstOf : TappedStream → ℕ → ℕ → ℕ → Type 0
IsFirstOf t d e f = IsFirst t.blue t.green t.red d e f

-- damage of pixels and packets alone, where there is a first full alignment; or damage that spares the other columns until one
abbrev pub Aligns : TappedStream → Type 0
Aligns t = (IsSparseInPayload t.periods t.sent t.received × ((d e f : ℕ) × IsFirstOf t d e f)) ⊎ ((until : ℕ) × AlignsBy t until)

-- damage of pixels and packets alone, where there is a first full alignment; or damage that spares the other columns until one, and from
-- there on one of any two control periods in a row
abbrev pub StaysAligned : TappedStream → Type 0
StaysAligned t =
    (IsSparseInPayload t.periods t.sent t.received × ((d e f : ℕ) × IsFirstOf t d e f))
    ⊎ ((until : ℕ) × AlignsBy t until × OneOfTwoIsSpared t.periods t.sent t.received until)

-- what holds of its columns from the first full alignment on, which begin with column a: that alignment is at or before each
-- column until which damage spares control, guard and preamble words
abbrev pub FromFirst : TappedStream → (ℕ → ℕ → ℕ → ℕ → Type 0) → Type 0
FromFirst t P = (d e f : ℕ) × IsFirstOf t d e f × ((a : ℕ) × ((until : ℕ) → AlignsBy t until → a + 12 ≤ until) × P d e f a)

-- the output grew by the listing of the account of the columns that are aligned at three edges, which begin with column a,
-- twelve before the end of a control period, and the status says whether it has a fault
pub record IsRecovered (listing : Listing) (t : TappedStream) (d e f a status : ℕ) (old new : Option (List ℕ)) : Type 0 where
  pub accounted : IsAccounted t.periods t.sent t.received (aligned_of t d e f) a
  pub begins : BeginColumn t.offset t.skews (a + 12) d e f
  pub status_is : status ≡ status_with (listing.faults (account t.periods t.sent t.received a (length (aligned_of t d e f))))
  pub written : Appends old new (listing.text (account t.periods t.sent t.received a (length (aligned_of t d e f))))

-- the same from the first full alignment on, which is at or before a column
abbrev pub IsRecoveredBy : Listing → TappedStream → ℕ → ℕ → Option (List ℕ) → Option (List ℕ) → Type 0
IsRecoveredBy listing t until status old new =
    (d e f : ℕ) × IsFirstOf t d e f × ((a : ℕ) × (a + 12 ≤ until) × IsRecovered listing t d e f a status old new)

-- a tapped stream without guard columns: its bytes are the capture, of either version, of a tap of columns of
-- conforming periods whose lines have three pixels or more, received with sparse damage of their pixels
pub record IsDviTapped (t : TappedStream) : Type 0 where
  pub conforming : IsDviConforming t.periods
  pub three : HasThree t.periods
  pub spelled : DviSpells t.periods t.sent
  pub sparse : IsDviSparse t.periods t.sent t.received
  pub tap : IsTap t.received t.offset t.skews t.counts t.blue t.green t.red
  pub small : HasSmallSkew t.skews
  pub captured : IsCaptureOf t.blue t.green t.red t.bytes

-- the output grew by the link listing of the account of such a stream, from twelve columns before the end of a control period
-- on, at whose end the three edges are, and the status says whether it has a fault
pub record IsDviRecovered (t : TappedStream) (d e f a status : ℕ) (old new : Option (List ℕ)) : Type 0 where
  pub accounted : IsDviAccounted t.periods t.sent t.received (aligned_of t d e f) a
  pub begins : BeginColumn t.offset t.skews (a + 12) d e f
  pub status_is : status ≡ status_with (fault_lines (dvi_account t.periods t.sent t.received a (length (aligned_of t d e f))))
  pub written : Appends old new (link_text (dvi_account t.periods t.sent t.received a (length (aligned_of t d e f))))

-- the output grew by the capture of the columns that are spelled by what was received of the periods of a tapped
-- stream, from twelve columns before the end of a control period on: whole periods with mended packets, whole preambles
-- and guards, and Null packets for lost ones (`conformed`, `reception`); and the status says whether a
-- fault was reported
pub record IsSentOn (t : TappedStream) (d e f a status : ℕ) (old new : Option (List ℕ)) : Type 0 where
  pub accounted : IsAccounted t.periods t.sent t.received (aligned_of t d e f) a
  pub begins : BeginColumn t.offset t.skews (a + 12) d e f
  pub columns : List Column
  pub spelled : Spells (conformed (reception t.periods t.sent t.received a (length (aligned_of t d e f)))) columns
  pub status_is : status ≡ relay_status (faultless (account t.periods t.sent t.received a (length (aligned_of t d e f))))
  pub written : Appends old new (tapped_capture columns whole_tap)
