-- What a run promises beyond its status: of which input each command writes what was sent.
use Rattle.std.specs.Prelude.{◌≡◌, ℕ, Bool, List, Some, None}
use Rattle.lane_deskew.specs.Aligned.{aligned_columns}
use Rattle.island_pack.specs.Sparse.{IsSparseInPayload}
use Rattle.link_sink.specs.Sinks.{Fed}
use Rattle.source_end.specs.declared.mode.Mode.{Mode}
use Rattle.source_end.specs.Content.{Frame}
use Rattle.source_end.specs.Raster.{raster_of}
use Rattle.source_end.specs.RasterRefusals.{raster_fault}
use Rattle.hdmi_cli.specs.Headline.{TappedStream, IsTapped, AlignsBy, IsFirstOf, IsRecovered, IsRecoveredBy, Aligns, StaysAligned, FromFirst, IsDviTapped, IsDviRecovered}
use Rattle.hdmi_cli.specs.Local.{IsTappedUntil, IsHeardBy, HasNoStrays, ArePacketsBy}
use Rattle.hdmi_cli.specs.Beside.{ArePacketsBesideBy}
use Rattle.hdmi_cli.specs.DviLocal.{IsDviTappedUntil, DviAlignsBy, IsDviHeardBy}
use Rattle.hdmi_cli.specs.LocalPictures.{ArePicturesBy}
use Rattle.hdmi_cli.specs.TrackSlip.{LineSlip, IsSlippedTap, IsNoticed, IsTrackedAcross}
use Rattle.hdmi_cli.specs.TrackPasses.{IsUnnoticed, IsTrackedAsOne}
use Rattle.hdmi_cli.specs.RelockAgain.{AgainStream}
use Rattle.hdmi_cli.specs.RelockLocal.{StaysClear, StaysUncontended}
use Rattle.hdmi_cli.specs.RelockWhole.{ComesWhole, IsListedOn}
use Rattle.hdmi_cli.specs.RelockAmid.{ComesWholeLocally, AreListedAlone}
use Rattle.hdmi_cli.specs.RelayClauses.{IsCleanToEnd, IsPassedOn, IsRelayedAgain, IsSentWithin}
use Rattle.hdmi_cli.specs.RelayLocal.{IsRelayedBy}
use Rattle.hdmi_cli.specs.RelaySettles.{IsWritten, IsWrittenButBit3}
use Rattle.capture_commands.specs.Relays.{IsRelayed}
use Rattle.period_grammar.specs.Events.{Event}
use Rattle.relay.specs.Relayed.{relayed}
use Rattle.hdmi_cli.specs.Fields.{AreFields}
use Rattle.hdmi_cli.specs.Pictures.{ArePackets, ArePictures}
use Rattle.hdmi_cli.specs.Sounds.{AreSamples}
use Rattle.hdmi_cli.specs.Exact.{IsAlignedCapture, IsJudged}
use Rattle.capture_commands.specs.Listings.{link_listing, content_listing, check_listing}
use Rattle.capture_commands.specs.TrackListings.{link_track_listing, content_track_listing}
use Rattle.capture_commands.specs.Outcome.{RunOutcome, Relays}
use Rattle.capture_commands.specs.Endings.{Devices, Unless}
use Rattle.command_line.specs.Commands.{IsCommand}
use Rattle.command_line.specs.declared.command.Command.TheVariants.{RecoverLink, RecoverContent, RecoverTrack, RecoverRelock, RecoverContentRelock, RecoverBiphase, RecoverDvi, Check, Relay}

-- Each theorem holds but where a device failed or memory was wanting (`Unless`). Where it begins with `Aligns t`, it holds of damage of
-- pixels and packets alone and of damage anywhere after an alignment; with `StaysAligned t`, of damage that spares the
-- beginning or the end of each control period after it.
pub record Promises (words : List (List ℕ)) (status : ℕ) (before after : Devices) : Type 0 where
  -- `recover link` writes exactly what was sent: for all columns that conforming periods spell, every sparse damage of their
  -- payload, every tap of them with skews of at most 70 bits, from their first full alignment on.
  pub headline : IsCommand words RecoverLink → (t : TappedStream) → IsTapped t → IsSparseInPayload t.periods t.sent t.received
      → (d e f : ℕ) → IsFirstOf t d e f → before.left ≡ Some t.bytes
      → Unless (λ status held holds. (a : ℕ) × IsRecovered link_listing t d e f a status held holds) status before after
  -- The same for sparse damage of control, guard and preamble words too, where it spares them until a column that is the
  -- first after a control period and that each lane of the tap has, with the twelve before it: there is a first full
  -- alignment then, at or before that column.
  pub headline_anywhere : IsCommand words RecoverLink → (t : TappedStream) → IsTapped t
      → (until : ℕ) → AlignsBy t until → before.left ≡ Some t.bytes
      → Unless (IsRecoveredBy link_listing t until) status before after
  -- Whatever is received after that column: each line and each island that was received with few words damaged, after twelve
  -- control columns and before one, is reported as its row, and has its lines in what `recover link` writes.
  pub headline_local : IsCommand words RecoverLink → (t : TappedStream) → (until : ℕ) → IsTappedUntil t until → AlignsBy t until
      → before.left ≡ Some t.bytes
      → Unless (IsHeardBy link_listing t until) status before after
  -- `check` of a capture with a first full alignment ends with `clean`, and the status is 0, where some conforming sender
  -- could have sent the aligned columns before the cut, but for bit 3 of lane 0 in packet columns, which is free; and with
  -- `faulty`, and it is 1, where none could.
  pub check_exact : IsCommand words Check
      → (blue green red : List Bool) (d e f : ℕ) (bytes : List ℕ) → IsAlignedCapture blue green red d e f bytes
      → before.left ≡ Some bytes
      → Unless (λ status held holds. IsJudged (aligned_columns blue green red d e f) status held holds) status before after
  -- `recover content` writes the content listing of what `recover link` lists.
  pub content_headline : IsCommand words RecoverContent → (t : TappedStream) → IsTapped t → Aligns t → before.left ≡ Some t.bytes
      → Unless (λ status held holds. FromFirst t (λ d e f a. IsRecovered content_listing t d e f a status held holds)) status before after
  -- Of a raster it lists exactly the rows and frames that were received: for all modes and contents.
  pub pictures : IsCommand words RecoverContent
      → (mode : Mode) (frames : List Frame) → raster_fault mode frames ≡ None → (t : TappedStream) → t.periods ≡ raster_of mode frames → IsTapped t → Aligns t
      → before.left ≡ Some t.bytes
      → Unless (λ status held holds. FromFirst t (λ d e f a. ArePictures mode frames t d e f a held holds)) status before after
  -- And of every stream exactly the packets that were received whole, each with at most one damaged word, or few and no fault,
  -- as it was sent.
  pub packets : IsCommand words RecoverContent → (t : TappedStream) → IsTapped t → Aligns t → before.left ≡ Some t.bytes
      → Unless (λ status held holds. FromFirst t (λ d e f a. ArePackets t d e f a held holds)) status before after
  -- The fields that such a packet of a raster says are listed as they were sent: the line `avi ..`, `audio ..` or `acr ..` that says
  -- them is in the output, and so is a line `s ..` for each sample. This holds for all modes and contents.
  pub fields : IsCommand words RecoverContent
      → (mode : Mode) (frames : List Frame) → raster_fault mode frames ≡ None → (t : TappedStream) → t.periods ≡ raster_of mode frames → IsTapped t → Aligns t
      → before.left ≡ Some t.bytes
      → Unless (λ status held holds. FromFirst t (λ d e f a. AreFields frames t d e f a held holds)) status before after
  -- Whatever is received after a column until which damage is so: `recover content` lists the row of each line and each island that
  -- was received with few words damaged, after twelve control columns and before one; so does `check`, of their faults.
  pub content_local : IsCommand words RecoverContent → (t : TappedStream) → (until : ℕ) → IsTappedUntil t until → AlignsBy t until
      → before.left ≡ Some t.bytes
      → Unless (IsHeardBy content_listing t until) status before after
  pub check_local : IsCommand words Check → (t : TappedStream) → (until : ℕ) → IsTappedUntil t until → AlignsBy t until
      → before.left ≡ Some t.bytes
      → Unless (IsHeardBy check_listing t until) status before after
  -- The pixels of each such line are listed, where a change of VSYNC was heard before it: after the rows and frames that are listed
  -- of the columns before its second one, and each byte as it was sent where its word was received as sent.
  pub pictures_local : IsCommand words RecoverContent → (t : TappedStream) → (until : ℕ) → IsTappedUntil t until → AlignsBy t until
      → before.left ≡ Some t.bytes
      → Unless (λ status held holds. ArePicturesBy t until held holds) status before after
  -- And the packets of each such island are reported, each with at most one damaged word, or few and no fault, as it was sent.
  pub packets_local : IsCommand words RecoverContent → (t : TappedStream) → (until : ℕ) → IsTappedUntil t until → AlignsBy t until
      → before.left ≡ Some t.bytes
      → Unless (λ status held holds. ArePacketsBy t until held holds) status before after
  -- Whatever else is received of its island, a packet is reported: where a control column stands before the island and none in it
  -- up to the packet's end, the island is opened, and no packet up to this one begins with two columns that close it.
  pub packets_beside : IsCommand words RecoverContent → (t : TappedStream) → (until : ℕ) → IsTappedUntil t until → AlignsBy t until
      → before.left ≡ Some t.bytes
      → Unless (λ status held holds. ArePacketsBesideBy t until held holds) status before after
  -- `recover biphase` writes the stream of the samples of the packets that were received whole, each with at most one
  -- damaged word, or few and no fault, as it was sent.
  pub biphase_headline : (pair : ℕ) → IsCommand words (RecoverBiphase pair) → (t : TappedStream) → IsTapped t → Aligns t → before.left ≡ Some t.bytes
      → Unless (λ status held holds. FromFirst t (λ d e f a. AreSamples pair t d e f a status held holds)) status before after
  -- `recover dvi` writes exactly what was sent of every stream without guard columns whose lines have three pixels or more,
  -- for every tap of it with skews of at most 70 bits and sparse damage of its pixels, from the first full alignment on.
  pub dvi_headline : IsCommand words RecoverDvi → (t : TappedStream) → IsDviTapped t
      → (d e f : ℕ) → IsFirstOf t d e f → before.left ≡ Some t.bytes
      → Unless (λ status held holds. (a : ℕ) × IsDviRecovered t d e f a status held holds) status before after
  -- Whatever is received after a column until which damage is so, which is the first one after a control period and which each lane
  -- of the tap has, with the twelve before it, or up to which the lanes' bits have a first full alignment: each line that was
  -- received with at most one damaged word a column, after twelve control columns and before one, is reported as its row, and has
  -- its lines in what `recover dvi` writes.
  pub dvi_local : IsCommand words RecoverDvi → (t : TappedStream) → (until : ℕ) → IsDviTappedUntil t until → DviAlignsBy t until
      → before.left ≡ Some t.bytes
      → Unless (IsDviHeardBy t until) status before after
  -- `recover track` writes the text of `recover link`: lanes that lost no bits have one epoch.
  pub track_headline : IsCommand words RecoverTrack → (t : TappedStream) → IsTapped t → Aligns t → before.left ≡ Some t.bytes
      → Unless (λ status held holds. FromFirst t (λ d e f a. IsRecovered link_listing t d e f a status held holds)) status before after
  -- Whatever is received after a column until which damage is so: where no lane has a stray, it writes what `recover link` does, with the
  -- row of each line and each island that stands alone.
  pub track_local : IsCommand words RecoverTrack → (t : TappedStream) → (until : ℕ) → IsTappedUntil t until → AlignsBy t until → HasNoStrays t
      → before.left ≡ Some t.bytes
      → Unless (IsHeardBy link_listing t until) status before after
  -- Where a lane loses one to nine bits within the pixels of a line, once it was locked, there are two epochs: the second
  -- begins at the control period after the line, what is reported of it is the account from its first full alignment
  -- on, and what is reported in the first, of columns that end before the slip, is the account. The lines of both are
  -- written, and the slip's.
  pub track_slip : IsCommand words RecoverTrack → (t : TappedStream) → (s : LineSlip) → (y : Fed) → IsSlippedTap t s y → IsNoticed t s
      → before.left ≡ Some t.bytes → Unless (IsTrackedAcross link_track_listing t s y) status before after
  -- Where such a slip is not noticed, there is one epoch, and the text and the status are those of `recover link`. It is not
  -- where the lane had no lock before it, and then all is reported as it was sent, from the first full alignment on;
  -- nor where the lane ends before it has twelve characters of the control period after the line.
  pub track_slip_passes : IsCommand words RecoverTrack → (t : TappedStream) → (s : LineSlip) → (y : Fed) → IsSlippedTap t s y → IsUnnoticed t s
      → before.left ≡ Some t.bytes → Unless (IsTrackedAsOne link_listing t s y) status before after
  -- `recover relock` writes the text of `recover link`, and across a slip what `recover track` writes: the alignment of a stream that was
  -- received with sparse damage is confirmed by the guard band after it, refuted by no other edges, and not doubted where damage after
  -- it spares the beginning or the end of each control period.
  pub relock_headline : IsCommand words RecoverRelock → (t : TappedStream) → IsTapped t → StaysAligned t → before.left ≡ Some t.bytes
      → Unless (λ status held holds. FromFirst t (λ d e f a. IsRecovered link_listing t d e f a status held holds)) status before after
  pub relock_slip : IsCommand words RecoverRelock → (t : TappedStream) → (s : LineSlip) → (y : Fed) → IsSlippedTap t s y → IsNoticed t s
      → before.left ≡ Some t.bytes → Unless (IsTrackedAcross link_track_listing t s y) status before after
  pub relock_slip_passes : IsCommand words RecoverRelock → (t : TappedStream) → (s : LineSlip) → (y : Fed) → IsSlippedTap t s y → IsUnnoticed t s
      → before.left ≡ Some t.bytes → Unless (IsTrackedAsOne link_listing t s y) status before after
  -- Whatever is received after a column until which damage is so, and after the next one: it writes what `recover link` does, with the row
  -- of each line and each island that stands alone. No lane may have a stray, and near the end of a control period no character may be
  -- received as a control or guard character that it was not.
  pub relock_local : IsCommand words RecoverRelock → (t : TappedStream) → (until : ℕ) → IsTappedUntil t until → AlignsBy t until → StaysClear t until
      → before.left ≡ Some t.bytes
      → Unless (IsHeardBy link_listing t until) status before after
  -- The same if the alignment is let go for no other edges. That is asked of the bits, and allows more.
  pub relock_uncontended : IsCommand words RecoverRelock → (t : TappedStream) → (until : ℕ) → IsTappedUntil t until → AlignsBy t until → StaysUncontended t until
      → before.left ≡ Some t.bytes
      → Unless (IsHeardBy link_listing t until) status before after
  -- Whatever bits came before: from one control period on that came whole, from three characters before its beginning to fifteen after its
  -- end, it lists all that follows as it was sent.
  pub relock_at_whole : IsCommand words RecoverRelock → (t : AgainStream) → (j : ℕ) → ComesWhole t j → before.left ≡ Some t.bytes
      → Unless (λ _ held holds. IsListedOn t held holds) status before after
  -- And whatever is received after it: each line and each island that stands alone has its row. No lane may have a stray from there on,
  -- and near the end of a control period no character may be received as a control or guard character that it was not.
  pub relock_local_at_whole : IsCommand words RecoverRelock → (t : AgainStream) → (j : ℕ) → ComesWholeLocally t j → before.left ≡ Some t.bytes
      → Unless (λ _ held holds. AreListedAlone link_track_listing t held holds) status before after
  -- `recover content relock` writes the text of `recover content`, and so the rows, frames and packets that were received.
  pub content_relock_headline : IsCommand words RecoverContentRelock → (t : TappedStream) → IsTapped t → StaysAligned t → before.left ≡ Some t.bytes
      → Unless (λ status held holds. FromFirst t (λ d e f a. IsRecovered content_listing t d e f a status held holds)) status before after
  pub content_relock_pictures : IsCommand words RecoverContentRelock
      → (mode : Mode) (frames : List Frame) → raster_fault mode frames ≡ None → (t : TappedStream) → t.periods ≡ raster_of mode frames → IsTapped t → StaysAligned t
      → before.left ≡ Some t.bytes
      → Unless (λ status held holds. FromFirst t (λ d e f a. ArePictures mode frames t d e f a held holds)) status before after
  pub content_relock_packets : IsCommand words RecoverContentRelock → (t : TappedStream) → IsTapped t → StaysAligned t → before.left ≡ Some t.bytes
      → Unless (λ status held holds. FromFirst t (λ d e f a. ArePackets t d e f a held holds)) status before after
  pub content_relock_fields : IsCommand words RecoverContentRelock
      → (mode : Mode) (frames : List Frame) → raster_fault mode frames ≡ None → (t : TappedStream) → t.periods ≡ raster_of mode frames → IsTapped t → StaysAligned t
      → before.left ≡ Some t.bytes
      → Unless (λ status held holds. FromFirst t (λ d e f a. AreFields frames t d e f a held holds)) status before after
  -- By the same premises it lists the content of each line and each island that stands alone, whatever is received around it.
  pub content_relock_local : IsCommand words RecoverContentRelock → (t : TappedStream) → (until : ℕ) → IsTappedUntil t until → AlignsBy t until → StaysClear t until
      → before.left ≡ Some t.bytes
      → Unless (IsHeardBy content_listing t until) status before after
  pub content_relock_uncontended : IsCommand words RecoverContentRelock → (t : TappedStream) → (until : ℕ) → IsTappedUntil t until → AlignsBy t until → StaysUncontended t until
      → before.left ≡ Some t.bytes
      → Unless (IsHeardBy content_listing t until) status before after
  -- After a control period that came whole it lists the content of each line and each island that stands alone, by the same premises.
  pub content_relock_local_at_whole : IsCommand words RecoverContentRelock → (t : AgainStream) → (j : ℕ) → ComesWholeLocally t j → before.left ≡ Some t.bytes
      → Unless (λ _ held holds. AreListedAlone content_track_listing t held holds) status before after
  -- Across a slip it writes the content of the events and slips that `recover relock` writes.
  pub content_relock_slip : IsCommand words RecoverContentRelock → (t : TappedStream) → (s : LineSlip) → (y : Fed) → IsSlippedTap t s y → IsNoticed t s
      → before.left ≡ Some t.bytes → Unless (IsTrackedAcross content_track_listing t s y) status before after
  pub content_relock_slip_passes : IsCommand words RecoverContentRelock → (t : TappedStream) → (s : LineSlip) → (y : Fed) → IsSlippedTap t s y → IsUnnoticed t s
      → before.left ≡ Some t.bytes → Unless (IsTrackedAsOne content_listing t s y) status before after
  -- `relay` sends on what was received of the periods that were sent, from the first full alignment on; or it ends with 3 and
  -- writes nothing, where that has more than 20,000,000 columns.
  pub relay_headline : IsCommand words Relay → (t : TappedStream) → IsTapped t → Aligns t → before.left ≡ Some t.bytes
      → Unless (λ status held holds. FromFirst t (λ d e f a. IsSentWithin t d e f a status held holds)) status before after
  -- Whatever is received after a column until which damage is so: each line and each island that was received with few words damaged,
  -- after twelve control columns and before one, is sent on, its bytes and packets as they were sent or else as they were received,
  -- after what is relayed of the columns before its second one, with its preamble.
  pub relay_local : IsCommand words Relay → (t : TappedStream) → (until : ℕ) → IsTappedUntil t until → AlignsBy t until
      → before.left ≡ Some t.bytes
      → Unless (IsRelayedBy t until) status before after
  -- Where `check` says `clean` of a capture, and its aligned columns end in a control period of at least twelve, `relay`
  -- writes columns of the same conforming periods as the aligned ones, in which bit 3 of lane 0 in packet columns is free.
  pub relay_clean : IsCommand words Relay
      → (blue green red : List Bool) (d e f : ℕ) (bytes : List ℕ) → IsAlignedCapture blue green red d e f bytes
      → IsCleanToEnd (aligned_columns blue green red d e f) → before.left ≡ Some bytes
      → Unless (IsPassedOn (aligned_columns blue green red d e f)) status before after
  -- And they are the aligned columns themselves, but for bit 3 of lane 0 in packet columns.
  pub relay_clean_columns : IsCommand words Relay
      → (blue green red : List Bool) (d e f : ℕ) (bytes : List ℕ) → IsAlignedCapture blue green red d e f bytes
      → IsCleanToEnd (aligned_columns blue green red d e f) → before.left ≡ Some bytes
      → Unless (IsWrittenButBit3 (aligned_columns blue green red d e f)) status before after
  -- Of what `relay` wrote it writes the same, with its first control period cut to its last twelve columns, and the status
  -- is 0; or 7 where that is one control period alone.
  pub relay_again : IsCommand words Relay → (events : List Event) (text : List ℕ) → IsRelayed events text
      → before.left ≡ Some text
      → Unless (IsRelayedAgain (relayed events)) status before after
  -- What `relay` wrote of its own output, with status 0, it writes again byte for byte, and the status is 0.
  pub relay_settles : IsCommand words Relay → (events : List Event) (text : List ℕ) → IsRelayed events text
      → (second : RunOutcome) → Relays text second → second.status ≡ 0 → before.left ≡ Some second.output
      → Unless (IsWritten second.output) status before after
