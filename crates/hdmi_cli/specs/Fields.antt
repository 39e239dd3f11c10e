-- Which fields `recover content` lists of the packets of a content: those that were sent.
use Rattle.std.specs.Prelude.{◌≡◌, ◌+◌, ◌≤◌, ℕ, true, List, [], ◌∷◌, ◌++◌, length, codes, Option, None}
use Rattle.std.specs.Io.KnownBytes.{Appends}
use Rattle.island_pack.specs.declared.packet.Packet.{Packet}
use Rattle.infoframe.specs.declared.content.Avi.{Avi}
use Rattle.infoframe.specs.declared.content.AudioInfo.{AudioInfo}
use Rattle.infoframe.specs.declared.content.Info.TheVariants.{Avi as AviInfo, Audio as AudioFrame}
use Rattle.audio_packets.specs.declared.clock.Acr.{Acr}
use Rattle.audio_packets.specs.declared.sample.Sample.{Sample}
use Rattle.link_laws.specs.Account.{account}
use Rattle.link_laws.specs.Laws.{IsAccounted, BeginColumn}
use Rattle.source_end.specs.declared.mode.Mode.{Mode}
use Rattle.source_end.specs.Content.{Frame}
use Rattle.source_end.specs.Raster.{raster_of}
use Rattle.source_end.specs.RasterRefusals.{raster_fault}
use Rattle.listing_writer.specs.ContentText.{content_lines, text_of}
use Rattle.listing_laws.specs.ListingLaws.{as_sent_at}
use Rattle.listing_laws.specs.PacketLaws.{Placed, placed, content_packets, payload_of}
use Rattle.listing_laws.specs.Said.{Said, info, clock, samples, Says, IsAmong, AreFieldsOf}
use Rattle.hdmi_cli.specs.Headline.{TappedStream, IsTapped, AlignsBy, aligned_of}

-- the lines of the content listing of the account of the columns that are aligned at three edges, which begin with column a
abbrev pub lines_from : TappedStream → ℕ → ℕ → ℕ → ℕ → List (List ℕ)
lines_from t d e f a = content_lines (account t.periods t.sent t.received a (length (aligned_of t d e f)))

-- the output grew by these lines and `end`. Each packet of the content has a place among the packets that were sent. If it was received
-- whole there, with at most one damaged word, or few and no fault, then the lines that say its fields are among them
pub record AreFields (frames : List Frame) (t : TappedStream) (d e f a : ℕ) (old new : Option (List ℕ)) : Type 0 where
  pub accounted : IsAccounted t.periods t.sent t.received (aligned_of t d e f) a
  pub begins : BeginColumn t.offset t.skews (a + 12) d e f
  pub written : Appends old new (text_of (lines_from t d e f a) ++ codes "end\n")
  pub fields : AreFieldsOf frames t.periods t.sent t.received a (a + length (aligned_of t d e f)) (lines_from t d e f a)

-- a raster whose packets say an AVI and an audio InfoFrame, clock numbers and a sample, a tap of it with skews, and where its lanes align.
-- Each of these packets stands after that column, is whole in all aligned columns and was received as it was sent
pub record IsSaidAfter (frames : List Frame) (t : TappedStream) (until : ℕ) (said : Said) : Type 0 where
  pub packet : Packet
  pub among : IsAmong (content_packets frames) packet
  pub says : Says said packet
  pub k : Placed
  pub placed : IsAmong (placed 0 t.periods) k
  pub same : payload_of k.packet ≡ payload_of packet
  pub late : until ≤ k.at
  pub within : (a d e f : ℕ) → BeginColumn t.offset t.skews (a + 12) d e f → k.at + 32 ≤ a + length (aligned_of t d e f)
  pub whole : as_sent_at t.sent t.received k ≡ true

pub record IsFieldsExample (mode : Mode) (frames : List Frame) (t : TappedStream) (until : ℕ) : Type 0 where
  pub taken : raster_fault mode frames ≡ None
  pub raster : t.periods ≡ raster_of mode frames
  pub tapped : IsTapped t
  pub aligns : AlignsBy t until
  pub avi : (x : Avi) × IsSaidAfter frames t until (info (AviInfo x))
  pub audio : (x : AudioInfo) × IsSaidAfter frames t until (info (AudioFrame x))
  pub clock : (acr : Acr) × IsSaidAfter frames t until (clock acr)
  pub sample : (s : Sample) × IsSaidAfter frames t until (samples (s ∷ []))

abbrev pub HasFields : Type 0
HasFields = (mode : Mode) × (frames : List Frame) × (t : TappedStream) × (until : ℕ) × IsFieldsExample mode frames t until
