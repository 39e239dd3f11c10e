-- A raster whose packets say an AVI and an audio InfoFrame, clock numbers and a sample, and a tap of it with skews.
use Rattle.std.proofs.Common.{◌≡◌, ℕ, zero, suc, ◌+◌, ◌-◌, ◌*◌, ◌<◌, ◌≤◌, ◌&&◌, ◌||◌, Bool, true, false, List, [], ◌∷◌, ◌++◌, length, map, take, drop, get_or, All, refl, ap, ap₂, sym, ◌∙◌, arith, Option, Some, None}
use Rattle.std.specs.Prelude.{slice_index, nat_le}
use Rattle.std.proofs.lemmas.List.{length-map}
use Rattle.std.proofs.lemmas.List.Elements.{All-nil, All-cons, All-replicate}
use Rattle.tmds_word.specs.Bits.{number}
use Rattle.tmds_word.specs.Column.{Column, blues, greens, reds}
use Rattle.tmds_word.specs.Taps.{HasSmallSkew}
use Rattle.lane_align.specs.Words.{words_from}
use Rattle.lane_align.proofs.Words.{length-words_from}
use Rattle.lane_deskew.specs.Aligned.{aligned_columns}
use Rattle.lane_track.proofs.Around.{length-part}
use Rattle.terc4.specs.Columns.{one_if}
use Rattle.capture_file.specs.Taps.{tap_count, tap_counts, tap_of, tapped_capture}
use Rattle.capture_file.specs.declared.writing.Tap.{Tap}
use Rattle.capture_file.proofs.Tapped.{tap_is_tap, tap_is_captured}
use Rattle.island_pack.specs.Conforming.{IsConforming}
use Rattle.island_pack.specs.Kinds.{kinds_in, kinds_of, IsAfterControl}
use Rattle.island_pack.specs.Periods.{Period, values_of, period_columns, columns_of}
use Rattle.island_pack.specs.Spelling.{column_words}
use Rattle.island_pack.specs.declared.packet.Packet.{Packet}
use Rattle.island_pack.proofs.Spelled.{conforming_is_spelled}
use Rattle.infoframe.specs.Fields.{avi_table, avi_fits, audio_table, audio_fits}
use Rattle.infoframe.specs.Written.{fits}
use Rattle.infoframe.specs.declared.content.Avi.{Avi}
use Rattle.infoframe.specs.declared.content.AudioInfo.{AudioInfo}
use Rattle.infoframe.specs.declared.content.Info.TheVariants.{Avi as AviInfo, Audio as AudioFrame}
use Rattle.audio_packets.specs.Clock.{acr_packet}
use Rattle.audio_packets.specs.Samples.{IsSample, samples_packet}
use Rattle.audio_packets.specs.declared.clock.Acr.{Acr}
use Rattle.audio_packets.specs.declared.sample.Sample.{Sample}
use Rattle.source_end.specs.declared.mode.Mode.{Mode}
use Rattle.source_end.specs.Content.{Frame}
use Rattle.source_end.specs.Raster.{lines_of, laid, parts_of, gathered, raster_of}
use Rattle.source_end.specs.RasterLaws.{RasterConforms}
use Rattle.source_end.specs.RasterRefusals.{raster_fault}
use Rattle.source_end.proofs.ItemFronts.{parts_at}
use Rattle.source_end.proofs.RasterLaw.{raster_conforms}
use Rattle.source_end.proofs.Streams.{Spells-length}
use Rattle.link_laws.specs.Account.{damage, are_few, is_as_sent}
use Rattle.period_grammar.specs.Exact.{faultless}
use Rattle.period_grammar.specs.Island.{packet_faults}
use Rattle.island_pack.specs.Repaired.{verdicts_of}
use Rattle.island_pack.specs.Spelling.{Spells}
use Rattle.link_laws.specs.Laws.{ReceivedOf, BeginColumn, HoldsEnd, AlignsUntil}
use Rattle.link_laws.proofs.LocalExample.{many_columns}
use Rattle.listing_reader.specs.InfoPackets.{payload_of as bytes_of_info, info_packet, no_sync}
use Rattle.listing_laws.specs.PacketLaws.{Placed, placed, each_at, content_packets, payload_of}
use Rattle.listing_laws.specs.Said.{Said, info, clock, samples, Says, IsAmong}
use Rattle.listing_laws.proofs.SaidPackets.{listed_is_said}
use Rattle.listing_laws.proofs.Undamaged.{none_unlike, undamaged}
use Rattle.hdmi_cli.specs.Fields.{IsSaidAfter, HasFields}
use Rattle.hdmi_cli.specs.Headline.{TappedStream, IsTapped, aligned_of}

-- ---- the content

abbrev avi : Avi
avi = record { s = 0; b = 0; a = 0; y = 0; r = 8; m = 2; c = 0; sc = 0; q = 0; ec = 0; itc = 0; vic = 1; pr = 0; bars = 0 ∷ 0 ∷ 0 ∷ 0 ∷ [] }

abbrev audio : AudioInfo
audio = record { cc = 1; ct = 0; ss = 0; sf = 0; ca = 0; lsv = 0; dm = 0 }

abbrev numbers : Acr
numbers = record { n = 6144; cts = 25200 }

abbrev sample : Sample
sample = record { left = 1; right = 2; left_flags = 0; right_flags = 0; start = true; flat = false }

abbrev avi_packet : Packet
avi_packet = info_packet (AviInfo avi)

abbrev audio_packet : Packet
audio_packet = info_packet (AudioFrame audio)

abbrev clock_packet : Packet
clock_packet = acr_packet numbers no_sync

abbrev sample_packet : Packet
sample_packet = samples_packet (sample ∷ []) no_sync

-- six lines, each of which but that of the row has room for one packet
abbrev mode : Mode
mode = record { across = 1 ∷ 1 ∷ 1 ∷ 45 ∷ []; down = 1 ∷ 1 ∷ 1 ∷ 3 ∷ []; positive = true }

abbrev frames : List Frame
frames = record { packets = clock_packet ∷ avi_packet ∷ audio_packet ∷ clock_packet ∷ sample_packet ∷ []; rows = (0 ∷ 128 ∷ 255 ∷ []) ∷ [] } ∷ []

unfoldable periods : List Period
periods = raster_of mode frames

taken : raster_fault mode frames ≡ None
unfolding raster_fault lines_of
taken = refl

good : IsConforming periods
unfolding periods RasterConforms info_packet bytes_of_info number lib.Count.ones
good = raster_conforms mode frames taken refl

spelled : (columns : List Column) × Spells periods columns
spelled = conforming_is_spelled periods good

abbrev sent : List Column
sent = spelled.0

reception : ReceivedOf periods sent sent
reception = undamaged periods sent good spelled.1

-- six lines of 48 columns, and 32 columns after them
long : length sent ≡ 320
unfolding periods raster_of parts_of laid lines_of gathered one_if columns_of period_columns values_of
long = Spells-length periods sent spelled.1

-- ---- the tap

abbrev tap : Tap
tap = record { version = 2; offset = 7; skews = 0 ∷ 70 ∷ 35 ∷ []; bits = None }

abbrev t : TappedStream
t =
    record {
      periods = periods;
      sent = sent;
      received = sent;
      offset = 7;
      skews = 0 ∷ 70 ∷ 35 ∷ [];
      counts = tap_counts tap sent;
      blue = (tap_of sent tap).blue;
      green = (tap_of sent tap).green;
      red = (tap_of sent tap).red;
      bytes = tapped_capture sent tap;
    }

small : HasSmallSkew (0 ∷ 70 ∷ 35 ∷ [])
small = record { blue_green = (omega arith, omega arith); green_red = (omega arith, omega arith); blue_red = (omega arith, omega arith) }

tapped : IsTapped t
tapped =
    let l = long in
    record { reception = reception; tap = tap_is_tap sent tap (omega arith); small = small; captured = tap_is_captured sent tap (omega arith) (omega arith) }

-- ---- where its lanes align

after : IsAfterControl (kinds_of periods) 60
unfolding periods raster_of parts_of laid lines_of gathered one_if kinds_of kinds_in values_of
after = record { before = (59, refl, refl); opens = refl }

each_lane : (P : ℕ → Type 0) → P 0 → P 1 → P 2 → (lane : ℕ) → lane < 3 → P lane
each_lane P b g r zero lt = b
each_lane P b g r (suc zero) lt = g
each_lane P b g r (suc (suc zero)) lt = r
each_lane P b g r (suc (suc (suc lane))) lt = absurd (omega arith)

holds : HoldsEnd 7 (0 ∷ 70 ∷ 35 ∷ []) (tap_counts tap sent) 60
holds =
    let l = long in
    record {
      begins = each_lane (λ lane. 7 + slice_index (0 ∷ 70 ∷ 35 ∷ []) lane + 120 ≤ 10 * 60) (omega arith) (omega arith) (omega arith);
      reaches = each_lane (λ lane. 10 * 60 + 10 ≤ 7 + slice_index (0 ∷ 70 ∷ 35 ∷ []) lane + slice_index (tap_counts tap sent) lane) (omega arith) (omega arith) (omega arith);
    }

aligns : AlignsUntil periods sent sent 7 (0 ∷ 70 ∷ 35 ∷ []) (tap_counts tap sent) 60
aligns = record { after = after; spares = λ i le no. refl; holds = holds }

-- ---- its packets

own_damage : (cs : List Column) → damage cs cs ≡ 0
unfolding damage
own_damage [] = refl
own_damage (c ∷ cs) = ap₂ (λ (a b : ℕ). a + b) (none_unlike (column_words c)) (own_damage cs)

-- each packet is as it was sent
as_sent : (k : Placed) → is_as_sent (take 32 (drop k.at sent)) (take 32 (drop k.at sent)) ≡ true
unfolding is_as_sent
as_sent k =
    let cs : List Column = take 32 (drop k.at sent) in
    ap (λ n. nat_le n 1 || (are_few cs cs && faultless (packet_faults 0 (verdicts_of cs)))) (own_damage cs)

-- the aligned columns reach the end of the last packet
reach : (a d e f : ℕ) → BeginColumn 7 (0 ∷ 70 ∷ 35 ∷ []) (a + 12) d e f → 286 ≤ a + length (aligned_of t d e f)
unfolding aligned_columns
reach a d e f at =
    let l = long in
    let lb = length-map sent (λ c. c.blue) in
    let lg = length-map sent (λ c. c.green) in
    let lr = length-map sent (λ c. c.red) in
    let nx = tap_count tap (length sent) 0 in
    let ny = tap_count tap (length sent) 1 in
    let nz = tap_count tap (length sent) 2 in
    let lx = length-part (blues sent) 7 nx (omega arith) in
    let ly = length-part (greens sent) 77 ny (omega arith) in
    let lz = length-part (reds sent) 42 nz (omega arith) in
    let wx = length-words_from (tap_of sent tap).blue (d - 120) in
    let wy = length-words_from (tap_of sent tap).green (e - 120) in
    let wz = length-words_from (tap_of sent tap).red (f - 120) in
    let p = at.blue in
    let q = at.green in
    let r = at.red in
    let n = many_columns (286 - a) (words_from (tap_of sent tap).blue (d - 120)) (words_from (tap_of sent tap).green (e - 120)) (words_from (tap_of sent tap).red (f - 120)) (omega arith) (omega arith) (omega arith) in
    omega arith

abbrev nowhere : Placed
nowhere = record { packet = clock_packet; at = 0 }

abbrev place : ℕ → Placed
place i = get_or (placed 0 periods) i nowhere

five : length (placed 0 periods) ≡ 5
unfolding periods raster_of parts_of laid lines_of gathered one_if placed each_at values_of period_columns
five = refl

-- a packet, where it stands, and what it says
said_at : (i n : ℕ) (said : Said) (p : Packet) → IsAmong (content_packets frames) p → Says said p → i < 5 → (place i).at ≡ n → payload_of (place i).packet ≡ payload_of p → 60 ≤ n → n + 32 ≤ 286 → IsSaidAfter frames t 60 said
said_at i n said p among says lt at same late early =
    let many = five in
    record {
      packet = p;
      among = among;
      says = says;
      k = place i;
      placed = (take i (placed 0 periods), drop (suc i) (placed 0 periods), sym (parts_at (placed 0 periods) i nowhere (omega arith)));
      same = same;
      late = omega arith;
      within = λ a d e f begins. let far = reach a d e f begins in omega arith;
      whole = as_sent (place i);
    }

avi_said : IsSaidAfter frames t 60 (info (AviInfo avi))
unfolding periods raster_of parts_of laid lines_of gathered one_if placed each_at values_of period_columns content_packets fits avi_fits avi_table
avi_said =
    said_at 1 62 (info (AviInfo avi)) avi_packet (clock_packet ∷ [], audio_packet ∷ clock_packet ∷ sample_packet ∷ [], refl)
    (listed_is_said (AviInfo avi) (refl, All-replicate (λ bar. bar < 65536) 4 0 (omega arith)) refl)
    (omega arith) refl refl (omega arith) (omega arith)

audio_said : IsSaidAfter frames t 60 (info (AudioFrame audio))
unfolding periods raster_of parts_of laid lines_of gathered one_if placed each_at values_of period_columns content_packets fits audio_fits audio_table
audio_said =
    said_at 2 110 (info (AudioFrame audio)) audio_packet (clock_packet ∷ avi_packet ∷ [], clock_packet ∷ sample_packet ∷ [], refl)
    (listed_is_said (AudioFrame audio) (omega arith) refl) (omega arith) refl refl (omega arith) (omega arith)

clock_said : IsSaidAfter frames t 60 (clock numbers)
unfolding periods raster_of parts_of laid lines_of gathered one_if placed each_at values_of period_columns content_packets
clock_said =
    said_at 3 158 (clock numbers) clock_packet (clock_packet ∷ avi_packet ∷ audio_packet ∷ [], sample_packet ∷ [], refl)
    (record { n = omega arith; cts = omega arith }, refl) (omega arith) refl refl (omega arith) (omega arith)

sample_said : IsSaidAfter frames t 60 (samples (sample ∷ []))
unfolding periods raster_of parts_of laid lines_of gathered one_if placed each_at values_of period_columns content_packets
sample_said =
    said_at 4 254 (samples (sample ∷ [])) sample_packet (clock_packet ∷ avi_packet ∷ audio_packet ∷ clock_packet ∷ [], [], refl)
    (omega arith, omega arith, All-cons IsSample sample [] (record { left = omega arith; right = omega arith; left_flags = omega arith; right_flags = omega arith }) (All-nil IsSample), refl)
    (omega arith) refl refl (omega arith) (omega arith)

pub fields_example : HasFields
unfolding periods
fields_example = (
  mode,
  frames,
  t,
  60,
  record {
    taken = taken;
    raster = refl;
    tapped = tapped;
    aligns = aligns;
    avi = (avi, avi_said);
    audio = (audio, audio_said);
    clock = (numbers, clock_said);
    sample = (sample, sample_said);
  },
)
