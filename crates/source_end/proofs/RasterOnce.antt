-- A raster takes of its packets their headers and their bodies alone, so that the generator's content has one raster.
use Rattle.std.proofs.Common.{◌≡◌, ℕ, ◌+◌, ◌*◌, true, List, [], ◌∷◌, ◌++◌, map, length, take, drop, refl, ap, ap₂, ◌∙◌, sym, Option, Some, None}
use Rattle.std.specs.Prelude.{IsTrue}
use Rattle.std.proofs.lemmas.List.{length-map, take-map, drop-map}
use Rattle.island_pack.specs.declared.packet.Packet.{Packet}
use Rattle.infoframe.specs.Fields.{avi_fits, avi_table, audio_fits, audio_table}
use Rattle.infoframe.specs.Written.{IsWritten, fits}
use Rattle.infoframe.specs.declared.content.Info.{Info}
use Rattle.infoframe.proofs.Law.{one_writing}
use Rattle.source_end.specs.Content.{Frame}
use Rattle.source_end.specs.Generator.{IsGenerated, picture_info, sound_info, clock_packet, first_sounds, first_rows, frame_at, first_frames}
use Rattle.source_end.specs.Raster.{Line, Part, pixels, packets, up_from, columns, sync_at, value_at, guard_at, room, sync, back, active, total, packets_at, guards_at, until, whole, laid, lines_of, parts_of, gathered, raster_of}
use Rattle.source_end.specs.declared.mode.Mode.{Mode}

-- a packet's header and bodies
abbrev plain : Packet → Packet
plain p = record { header = p.header; bodies = p.bodies; sync = [] }

packets_plain : (mode : Mode) (line : Line) (x : ℕ) (ps : List Packet) → packets_at mode line x ps ≡ packets_at mode line x (map plain ps)
packets_plain mode line x [] = refl
packets_plain mode line x (p ∷ ps) =
    ap (λ (qs : List Packet). record { header = p.header; bodies = p.bodies; sync = map (sync_at mode line) (up_from x 32) } ∷ qs) (packets_plain mode line (x + 32) ps)

until_plain : (mode : Mode) (line : Line) (ps : List Packet) (e : ℕ) → until mode line ps e ≡ until mode line (map plain ps) e
until_plain mode line [] e = refl
until_plain mode line (p ∷ ps) e =
    let n : length (p ∷ ps) ≡ length (map plain (p ∷ ps)) = sym (length-map (p ∷ ps) plain) in
    let qs = packets_plain mode line 14 (p ∷ ps) in
    λ i. columns (value_at mode line true) 0 12
    ++ (packets (record { opening = guards_at mode line 12; packets = qs i; closing = guards_at mode line (14 + 32 * n i) })
    ∷ columns (value_at mode line true) (16 + 32 * n i) e)

whole_plain : (mode : Mode) (line : Line) (ps : List Packet) (row : Option (List ℕ)) → whole mode line ps row ≡ whole mode line (map plain ps) row
whole_plain mode line ps None = until_plain mode line ps (total mode.across)
whole_plain mode line ps (Some row) =
    ap (λ (us : List Part). us ++ (pixels row ∷ columns (λ x. sync_at mode line x) (sync mode.across + back mode.across + active mode.across) (total mode.across)))
    (until_plain mode line ps (guard_at mode))

laid_plain : (mode : Mode) (lines : List Line) (ps : List Packet) → laid mode lines ps ≡ laid mode lines (map plain ps)
unfolding laid
laid_plain mode [] ps = refl
laid_plain mode (line ∷ lines) ps =
    ap₂ (λ (us vs : List Part). us ++ vs)
    (whole_plain mode line (take (room mode line) ps) line.row ∙ ap (λ (qs : List Packet). whole mode line qs line.row) (sym (take-map plain (room mode line) ps)))
    (laid_plain mode lines (drop (room mode line) ps) ∙ ap (λ (qs : List Packet). laid mode lines qs) (sym (drop-map plain (room mode line) ps)))

abbrev plain_frame : Frame → Frame
plain_frame f = record { packets = map plain f.packets; rows = f.rows }

parts_plain : (mode : Mode) (frames : List Frame) → parts_of mode frames ≡ parts_of mode (map plain_frame frames)
unfolding parts_of lines_of
parts_plain mode [] = refl
parts_plain mode (f ∷ frames) = ap₂ (λ (us vs : List Part). us ++ vs) (laid_plain mode (lines_of mode f) f.packets) (parts_plain mode frames)

raster_plain : (mode : Mode) (frames : List Frame) → raster_of mode frames ≡ raster_of mode (map plain_frame frames)
unfolding raster_of
raster_plain mode frames = ap gathered (parts_plain mode frames)

-- ---- the generator's content

frames_same : (avi audio other_avi other_audio : Packet) → plain avi ≡ plain other_avi → plain audio ≡ plain other_audio → (xs : List ℕ)
    → map plain_frame (map (frame_at avi audio) xs) ≡ map plain_frame (map (frame_at other_avi other_audio) xs)
unfolding frame_at
frames_same avi audio other_avi other_audio a b [] = refl
frames_same avi audio other_avi other_audio a b (x ∷ xs) =
    let one : plain_frame (frame_at avi audio x) ≡ plain_frame (frame_at other_avi other_audio x) =
    λ i. record { packets = a i ∷ (plain clock_packet ∷ (b i ∷ map plain (first_sounds x 200))); rows = first_rows x 480 } in
    ap₂ (λ (f : Frame) (fs : List Frame). f ∷ fs) one (frames_same avi audio other_avi other_audio a b xs)

all_same : (avi audio other_avi other_audio : Packet) (n : ℕ) → plain avi ≡ plain other_avi → plain audio ≡ plain other_audio
    → map plain_frame (first_frames avi audio n) ≡ map plain_frame (first_frames other_avi other_audio n)
unfolding first_frames
all_same avi audio other_avi other_audio n a b = frames_same avi audio other_avi other_audio a b (up_from 0 n)

picture_fits : IsTrue (fits picture_info)
unfolding fits avi_fits avi_table
picture_fits = refl

sound_fits : IsTrue (fits sound_info)
unfolding fits audio_fits audio_table
sound_fits = refl

same_plain : (info : Info) (p q : Packet) → IsTrue (fits info) → IsWritten info p → IsWritten info q → plain p ≡ plain q
same_plain info p q fit a b =
    let same = one_writing info p q fit a b in
    λ i. record { header = same.0 i; bodies = same.1 i; sync = [] }

pub one_raster : (mode : Mode) (n : ℕ) (f g : List Frame) → IsGenerated n f → IsGenerated n g → raster_of mode f ≡ raster_of mode g
one_raster mode n f g a b =
    let same = all_same a.avi a.audio b.avi b.audio n (same_plain picture_info a.avi b.avi picture_fits a.avi_is b.avi_is) (same_plain sound_info a.audio b.audio sound_fits a.audio_is b.audio_is) in
    ap (raster_of mode) a.content_is ∙ raster_plain mode (first_frames a.avi a.audio n) ∙ ap (raster_of mode) same
    ∙ sym (raster_plain mode (first_frames b.avi b.audio n)) ∙ sym (ap (raster_of mode) b.content_is)
