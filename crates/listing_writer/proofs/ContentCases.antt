-- Cases of what packets are read as.
use Rattle.std.proofs.Common.{◌≡◌, ℕ, ◌<◌, Bool, true, false, List, Option, ◌∙◌, ap, sym, subst, arith}
use Rattle.std.specs.Prelude.{Some, None, Ok, Err, Result, option_map, is_some, slice_index}
use Rattle.std.proofs.lemmas.Bool.{ne_eqb}
use Rattle.period_grammar.specs.Lending.{fault_event}
use Rattle.period_grammar.specs.declared.event.Fault.{Fault}
use Rattle.period_grammar.specs.declared.event.Fault.TheVariants.{Word}
use Rattle.frame_build.specs.FrameEvent.{other}
use Rattle.island_pack.specs.declared.packet.Packet.{Packet}
use Rattle.island_pack.specs.declared.packet.PacketVerdicts.{PacketVerdicts}
use Rattle.infoframe.specs.Frames.{Frame, frame_in, frame_of, answer, kind_of, avi_in, audio_in, spd_in}
use Rattle.infoframe.specs.declared.content.InfoKind.{InfoKind}
use Rattle.infoframe.specs.declared.content.InfoFault.{InfoFault}
use Rattle.infoframe.specs.declared.content.Avi.{Avi}
use Rattle.infoframe.specs.declared.content.AudioInfo.{AudioInfo}
use Rattle.infoframe.specs.declared.content.Spd.{Spd}
use Rattle.listing_writer.specs.ContentText.{is_fault_line, frame_event_of, avi_read, avi_words, audio_words, spd_words, raw_words, info_words}

-- a fault of no word is an event like any other
pub parts_lines : (fault : Fault) → ((lane column : ℕ) → fault ≡ Word lane column → ⊥) → frame_event_of (fault_event fault) ≡ other
unfolding frame_event_of
parts_lines fault h = grind arith

-- what a packet of no InfoFrame's type is read as names no code
kind_low : (t v : ℕ) (payload : List ℕ) → t < 128 → avi_in (kind_of t v) payload ≡ None
unfolding kind_of avi_in
kind_low t v payload low = grind (arith, ne_eqb)

answer_low : (lost : Option ℕ) (fits : Bool) (total : ℕ) (frame : Frame) → avi_in (kind_of frame.type_code frame.version) frame.payload ≡ None → avi_read (answer lost fits total frame) ≡ None
unfolding answer avi_read
answer_low lost fits total frame h = grind arith

pub avi_low : (p : Packet) (v : PacketVerdicts) → slice_index p.header 0 < 128 → avi_read (frame_of p v) ≡ None
unfolding frame_of frame_in
avi_low p v low = answer_low _ _ _ (frame_in p) (kind_low _ _ _ low)

-- the frame that a packet is read as has the packet's type
abbrev pub HasType : ℕ → Result Frame InfoFault → Type 0
HasType t (Ok f) = f.type_code ≡ t
HasType t (Err e) = Unit {0}

answer_type : (lost : Option ℕ) (fits : Bool) (total : ℕ) (frame : Frame) → HasType frame.type_code (answer lost fits total frame)
unfolding answer
answer_type lost fits total frame = grind arith

pub type_read : (p : Packet) (v : PacketVerdicts) (f : Frame) → Ok f ≡ frame_of p v → f.type_code ≡ slice_index p.header 0
unfolding frame_of frame_in
type_read p v f is = subst (HasType (slice_index p.header 0)) (sym is) (answer_type _ _ _ (frame_in p))

-- the line of each kind
abbrev pub IsAviLine : InfoKind → Frame → Option Avi → Type 0
IsAviLine k frame (Some avi) = avi_words avi ≡ info_words k frame
IsAviLine k frame None = Unit {0}

avi_line_of : (k : InfoKind) (frame : Frame) → IsAviLine k frame (avi_in k frame.payload)
unfolding info_words avi_in
avi_line_of k frame = grind arith

pub as_avi : (k : InfoKind) (frame : Frame) (avi : Avi) → Some avi ≡ avi_in k frame.payload → avi_words avi ≡ info_words k frame
as_avi k frame avi is = subst (IsAviLine k frame) (sym is) (avi_line_of k frame)

abbrev pub IsAudioLine : InfoKind → Frame → Option AudioInfo → Type 0
IsAudioLine k frame (Some audio) = audio_words audio ≡ info_words k frame
IsAudioLine k frame None = Unit {0}

audio_line_of : (k : InfoKind) (frame : Frame) → IsAudioLine k frame (audio_in k frame.payload)
unfolding info_words audio_in
audio_line_of k frame = grind arith

pub as_audio : (k : InfoKind) (frame : Frame) (audio : AudioInfo) → Some audio ≡ audio_in k frame.payload → audio_words audio ≡ info_words k frame
as_audio k frame audio is = subst (IsAudioLine k frame) (sym is) (audio_line_of k frame)

abbrev pub IsSpdLine : InfoKind → Frame → Option Spd → Type 0
IsSpdLine k frame (Some spd) = spd_words spd ≡ info_words k frame
IsSpdLine k frame None = Unit {0}

spd_line_of : (k : InfoKind) (frame : Frame) → IsSpdLine k frame (spd_in k frame.payload)
unfolding info_words spd_in
spd_line_of k frame = grind arith

pub as_spd : (k : InfoKind) (frame : Frame) (spd : Spd) → Some spd ≡ spd_in k frame.payload → spd_words spd ≡ info_words k frame
as_spd k frame spd is = subst (IsSpdLine k frame) (sym is) (spd_line_of k frame)

abbrev pub IsRawLine : InfoKind → Frame → Option Avi → Option AudioInfo → Option Spd → Type 0
IsRawLine k frame (Some avi) audio spd = Unit {0}
IsRawLine k frame None (Some audio) spd = Unit {0}
IsRawLine k frame None None (Some spd) = Unit {0}
IsRawLine k frame None None None = raw_words frame.type_code frame.version frame.payload ≡ info_words k frame

raw_line_of : (k : InfoKind) (frame : Frame) → IsRawLine k frame (avi_in k frame.payload) (audio_in k frame.payload) (spd_in k frame.payload)
unfolding info_words avi_in audio_in spd_in
raw_line_of k frame = grind arith

pub no_some : {A : Type 0} (x : Option A) → ((a : A) → x ≡ Some a → ⊥) → x ≡ None
no_some x h = grind arith

pub as_raw : (k : InfoKind) (frame : Frame) → avi_in k frame.payload ≡ None → audio_in k frame.payload ≡ None → spd_in k frame.payload ≡ None
    → raw_words frame.type_code frame.version frame.payload ≡ info_words k frame
as_raw k frame avi audio spd =
    subst (λ (x : Option Spd). IsRawLine k frame None None x) spd
    (subst (λ (x : Option AudioInfo). IsRawLine k frame None x (spd_in k frame.payload)) audio
    (subst (λ (x : Option Avi). IsRawLine k frame x (audio_in k frame.payload) (spd_in k frame.payload)) avi (raw_line_of k frame)))

-- it is no fault line
pub info_is_plain : (k : InfoKind) (frame : Frame) → is_fault_line (info_words k frame) ≡ false
unfolding info_words avi_words audio_words spd_words raw_words
info_is_plain k frame = grind arith

pub raw_same : (t u v w : ℕ) (p q : List ℕ) → t ≡ u → v ≡ w → p ≡ q → raw_words t v p ≡ raw_words u w q
raw_same t u v w p q a b c = ap (λ (x : ℕ). raw_words x v p) a ∙ ap (λ (x : ℕ). raw_words u x p) b ∙ ap (λ (x : List ℕ). raw_words u w x) c
