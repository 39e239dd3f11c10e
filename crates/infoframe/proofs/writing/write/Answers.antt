use Rattle.std.proofs.Common.{◌≡◌, true, refl, ap, subst, sym, arith}
use Rattle.infoframe.specs.Frames.{kind_of}
use Rattle.infoframe.specs.Written.{fits, info_as, reserved_of, IsWritten}
use Rattle.infoframe.specs.declared.content.Info.{Info}
use Rattle.infoframe.specs.declared.content.Info.TheVariants.{Avi, Audio, Spd}
use Rattle.infoframe.proofs.Bounds.{avi_bounds, audio_bounds}
use Rattle.infoframe.proofs.Writings.{written_from}
use Rattle.infoframe.proofs.writing.write.Goals as goal

pub avi_bytes-requires : goal.avi_bytes-requires
unfolding fits
avi_bytes-requires c = avi_bounds c.in-Avi.avi (subst (λ (i : Info). fits i ≡ true) c.in-Avi.is c.requires)

pub audio_bytes-requires : goal.audio_bytes-requires
unfolding fits
audio_bytes-requires c = audio_bounds c.in-Audio.audio (subst (λ (i : Info). fits i ≡ true) c.in-Audio.is c.requires)

pub write_raw-requires : goal.write_raw-requires
write_raw-requires c = subst (λ (i : Info). fits i ≡ true) c.in-Raw.is c.requires

pub returns-in-Avi-clause-written : goal.returns-in-Avi-clause-written
unfolding kind_of info_as reserved_of
returns-in-Avi-clause-written c =
    subst (λ (i : Info). IsWritten i c.lay.new.out) (sym c.in-Avi.is)
    (written_from (Avi c.in-Avi.avi) c.lay.new.out c.avi_bytes.result 3 c.lay.ensures.whole c.lay.ensures.header c.avi_bytes.ensures.long
    (omega (arith, c.avi_bytes.ensures.long)) c.lay.ensures.payload c.lay.ensures.checksum (ap Avi c.avi_bytes.ensures.fields) c.avi_bytes.ensures.reserved)

pub returns-in-Audio-clause-written : goal.returns-in-Audio-clause-written
unfolding kind_of info_as reserved_of
returns-in-Audio-clause-written c =
    subst (λ (i : Info). IsWritten i c.lay-in-Audio.new.out) (sym c.in-Audio.is)
    (written_from (Audio c.in-Audio.audio) c.lay-in-Audio.new.out c.audio_bytes.result 9 c.lay-in-Audio.ensures.whole c.lay-in-Audio.ensures.header
    c.audio_bytes.ensures.long (omega (arith, c.audio_bytes.ensures.long)) c.lay-in-Audio.ensures.payload c.lay-in-Audio.ensures.checksum
    (ap Audio c.audio_bytes.ensures.fields) c.audio_bytes.ensures.reserved)

pub returns-in-Spd-clause-written : goal.returns-in-Spd-clause-written
unfolding kind_of info_as reserved_of
returns-in-Spd-clause-written c =
    subst (λ (i : Info). IsWritten i c.lay-in-Spd.new.out) (sym c.in-Spd.is)
    (written_from (Spd c.in-Spd.spd) c.lay-in-Spd.new.out c.spd_bytes-payload.result 0 c.lay-in-Spd.ensures.whole c.lay-in-Spd.ensures.header
    c.spd_bytes-payload.ensures.long (omega (arith, c.spd_bytes-payload.ensures.long)) c.lay-in-Spd.ensures.payload c.lay-in-Spd.ensures.checksum
    (ap Spd c.spd_bytes-payload.ensures.fields) refl)

pub returns-in-Raw-clause-written : goal.returns-in-Raw-clause-written
returns-in-Raw-clause-written c = subst (λ (i : Info). IsWritten i c.write_raw.new.out) (sym c.in-Raw.is) c.write_raw.ensures.written
