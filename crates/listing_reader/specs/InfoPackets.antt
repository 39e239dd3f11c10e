-- The packets that say what lines of a content listing say, with nothing else set: CTA-861, sections 6.4 to 6.6, and
-- HDMI 1.4, sections 5.3.5 (InfoFrames) and 5.3.6 (general control). PB0 is the checksum, PB1 the first byte after it.
use Rattle.std.specs.Prelude.{ℕ, ◌+◌, ◌-◌, ◌*◌, ◌%◌, List, [], ◌∷◌, ◌++◌, take, replicate, sum}
use Rattle.island_pack.specs.declared.packet.Packet.{Packet}
use Rattle.infoframe.specs.Bytes.{bar_bytes}
use Rattle.infoframe.specs.Written.{padded, type_of, version_of, length_of}
use Rattle.infoframe.specs.declared.content.Info.{Info}
use Rattle.infoframe.specs.declared.content.Info.TheVariants.{Avi, Audio, Spd, Raw}

-- the bytes after the checksum, each field at its bits and 0 at each other bit
unfoldable pub payload_of : Info → List ℕ
payload_of (Avi x) =
    (x.s + 4 * x.b + 16 * x.a + 32 * x.y)
    ∷ (x.r + 16 * x.m + 64 * x.c)
    ∷ (x.sc + 4 * x.q + 16 * x.ec + 128 * x.itc)
    ∷ x.vic
    ∷ x.pr
    ∷ bar_bytes x.bars
payload_of (Audio x) = (x.cc + 16 * x.ct) ∷ (x.ss + 4 * x.sf) ∷ 0 ∷ x.ca ∷ (8 * x.lsv + 128 * x.dm) ∷ replicate 5 0
payload_of (Spd x) = x.vendor ++ x.product ++ x.kind ∷ []
payload_of (Raw kind version length bytes) = take length bytes

-- the byte that makes a sum 0 modulo 256
abbrev pub balance : ℕ → ℕ
balance total = (256 - total % 256) % 256

abbrev pub no_sync : List ℕ
no_sync = replicate 32 0

-- header, checksum, payload and zeros
unfoldable pub info_packet : Info → Packet
info_packet info = record {
  header = type_of info ∷ version_of info ∷ length_of info ∷ [];
  bodies = balance (type_of info + version_of info + length_of info + sum (payload_of info)) ∷ padded (payload_of info);
  sync = no_sync;
}

-- general control: set mute is bit 0 and clear mute bit 4 of a body's first byte, the depth is bits 0 to 3 of its second;
-- the four bodies are alike
abbrev pub control_body : ℕ → ℕ → ℕ → List ℕ
control_body set clear depth = (set + 16 * clear) ∷ depth ∷ replicate 5 0

unfoldable pub control_packet : ℕ → ℕ → ℕ → Packet
control_packet set clear depth = record {
  header = 3 ∷ 0 ∷ 0 ∷ [];
  bodies = control_body set clear depth ++ control_body set clear depth ++ control_body set clear depth ++ control_body set clear depth;
  sync = no_sync;
}
