use Rattle.std.proofs.Common.{◌≡◌, ◌<◌, ◌^◌, true, map, take}
use Rattle.tmds_word.specs.Bits.{number}
use Rattle.audio_packets.proofs.writing.header_of.Given as goal

abbrev pub invariant-loop-place : goal.invariant-loop-place
invariant-loop-place l = record {
  present : l.present ≡ number (map (λ _. true) (take l.place l.samples));
  flat : l.flat ≡ number (map (λ s. s.flat) (take l.place l.samples));
  start : l.start ≡ number (map (λ s. s.start) (take l.place l.samples));
  present_below : l.present < 2 ^ l.place;
  flat_below : l.flat < 2 ^ l.place;
  start_below : l.start < 2 ^ l.place;
}
