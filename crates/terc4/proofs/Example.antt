-- Words of each kind, and two control words of which the one ends with the two bits with which the other begins.
use Rattle.std.proofs.Common.{◌≡◌, ◌-◌, ◌≤◌, true, take, drop, refl, arith}
use Rattle.tmds_word.specs.Bits.{bits_of, word_bits, turns, unlike}
use Rattle.terc4.specs.Tables.{control_words, terc_words, video_guard, island_guard, is_in, is_control, is_terc, is_guard}
use Rattle.terc4.specs.Laws.{HasExample}

control : is_control 0x354 ≡ true
unfolding is_control is_in control_words
control = refl

other_control : is_control 0x0ab ≡ true
unfolding is_control is_in control_words
other_control = refl

terc : is_terc 0x29c ≡ true
unfolding is_terc is_in terc_words
terc = refl

guard : is_guard 0x133 ≡ true
unfolding is_guard is_in island_guard video_guard
guard = refl

turns_100 : turns (word_bits 0x100) ≡ 2
unfolding turns unlike word_bits bits_of
turns_100 = refl

minimized : turns (word_bits 0x100) ≤ 5
minimized = let t = turns_100 in omega arith

overlap : drop (10 - 2) (word_bits 0x354) ≡ take 2 (word_bits 0x0ab)
unfolding word_bits bits_of
overlap = refl

pub example : HasExample
example = (
  0x354,
  0x29c,
  0x133,
  0x100,
  0x354,
  0x0ab,
  2,
  record {
    one = control;
    table = terc;
    guards = guard;
    few = minimized;
    first = control;
    second = other_control;
    overlap = overlap;
    some = omega arith;
    within = omega arith;
  },
)
