-- A pixel and a packet with which columns may be completed.
use Rattle.std.proofs.Common.{List, [], ◌∷◌, map, replicate, refl, arith}
use Rattle.tmds_word.specs.Bits.{bits_of, word_bits, number, ones, zeros, balance}
use Rattle.tmds_word.specs.Column.{Column}
use Rattle.tmds_code.specs.Coding.{takes_xnor, minimised, balanced, coded_bits, coded_at, decoded_bits, decoded_byte}
use Rattle.terc4.specs.Tables.{terc_words, value_in, is_in, is_terc}
use Rattle.island_pack.specs.Nibbles.{nibble_of, nibbles_of, by_turns, header_bits, body_bits, is_foreign, foreign_on, foreign_words}
use Rattle.period_grammar.specs.Coding.{is_coded}
use Rattle.island_pack.specs.Spelling.{column_words}
use Rattle.island_pack.specs.Repaired.{divides, verdict_of, verdicts_in, verdicts_of}
use Rattle.period_grammar.specs.Island.{packet_faults}
use Rattle.period_grammar.specs.Heard.{codes_of}
use Rattle.link_laws.proofs.exact.Faultless.{Fine}
use Rattle.link_laws.proofs.exact.Lines.{IsLine, line_period, line_spelled}
use Rattle.link_laws.proofs.exact.Packets.{IsCarried, carried}

-- a black pixel, the first of a line
pub null_pixel : List Column
null_pixel = record { blue = 0x100; green = 0x100; red = 0x100 } ∷ []

pixel_test : Fine (codes_of 0 null_pixel)
unfolding null_pixel codes_of is_coded coded_at coded_bits takes_xnor minimised balanced decoded_byte decoded_bits word_bits bits_of number ones zeros balance
pixel_test = refl

pub null_line : IsLine null_pixel
unfolding null_pixel
null_line = record { period = line_period null_pixel (omega arith) (omega arith); spelled = line_spelled 0 null_pixel pixel_test }

-- a Null packet
pub null_packet : List Column
null_packet = replicate 32 (record { blue = 0x29c; green = 0x29c; red = 0x29c })

packet_test : Fine (packet_faults 0 (verdicts_of null_packet))
unfolding null_packet verdicts_in verdict_of divides header_bits body_bits nibbles_of nibble_of value_in terc_words by_turns foreign_words foreign_on is_foreign is_terc is_in
packet_test = refl

pub null_carried : IsCarried (map column_words null_packet)
unfolding null_packet
null_carried = carried 0 (map column_words null_packet) refl packet_test
