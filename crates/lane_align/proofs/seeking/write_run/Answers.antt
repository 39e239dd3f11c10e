use Rattle.std.proofs.Common.{◌-◌, ◌<◌, ◌∙◌, [], arith, take, drop}
use Rattle.std.proofs.lemmas.List.Elements.{All-nil}
use Rattle.tmds_word.specs.Bits.{bytes_bits, number}
use Rattle.tmds_word.proofs.Numbers.{number-drop}
use Rattle.lane_align.proofs.Cutting.{small_written}
use Rattle.lane_align.proofs.Feeding.{words_number}
use Rattle.lane_align.proofs.Fives.{twelve_words}
use Rattle.lane_align.proofs.seeking.write_run.Goals as goal

pub returns-clause-row : goal.returns-clause-row
returns-clause-row c = grind (arith, twelve_words, words_number, number-drop)

pub returns-clause-words : goal.returns-clause-words
returns-clause-words c =
    let bits = drop c.args.place (bytes_bits c.args.bytes.now) in
    small_written 12 (number bits) [] (take 12 c.write_four.new.row) (returns-clause-row c ∙ words_number 12 bits) (All-nil (λ w. w < 1024))
