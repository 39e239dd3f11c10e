use Rattle.std.proofs.Common.{arith, ◌≡◌, ◌<◌, ◌≤◌, ◌+◌, ◌-◌, ◌*◌, ◌/◌, ◌++◌, ℕ, Bool, List, ◌∙◌, ap, length, length-drop, length-take, take, drop}
use Rattle.std.proofs.lemmas.List.{take_all}
use Rattle.tmds_word.specs.Bits.{row_bits}
use Rattle.tmds_word.proofs.Fives.{row_more, length-more}
use Rattle.tmds_word.proofs.row.BitRow.push_block.Goals as goal

rest_room : (start xs : List Bool) (words : List ℕ) (n : ℕ) → xs ≡ start ++ row_bits (take n words) → n ≤ length words → length start + 10 * length words < 4294967296
    → length xs + 10 * length (take (length words - n) (drop n words)) < 4294967296
rest_room start xs words n e le room = omega (arith, length-more start xs words n e le, length-take (length words - n) (drop n words), length-drop n words)

pub push_each-requires : goal.push_each-requires
push_each-requires c =
    let le : length c.args.words.now / 4 * 4 ≤ length c.args.words.now = omega arith in
    rest_room c.args.self.now c.push_fours.new.self c.args.words.now (length c.args.words.now / 4 * 4) c.in_ok-push_fours.ensures.ok le c.requires.room

pub returns-clause-ok : goal.returns-clause-ok
returns-clause-ok c =
    let words = c.args.words.now in
    let n = length words / 4 * 4 in
    let all : length words ≤ n + (length words - n) = omega arith in
    c.in_ok-push_each.ensures.ok
    ∙ row_more c.args.self.now c.push_fours.new.self words n (length words - n) c.in_ok-push_fours.ensures.ok
    ∙ ap (λ ws. c.args.self.now ++ row_bits ws) (take_all (n + (length words - n)) words all)
