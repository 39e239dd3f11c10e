use Rattle.std.proofs.Common.{arith, ◌≡◌, ◌<◌, ◌≤◌, ◌+◌, ◌-◌, ◌*◌, ◌++◌, ℕ, Bool, List, ◌∙◌, ap, length, length-drop, length-take, take, drop, min}
use Rattle.std.proofs.lemmas.List.{take_all}
use Rattle.std.proofs.lemmas.Bool.{cases_lt}
use Rattle.std.specs.Int.{div_ceil}
use Rattle.tmds_word.specs.Bits.{row_bits}
use Rattle.tmds_word.proofs.Fives.{no_more_words, row_more, length-more}
use Rattle.tmds_word.proofs.row.BitRow.push_blocks.Goals as goal

pub loop-i-init : goal.loop-i-init
loop-i-init c = no_more_words c.args.self.now

block_room : (start xs : List Bool) (words : List ℕ) (from upto : ℕ) → xs ≡ start ++ row_bits (take from words) → from ≤ upto → upto ≤ length words → length start + 10 * length words < 4294967296
    → length xs + 10 * length (take (upto - from) (drop from words)) < 4294967296
block_room start xs words from upto e le within room = omega (arith, length-more start xs words from e (omega arith), length-take (upto - from) (drop from words), length-drop from words)

begun : (i n size : ℕ) → i < n → n ≡ div_ceil size 64 → 64 * i < size
begun i n size lt e = omega (arith, e)

pub push_block-requires-clause-room : goal.push_block-requires-clause-room
push_block-requires-clause-room c = grind (arith, begun, block_room)

take_min : (n : ℕ) (words : List ℕ) → take (min (length words) n) words ≡ take n words
take_min n words = grind (arith, cases_lt, take_all)

pub loop-i-preserved : goal.loop-i-preserved
loop-i-preserved c =
    let words = c.args.words.now in
    let from = 64 * c.loop-i.i in
    let before : from < length words = begun c.loop-i.i c.div_ceil-i-end.result (length words) c.loop-i-test.true c.div_ceil-i-end.ensures in
    let upto : from + (c.min-upto.result - from) ≡ min (length words) (from + 64) = omega (arith, c.min-upto.ensures, before) in
    let next : from + 64 ≡ 64 * (c.loop-i.i + 1) = omega arith in
    c.in_ok-push_block.ensures.ok
    ∙ row_more c.args.self.now c.loop-i.self words from (c.min-upto.result - from) c.loop-i.invariant
    ∙ ap (λ n. c.args.self.now ++ row_bits (take n words)) upto
    ∙ ap (λ ws. c.args.self.now ++ row_bits ws) (take_min (from + 64) words)
    ∙ ap (λ n. c.args.self.now ++ row_bits (take n words)) next
