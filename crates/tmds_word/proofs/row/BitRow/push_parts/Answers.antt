use Rattle.std.proofs.Common.{arith, ◌≡◌, ◌<◌, ◌≤◌, ◌+◌, ◌-◌, ◌*◌, ◌++◌, ℕ, Bool, List, ◌∙◌, ap, length, length-drop, length-take, take, drop, min}
use Rattle.std.proofs.lemmas.List.{take_all}
use Rattle.std.proofs.lemmas.Bool.{cases_lt}
use Rattle.std.specs.Int.{div_ceil}
use Rattle.tmds_word.specs.Bits.{bytes_bits}
use Rattle.tmds_word.proofs.Rows.{no_more}
use Rattle.tmds_word.proofs.Eights.{bytes_more, length-bytes_more}
use Rattle.tmds_word.proofs.row.BitRow.push_parts.Goals as goal

pub loop-i-init : goal.loop-i-init
loop-i-init c = no_more c.args.self.now c.args.bytes.now

block_room : (start xs : List Bool) (bytes : List ℕ) (from upto : ℕ) → xs ≡ start ++ bytes_bits (take from bytes) → from ≤ upto → upto ≤ length bytes → length start + 8 * length bytes < 4294967296
    → length xs + 8 * length (take (upto - from) (drop from bytes)) < 4294967296
block_room start xs bytes from upto e le within room = omega (arith, length-bytes_more start xs bytes from e (omega arith), length-take (upto - from) (drop from bytes), length-drop from bytes)

begun : (i n size : ℕ) → i < n → n ≡ div_ceil size 320 → 320 * i < size
begun i n size lt e = omega (arith, e)

pub push_part-requires-clause-room : goal.push_part-requires-clause-room
push_part-requires-clause-room c = grind (arith, begun, block_room)

take_min : (n : ℕ) (bytes : List ℕ) → take (min (length bytes) n) bytes ≡ take n bytes
take_min n bytes = grind (arith, cases_lt, take_all)

pub loop-i-preserved : goal.loop-i-preserved
loop-i-preserved c =
    let bytes = c.args.bytes.now in
    let from = 320 * c.loop-i.i in
    let before : from < length bytes = begun c.loop-i.i c.div_ceil-i-end.result (length bytes) c.loop-i-test.true c.div_ceil-i-end.ensures in
    let upto : from + (c.min-upto.result - from) ≡ min (length bytes) (from + 320) = omega (arith, c.min-upto.ensures, before) in
    let next : from + 320 ≡ 320 * (c.loop-i.i + 1) = omega arith in
    c.in_ok-push_part.ensures.ok
    ∙ bytes_more c.args.self.now c.loop-i.self bytes from (c.min-upto.result - from) c.loop-i.invariant
    ∙ ap (λ n. c.args.self.now ++ bytes_bits (take n bytes)) upto
    ∙ ap (λ ws. c.args.self.now ++ bytes_bits ws) (take_min (from + 320) bytes)
    ∙ ap (λ n. c.args.self.now ++ bytes_bits (take n bytes)) next
