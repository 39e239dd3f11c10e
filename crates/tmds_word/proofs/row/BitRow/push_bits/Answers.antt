use Rattle.std.proofs.Common.{arith, ◌≡◌, ◌<◌, ◌+◌, ◌/◌, ◌%◌, ◌++◌, ℕ, Bool, List, ◌∙◌, sym, ap, length, length-append, length-take, take, append_assoc}
use Rattle.tmds_word.specs.Bits.{bytes_bits}
use Rattle.tmds_word.proofs.Lists.{length-bytes_bits}
use Rattle.tmds_word.proofs.Rows.{take_whole, take_part}
use Rattle.tmds_word.proofs.row.BitRow.push_bits.Goals as goal

room_after : (start xs : List Bool) (bytes : List ℕ) (bits : ℕ) → xs ≡ start ++ bytes_bits (take (bits / 8) bytes) → length start + bits < 4294967296 → length xs + bits % 8 < 4294967296
room_after start xs bytes bits e room =
    omega (arith, ap length e ∙ length-append start (bytes_bits (take (bits / 8) bytes)), length-bytes_bits (take (bits / 8) bytes), length-take (bits / 8) bytes)

pub returns-then-rest-eq0-clause-ok : goal.returns-then-rest-eq0-clause-ok
returns-then-rest-eq0-clause-ok c =
    c.in_ok-push_bytes.ensures.ok ∙ ap (λ xs. c.args.self.now ++ xs) (sym (take_whole c.args.bytes.now c.args.bits c.if-rest-eq0.true c.requires.bytes))

pub put-requires-clause-room : goal.put-requires-clause-room
put-requires-clause-room c = room_after c.args.self.now c.push_bytes.new.self c.args.bytes.now c.args.bits c.in_ok-push_bytes.ensures.ok c.requires.room

pub returns-in-Ok-clause-ok : goal.returns-in-Ok-clause-ok
returns-in-Ok-clause-ok c = grind (arith, append_assoc, take_part)
