use Rattle.std.proofs.Common.{arith, ◌≡◌, ◌<◌, ◌≤◌, ◌+◌, ◌-◌, ◌*◌, ◌/◌, ◌++◌, ℕ, Bool, List, ◌∙◌, ap, length, length-drop, length-take, take, drop}
use Rattle.std.proofs.lemmas.List.{take_all}
use Rattle.tmds_word.specs.Bits.{bytes_bits}
use Rattle.tmds_word.proofs.Eights.{bytes_more, length-bytes_more}
use Rattle.tmds_word.proofs.row.BitRow.push_part.Goals as goal

rest_room : (start xs : List Bool) (bytes : List ℕ) (n : ℕ) → xs ≡ start ++ bytes_bits (take n bytes) → n ≤ length bytes → length start + 8 * length bytes < 4294967296
    → length xs + 8 * length (take (length bytes - n) (drop n bytes)) < 4294967296
rest_room start xs bytes n e le room = omega (arith, length-bytes_more start xs bytes n e le, length-take (length bytes - n) (drop n bytes), length-drop n bytes)

pub push_last-requires : goal.push_last-requires
push_last-requires c =
    let le : length c.args.bytes.now / 8 * 8 ≤ length c.args.bytes.now = omega arith in
    rest_room c.args.self.now c.push_eights.new.self c.args.bytes.now (length c.args.bytes.now / 8 * 8) c.in_ok-push_eights.ensures.ok le c.requires.room

pub returns-clause-ok : goal.returns-clause-ok
returns-clause-ok c =
    let bytes = c.args.bytes.now in
    let n = length bytes / 8 * 8 in
    let all : length bytes ≤ n + (length bytes - n) = omega arith in
    c.in_ok-push_last.ensures.ok
    ∙ bytes_more c.args.self.now c.push_eights.new.self bytes n (length bytes - n) c.in_ok-push_eights.ensures.ok
    ∙ ap (λ ws. c.args.self.now ++ bytes_bits ws) (take_all (n + (length bytes - n)) bytes all)
