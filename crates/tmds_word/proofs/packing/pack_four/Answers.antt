use Rattle.std.proofs.Common.{rules, ap, ◌∙◌, ◌++◌, take, take_all}
use Rattle.tmds_word.specs.Bits.{bytes_bits, bytes_of, row_bits}
use Rattle.tmds_word.proofs.Lists.{bytes_bits-append}
use Rattle.tmds_word.proofs.Bytes.{bytes_of-bits}
use Rattle.tmds_word.proofs.packing.pack_four.Goals as goal

pub returns-clause-bits : goal.returns-clause-bits
returns-clause-bits c =
    let front = take c.args.at c.args.into.now in
    ap bytes_bits c.put_five.ensures.written
    ∙ bytes_bits-append front (bytes_of 5 c.four.result)
    ∙ ap (λ xs. bytes_bits front ++ xs) (bytes_of-bits 5 c.four.result ∙ c.four.ensures.bits)
    ∙ ap (λ ws. bytes_bits front ++ row_bits ws) (take_all 4 c.args.words (search rules))
