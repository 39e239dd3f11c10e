use Rattle.std.proofs.Common.{arith, rules, ◌∙◌, sym, length, ap}
use Rattle.std.proofs.KnownBytes.{Appends-nil}
use Rattle.capture_file.proofs.Writes.{no_chunk, some_chunk}
use Rattle.capture_file.proofs.writing.write_chunk.Goals as goal

pub returns-then-count-eq0 : goal.returns-then-count-eq0
returns-then-count-eq0 g c =
    let is = no_chunk c.args.j c.args.bits c.args.from c.args.row.now c.requires.has (sym c.chunk_len-count.ensures ∙ c.if-count-eq0.true) in
    record { size = sym (ap length is); small = search rules; whole = rw is (Appends-nil _); part = tt; missing = tt; few = tt; cause = search rules }

pub returns : goal.returns
returns g c = grind (arith, some_chunk)
