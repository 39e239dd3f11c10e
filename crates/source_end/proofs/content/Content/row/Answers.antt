use Rattle.std.proofs.Common.{◌≡◌, length, arith, vec_len, ◌-◌}
use Rattle.std.proofs.lemmas.List.{length-set}
use Rattle.source_end.specs.Content.{with_row}
use Rattle.source_end.proofs.Gathered.{on_ok}
use Rattle.source_end.proofs.Contents.{last_set, set_content, bytes_at, row_content, kept_or}
use Rattle.source_end.proofs.content.Content.row.Goals as goal

pub invariant_of-self : goal.invariant_of-self
invariant_of-self c =
    let frames = c.self.inside.frames.items in
    let f = c.in-Some.frame.now in
    let g = c.row.new.self in
    let n = vec_len c.self.inside.frames in
    let keeps = kept_or c.row.result f g (with_row c.args.bytes.now f) c.row.ensures.ok c.row.ensures.err (row_content c.args.bytes.now f g (bytes_at c.args.bytes.now (λ i. (c.type_inv.bytes i).fits))) in
    let l = length-set frames (n - 1) g in
    let len : n ≡ length frames = omega arith in
    (set_content frames f g n len c.in-Some.ensures.value c.self.invariant.0 keeps, omega (arith, l, c.self.invariant.1))

pub returns-clause-ok : goal.returns-clause-ok
returns-clause-ok c = grind (arith, on_ok, last_set)
