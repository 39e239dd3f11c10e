use Rattle.std.proofs.Common.{arith, ◌≡◌, ℕ, ◌++◌, Bool, List, max, length, slice_index, ap, ◌∙◌, sym, length-append}
use Rattle.std.proofs.lemmas.Result.{err_from_is_err_and}
use Rattle.capture_file.specs.Layout.{packed, block, blocks_below}
use Rattle.capture_file.specs.Captures.{header_of}
use Rattle.capture_file.specs.Taps.{HasBits, row_part}
use Rattle.capture_file.proofs.Parts.{length-lane, Appends-first, Appends-part, Appends-two, blocks-more, no_blocks}
use Rattle.capture_file.proofs.Writes.{Layouts, layouts, short_header}
use Rattle.capture_file.proofs.writing.write_rows.Goals as goal

parts : (version : ℕ) (blue green red : List Bool) (starts bits : List ℕ) (inner most : ℕ) → HasBits blue (slice_index starts 0) (slice_index bits 0) → HasBits green (slice_index starts 1) (slice_index bits 1)
    → HasBits red (slice_index starts 2) (slice_index bits 2) → inner ≡ max (slice_index bits 1) (slice_index bits 2) → most ≡ max (slice_index bits 0) inner
    → Layouts version (row_part blue starts bits 0) (row_part green starts bits 1) (row_part red starts bits 2) bits most
parts version blue green red starts bits inner most b g r ei em =
    layouts version (row_part blue starts bits 0) (row_part green starts bits 1) (row_part red starts bits 2) bits most
    (length-lane blue (slice_index starts 0) (slice_index bits 0) b) (length-lane green (slice_index starts 1) (slice_index bits 1) g) (length-lane red (slice_index starts 2) (slice_index bits 2) r)
    (em ∙ ap (λ n. max (slice_index bits 0) n) ei)

pub returns-in_err-gone : goal.returns-in_err-gone
returns-in_err-gone g c = grind (arith, err_from_is_err_and, parts, Appends-first, length-append)

pub loop-j-init : goal.loop-j-init
loop-j-init g c = grind (arith, no_blocks, short_header)

pub loop-j-preserved : goal.loop-j-preserved
loop-j-preserved g c = grind (arith, blocks-more, length-append, Appends-two)

pub returns-in-Err : goal.returns-in-Err
returns-in-Err g c =
    let a = c.args in
    let r = c.requires in
    let j = c.loop-j.j in
    let i = c.loop-j.invariant in
    let x = packed (row_part a.blue.now a.starts a.bits 0) in
    let y = packed (row_part a.green.now a.starts a.bits 1) in
    let z = packed (row_part a.red.now a.starts a.bits 2) in
    let k = parts a.version a.blue.now a.green.now a.red.now a.starts a.bits c.max.result c.max-most.result r.blue r.green r.red c.max.ensures c.max-most.ensures in
    let more = k.after j (omega (arith, c.loop-j-test.true, c.blocks_for-j-end.ensures)) in
    let front = header_of a.version a.bits ++ blocks_below j x y z in
    record {
      whole = tt;
      part = Appends-part _ _ _ front (block j x y z) more.0 _ c.loop-j.gone c.in-Err.part.gone more.1 (sym i.gone) c.in-Err.ensures.missing i.grew c.in-Err.ensures.part;
      missing = omega (arith, c.in-Err.ensures.missing, i.gone, ap length more.1, length-append (front ++ block j x y z) more.0, length-append front (block j x y z));
      cause = grind arith;
    }

pub returns-clause-whole : goal.returns-clause-whole
returns-clause-whole g c = grind (arith, parts)
