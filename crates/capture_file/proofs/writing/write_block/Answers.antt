use Rattle.std.proofs.Common.{arith, ◌≡◌, ℕ, ◌+◌, ◌++◌, [], Bool, List, length, ◌∙◌, sym, refl, length-append, append-nil, append_assoc}
use Rattle.std.proofs.lemmas.Result.{err_from_is_err_and}
use Rattle.capture_file.specs.Layout.{packed, chunk}
use Rattle.capture_file.specs.Taps.{row_part, part_block}
use Rattle.capture_file.proofs.Parts.{Appends-first, Appends-part, Appends-two, block_is}
use Rattle.capture_file.proofs.writing.write_block.Goals as goal

abbrev chunk_of : ℕ → List Bool → List ℕ → List ℕ → ℕ → List ℕ
chunk_of j row starts bits lane = chunk j (packed (row_part row starts bits lane))

three : (j : ℕ) (blue green red : List Bool) (starts bits : List ℕ)
    → part_block j blue green red starts bits ≡ (chunk_of j blue starts bits 0 ++ chunk_of j green starts bits 1) ++ chunk_of j red starts bits 2
three j blue green red starts bits = block_is j (packed (row_part blue starts bits 0)) (packed (row_part green starts bits 1)) (packed (row_part red starts bits 2))

long : (j : ℕ) (blue green red : List Bool) (starts bits : List ℕ)
    → length (part_block j blue green red starts bits) ≡ length (chunk_of j blue starts bits 0) + length (chunk_of j green starts bits 1) + length (chunk_of j red starts bits 2)
long j blue green red starts bits = grind (arith, three, length-append)

pub returns-in_err-first : goal.returns-in_err-first
returns-in_err-first g c = grind (arith, three, long, err_from_is_err_and, Appends-first, append_assoc)

pub returns-in-Err : goal.returns-in-Err
returns-in-Err g c = grind (arith, three, long, Appends-part)

pub returns-in-Ok-write_chunk : goal.returns-in-Ok-write_chunk
returns-in-Ok-write_chunk g c =
    let a = c.args in
    let x = chunk_of a.j a.blue.now a.starts a.bits 0 in
    let y = chunk_of a.j a.green.now a.starts a.bits 1 in
    let z = chunk_of a.j a.red.now a.starts a.bits 2 in
    let is = three a.j a.blue.now a.green.now a.red.now a.starts a.bits in
    let size = long a.j a.blue.now a.green.now a.red.now a.starts a.bits in
    let e = c.in-Ok-write_chunk.ensures in
    let first = c.in_ok-first.ensures in
    let second = c.in-Ok.ensures in
    record {
      size = (omega (arith, second.size, first.size, e.size, size), omega (arith, second.small, first.small, e.small));
      whole = Appends-two _ _ _ (x ++ y) z _ is (Appends-two _ _ _ x y (x ++ y) refl first.whole second.whole) e.whole;
      part = tt;
      missing = tt;
      small = tt;
      cause = grind arith;
    }

pub returns-in-Err-write_chunk : goal.returns-in-Err-write_chunk
returns-in-Err-write_chunk g c =
    let a = c.args in
    let x = chunk_of a.j a.blue.now a.starts a.bits 0 in
    let y = chunk_of a.j a.green.now a.starts a.bits 1 in
    let z = chunk_of a.j a.red.now a.starts a.bits 2 in
    let is = three a.j a.blue.now a.green.now a.red.now a.starts a.bits in
    let size = long a.j a.blue.now a.green.now a.red.now a.starts a.bits in
    let e = c.in-Err-write_chunk.ensures in
    let first = c.in_ok-first.ensures in
    let second = c.in-Ok.ensures in
    let two : length (x ++ y) ≡ c.in_ok-first.first + c.in-Ok.count = omega (arith, length-append x y, first.size, second.size) in
    record {
      size = tt;
      whole = tt;
      part =
          Appends-part _ _ _ (x ++ y) z [] _ (c.in_ok-first.first + c.in-Ok.count) c.in-Err-write_chunk.part.gone (is ∙ sym (append-nil ((x ++ y) ++ z))) two e.missing
          (Appends-two _ _ _ x y (x ++ y) refl first.whole second.whole) e.part;
      missing = omega (arith, e.missing, first.size, second.size, size);
      small = omega (arith, e.few, first.small, second.small);
      cause = grind arith;
    }

pub write_chunk-requires-2-clause-below : goal.write_chunk-requires-2-clause-below
write_chunk-requires-2-clause-below c = grind arith

pub write_chunk-requires-3-clause-below : goal.write_chunk-requires-3-clause-below
write_chunk-requires-3-clause-below c = grind arith
