use Rattle.std.proofs.Common.{arith, ◌≡◌, ◌+◌, ◌++◌, [], length, ap, ap₂, ◌∙◌, sym, refl, length-append, append-nil}
use Rattle.std.proofs.lemmas.Grind.{common_steps}
use Rattle.capture_file.specs.Layout.{packed}
use Rattle.capture_file.proofs.Parts.{Appends-part, Appends-two}
use Rattle.capture_file.proofs.chunk.Chunks.write.Goals as goal

pub returns-in-Err : goal.returns-in-Err
returns-in-Err g c = grind (arith, Appends-part, common_steps)

pub overflow_add-result-in-Err-write_piece : goal.overflow_add-result-in-Err-write_piece
overflow_add-result-in-Err-write_piece g c = omega (arith, c.in_ok-first.ensures.size, c.in-Ok.ensures.size, c.in-Err-write_piece.ensures.missing, c.as_bytes.ensures.few, c.as_bytes-2.ensures.few, c.as_bytes-3.ensures.few)

pub returns-in-Err-write_piece : goal.returns-in-Err-write_piece
returns-in-Err-write_piece g c = record {
  whole = tt;
  part =
      let s = c.args.self.now in
      let a = c.as_bytes.result.now in
      let b = c.as_bytes-2.result.now in
      let d = c.as_bytes-3.result.now in
      let is : (packed s.blue ++ packed s.green) ++ packed s.red ≡ ((a ++ b) ++ d) ++ [] =
      sym (append-nil ((a ++ b) ++ d) ∙ ap₂ (λ xs ys. (xs ++ ys) ++ d) c.as_bytes.ensures.bytes c.as_bytes-2.ensures.bytes ∙ ap (λ zs. (packed s.blue ++ packed s.green) ++ zs) c.as_bytes-3.ensures.bytes) in
      let two : length (a ++ b) ≡ c.in_ok-first.first + c.in-Ok.count = omega (arith, length-append a b, c.in_ok-first.ensures.size, c.in-Ok.ensures.size) in
      Appends-part _ _ _ (a ++ b) d [] _ (c.in_ok-first.first + c.in-Ok.count) c.in-Err-write_piece.part.gone is two c.in-Err-write_piece.ensures.missing
      (Appends-two _ _ _ a b (a ++ b) refl c.in_ok-first.ensures.whole c.in-Ok.ensures.whole) c.in-Err-write_piece.ensures.part;
  missing = grind (arith, common_steps);
  cause = grind arith;
}

pub returns-in-Ok-write_piece-clause-whole : goal.returns-in-Ok-write_piece-clause-whole
returns-in-Ok-write_piece-clause-whole c = grind (arith, common_steps)

pub returns-in_err-first-clause-missing : goal.returns-in_err-first-clause-missing
returns-in_err-first-clause-missing c = grind (arith, common_steps)

pub returns-in_err-first-clause-part : goal.returns-in_err-first-clause-part
returns-in_err-first-clause-part c = grind (arith, common_steps)
