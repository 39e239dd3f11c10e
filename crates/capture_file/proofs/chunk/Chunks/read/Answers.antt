use Rattle.std.proofs.Common.{arith, ◌≡◌, ◌<◌, ◌+◌, ◌/◌, ◌++◌, List, ℕ, ◌∙◌, sym, subst, length, ap, append_assoc}
use Rattle.std.proofs.lemmas.Grind.{common_steps}
use Rattle.std.specs.Prelude.{Option, Result, Ok, Err, IfErr}
use Rattle.std.proofs.lemmas.Result.{err_from_is_err_and}
use Rattle.std.specs.Io.KnownBytes.{Consumes}
use Rattle.std.proofs.KnownBytes.{Consumes-trans}
use Rattle.capture_file.specs.Layout.{packed}
use Rattle.capture_file.specs.Captures.{AreBytes, IsFault, IsBlockPart, SaysOf, SaysRead}
use Rattle.capture_file.specs.declared.fault.CaptureError.{CaptureError}
use Rattle.capture_file.proofs.Marks.{consumed}
use Rattle.capture_file.proofs.Judged.{says_of, says_read}
use Rattle.outside_io.proofs.Consumed.{takes_more}
use Rattle.capture_file.proofs.Rooms.{first_here, second_here, third_here, first_part, second_part, third_part}
use Rattle.capture_file.proofs.chunk.Chunks.read.Goals as goal

-- a fault after a part is one of all the bytes
after : (taken part rest bytes : List ℕ) (e : CaptureError) → bytes ≡ part ++ rest → SaysOf (λ fault. IsFault ((taken ++ part) ++ rest) fault) e → SaysOf (λ fault. IsFault (taken ++ bytes) fault) e
after taken part rest bytes e is h =
    says_of (λ fault. IsFault ((taken ++ part) ++ rest) fault) (λ fault. IsFault (taken ++ bytes) fault) e
    (λ fault f. subst (λ bs. IsFault bs fault) (append_assoc taken part rest ∙ ap (λ xs. taken ++ xs) (sym is)) f) h

pub returns-in_err-read-clause-err : goal.returns-in_err-read-clause-err
returns-in_err-read-clause-err g c bytes taken x y z e r =
    let p = err_from_is_err_and c.from_residual.result c.from_residual.ensures.1 in
    let h = first_here c.args.bits c.args.j c.args.place c.chunk_len.result taken x y z r c.chunk_len.ensures in
    rw (p.1, p.2) (c.in_err-read.ensures.err bytes taken e h.awaited h.place_is)

err_after : {T : Type 0} → (r : Result T CaptureError) (taken part rest bytes : List ℕ) → bytes ≡ part ++ rest → IfErr r (λ e. SaysOf (λ fault. IsFault ((taken ++ part) ++ rest) fault) e)
    → IfErr r (λ e. SaysOf (λ fault. IsFault (taken ++ bytes) fault) e)
err_after (Ok x) taken part rest bytes is h = h
err_after (Err e) taken part rest bytes is h = after taken part rest bytes e is h

-- less than a lane's bytes were read, after the bytes of the lanes before it
part_after : (bits : List ℕ) (j k : ℕ) (before : List ℕ) (old mid new : Option (List ℕ)) (e : CaptureError) → Consumes old mid before
    → ((part : List ℕ) → length part < k → AreBytes part → IsBlockPart bits j (before ++ part))
    → SaysRead ((part : List ℕ) × (length part < k) × AreBytes part × Consumes mid new part) e → SaysRead ((part : List ℕ) × IsBlockPart bits j part × Consumes old new part) e
part_after bits j k before old mid new e first makes h = says_read _ _ e (λ p. (before ++ p.0, makes p.0 p.1 p.2, Consumes-trans old mid new before p.0 first p.3)) h

err_part : {T : Type 0} → (r : Result T CaptureError) (bits : List ℕ) (j k : ℕ) (before : List ℕ) (old mid new : Option (List ℕ)) → Consumes old mid before
    → ((part : List ℕ) → length part < k → AreBytes part → IsBlockPart bits j (before ++ part))
    → IfErr r (λ e. SaysRead ((part : List ℕ) × (length part < k) × AreBytes part × Consumes mid new part) e) → IfErr r (λ e. SaysRead ((part : List ℕ) × IsBlockPart bits j part × Consumes old new part) e)
err_part (Ok x) bits j k before old mid new first makes h = h
err_part (Err e) bits j k before old mid new first makes h = part_after bits j k before old mid new e first makes h

pub returns-in_err-read-clause-part : goal.returns-in_err-read-clause-part
returns-in_err-read-clause-part g c =
    let p = err_from_is_err_and c.from_residual.result c.from_residual.ensures.1 in
    rw (p.1, p.2) (says_read _ _ c.in_err-read.field-0.0 (λ p. (p.0, first_part c.args.bits c.args.j c.chunk_len.result p.0 c.chunk_len.ensures p.1 p.2, p.3)) c.in_err-read.ensures.part)

pub returns-in_err-read-2-clause-err : goal.returns-in_err-read-2-clause-err
returns-in_err-read-2-clause-err g c bytes taken x y z e r =
    let p = err_from_is_err_and c.from_residual-in_err-read-2.result c.from_residual-in_err-read-2.ensures.1 in
    let a = c.read.new.self in
    let s = consumed _ _ bytes (packed a) e c.in_ok-read.ensures.ok in
    let at = c.args.place + c.from.result in
    let at_is : at ≡ c.args.place + (c.chunk_len.result + 7) / 8 = omega (arith, c.from.ensures, c.div_ceil.ensures) in
    let h = second_here c.args.bits c.args.j c.args.place at c.chunk_len-2.result c.chunk_len.result taken x y z a r c.chunk_len.ensures c.in_ok-read.ensures.count at_is c.chunk_len-2.ensures in
    rw (p.1, p.2) (after taken (packed a) s.0 bytes _ s.1 (c.in_err-read-2.ensures.err s.0 (taken ++ packed a) s.2 h.awaited h.place_is))

pub returns-in_err-read-2-clause-part : goal.returns-in_err-read-2-clause-part
returns-in_err-read-2-clause-part g c =
    let p = err_from_is_err_and c.from_residual-in_err-read-2.result c.from_residual-in_err-read-2.ensures.1 in
    let a = c.read.new.self in
    rw (p.1, p.2) (part_after c.args.bits c.args.j _ (packed a) _ _ _ c.in_err-read-2.field-0.0 c.in_ok-read.ensures.ok
    (λ part less are. second_part c.args.bits c.args.j c.chunk_len-2.result c.chunk_len.result part a c.chunk_len.ensures c.in_ok-read.ensures.count c.chunk_len-2.ensures less are) c.in_err-read-2.ensures.part)

pub returns-clause-err : goal.returns-clause-err
returns-clause-err g c bytes taken x y z e r =
    let a = c.read.new.self in
    let b = c.read-2.new.self in
    let s = consumed _ _ bytes (packed a) e c.in_ok-read.ensures.ok in
    let t = consumed _ _ s.0 (packed b) s.2 c.in_ok-read-2.ensures.ok in
    let at = c.args.place + c.from.result + c.from-2.result in
    let at_is : at ≡ c.args.place + (c.chunk_len.result + 7) / 8 + (c.chunk_len-2.result + 7) / 8 = omega (arith, c.from.ensures, c.div_ceil.ensures, c.from-2.ensures, c.div_ceil-2.ensures) in
    let h =
    third_here c.args.bits c.args.j c.args.place at c.chunk_len-3.result c.chunk_len.result c.chunk_len-2.result taken x y z a b r c.chunk_len.ensures c.in_ok-read.ensures.count
    c.chunk_len-2.ensures c.in_ok-read-2.ensures.count at_is c.chunk_len-3.ensures in
    err_after c.read-3.result taken (packed a) s.0 bytes s.1
    (err_after c.read-3.result (taken ++ packed a) (packed b) t.0 s.0 t.1 (c.read-3.ensures.err t.0 ((taken ++ packed a) ++ packed b) t.2 h.awaited h.place_is))

pub returns-clause-part : goal.returns-clause-part
returns-clause-part g c =
    let a = c.read.new.self in
    let b = c.read-2.new.self in
    let both : Consumes _ _ (packed a ++ packed b) = Consumes-trans _ _ _ (packed a) (packed b) c.in_ok-read.ensures.ok c.in_ok-read-2.ensures.ok in
    err_part c.read-3.result c.args.bits c.args.j _ (packed a ++ packed b) _ _ _ both
    (λ part less are. third_part c.args.bits c.args.j c.chunk_len-3.result c.chunk_len.result c.chunk_len-2.result part a b c.chunk_len.ensures c.in_ok-read.ensures.count c.chunk_len-2.ensures c.in_ok-read-2.ensures.count c.chunk_len-3.ensures less are)
    c.read-3.ensures.part

pub returns-in_err-read-2-clause-taken : goal.returns-in_err-read-2-clause-taken
returns-in_err-read-2-clause-taken g c = takes_more _ _ _ (packed c.read.new.self, c.in_ok-read.ensures.ok) c.in_err-read-2.ensures.taken

pub returns-clause-taken : goal.returns-clause-taken
returns-clause-taken g c =
    takes_more _ _ _ (packed c.read.new.self, c.in_ok-read.ensures.ok) (takes_more _ _ _ (packed c.read-2.new.self, c.in_ok-read-2.ensures.ok) c.read-3.ensures.taken)

pub chunk_len-requires-3 : goal.chunk_len-requires-3
chunk_len-requires-3 c = grind arith

pub read-requires-2-clause-place : goal.read-requires-2-clause-place
read-requires-2-clause-place c = grind arith

pub read-requires-3-clause-place : goal.read-requires-3-clause-place
read-requires-3-clause-place c = grind arith

pub read-requires-clause-place : goal.read-requires-clause-place
read-requires-clause-place c = grind arith

pub returns-clause-ok : goal.returns-clause-ok
returns-clause-ok c = grind (arith, common_steps)
