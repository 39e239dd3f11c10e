use Rattle.std.proofs.Common.{arith, ◌≡◌, ◌++◌, ◌∙◌, sym, subst, ap, inl, inr, ℕ}
use Rattle.std.specs.Prelude.{◌⊎◌}
use Rattle.std.proofs.lemmas.Result.{err_from_is_err_and}
use Rattle.std.specs.Io.KnownBytes.{Consumes}
use Rattle.std.proofs.KnownBytes.{Consumes-trans}
use Rattle.capture_file.specs.Captures.{IsEarlyFault, IsHeaderPart}
use Rattle.capture_file.proofs.Marks.{consumed}
use Rattle.outside_io.proofs.Consumed.{takes_more}
use Rattle.capture_file.proofs.Judged.{says_of, says_read, head_is, first_is, header_one, header_two_is}
use Rattle.capture_file.proofs.heading.read_heading.Goals as goal

two_of : (b : ℕ) → (b ≡ 49) ⊎ (b ≡ 50) → (b ≡ 49 → ⊥) → b ≡ 50
two_of b (inl one) not = absurd (not one)
two_of b (inr two) not = two

pub returns-then-head-eq49-clause-ok : goal.returns-then-head-eq49-clause-ok
returns-then-head-eq49-clause-ok g c =
    let e = c.in_ok-head.ensures in
    let n = c.from_be_bytes-bits.result in
    subst (λ bs. Consumes (g.S.Source.left c.args.source.now) (g.S.Source.left c.read_first.new.source) bs)
    (head_is _ 49 n e.size e.bytes e.mark c.if-head-eq49.true c.from_be_bytes-bits.ensures ∙ first_is n ∙ sym (header_one n)) e.ok

pub returns-in_err-green-clause-err : goal.returns-in_err-green-clause-err
returns-in_err-green-clause-err g c bytes e =
    let h = c.in_ok-head.ensures in
    let n = c.from_be_bytes-bits.result in
    let p = err_from_is_err_and c.from_residual-in_err-green.result c.from_residual-in_err-green.ensures.1 in
    let is = head_is _ 50 n h.size h.bytes h.mark (two_of _ h.version (λ one. omega (arith, one, c.if-head-eq49.false))) c.from_be_bytes-bits.ensures in
    let s = consumed _ _ bytes _ e h.ok in
    rw (p.1, p.2) (says_of _ (λ fault. IsEarlyFault bytes fault) c.in_err-green.field-0.0 (λ fault f. subst (λ bs. IsEarlyFault bs fault) (sym (s.1 ∙ ap (λ xs. xs ++ s.0) is)) f) (c.in_err-green.ensures.err s.0 s.2))

pub returns-in_err-green-clause-part : goal.returns-in_err-green-clause-part
returns-in_err-green-clause-part g c =
    let h = c.in_ok-head.ensures in
    let n = c.from_be_bytes-bits.result in
    let p = err_from_is_err_and c.from_residual-in_err-green.result c.from_residual-in_err-green.ensures.1 in
    let is = head_is _ 50 n h.size h.bytes h.mark (two_of _ h.version (λ one. omega (arith, one, c.if-head-eq49.false))) c.from_be_bytes-bits.ensures in
    rw (p.1, p.2) (says_read _ _ c.in_err-green.field-0.0 (λ part. (_ ++ part.0, subst (λ xs. IsHeaderPart (xs ++ part.0)) (sym is) part.1, Consumes-trans _ _ _ _ part.0 h.ok part.2)) c.in_err-green.ensures.part)

pub returns-clause-ok : goal.returns-clause-ok
returns-clause-ok g c =
    let h = c.in_ok-head.ensures in
    grind (arith, head_is, two_of, header_two_is, Consumes-trans)

pub returns-in_err-green-clause-taken : goal.returns-in_err-green-clause-taken
returns-in_err-green-clause-taken g c = takes_more _ _ _ (_, c.in_ok-head.ensures.ok) c.in_err-green.ensures.taken

pub returns-clause-taken : goal.returns-clause-taken
returns-clause-taken g c = takes_more _ _ _ (_, c.in_ok-head.ensures.ok) c.in_ok-green.ensures.taken
