use Rattle.std.proofs.Common.{arith, ◌≡◌, ℕ, ◌+◌, ◌≤◌, ◌++◌, List, ap, sym, subst, inr}
use Rattle.std.specs.Prelude.{Option, Err, slice_index}
use Rattle.std.specs.Io.KnownBytes.{Consumes}
use Rattle.capture_file.specs.declared.slipping.SlipError.TheVariants.{Read, NoMemory as WantsMemory}
use Rattle.std.proofs.KnownBytes.{Consumes-trans}
use Rattle.capture_file.specs.Captures.{header_of, CanSay, IsFault, IsHeadless}
use Rattle.capture_file.specs.Slips.{IsWithinLane, StopsKeeping}
use Rattle.capture_file.proofs.Marks.{consumed}
use Rattle.outside_io.proofs.Consumed.{takes_more}
use Rattle.capture_file.proofs.SlippedLanes.{faulty_as, headless_within, header_within}
use Rattle.capture_file.proofs.slipping.slip.Goals as goal

pub returns-in-Err-clause-bad : goal.returns-in-Err-clause-bad
returns-in-Err-clause-bad g c bytes e =
    let a = c.args in
    faulty_as (λ fault. IsFault bytes fault × IsHeadless bytes) (λ fault. IsFault bytes fault × IsWithinLane bytes a.lane a.place a.drop) c.in-Err.error
    (λ fault h. (h.0, headless_within bytes a.lane a.place a.drop h.1)) (c.in-Err.ensures.err bytes e)

pub returns-in-Err-read_rows-clause-bad : goal.returns-in-Err-read_rows-clause-bad
returns-in-Err-read_rows-clause-bad g c bytes e =
    let a = c.args in
    let h = c.in-Ok.heading in
    let n = c.in-Ok.ensures in
    let head = header_of h.version h.bits in
    let s = consumed _ _ bytes head e n.ok in
    faulty_as (λ fault. IsFault (head ++ s.0) fault) (λ fault. IsFault bytes fault × IsWithinLane bytes a.lane a.place a.drop) c.in-Err-read_rows.error
    (λ fault is. (subst (λ bs. IsFault bs fault) (sym s.1) is, header_within h.version a.lane a.place a.drop h.bits bytes s.0 c.requires.lane n.said s.1 n.fits))
    (c.in-Err-read_rows.ensures.err s.0 s.2)

pub returns-in-Err-read_rows-clause-read : goal.returns-in-Err-read_rows-clause-read
returns-in-Err-read_rows-clause-read g c is =
    let a = c.args in
    let h = c.in-Ok.heading in
    let n = c.in-Ok.ensures in
    let head = header_of h.version h.bits in
    let same : c.in-Err-read_rows.error ≡ Read = cc in
    let p = c.in-Err-read_rows.ensures.part a.lane a.place a.drop (ap Err same) n.fits in
    record { read = head ++ p.0; took = Consumes-trans _ _ _ head p.0 n.ok p.1; begins = p.2; part = inr p.3 }

-- a header whose lane has the bits was read, and more
kept : (version lane place count : ℕ) (counts more : List ℕ) (left mid rest : Option (List ℕ)) → CanSay version counts → place + count ≤ slice_index counts lane
    → Consumes left mid (header_of version counts) → Consumes mid rest more → StopsKeeping left rest lane place count
kept version lane place count counts more left mid rest said fits first then = grind (arith, Consumes-trans)

pub returns-then-is_err-clause-memory : goal.returns-then-is_err-clause-memory
returns-then-is_err-clause-memory g c is = grind (arith, kept)

pub returns-in-Err-read_rows-clause-memory : goal.returns-in-Err-read_rows-clause-memory
returns-in-Err-read_rows-clause-memory g c is =
    let h = c.in-Ok.heading in
    let n = c.in-Ok.ensures in
    let same : c.in-Err-read_rows.error ≡ WantsMemory = cc in
    let p = c.in-Err-read_rows.ensures.full (ap Err same) in
    kept h.version c.args.lane c.args.place c.args.drop h.bits p.0 _ _ _ n.said n.fits n.ok p.1

pub returns-in-Err-read_rows-clause-taken : goal.returns-in-Err-read_rows-clause-taken
returns-in-Err-read_rows-clause-taken g c = takes_more _ _ _ (_, c.in-Ok.ensures.ok) c.in-Err-read_rows.ensures.taken

pub returns-then-is_err-clause-taken : goal.returns-then-is_err-clause-taken
returns-then-is_err-clause-taken g c = takes_more _ _ _ (_, c.in-Ok.ensures.ok) c.in-Ok-read_rows.ensures.taken

pub returns-in-Ok-write-clause-taken : goal.returns-in-Ok-write-clause-taken
returns-in-Ok-write-clause-taken g c = takes_more _ _ _ (_, c.in-Ok.ensures.ok) c.in-Ok-read_rows.ensures.taken

pub returns-clause-taken : goal.returns-clause-taken
returns-clause-taken g c = takes_more _ _ _ (_, c.in-Ok.ensures.ok) c.in-Ok-read_rows.ensures.taken
