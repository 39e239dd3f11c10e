use Rattle.std.proofs.Common.{arith, ◌≡◌, ◌++◌, ℕ, List, sym, subst, inl, inr, append_assoc}
use Rattle.std.specs.Io.KnownBytes.{Appends}
use Rattle.std.proofs.KnownBytes.{Consumes-trans}
use Rattle.capture_file.specs.Captures.{header_of, BeginsCapture, block_size}
use Rattle.capture_file.specs.BlockDamage.{Halfway, SaysFault, SaysBad, SaysUnread, IsLateFault, IsDamageFault, IsDamagedCapture}
use Rattle.capture_file.specs.declared.damaging.DamageError.{DamageError}
use Rattle.capture_file.specs.declared.damaging.DamageError.TheVariants.{Read}
use Rattle.capture_file.specs.declared.fault.CaptureFault.{CaptureFault}
use Rattle.capture_file.proofs.Marks.{consumed}
use Rattle.outside_io.proofs.Consumed.{takes_more}
use Rattle.capture_file.proofs.Damages.{halfway_head, halfway_done, fault_late, fault_early, keeps_self, on_done, on_error}
use Rattle.capture_file.proofs.block_damage.damage.Goals as goal

pub returns-in-Err-clause-bad : goal.returns-in-Err-clause-bad
returns-in-Err-clause-bad g c bytes e = fault_early c.args.hits.now bytes _ _ c.in-Err.error (keeps_self (g.K.Sink.held c.args.out.now)) (c.in-Err.ensures.err bytes e)

pub returns-in-Ok-write_header-clause-done : goal.returns-in-Ok-write_header-clause-done
returns-in-Ok-write_header-clause-done g c bytes e =
    let a = c.in-Ok.heading in
    let n = c.in-Ok.ensures in
    let head = header_of a.version a.bits in
    let s = consumed _ _ bytes head e n.ok in
    let before = g.K.Sink.held c.args.out.now in
    let now = g.K.Sink.held c.damage_lanes.new.out in
    let half = halfway_head a.version a.bits c.args.hits.now before _ n.said c.in-Ok-write_header.ensures.whole in
    on_done
    ((j : ℕ) × (block_size j a.bits ≡ 0) × Halfway a.version a.bits c.args.hits.now j (head ++ s.0) before now)
    ((whole : List ℕ) × IsDamagedCapture bytes c.args.hits.now whole × Appends before now whole)
    c.damage_lanes.result
    (λ h. subst (λ bs. (whole : List ℕ) × IsDamagedCapture bs c.args.hits.now whole × Appends before now whole) (sym s.1)
    (halfway_done a.version a.bits c.args.hits.now h.0 (head ++ s.0) before now c.requires.lanes n.fits h.1 h.2))
    (c.damage_lanes.ensures.done s.0 head before s.2 half)

pub returns-in-Ok-write_header-clause-bad : goal.returns-in-Ok-write_header-clause-bad
returns-in-Ok-write_header-clause-bad g c bytes e =
    let a = c.in-Ok.heading in
    let n = c.in-Ok.ensures in
    let head = header_of a.version a.bits in
    let s = consumed _ _ bytes head e n.ok in
    let before = g.K.Sink.held c.args.out.now in
    let now = g.K.Sink.held c.damage_lanes.new.out in
    let half = halfway_head a.version a.bits c.args.hits.now before _ n.said c.in-Ok-write_header.ensures.whole in
    on_error
    (λ e. SaysFault (λ (fault : CaptureFault). IsLateFault a.version a.bits c.args.hits.now s.0 head before now fault) e)
    (λ e. SaysBad (λ (fault : CaptureFault). IsDamageFault bytes c.args.hits.now before now fault) e)
    c.damage_lanes.result
    (λ e h. fault_late a.version a.bits c.args.hits.now bytes s.0 before now e c.requires.lanes n.fits n.said s.1 h)
    (c.damage_lanes.ensures.err s.0 head before s.2 half)

pub returns-in-Ok-write_header-clause-read : goal.returns-in-Ok-write_header-clause-read
returns-in-Ok-write_header-clause-read g c is =
    let a = c.in-Ok.heading in
    let n = c.in-Ok.ensures in
    let head = header_of a.version a.bits in
    let before = g.K.Sink.held c.args.out.now in
    let half = halfway_head a.version a.bits c.args.hits.now before _ n.said c.in-Ok-write_header.ensures.whole in
    let p = c.damage_lanes.ensures.part head before half is in
    let s = p.3.front in
    record {
      read = head ++ (p.1 ++ p.2);
      took = Consumes-trans _ _ _ head (p.1 ++ p.2) n.ok p.5;
      begins = subst (λ bs. BeginsCapture bs) (append_assoc head p.1 p.2) (p.4.begins _ _ s.blue s.green s.red s.read);
      wrote = inr (record {
        version = a.version;
        counts = a.bits;
        block = p.0;
        taken = head ++ p.1;
        more = p.2;
        read_is = sym (append_assoc head p.1 p.2);
        fits = n.fits;
        half = p.3;
        short = p.4.short;
      });
    }

pub returns-in-Ok-write_header-clause-part : goal.returns-in-Ok-write_header-clause-part
returns-in-Ok-write_header-clause-part g c is =
    let a = c.in-Ok.heading in
    let n = c.in-Ok.ensures in
    let head = header_of a.version a.bits in
    let before = g.K.Sink.held c.args.out.now in
    let half = halfway_head a.version a.bits c.args.hits.now before _ n.said c.in-Ok-write_header.ensures.whole in
    let p = c.damage_lanes.ensures.cut head before half is in
    record {
      read = head ++ p.1;
      took = Consumes-trans _ _ _ head p.1 n.ok p.2;
      wrote = grind arith;
    }

unread_of : (said : Type 0) (e : DamageError) → e ≡ Read → SaysUnread said e → said
unread_of said e same h = subst (λ (d : DamageError). SaysUnread said d) same h

pub returns-in-Err-clause-read : goal.returns-in-Err-clause-read
returns-in-Err-clause-read g c is =
    let same : c.in-Err.error ≡ Read = cc in
    let p = unread_of _ c.in-Err.error same c.in-Err.ensures.part in
    record { read = p.0; took = p.2; begins = p.1.1; wrote = inl (p.1.0, keeps_self (g.K.Sink.held c.args.out.now)) }

pub returns-in-Ok-write_header-clause-taken : goal.returns-in-Ok-write_header-clause-taken
returns-in-Ok-write_header-clause-taken g c = takes_more _ _ _ (_, c.in-Ok.ensures.ok) c.damage_lanes.ensures.taken
