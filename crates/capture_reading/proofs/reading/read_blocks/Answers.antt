use Rattle.std.proofs.Common.{rules, ◌+◌, ◌∙◌, ℕ, List, sym, subst}
use Rattle.std.proofs.lemmas.Result.{err_from_is_err_and}
use Rattle.capture_file.specs.Captures.{CanSay}
use Rattle.capture_reading.specs.Reading.{AreFed}
use Rattle.outside_io.proofs.Consumed.{takes_more}
use Rattle.capture_reading.proofs.BlockReading.{moved}
use Rattle.capture_reading.proofs.reading.read_blocks.Goals as goal

pub returns-in_err-read_block-clause-short : goal.returns-in_err-read_block-clause-short
returns-in_err-read_block-clause-short g c =
    let p = err_from_is_err_and c.from_residual.result c.from_residual.ensures.1 in
    λ from first h.
    rw (p.1, p.2) (c.in_err-read_block.ensures.short from first (c.loop.invariant.heard from first h))

pub loop-preserved : goal.loop-preserved
loop-preserved g c =
    let i = c.loop.invariant in
    let o = c.loop.reader in
    let v = c.read_block.new.reader in
    let e = c.in_ok-read_block.ensures in
    let t = c.if-branch.true in
    record {
      goes_on = e.open;
      more = e.more ∙ t;
      same = c.read_block.ensures.same ∙ i.same;
      said = subst (λ (n : ℕ). CanSay n v.bits) (sym c.read_block.ensures.version) (subst (λ (bs : List ℕ). CanSay o.version bs) (sym c.read_block.ensures.bits) i.said);
      fed = subst (λ (n : ℕ). AreFed (g.K.BlockSink.bits c.read_block.new.sink) v.bits n) (sym (e.block t)) (subst (λ (bs : List ℕ). AreFed (g.K.BlockSink.bits c.read_block.new.sink) bs (o.block + 1)) (sym c.read_block.ensures.bits) (e.fed t));
      heard = λ from first h.
          moved g.K.BlockSink.heard o.version v.version o.bits v.bits (o.block + 1) v.block from (g.S.Source.left v.source.now) c.read_block.new.sink first c.read_block.new.ear
          c.read_block.ensures.version c.read_block.ensures.bits (e.block t) (e.heard from first (i.heard from first h) t);
      taken = takes_more _ _ _ i.taken c.read_block.ensures.taken;
      input_later = search rules;
      ear_later = search rules;
    }

pub returns-clause-whole : goal.returns-clause-whole
returns-clause-whole g c = λ from first h. c.in_ok-read_block.ensures.whole from first (c.loop.invariant.heard from first h) c.if-branch.false

pub returns-in_err-read_block-clause-taken : goal.returns-in_err-read_block-clause-taken
returns-in_err-read_block-clause-taken g c = takes_more _ _ _ c.loop.invariant.taken c.read_block.ensures.taken

pub returns-clause-taken : goal.returns-clause-taken
returns-clause-taken g c = takes_more _ _ _ c.loop.invariant.taken c.read_block.ensures.taken
