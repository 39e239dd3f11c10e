use Rattle.std.proofs.Common.{arith, ◌≡◌, ◌+◌, ◌≤◌, ◌∙◌, ◌==◌, length, take, drop, ap, sym, refl}
use Rattle.std.proofs.lemmas.Bool.{eq-eqb, ne_eqb}
use Rattle.std.proofs.lemmas.List.{take_all}
use Rattle.std.specs.Prelude.{slice_get, Some}
use Rattle.std.proofs.lemmas.Option.{slice_get-get_or}
use Rattle.capture_file.specs.Damage.{damaged, with_word}
use Rattle.capture_file.proofs.HitLanes.{damaged_long, damaged_more, damaged_none, hit_own, hit_other}
use Rattle.capture_file.proofs.chunk.Chunk.hit_all.Goals as goal
use Rattle.capture_file.proofs.chunk.Chunk.hit_all.Goals.{then-hit-lane, else-hit-lane}

pub loop-hit-init : goal.loop-hit-init
loop-hit-init c = record { size = refl; part = λ row fits own. own ∙ sym (ap (λ xs. take (length c.args.self.now) (drop c.args.from xs)) (damaged_none c.args.lane row)) }

pub loop-hit-preserved : goal.loop-hit-preserved
loop-hit-preserved c =
    let n = length c.args.self.now in
    let i = c.loop-hit.hit-index in
    let hits = c.args.hits.now in
    let h = c.hit-item.result in
    let inv = c.loop-hit.invariant in
    let here : slice_get hits i ≡ Some h = slice_get-get_or hits i h c.loop-hit-test.true ∙ ap Some (sym c.hit-item.is) in
    elim c.if-hit-lane.branch [
      | then-hit-lane w ↦
          record {
            size = ap length w.self-is ∙ w.hit.ensures.length ∙ inv.size;
            part = λ row fits own.
                let was = inv.part row fits own in
                let before = damaged c.args.lane (take i hits) row in
                let long : length before ≡ length row = damaged_long c.args.lane i hits row fits in
                let room : h.place + 10 ≤ length before = omega (arith, long, fits i h here w.if-hit-lane.true) in
                let now = w.hit.ensures.part before room (was ∙ ap (λ k. take k (drop c.args.from before)) (sym inv.size)) in
                w.self-is ∙ now ∙ ap (λ k. take k (drop c.args.from (with_word h.place h.value before))) inv.size
                ∙ ap (λ xs. take n (drop c.args.from xs)) (sym (damaged_more c.args.lane i hits h row here ∙ hit_own (h.lane == c.args.lane) h before (eq-eqb h.lane c.args.lane w.if-hit-lane.true)));
          }
      | else-hit-lane w ↦
          record {
            size = ap length w.self-is ∙ inv.size;
            part = λ row fits own.
                let before = damaged c.args.lane (take i hits) row in
                w.self-is ∙ inv.part row fits own
                ∙ ap (λ xs. take n (drop c.args.from xs)) (sym (damaged_more c.args.lane i hits h row here ∙ hit_other (h.lane == c.args.lane) h before (ne_eqb h.lane c.args.lane w.if-hit-lane.false)));
          }
    ]

pub returns : goal.returns
returns c = grind (arith, take_all)
