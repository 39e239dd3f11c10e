use Rattle.std.proofs.Common.{rules, ℕ, ◌+◌, ◌*◌, ◌%◌, ◌<◌, ◌^◌, true, false, arith, get_or, ap, subst, sym, ◌∙◌}
use Rattle.tmds_word.specs.Bits.{number}
use Rattle.audio_packets.specs.declared.sample.Sample.{Sample}
use Rattle.audio_packets.proofs.Marks.{number_more, below_more, four_bits}
use Rattle.audio_packets.proofs.writing.header_of.Goals as goal

pub loop-place-init : goal.loop-place-init
unfolding number
loop-place-init c = search rules

pub loop-place-preserved : goal.loop-place-preserved
loop-place-preserved c =
    let samples = c.args.samples.now in
    let i = c.loop-place.place in
    let inside = c.loop-place-test.true in
    let few : i < 4 = omega arith in
    let none : Sample = record { left = 0; right = 0; left_flags = 0; right_flags = 0; start = false; flat = false } in
    let here = get_or samples i none in
    let shift : ℕ → ℕ = λ v. v * 2 ^ i % 256 in
    let was = c.loop-place.invariant in
    record {
      present = number_more (λ _. true) samples i none c.loop-place.present inside few was.present;
      flat = ap (λ v. c.loop-place.flat + shift v) c.from.ensures ∙ number_more (λ s. s.flat) samples i none c.loop-place.flat inside few was.flat;
      start = ap (λ v. c.loop-place.start + shift v) c.from-in-loop-place.ensures ∙ number_more (λ s. s.start) samples i none c.loop-place.start inside few was.start;
      present_below = below_more true i c.loop-place.present few was.present_below;
      flat_below = subst (λ v. c.loop-place.flat + shift v < 2 ^ (i + 1)) (sym c.from.ensures) (below_more here.flat i c.loop-place.flat few was.flat_below);
      start_below = subst (λ v. c.loop-place.start + shift v < 2 ^ (i + 1)) (sym c.from-in-loop-place.ensures) (below_more here.start i c.loop-place.start few was.start_below);
    }

pub overflow_mul-result : goal.overflow_mul-result
overflow_mul-result c = omega (arith, four_bits c.loop-place.place c.loop-place.start (omega arith) c.loop-place.invariant.start_below)

pub overflow_add-result : goal.overflow_add-result
overflow_add-result c =
    omega (arith, four_bits c.loop-place.place c.loop-place.start (omega arith) c.loop-place.invariant.start_below, four_bits c.loop-place.place c.loop-place.flat (omega arith) c.loop-place.invariant.flat_below)
