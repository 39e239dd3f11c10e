use Rattle.std.proofs.Common.{length, ap, arith}
use Rattle.audio_packets.proofs.Searches.{filter-none, filter-places}
use Rattle.audio_packets.proofs.reading.SampleIterIterator.next.Goals as goal

pub returns-in_err-place-clause-steps : goal.returns-in_err-place-clause-steps
returns-in_err-place-clause-steps c = grind (arith, filter-none)

pub returns-clause-steps : goal.returns-clause-steps
returns-clause-steps c = grind (arith, filter-places)

pub returns-clause-goes : goal.returns-clause-goes
returns-clause-goes c =
    let left = ap length (returns-clause-steps c) in
    record { on = λ _. (tt, tt, omega (arith, left)); keeps = tt; rests = λ _. tt }
