use Rattle.std.proofs.Common.{◌≡◌, ℕ, Bool, true, false, cond, List, Option, Some, None, Ok, Err, slice_index, refl, ap, sym, ◌∙◌}
use Rattle.bch_block.specs.Bits.{bit}
use Rattle.island_pack.specs.declared.packet.Packet.{Packet}
use Rattle.island_pack.specs.declared.packet.PacketVerdicts.{PacketVerdicts}
use Rattle.island_pack.specs.Taken.{first_lost}
use Rattle.audio_packets.specs.Faults.{unless_lost}
use Rattle.audio_packets.specs.Samples.{packet_with, notes_from, samples_from, samples_of, has_many_channels}
use Rattle.audio_packets.specs.declared.fault.AudioFault.TheVariants.{Layout}
use Rattle.audio_packets.proofs.reading.samples.Goals as goal

no_block : (found : Option ℕ) → ((block : ℕ) → found ≡ Some block → ⊥) → found ≡ None
no_block None h = refl
no_block (Some block) h = absurd (h block refl)

of_layout : (packet : Packet) (verdicts : PacketVerdicts) (header : List ℕ) (many : Bool) → header ≡ packet.header → first_lost verdicts ≡ None
    → bit (slice_index header 1) 4 ≡ many → cond many (Err Layout) (Ok (samples_from packet 0)) ≡ samples_of packet verdicts
of_layout packet verdicts header many h none layout =
    let layout_is : has_many_channels packet ≡ many = ap (λ bytes. bit (slice_index bytes 1) 4) (sym h) ∙ layout in
    let answer : samples_of packet verdicts ≡ cond many (Err Layout) (Ok (samples_from packet 0)) =
    λ i. unless_lost (none i) (cond (layout_is i) (Err Layout) (Ok (samples_from packet 0))) in
    sym answer

pub returns-in-Some : goal.returns-in-Some
returns-in-Some c =
    let packet = c.args.packet.packet.now in
    ap (λ found. unless_lost found (cond (has_many_channels packet) (Err Layout) (Ok (samples_from packet 0)))) (sym c.in-Some.is ∙ c.first_lost.ensures)

pub returns-then-has_bit : goal.returns-then-has_bit
returns-then-has_bit c =
    of_layout c.args.packet.packet.now c.args.packet.verdicts.now _ true c.header-header.ensures (sym c.first_lost.ensures ∙ no_block _ c.in_default.not-Some) (sym c.has_bit.ensures ∙ c.if-has_bit.true)

pub returns : goal.returns
returns c =
    let packet = c.args.packet.packet.now in
    let header = c.header-header.ensures in
    let bodies = c.bodies.ensures in
    let notes : notes_from (packet_with c.header-header.result.now c.bodies.result.now) (slice_index c.header-header.result.now 1) 0 ≡ samples_from packet 0 =
    λ i. notes_from (packet_with (header i) (bodies i)) (slice_index (header i) 1) 0 in
    ap Ok notes
    ∙ of_layout packet c.args.packet.verdicts.now _ false header (sym c.first_lost.ensures ∙ no_block _ c.in_default.not-Some) (sym c.has_bit.ensures ∙ c.if-has_bit.false)
