use Rattle.std.proofs.Common.{arith, ◌≡◌, ◌∙◌, ap, sym, length, set}
use Rattle.capture_file.proofs.Bitwise.{chunk_set}
use Rattle.capture_file.proofs.Rooms.{length-front}
use Rattle.capture_file.proofs.chunk.Chunk.set.Goals as goal

pub set_bit-requires : goal.set_bit-requires
set_bit-requires c = omega (arith, c.requires, ap length (sym c.self.view_is) ∙ length-front c.self.inside.bytes c.self.inside.count c.self.invariant.size c.self.invariant.few, c.self.invariant.few)

pub invariant_of-self : goal.invariant_of-self
invariant_of-self c =
    let i = c.self.invariant in
    let s = c.self.inside in
    let len : length c.args.self.now ≡ s.count = ap length (sym c.self.view_is) ∙ length-front s.bytes s.count i.size i.few in
    let e = c.set_bit.ensures in
    let k = chunk_set s.bytes c.set_bit.new.bytes s.count c.args.i c.args.value i.size i.few i.spared (omega (arith, len, c.requires)) e.range e.length e.bits in
    record { few = i.few; size = e.length; spared = k.spared }

pub returns : goal.returns
returns c =
    let i = c.self.invariant in
    let s = c.self.inside in
    let len : length c.args.self.now ≡ s.count = ap length (sym c.self.view_is) ∙ length-front s.bytes s.count i.size i.few in
    let e = c.set_bit.ensures in
    let k = chunk_set s.bytes c.set_bit.new.bytes s.count c.args.i c.args.value i.size i.few i.spared (omega (arith, len, c.requires)) e.range e.length e.bits in
    k.view ∙ ap (λ xs. set xs c.args.i c.args.value) c.self.view_is
