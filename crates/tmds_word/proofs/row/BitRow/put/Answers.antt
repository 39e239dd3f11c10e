use Rattle.std.proofs.Common.{arith, ◌≡◌, ◌<◌, ◌+◌, ◌*◌, ◌/◌, ◌%◌, ◌^◌, ◌++◌, ℕ, ◌-◌, Bool, List, ◌∷◌, [], ◌∙◌, ap, ap₂, get_or, length, length-append}
use Rattle.std.proofs.Math.Nat.{mod-eq_of_lt}
use Rattle.tmds_word.specs.Bits.{bits_of, bytes_bits}
use Rattle.tmds_word.proofs.Rows.{length-row, put_none, put_one, put_two, tail_past, tail_past_two, fits_byte}
use Rattle.tmds_word.proofs.row.BitRow.put.Goals as goal

room_for : (whole : List ℕ) (h t k : ℕ) (view : List Bool) → bytes_bits whole ++ bits_of h t ≡ view → length view + k < 4294967296 → 8 * length whole + (h + k) < 4294967296
room_for whole h t k view e room = omega (arith, length-row whole h t, ap length e)

one_longer : (whole grown : List ℕ) (low s r : ℕ) → grown ≡ whole ++ low ∷ [] → s ≡ 8 + r → 8 * length whole + s < 4294967296 → 8 * length grown + r < 4294967296
one_longer whole grown low s r e f room = omega (arith, ap length e ∙ length-append whole (low ∷ []))

two_longer : (whole grown : List ℕ) (low middle s r : ℕ) → grown ≡ whole ++ low ∷ middle ∷ [] → s ≡ 16 + r → 8 * length whole + s < 4294967296 → 8 * length grown + r < 4294967296
two_longer whole grown low middle s r e f room = omega (arith, ap length e ∙ length-append whole (low ∷ middle ∷ []))

pub invariant_of-self : goal.invariant_of-self
invariant_of-self c = grind (arith, room_for)

pub invariant_of-self-then-held-lt16 : goal.invariant_of-self-then-held-lt16
invariant_of-self-then-held-lt16 c =
    let r = c.self.inside.held + c.args.count - 8 in
    let many : c.self.inside.held + c.args.count ≡ 8 + r = omega (arith, c.if-held-lt8.false) in
    let few : r < 8 = omega (arith, c.if-held-lt16.true) in
    let middle : get_or c.to_le_bytes.result 1 0 ≡ c.joined.result / 256 % 256 = ap (λ bs. get_or bs 1 0) c.to_le_bytes.ensures in
    let past : c.joined.result / 256 < 2 ^ r = tail_past c.joined.result c.self.inside.held c.args.count r c.joined.ensures.below many in
    let room = room_for c.self.inside.whole.items c.self.inside.held c.self.inside.tail c.args.count c.args.self.now c.self.view_is c.requires.room in
    (few, omega (arith, middle, past), one_longer c.self.inside.whole.items c.push.new.self.items (get_or c.to_le_bytes.result 0 0) (c.self.inside.held + c.args.count) r c.in_ok-push.ensures.items many room)

pub invariant_of-self-else-held-lt16 : goal.invariant_of-self-else-held-lt16
invariant_of-self-else-held-lt16 c =
    let r = c.self.inside.held + c.args.count - 16 in
    let many : c.self.inside.held + c.args.count ≡ 16 + r = omega (arith, c.if-held-lt16.false) in
    let few : r < 8 = omega (arith, c.self.invariant.0, c.requires.few) in
    let high : get_or c.to_le_bytes.result 2 0 ≡ c.joined.result / 65536 % 256 = ap (λ bs. get_or bs 2 0) c.to_le_bytes.ensures in
    let past : c.joined.result / 65536 < 2 ^ r = tail_past_two c.joined.result c.self.inside.held c.args.count r c.joined.ensures.below many in
    let room = room_for c.self.inside.whole.items c.self.inside.held c.self.inside.tail c.args.count c.args.self.now c.self.view_is c.requires.room in
    (few, omega (arith, high, past), two_longer c.self.inside.whole.items c.extend_from_slice.new.self.items (get_or c.to_le_bytes.result 0 0) (get_or c.to_le_bytes.result 1 0) (c.self.inside.held + c.args.count) r c.in_ok-extend_from_slice.ensures.items many room)

pub returns-then-held-lt8-clause-ok : goal.returns-then-held-lt8-clause-ok
returns-then-held-lt8-clause-ok c =
    let whole = c.self.inside.whole.items in
    let h = c.self.inside.held in
    let k = c.args.count in
    let n = c.joined.result in
    let fits : n < 256 = fits_byte n (h + k) c.joined.ensures.below c.if-held-lt8.true in
    let low : get_or c.to_le_bytes.result 0 0 ≡ n = ap (λ bs. get_or bs 0 0) c.to_le_bytes.ensures ∙ mod-eq_of_lt fits in
    ap (λ m. bytes_bits whole ++ bits_of (h + k) m) low
    ∙ put_none whole h c.self.inside.tail k c.args.bits n c.self.invariant.1 c.joined.ensures.sum
    ∙ ap (λ xs. xs ++ bits_of k c.args.bits) c.self.view_is

pub returns-in_ok-push-clause-ok : goal.returns-in_ok-push-clause-ok
returns-in_ok-push-clause-ok c =
    let whole = c.self.inside.whole.items in
    let h = c.self.inside.held in
    let k = c.args.count in
    let r = h + k - 8 in
    let n = c.joined.result in
    let many : h + k ≡ 8 + r = omega (arith, c.if-held-lt8.false) in
    let few : r < 8 = omega (arith, c.if-held-lt16.true) in
    let past : n / 256 < 256 = fits_byte (n / 256) r (tail_past n h k r c.joined.ensures.below many) few in
    let low : get_or c.to_le_bytes.result 0 0 ≡ n % 256 = ap (λ bs. get_or bs 0 0) c.to_le_bytes.ensures in
    let middle : get_or c.to_le_bytes.result 1 0 ≡ n / 256 = ap (λ bs. get_or bs 1 0) c.to_le_bytes.ensures ∙ mod-eq_of_lt past in
    ap₂ (λ bs m. bytes_bits bs ++ bits_of r m) (c.in_ok-push.ensures.items ∙ ap (λ b. whole ++ b ∷ []) low) middle
    ∙ put_one whole h c.self.inside.tail k c.args.bits n r c.self.invariant.1 c.joined.ensures.sum many
    ∙ ap (λ xs. xs ++ bits_of k c.args.bits) c.self.view_is

pub returns-in_ok-extend_from_slice-clause-ok : goal.returns-in_ok-extend_from_slice-clause-ok
returns-in_ok-extend_from_slice-clause-ok c =
    let whole = c.self.inside.whole.items in
    let h = c.self.inside.held in
    let k = c.args.count in
    let r = h + k - 16 in
    let n = c.joined.result in
    let many : h + k ≡ 16 + r = omega (arith, c.if-held-lt16.false) in
    let few : r < 8 = omega (arith, c.self.invariant.0, c.requires.few) in
    let past : n / 65536 < 256 = fits_byte (n / 65536) r (tail_past_two n h k r c.joined.ensures.below many) few in
    grind (arith, mod-eq_of_lt, put_two)
