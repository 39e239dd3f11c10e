use Rattle.std.proofs.Common.{◌≡◌, ◌≢◌, ℕ, ◌+◌, ◌%◌, List, take, drop, get_or, ap, ap₂, sym, ◌∙◌, arith}
use Rattle.std.specs.Prelude.{None, Ok}
use Rattle.island_pack.specs.Taken.{first_lost}
use Rattle.infoframe.specs.Frames.{frame_in, length_in, sum_of, has_length}
use Rattle.infoframe.proofs.Lists.{after_first}
use Rattle.infoframe.proofs.Refusals.{kind_in, length_below, refused_lost, refused_length, refused_sum, taken_as}
use Rattle.infoframe.proofs.lent.InfoRef.read.Goals as goal
use Rattle.infoframe.proofs.lent.InfoRef.read.Goals.{After-has_length, After-sum_of-2}

none_lost : (c : After-has_length) → first_lost c.args.packet.verdicts.now ≡ None
none_lost c = sym c.first_lost.ensures ∙ c.in_default.is

same_fit : (c : After-has_length) → has_length (kind_in c.args.packet.packet.now) (length_in c.args.packet.packet.now) ≡ c.has_length.result
unfolding length_in
same_fit c = grind arith

mod_sum : (a b x y : ℕ) → x ≡ a % 256 → y ≡ b % 256 → (a + b) % 256 ≡ (x + y) % 256
mod_sum a b x y e f = omega arith

same_sum : (c : After-sum_of-2) → sum_of c.args.packet.packet.now ≡ (c.sum_of.result + c.sum_of-2.result) % 256
unfolding sum_of length_in
same_sum c = grind (arith, mod_sum)

pub returns-in-Some : goal.returns-in-Some
returns-in-Some c = sym (refused_lost c.args.packet.packet.now c.args.packet.verdicts.now c.in-Some.block (sym c.first_lost.ensures ∙ c.in-Some.is))

pub returns-then-not-has_length : goal.returns-then-not-has_length
returns-then-not-has_length c =
    let d = (goal.at.returns-then-not-has_length c).After-has_length in
    sym (refused_length c.args.packet.packet.now c.args.packet.verdicts.now (none_lost d) (same_fit d ∙ c.if-not-has_length.true))

pub shared_ref_as_front-covered : goal.shared_ref_as_front-covered
shared_ref_as_front-covered c =
    let few = length_below _ _ (sym c.has_length.ensures ∙ c.if-not-has_length.false) in
    omega (arith, c.from.ensures)

pub returns-then-sum-ne0 : goal.returns-then-sum-ne0
returns-then-sum-ne0 c =
    let d = (goal.at.returns-then-sum-ne0 c).After-has_length in
    let e = (goal.at.returns-then-sum-ne0 c).After-sum_of-2 in
    let some : (c.sum_of.result + c.sum_of-2.result) % 256 ≢ 0 = c.if-sum-ne0.true in
    sym (refused_sum c.args.packet.packet.now c.args.packet.verdicts.now _ (none_lost d) (same_fit d ∙ c.if-not-has_length.false) (same_sum e) (omega arith))

pub returns : goal.returns
unfolding frame_in length_in
returns c =
    let d = (goal.at.returns c).After-has_length in
    let e = (goal.at.returns c).After-sum_of-2 in
    let header = c.header-header.ensures in
    let n = c.from.ensures ∙ ap (λ (h : List ℕ). get_or h 2 0 % 32) header in
    let payload = after_first c.bodies-bodies.result.now c.from.result ∙ ap₂ (λ m (b : List ℕ). take m (drop 1 b)) n c.bodies-bodies.ensures in
    let frame : _ ≡ frame_in c.args.packet.packet.now = λ i. record { type_code = get_or (header i) 0 0; version = get_or (header i) 1 0; payload = payload i } in
    ap Ok frame
    ∙ sym (taken_as c.args.packet.packet.now c.args.packet.verdicts.now (none_lost d) (same_fit d ∙ c.if-not-has_length.false) (same_sum e ∙ c.if-sum-ne0.false))
