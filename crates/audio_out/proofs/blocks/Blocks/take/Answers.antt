use Rattle.std.proofs.Common.{◌≡◌, ◌<◌, ◌⊎◌, List, [], ◌∷◌, ◌++◌, length, inl, inr, ap, sym, ◌∙◌, arith}
use Rattle.std.specs.Prelude.{None, is_some}
use Rattle.audio_packets.specs.declared.sample.Sample.{Sample}
use Rattle.audio_out.specs.Blocks.{IsBlocksAfter, block_of, full_status}
use Rattle.audio_out.proofs.Runs.{dropped, began, went_on, is_full, length-part}
use Rattle.audio_out.proofs.blocks.Blocks.take.Goals as goal
use Rattle.audio_out.proofs.blocks.Blocks.take.Goals.{then-sample, else-sample+else-self-eq0+else-self-eq192, then-self-eq0-via-then-self-eq0, then-self-eq0-via-else-self-eq0+then-self-eq192}

gone : (c : goal.After-self-then-self-eq0-1) (past : List Sample) → IsBlocksAfter c.args.self.now past
    → IsBlocksAfter (record { left = []; right = [] }) (past ++ c.args.sample.now ∷ []) × (None ≡ block_of (past ++ c.args.sample.now ∷ []))
gone c past was =
    let count = length-part c.self.inside.count c.self.inside.left c.args.self.now.left (ap (λ v. v.left) (sym c.self.view_is)) c.self.invariant c.self.told.0 in
    let size : (length c.args.self.now.left ≡ 0) ⊎ (length c.args.self.now.left ≡ 192)
    = elim c.then-self-eq0.branch [
      | then-self-eq0-via-then-self-eq0 w ↦ inl (count ∙ w.if-self-eq0.true)
      | then-self-eq0-via-else-self-eq0+then-self-eq192 w ↦ inr (count ∙ w.if-self-eq192.true)
    ] in
    dropped past c.args.sample.now c.args.self.now c.if-sample.false size was

pub returns-then-self-eq0-clause-stands : goal.returns-then-self-eq0-clause-stands
returns-then-self-eq0-clause-stands c = λ past was. (gone c past was).0

pub returns-then-self-eq0-clause-answers : goal.returns-then-self-eq0-clause-answers
returns-then-self-eq0-clause-answers c = λ past was. ap is_some (gone c past was).1

kept : (c : goal.After-is_full) (past : List Sample) → IsBlocksAfter c.args.self.now past
    → IsBlocksAfter c.put.new.self (past ++ c.args.sample.now ∷ []) × (full_status c.put.new.self ≡ block_of (past ++ c.args.sample.now ∷ []))
kept c past was =
    let s = c.args.sample.now in
    let base = c.if-sample.self in
    let left = c.put.ensures.left ∙ ap (λ b. base.left ++ b ∷ []) c.has_status.ensures in
    let right = c.put.ensures.right ∙ ap (λ b. base.right ++ b ∷ []) c.has_status-2.ensures in
    let count = length-part c.self.inside.count c.self.inside.left c.args.self.now.left (ap (λ v. v.left) (sym c.self.view_is)) c.self.invariant c.self.told.0 in
    elim c.if-sample.branch [
      | then-sample w ↦ began past s base c.put.new.self w.if-sample.true (ap (λ v. v.left) w.self-is) (ap (λ v. v.right) w.self-is) left right
      | else-sample+else-self-eq0+else-self-eq192 w ↦
          let same = ap (λ v. length v.left) w.self-is ∙ count in
          let some : 0 < length base.left = omega (arith, same, w.if-self-eq0.false) in
          let few : length base.left < 192 = omega (arith, same, w.if-self-eq192.false, c.self.invariant) in
          went_on past s base c.put.new.self w.if-sample.false some few
          (record { left = ap (λ v. v.left) w.self-is ∙ was.left; right = ap (λ v. v.right) w.self-is ∙ was.right }) left right
    ]

pub returns-clause-stands : goal.returns-clause-stands
returns-clause-stands c = λ past was. (kept c past was).0

pub returns-clause-answers : goal.returns-clause-answers
returns-clause-answers c = λ past was. c.is_full.ensures ∙ sym (is_full c.put.new.self) ∙ ap is_some (kept c past was).1
