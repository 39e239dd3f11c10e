use Rattle.std.proofs.Common.{◌∙◌, ◌+◌, ◌≤◌, ℕ, List, true, false, [], length, take, drop, refl, ap, sym, subst, length-drop, drop-drop, arith}
use Rattle.audio_out.specs.Subframes.{IsSubframe}
use Rattle.biphase_listing.specs.Groups.{IsSide}
use Rattle.biphase_listing.proofs.Stepping.{all_bytes, listed_none, listed_more, listed_all}
use Rattle.biphase_listing.proofs.frame_lines.FrameLines.list.Goals as goal

pub loop-place-init : goal.loop-place-init
loop-place-init c = ([], listed_none c.args.piece.now _ _ c.clear.ensures refl refl)

pub loop-place-preserved : goal.loop-place-preserved
loop-place-preserved c =
    let i = c.loop-place.invariant in (
      _,
      listed_more c.args.piece.now c.loop-place.place _ c.loop-place.self c.add.new.self i.0 c.in-Some.left.sub c.in-Some-read_side.right.sub i.1 (omega (arith, c.loop-place-test.true, i.1.place_is))
          (all_bytes c.args.piece.now (λ k. (c.type_inv.piece k).fits))
          (subst (λ (xs : List ℕ). IsSubframe c.in-Some.left.sub xs) c.group_from.ensures c.in-Some.ensures.0) c.in-Some.ensures.1
          (subst (λ (xs : List ℕ). IsSubframe c.in-Some-read_side.right.sub xs) c.group_from-in-loop-place.ensures c.in-Some-read_side.ensures.0) c.in-Some-read_side.ensures.1
          (record { count = c.add.ensures.count; room = c.add.ensures.room; blocks = c.add.ensures.blocks; text = c.add.ensures.text }),
    )

pub returns-in_default : goal.returns-in_default
returns-in_default c =
    let i = c.loop-place.invariant in
    let inside : c.loop-place.place + 16 ≤ length c.args.piece.now = omega (arith, c.loop-place-test.true, i.1.place_is) in (
      i.0,
      drop c.loop-place.place c.args.piece.now,
      listed_all c.args.piece.now c.loop-place.place c.args.self.now _ c.loop-place.self i.0 refl refl i.1,
      (omega (arith, inside, length-drop c.loop-place.place c.args.piece.now), subst (λ (xs : List ℕ). IsSide false xs → ⊥) c.group_from.ensures c.in_default.ensures),
    )

pub returns-in_default-read_side : goal.returns-in_default-read_side
returns-in_default-read_side c =
    let i = c.loop-place.invariant in
    let inside : c.loop-place.place + 16 ≤ length c.args.piece.now = omega (arith, c.loop-place-test.true, i.1.place_is) in (
      i.0,
      drop c.loop-place.place c.args.piece.now,
      listed_all c.args.piece.now c.loop-place.place c.args.self.now _ c.loop-place.self i.0 refl refl i.1,
      (
        omega (arith, inside, length-drop c.loop-place.place c.args.piece.now),
        subst (λ (xs : List ℕ). IsSide false xs) c.group_from.ensures (c.in-Some.left.sub, c.in-Some.ensures.0, c.in-Some.ensures.1),
        subst (λ (xs : List ℕ). IsSide true xs → ⊥) (c.group_from-in-loop-place.ensures ∙ ap (λ (xs : List ℕ). take 8 xs) (sym (drop-drop 8 c.loop-place.place c.args.piece.now))) c.in_default-read_side.ensures,
      ),
    )
