use Rattle.std.proofs.Common.{◌∙◌, ◌++◌, length, refl, ap, arith}
use borrow.Rule.Slice.PartMut.{put_mid}
use Rattle.biphase_listing.specs.Groups.{sample_of}
use Rattle.biphase_listing.proofs.LineDigits.{length-first, length-second, length-two, line_is, three_put, zeros}
use Rattle.biphase_listing.proofs.frame_line.frame_line.Goals as goal

pub slice_bounds-line-end-3 : goal.slice_bounds-line-end-3
slice_bounds-line-end-3 c = grind (arith, put_mid, zeros, length-two, length-first, length-second)

pub returns : goal.returns
returns c =
    let first = c.copy_from_slice.ensures.after ∙ c.first_part.ensures in
    let second = c.copy_from_slice-2.ensures.after ∙ c.second_part.ensures in
    let last = c.copy_from_slice-3.ensures.after ∙ c.last_part.ensures in
    three_put _ _ _ (ap length first ∙ length-first _) (ap length second ∙ length-second _) (ap length last) ∙ (λ i. first i ++ (second i ++ last i))
    ∙ line_is (sample_of c.args.left.now.sub c.args.right.now.sub) c.requires.left.flags c.requires.right.flags refl
