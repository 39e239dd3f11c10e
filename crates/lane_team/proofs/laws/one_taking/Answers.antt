use Rattle.std.proofs.Common.{◌≡◌, ◌∙◌, ◌++◌, ℕ, Bool, List, Option, None, Some, MatchOption, take, refl, sym, ap}
use Rattle.std.proofs.lemmas.List.{append_cancel_left}
use Rattle.tmds_word.specs.Bits.{bytes_bits}
use Rattle.lane_align.specs.Words.{lane_words}
use Rattle.lane_align.specs.Aligners.{Seeks, Cuts, lock_of}
use Rattle.lane_align.specs.declared.aligner.LaneAligner.{LaneAligner}
use Rattle.lane_align.proofs.Controls.{one_lock}
use Rattle.lane_team.proofs.laws.one_taking.Goals as goal

same_lock : (xs : List Bool) (a b : LaneAligner) (p q : Option ℕ) → MatchOption p (Seeks a xs) (Cuts a xs) → MatchOption q (Seeks b xs) (Cuts b xs) → p ≡ q
same_lock xs a b None None left right = refl
same_lock xs a b None (Some q) left right = absurd (left.none q right.lock.run)
same_lock xs a b (Some p) None left right = absurd (right.none p left.lock.run)
same_lock xs a b (Some p) (Some q) left right = ap Some (one_lock xs p q left.lock right.lock)

pub returns : goal.returns
returns c = λ old new other bytes bits xs stood taken as_well.
    let after = xs ++ take bits (bytes_bits bytes) in
    let left = taken.stands xs stood in
    let right = as_well.stands xs stood in
    let same = same_lock after new.aligner other.aligner (lock_of new.aligner) (lock_of other.aligner) left.found right.found in (
      same,
      append_cancel_left (lane_words (lock_of old.aligner) xs) new.words other.words
          (taken.words xs stood ∙ ap (λ lock. lane_words lock after) same ∙ sym (as_well.words xs stood)),
    )
