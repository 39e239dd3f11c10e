-- Where one lane slips once within a line, the first alignment is let go for no edges, since all alignments before the slip have one skew,
-- and all after it have one: so the epochs end where those of lanes do whose alignments are always used.
use Rattle.std.proofs.Common.{ℕ}
use Rattle.link_laws.proofs.Freely.{free_received}
use Rattle.track_sink.specs.Epochs.{rest_of}
use Rattle.relock_sink.specs.Doubts.{IsLetGo}
use Rattle.track_laws.proofs.Noticed.{second_epoch}
use Rattle.relock_laws.specs.RefutingLaws.{SlipStands, SlipEndsAlone}
use Rattle.relock_laws.proofs.Seen.{seen_skew}
use Rattle.relock_laws.proofs.SlipEnds.{slip_seen, slip_ends}
use Rattle.relock_laws.proofs.Standing.{stands_at}
use Rattle.relock_laws.proofs.Uncontended.{slip_has_no_contender, rest_has_no_contender}
use Rattle.relock_laws.proofs.Unrefuted.{not_let_go, last_unrefuted}

pub slip_stands : SlipStands
slip_stands ps sent received offset skews counts x y lane place dropped first next reception slip s p q r d e f is =
    let lanes = slip_seen ps sent received offset skews counts x y lane place dropped first next reception slip s in
    is.other_skew (seen_skew ps received reception.reception.conforming lanes.0 y lanes.1 p q r d e f is.later.own.first.triple is.later.triple)

pub slip_ends_alone : SlipEndsAlone
slip_ends_alone ps sent received offset skews counts x y lane place dropped first next reception slip s =
    let stands : (p q r d e f : ℕ) → IsLetGo y p q r d e f → ⊥ =
    λ p q r d e f. not_let_go y p q r d e f (slip_stands ps sent received offset skews counts x y lane place dropped first next reception slip s p q r d e f) (λ is.
    slip_has_no_contender ps sent received offset skews counts x y lane place dropped first next reception slip s p q r d e f is.contender) in
    let ends = slip_ends ps sent received offset skews counts x y lane place dropped first next reception slip s in
    let free = free_received ps sent received reception.reception in
    record {
      ends = λ found start end. record { slip = ends.ends found start end; before = λ p q r d e f is. absurd (stands p q r d e f is) };
      then = λ found start end.
          let second = second_epoch ps sent received offset skews counts x y lane place dropped first next reception slip s found start end.slip.end in
          last_unrefuted (rest_of start y) (ends.then found start end.slip) (λ p q r d e f.
          not_let_go (rest_of start y) p q r d e f
          (λ is. let at = second.4 p q r is.later.own.first in stands_at ps sent received free (rest_of start y) p q r d e f at.0 at.1 is)
          (λ is. rest_has_no_contender ps sent received offset skews counts x y lane place dropped first next reception slip s start second.1 p q r d e f is.contender));
      confirmed = ends.confirmed;
      stands = λ place end. stands end.own_blue end.own_green end.own_red end.blue end.green end.red end.refuted;
      last = λ none. last_unrefuted y (ends.last none) stands;
    }
