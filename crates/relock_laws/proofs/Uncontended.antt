-- Where damage lies in pixels and packets alone, all alignments of a tap have one skew, and so they have where a lane slips once: none
-- contends with the one in use.
use Rattle.std.proofs.Common.{◌≡◌, ℕ, zero, suc, ◌+◌, ◌-◌, ◌≤◌, List, drop, ap, refl, ◌∙◌, sym, subst, arith, inl, inr}
use Rattle.std.specs.Prelude.{slice_index}
use Rattle.tmds_word.specs.Column.{Column}
use Rattle.tmds_word.specs.Taps.{part_of, HasSmallSkew}
use Rattle.lane_track.proofs.Around.{drop_part, rest_is_part}
use Rattle.island_pack.specs.Kinds.{kinds_of}
use Rattle.island_pack.specs.Periods.{Period}
use Rattle.island_pack.specs.Sparse.{IsSparseInPayload}
use Rattle.link_laws.proofs.Shapes.{alternating}
use Rattle.link_sink.specs.Sinks.{Fed}
use Rattle.track_sink.specs.Epochs.{lane_of, rest_of}
use Rattle.track_laws.specs.Laws.{Received, Slipped, SlipsInVideo, later_skews, words_at}
use Rattle.track_laws.proofs.Ends.{same_lane, slipped_is, other_lane}
use Rattle.track_laws.proofs.Slipping.{marks_at, received_at, calm_lanes, slips_at}
use Rattle.relock_sink.specs.Doubts.{IsContender}
use Rattle.relock_laws.specs.Doubted.{PayloadHasNoContender, SlipHasNoContender}
use Rattle.relock_laws.proofs.Seen.{IsSeen, part_seen, AreClose, AreSeen, seen_skew}
use Rattle.relock_laws.proofs.SlipEnds.{after_slip, later_own, later_other, slip_seen}

-- the lanes of a tap, from the places where they begin on
tap_seen : (ps : List Period) (sent received : List Column) (offset : ℕ) (skews counts : List ℕ) (x : Fed) → Received ps sent received offset skews counts x
    → IsSparseInPayload ps sent received → HasSmallSkew skews → AreSeen ps received (λ l. offset + slice_index skews l) x
tap_seen ps sent received offset skews counts x reception alone small =
    let alternates = alternating ps reception.reception.conforming in
    let lanes = calm_lanes ps sent received offset skews counts x reception alone in
    let close = after_slip offset skews small in
    record {
      seen = λ l lt. subst (IsSeen (kinds_of ps) (words_at received l) (offset + slice_index skews l)) (sym (lanes.parts l lt))
          (part_seen (kinds_of ps) (words_at received l) (marks_at sent received l) alternates (received_at ps sent received reception.reception alone l)
          (offset + slice_index skews l) (slice_index counts l));
      blue_green = close.0;
      blue_red = close.1;
    }

pub payload_has_no_contender : PayloadHasNoContender
payload_has_no_contender ps sent received offset skews counts x reception alone small p q r d e f is =
    let lanes = tap_seen ps sent received offset skews counts x reception alone small in
    is.other_skew (seen_skew ps received reception.reception.conforming (λ l. offset + slice_index skews l) x lanes p q r d e f is.later.own.first.triple is.later.triple)

pub slip_has_no_contender : SlipHasNoContender
slip_has_no_contender ps sent received offset skews counts x y lane place dropped first next reception slip s p q r d e f is =
    let lanes = slip_seen ps sent received offset skews counts x y lane place dropped first next reception slip s in
    is.other_skew (seen_skew ps received reception.reception.conforming lanes.0 y lanes.1 p q r d e f is.later.own.first.triple is.later.triple)

-- What is left of the lanes after the slip.

lane_rest : (z : ℕ) (y : Fed) (l : ℕ) → lane_of (rest_of z y) l ≡ drop z (lane_of y l)
lane_rest z y zero = refl
lane_rest z y (suc zero) = refl
lane_rest z y (suc (suc l)) = refl

moved_close : (a b c d n : ℕ) → AreClose a b → a + n ≡ c → b + n ≡ d → AreClose c d
moved_close a b c d n close x y = let one = close.one in let two = close.two in record { one = omega arith; two = omega arith }

rest_seen : (ps : List Period) (sent received : List Column) (offset : ℕ) (skews counts : List ℕ) (x y : Fed) (lane place dropped first next : ℕ)
    → Received ps sent received offset skews counts x → Slipped x lane place dropped y
    → SlipsInVideo ps sent received offset skews counts lane place dropped first next
    → (start : ℕ) → place ≤ start → AreSeen ps received (λ l. offset + slice_index (later_skews skews lane dropped) l + start) (rest_of start y)
rest_seen ps sent received offset skews counts x y lane place dropped first next reception slip s start after =
    let kinds = kinds_of ps in
    let alternates = alternating ps reception.reception.conforming in
    let from : ℕ → ℕ = λ l. offset + slice_index skews l in
    let many : ℕ → ℕ = λ l. slice_index counts l in
    let later : ℕ → ℕ = λ l. offset + slice_index (later_skews skews lane dropped) l + start in
    let lanes = calm_lanes ps sent received offset skews counts x reception s.alone in
    let slips = slips_at ps sent received offset skews counts x y lane place dropped first next reception slip s in
    let mine = slipped_is x y (words_at received) (marks_at sent received) from many lane place dropped lanes slip in
    let room = s.ends in
    let close = after_slip offset (later_skews skews lane dropped) s.small in
    let seen : (l n k : ℕ) → lane_of (rest_of start y) l ≡ part_of (words_at received l) n k → n ≡ later l → IsSeen kinds (words_at received l) (later l) (lane_of (rest_of start y) l) =
    λ l n k is at. subst (IsSeen kinds (words_at received l) (later l)) (sym is)
    (subst (λ m. IsSeen kinds (words_at received l) m (part_of (words_at received l) n k)) at
    (part_seen kinds (words_at received l) (marks_at sent received l) alternates (received_at ps sent received reception.reception s.alone l) n k)) in
    record {
      seen = λ l lt. elim (same_lane l lane) [
        | inl same ↦
            let own = later_own skews lane dropped slip.within in
            let here = seen lane (from lane + dropped + start) (many lane - dropped - start)
            (lane_rest start y lane ∙ ap (drop start) mine ∙ rest_is_part (words_at received lane) (from lane) (many lane) place dropped start after (omega arith) slips.within) (omega arith) in
            subst (λ k. IsSeen kinds (words_at received k) (later k) (lane_of (rest_of start y) k)) (sym same) here
        | inr apart ↦
            let other = later_other skews lane dropped l slip.within lt apart in
            seen l (from l + start) (many l - start)
            (lane_rest start y l ∙ ap (drop start) (other_lane x y (words_at received) (marks_at sent received) from many lane place dropped lanes slip l lt apart)
            ∙ drop_part (words_at received l) (from l) (many l) start) (omega arith)
      ];
      blue_green = moved_close _ _ _ _ start close.0 refl refl;
      blue_red = moved_close _ _ _ _ start close.1 refl refl;
    }

pub rest_has_no_contender : (ps : List Period) (sent received : List Column) (offset : ℕ) (skews counts : List ℕ) (x y : Fed) (lane place dropped first next : ℕ)
    → Received ps sent received offset skews counts x → Slipped x lane place dropped y
    → SlipsInVideo ps sent received offset skews counts lane place dropped first next
    → (start : ℕ) → place ≤ start → (p q r d e f : ℕ) → IsContender (rest_of start y) p q r d e f → ⊥
rest_has_no_contender ps sent received offset skews counts x y lane place dropped first next reception slip s start after p q r d e f is =
    let lanes = rest_seen ps sent received offset skews counts x y lane place dropped first next reception slip s start after in
    is.other_skew (seen_skew ps received reception.reception.conforming (λ l. offset + slice_index (later_skews skews lane dropped) l + start) (rest_of start y) lanes p q r d e f
    is.later.own.first.triple is.later.triple)
