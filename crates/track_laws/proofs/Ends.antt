-- Where epochs of calm lanes end.
use Rattle.std.proofs.Common.{◌≡◌, ◌⊎◌, ℕ, suc, zero, ◌+◌, ◌-◌, ◌<◌, ◌≤◌, Bool, List, drop, ap, ◌∙◌, subst, arith, inl, inr}
use Rattle.std.proofs.lemmas.Bool.{cases_lt}
use Rattle.tmds_word.specs.Taps.{part_of}
use Rattle.lane_track.specs.Strays.{IsStray, HasNoStray}
use Rattle.lane_track.specs.Slips.{Slips, slipped, slipped_part}
use Rattle.lane_track.proofs.Strays.{calm_has_none, calm_rest_has_none}
use Rattle.lane_track.proofs.Around.{runs_around, rest_is_part}
use Rattle.link_sink.specs.Sinks.{Fed}
use Rattle.track_sink.specs.Epochs.{lane_of, rest_of, IsEnd, HasNoEnd}
use Rattle.tmds_word.specs.Column.{Column}
use Rattle.island_pack.specs.Periods.{Period}
use Rattle.island_pack.specs.Sparse.{IsSparseInPayload}
use Rattle.link_laws.proofs.Freely.{free_received}
use Rattle.link_laws.proofs.Lanes.{lanes_received}
use Rattle.track_laws.specs.Laws.{Slipped, CalmLanes, Received}

lane_of_rest : (z : ℕ) (fed : Fed) (l : ℕ) → lane_of (rest_of z fed) l ≡ drop z (lane_of fed l)
lane_of_rest z fed l = grind arith

pub none_of : (xs ys : List Bool) → xs ≡ ys → HasNoStray ys → HasNoStray xs
none_of xs ys e none p stray = none p (subst (λ us. IsStray us p) e stray)

pub calm_has_no_end : (x : Fed) (words : ℕ → List ℕ) (marks : ℕ → List Bool) (from many : ℕ → ℕ) → CalmLanes x words marks from many → HasNoEnd x
calm_has_no_end x words marks from many lanes l lt =
    none_of (lane_of x l) (part_of (words l) (from l) (many l)) (lanes.parts l lt) (calm_has_none (words l) (marks l) (lanes.calm l lt) (from l) (many l))

-- a stray lies after the slip
stray_after : (words : List ℕ) (marks : List Bool) (from many place dropped : ℕ) → Slips words marks from many place dropped
    → (p : ℕ) → IsStray (slipped_part words from many place dropped) p → place ≤ p
stray_after words marks from many place dropped s p stray =
    let around = runs_around words marks from many place dropped s in
    let past = stray.past in
    elim (around p stray.run) [
      | inr after ↦ after.0
      | inl early ↦ elim (around stray.lock stray.is_lock.run) [
        | inl lock ↦ let a = early.1 in let b = lock.1 in absurd (stray.apart (omega arith))
        | inr lock ↦ let a = early.0 in let b = lock.0 in absurd (omega arith)
      ]
    ]

-- the lane that slipped, as a part of a lane
pub slipped_is : (x y : Fed) (words : ℕ → List ℕ) (marks : ℕ → List Bool) (from many : ℕ → ℕ) (lane place dropped : ℕ) → CalmLanes x words marks from many → Slipped x lane place dropped y
    → lane_of y lane ≡ slipped_part (words lane) (from lane) (many lane) place dropped
slipped_is x y words marks from many lane place dropped lanes slip = slip.this ∙ ap (λ us. slipped us place dropped) (lanes.parts lane slip.within)

pub other_lane : (x y : Fed) (words : ℕ → List ℕ) (marks : ℕ → List Bool) (from many : ℕ → ℕ) (lane place dropped : ℕ) → CalmLanes x words marks from many → Slipped x lane place dropped y
    → (l : ℕ) → l < 3 → (l ≡ lane → ⊥) → lane_of y l ≡ part_of (words l) (from l) (many l)
other_lane x y words marks from many lane place dropped lanes slip l lt apart = slip.others l lt apart ∙ lanes.parts l lt

pub same_lane : (l lane : ℕ) → (l ≡ lane) ⊎ (l ≡ lane → ⊥)
same_lane l lane = grind (arith, cases_lt)

pub at_most_two : (x y : Fed) (words : ℕ → List ℕ) (marks : ℕ → List Bool) (from many : ℕ → ℕ) (lane place dropped : ℕ)
    → CalmLanes x words marks from many → Slips (words lane) (marks lane) (from lane) (many lane) place dropped → Slipped x lane place dropped y
    → (found start : ℕ) → IsEnd y found start → (found ≡ lane) × (place ≤ start) × HasNoEnd (rest_of start y)
at_most_two x y words marks from many lane place dropped lanes s slip found start end =
    let mine = slipped_is x y words marks from many lane place dropped lanes slip in
    let other = other_lane x y words marks from many lane place dropped lanes slip in
    let room = s.ends in
    let here : found ≡ lane = elim (same_lane found lane) [
      | inl same ↦ same
      | inr apart ↦
          absurd (calm_has_none (words found) (marks found) (lanes.calm found end.within) (from found) (many found) start
          (subst (λ us. IsStray us start) (other found end.within apart) end.stray))
    ] in
    let stray : IsStray (lane_of y lane) start = subst (λ l. IsStray (lane_of y l) start) here end.stray in
    let after : place ≤ start = stray_after (words lane) (marks lane) (from lane) (many lane) place dropped s start (subst (λ us. IsStray us start) mine stray) in (
      here,
      after,
      λ l lt. elim (same_lane l lane) [
        | inl same ↦
            let e : lane_of (rest_of start y) l ≡ part_of (words lane) (from lane + dropped + start) (many lane - dropped - start) =
            lane_of_rest start y l ∙ ap (λ m. drop start (lane_of y m)) same ∙ ap (drop start) mine
            ∙ rest_is_part (words lane) (from lane) (many lane) place dropped start after (omega arith) s.within in
            none_of _ _ e (calm_has_none (words lane) (marks lane) s.calm (from lane + dropped + start) (many lane - dropped - start))
        | inr apart ↦
            none_of _ _ (lane_of_rest start y l ∙ ap (drop start) (other l lt apart))
            (calm_rest_has_none (words l) (marks l) (lanes.calm l lt) (from l) (many l) start).0
      ],
    )

pub payload_has_no_end : (ps : List Period) (sent received : List Column) (offset : ℕ) (skews counts : List ℕ) (x : Fed) → Received ps sent received offset skews counts x
    → IsSparseInPayload ps sent received → HasNoEnd x
payload_has_no_end ps sent received offset skews counts x reception alone zero lt =
    none_of x.blue _ reception.tapped.blue_part.bits_are (calm_has_none _ _ (lanes_received ps sent received (free_received ps sent received reception.reception) alone).blue.calm _ _)
payload_has_no_end ps sent received offset skews counts x reception alone (suc zero) lt =
    none_of x.green _ reception.tapped.green_part.bits_are (calm_has_none _ _ (lanes_received ps sent received (free_received ps sent received reception.reception) alone).green.calm _ _)
payload_has_no_end ps sent received offset skews counts x reception alone (suc (suc l)) lt =
    none_of x.red _ reception.tapped.red_part.bits_are (calm_has_none _ _ (lanes_received ps sent received (free_received ps sent received reception.reception) alone).red.calm _ _)
