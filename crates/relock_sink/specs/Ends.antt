-- The end of an epoch whose alignment is to be confirmed: it has one or none, and what arrives later changes none.
use Rattle.std.proofs.Common.{◌≡◌, ◌⊎◌, ℕ, ◌+◌, ◌-◌, ◌<◌, ◌≤◌, min, Bool, false, [], length, Option, Some, None, refl, sym, subst, arith, inl, inr}
use native.Mathlib.Decide.{map_dec}
use Rattle.std.proofs.Math.Bool.{Bool-discrete}
use Rattle.std.proofs.lemmas.Bool.{cases_lt}
use Rattle.tmds_word.specs.Column.{Column}
use Rattle.lane_track.proofs.Strays.{stray_grows}
use Rattle.lane_track.specs.Strays.{IsStray}
use Rattle.lane_deskew.specs.Aligned.{aligned_column}
use Rattle.lane_deskew.proofs.First.{one_first}
use Rattle.link_sink.specs.Sinks.{Fed}
use Rattle.link_sink.proofs.Decided.{first_decided}
use Rattle.track_sink.specs.Epochs.{lane_of, most_of, IsEnd, HasNoEnd}
use Rattle.track_sink.specs.Tracks.{Grows}
use Rattle.track_sink.specs.declared.watch.Cause.{Cause}
use Rattle.track_sink.specs.declared.watch.Cause.TheVariants.{Slip, Unconfirmed, Refuted}
use Rattle.track_sink.specs.Ends.{end_decided, end_is_far, end_within, one_end}
use Rattle.track_sink.specs.Staying.{end_stays, was_stray}
use Rattle.relock_sink.specs.Bands.{AreSo, AtEdges}
use Rattle.relock_sink.specs.Relocks.{is_announced, IsFirstSo, IsUnconfirmed, shown_at, IsUnconfirmedEnd, IsLastEpoch, relock_ends}
use Rattle.relock_sink.specs.Growing.{first_so_stays, first_so_was, shown_within, lane_grows_from}

-- an epoch has one alignment at most that is unconfirmed: its first
pub one_unconfirmed : (fed : Fed) (d e f p q r : ℕ) → IsUnconfirmed fed d e f → IsUnconfirmed fed p q r → (d ≡ p) × (e ≡ q) × (f ≡ r)
one_unconfirmed fed d e f p q r a b = one_first fed.blue fed.green fed.red d e f p q r a.first b.first

pub so_decided : (a b : Option Column) (test : Column → Column → Bool) (answer : Bool) → Dec (AreSo a b test answer)
so_decided None b test answer = no (λ h. let k = h.is_here in absurd cc)
so_decided (Some g) None test answer = no (λ h. let k = h.is_next in absurd cc)
so_decided (Some g) (Some h) test answer =
    map_dec (λ is. record { here = g; next = h; is_here = refl; is_next = refl; so = is }) (λ s. let a = s.is_here in let b = s.is_next in let c = s.so in cc)
    (Bool-discrete (test g h) answer)

pub first_so_decided : (opens : Bool) (fed : Fed) → ((d e f : ℕ) × IsFirstSo opens fed d e f) ⊎ ((d e f : ℕ) → IsFirstSo opens fed d e f → ⊥)
first_so_decided opens fed = elim (first_decided fed.blue fed.green fed.red) [
  | inr none ↦ inr (λ d e f is. none d e f is.first.triple)
  | inl h ↦ elim (so_decided (aligned_column fed.blue fed.green fed.red h.0 h.1 h.2 12) (aligned_column fed.blue fed.green fed.red h.0 h.1 h.2 13) is_announced opens) [
    | yes so ↦ inl (h.0, h.1, h.2, record { first = h.3; columns = so })
    | no none ↦ inr (λ d e f is.
        let s = one_first fed.blue fed.green fed.red d e f h.0 h.1 h.2 is.first h.3 in
        none (subst (λ i. AtEdges is_announced opens fed i h.1 h.2) s.0 (subst (λ i. AtEdges is_announced opens fed d i h.2) s.1 (subst (λ i. AtEdges is_announced opens fed d e i) s.2 is.columns))))
  ]
]

-- an unconfirmed alignment that is shown before the first stray's run ends is an end, and where it is not the stray is
pub unconfirmed_end : (fed : Fed) (d e f place : ℕ) → IsUnconfirmed fed d e f → place + 119 ≡ min d (min e f) → ((lane p : ℕ) → IsEnd fed lane p → shown_at d e f < p + 120) → IsUnconfirmedEnd fed place
unconfirmed_end fed d e f place is at before = record { blue = d; green = e; red = f; unconfirmed = is; forgets = at; before = before }

pub far_edges : (fed : Fed) (d e f : ℕ) → IsUnconfirmed fed d e f → 120 ≤ min d (min e f)
far_edges fed d e f is =
    let a = is.first.triple.blue.past in
    let b = is.first.triple.green.past in
    let c = is.first.triple.red.past in
    omega arith

pub decided : (fed : Fed) → ((cause : Cause) × (place : ℕ) × relock_ends fed cause place) ⊎ IsLastEpoch fed
decided fed = by (end_decided fed) (first_so_decided false fed)
  where
    sooner : (l p d e f : ℕ) → IsEnd fed l p → IsUnconfirmed fed d e f → (shown_at d e f < p + 120) ⊎ (p + 120 ≤ shown_at d e f) → ((cause : Cause) × (place : ℕ) × relock_ends fed cause place) ⊎ IsLastEpoch fed
    sooner l p d e f end is (inl first) =
        let far = far_edges fed d e f is in
        inl (
          Unconfirmed,
          min d (min e f) - 119,
          unconfirmed_end fed d e f (min d (min e f) - 119) is (omega arith)
              (λ m q other. let s = one_end fed l m p q end other in omega arith),
        )
    sooner l p d e f end is (inr later) =
        inl (Slip l, p, record { end = end; before = λ q r s other. let t = one_unconfirmed fed d e f q r s is other in omega arith })

    by : ((lane place : ℕ) × IsEnd fed lane place) ⊎ HasNoEnd fed → ((d e f : ℕ) × IsUnconfirmed fed d e f) ⊎ ((d e f : ℕ) → IsUnconfirmed fed d e f → ⊥)
        → ((cause : Cause) × (place : ℕ) × relock_ends fed cause place) ⊎ IsLastEpoch fed
    by (inl s) (inl u) = sooner s.0 s.1 u.0 u.1 u.2 s.2 u.3 (cases_lt (shown_at u.0 u.1 u.2) (s.1 + 120))
    by (inl s) (inr none) = inl (Slip s.0, s.1, record { end = s.2; before = λ d e f is. absurd (none d e f is) })
    by (inr none) (inl u) =
        let far = far_edges fed u.0 u.1 u.2 u.3 in
        inl (Unconfirmed, min u.0 (min u.1 u.2) - 119, unconfirmed_end fed u.0 u.1 u.2 (min u.0 (min u.1 u.2) - 119) u.3 (omega arith) (λ l p end. absurd (none l end.within p end.stray)))
    by (inr none) (inr nor) = inr (record { no_stray = none; confirmed = nor })

pub excludes : (fed : Fed) (cause : Cause) (place : ℕ) → IsLastEpoch fed → relock_ends fed cause place → ⊥
excludes fed (Slip lane) place last is = last.no_stray lane is.end.within place is.end.stray
excludes fed Unconfirmed place last is = last.confirmed is.blue is.green is.red is.unconfirmed
excludes fed Refuted place last is = is

pub one : (fed : Fed) (c d : Cause) (p q : ℕ) → relock_ends fed c p → relock_ends fed d q → (c ≡ d) × (p ≡ q)
one fed (Slip l) (Slip m) p q a b = let e = one_end fed l m p q a.end b.end in (λ i. Slip (e.0 i), e.1)
one fed (Slip l) Unconfirmed p q a b =
    let x = a.before b.blue b.green b.red b.unconfirmed in
    let y = b.before l p a.end in
    absurd (omega arith)
one fed Unconfirmed (Slip m) p q a b =
    let x = b.before a.blue a.green a.red a.unconfirmed in
    let y = a.before m q b.end in
    absurd (omega arith)
one fed Unconfirmed Unconfirmed p q a b =
    let s = one_unconfirmed fed a.blue a.green a.red b.blue b.green b.red a.unconfirmed b.unconfirmed in
    let x = a.forgets in
    let y = b.forgets in
    (refl, omega arith)
one fed c Refuted p q a b = absurd b
one fed Refuted d p q a b = absurd a

-- a stray whose run had arrived was the first before more arrived
pub end_was : (before now : Fed) (lane place : ℕ) → Grows before now → place + 120 ≤ most_of before → IsEnd now lane place → IsEnd before lane place
end_was before now lane place grows long end =
    let mine = lane_grows_from before now (place + 111) grows (omega arith) lane end.within in
    let had : (place + 120 ≤ length (lane_of before lane)) ⊎ (mine.0 ≡ []) = elim mine.2 [
      | inl all ↦ inl (omega arith)
      | inr none ↦ inr none
    ] in
    record {
      within = end.within;
      stray = was_stray (lane_of before lane) (lane_of now lane) mine.0 place mine.1 had end.stray;
      least = λ l p lt stray.
          let that = grows l lt in
          end.least l p lt (subst (λ us. IsStray us p) (sym that.1) (stray_grows (lane_of before l) that.0 p stray));
    }

pub stays : (before now : Fed) (cause : Cause) (place : ℕ) → relock_ends before cause place → Grows before now → relock_ends now cause place
stays before now (Slip lane) place is grows =
    let long = end_within before lane place is.end in
    record {
      end = end_stays before now lane place is.end grows;
      before = λ d e f other. elim (cases_lt (shown_at d e f) (place + 120)) [
        | inl sooner ↦ is.before d e f (first_so_was before now grows d e f false (omega arith) other)
        | inr later ↦ later
      ];
    }
stays before now Unconfirmed place is grows =
    let shown = shown_within before is.blue is.green is.red is.unconfirmed in
    record {
      blue = is.blue;
      green = is.green;
      red = is.red;
      unconfirmed = first_so_stays before now grows is.blue is.green is.red false is.unconfirmed;
      forgets = is.forgets;
      before = λ lane p end. elim (cases_lt (shown_at is.blue is.green is.red) (p + 120)) [
        | inl later ↦ later
        | inr sooner ↦ is.before lane p (end_was before now lane p grows (omega arith) end)
      ];
    }
stays before now Refuted place is grows = is

pub within : (fed : Fed) (cause : Cause) (place : ℕ) → relock_ends fed cause place → (0 < place) × (place < most_of fed)
within fed (Slip lane) place is = let far = end_is_far fed lane place is.end in let long = end_within fed lane place is.end in (omega arith, omega arith)
within fed Unconfirmed place is =
    let far = far_edges fed is.blue is.green is.red is.unconfirmed in
    let long = shown_within fed is.blue is.green is.red is.unconfirmed in
    let at = is.forgets in
    (omega arith, omega arith)
within fed Refuted place is = absurd is

-- a slip is a lane's
pub lane_within : (fed : Fed) (lane place : ℕ) → relock_ends fed (Slip lane) place → lane < 3
lane_within fed lane place is = is.end.within
