-- There is a first full alignment at or before column f, and it is the end of one control period.
use Rattle.std.proofs.Common.{◌≡◌, ℕ, ◌+◌, ◌-◌, ◌*◌, ◌<◌, ◌≤◌, max, Bool, false, List, length, map, take, drop, get_or, slice_index, ap, ◌∙◌, sym, subst, arith, inl, inr, ◌⊎◌}
use Rattle.std.proofs.Math.Nat.{le-max_left, le-max_right, max-le}
use Rattle.std.proofs.lemmas.Bool.{cases_lt}
use Rattle.std.proofs.lemmas.List.{length-map, get_or-map}
use Rattle.tmds_word.specs.Column.{Column, blues, greens, reds}
use Rattle.terc4.proofs.Words.{few_turns}
use Rattle.lane_align.specs.Laws.{marked}
use Rattle.tmds_word.specs.Taps.{part_of, AreNear, IsPart, HasSmallSkew}
use Rattle.lane_deskew.specs.Triples.{IsTriple, IsFirst}
use Rattle.link_laws.specs.LaneEnds.{IsGuard, IsLaneSent, damaged}
use Rattle.link_laws.proofs.LaneEnds.{same_word, length_damaged, kind_cases, no_guard_payload}
use Rattle.link_laws.specs.Alternating.{IsAlternating}
use Rattle.link_laws.proofs.Shapes.{alternating, ends_apart}
use Rattle.island_pack.specs.Periods.{Period}
use Rattle.island_pack.specs.Sparse.{AreFew, no_column, column_at, SparesUntil}
use Rattle.link_laws.proofs.Ends.{near_from, flat}
use Rattle.link_sink.proofs.Decided.{first_decided}
use Rattle.link_laws.proofs.Lanes.{fitting_length, fitting_at, lane_sent, not_damaged, few_marked}
use Rattle.link_laws.proofs.Spelled.{fitting_freely}
use Rattle.island_pack.specs.Kinds.{Kind, IsPayload, kinds_of, kind_at, EndsAt, IsAfterControl}
use Rattle.link_laws.specs.Laws.{ReceivedFreely, EndsControl, BeginColumn, HoldsEnd, FirstUntil}
use Rattle.link_laws.proofs.Until.{IsReceivedUntil, Holds, edge_until, end_edge}

-- One lane.

received_until : (ks : List Kind) (f : ℕ) (sent received : List ℕ) → IsLaneSent ks sent → length received ≡ length sent → ((i : ℕ) → i < length received → get_or received i 0 < 1024)
    → ((i : ℕ) → i + 11 ≤ length sent → marked (take 11 (drop i (damaged sent received))) ≤ 2)
    → ((i : ℕ) → i < length sent → i ≤ f → (IsPayload (kind_at ks i) → ⊥) → get_or (damaged sent received) i false ≡ false)
    → IsReceivedUntil ks f received (damaged sent received)
received_until ks f sent received s len below few spares = grind (arith, length_damaged, same_word, kind_cases, few_turns, no_guard_payload)

-- the lane of a stream that a projection takes
lane_until : (g : Column → ℕ) (ps : List Period) (sent received : List Column) (f : ℕ) → ReceivedFreely ps sent received → SparesUntil ps sent received f
    → IsLaneSent (kinds_of ps) (map g sent) → ((i : ℕ) → i < length received → g (column_at received i) < 1024) → AreFew (map g sent) (map g received)
    → IsReceivedUntil (kinds_of ps) f (map g received) (damaged (map g sent) (map g received))
lane_until g ps sent received f reception spares is_sent narrow few =
    let same = reception.sparse.same_length in
    let a = length-map sent g in
    let b = length-map received g in
    received_until (kinds_of ps) f (map g sent) (map g received) is_sent (omega arith)
    (λ i lt. subst (λ w. w < 1024) (sym (get_or-map g received i no_column 0 (omega arith))) (narrow i (omega arith)))
    (few_marked (map g sent) (map g received) few)
    (λ i lt le n. not_damaged (map g sent) (map g received) i (omega arith)
    (get_or-map g received i no_column 0 (omega arith)
    ∙ ap g (spares i le n)
    ∙ sym (get_or-map g sent i no_column 0 (omega arith))))

record LanesUntil (ps : List Period) (sent received : List Column) (f : ℕ) : Type 0 where
  blue : IsReceivedUntil (kinds_of ps) f (blues received) (damaged (blues sent) (blues received))
  green : IsReceivedUntil (kinds_of ps) f (greens received) (damaged (greens sent) (greens received))
  red : IsReceivedUntil (kinds_of ps) f (reds received) (damaged (reds sent) (reds received))

lanes_until : (ps : List Period) (sent received : List Column) (f : ℕ) → ReceivedFreely ps sent received → SparesUntil ps sent received f → LanesUntil ps sent received f
lanes_until ps sent received f reception spares =
    let ks = kinds_of ps in
    let fit = fitting_freely ps sent reception.conforming reception.spelled in
    let long = fitting_length ks sent fit in
    let at = fitting_at ks sent fit in
    let h = reception.sparse in
    record {
      blue = lane_until (λ c. c.blue) ps sent received f reception spares (lane_sent (λ c. c.blue) ks sent long (λ i lt. (at i lt).blue)) (λ i lt. (h.characters i lt).blue) h.few_blue;
      green = lane_until (λ c. c.green) ps sent received f reception spares (lane_sent (λ c. c.green) ks sent long (λ i lt. (at i lt).green)) (λ i lt. (h.characters i lt).green) h.few_green;
      red = lane_until (λ c. c.red) ps sent received f reception spares (lane_sent (λ c. c.red) ks sent long (λ i lt. (at i lt).red)) (λ i lt. (h.characters i lt).red) h.few_red;
    }

-- Three lanes.

-- an edge of a lane that is the end of a control period
abbrev IsEnd : List Kind → ℕ → ℕ → ℕ → Type 0
IsEnd kinds f from e = (i : ℕ) × (EndsAt kinds i) × (i + 1 ≤ f) × (e + from ≡ 10 * (i + 1))

-- two ends that lie near each other are one
one_end : (kinds : List Kind) (f k l d e : ℕ) → IsAlternating kinds → AreNear k l → AreNear d e → (a : IsEnd kinds f k d) → (b : IsEnd kinds f l e) → a.0 ≡ b.0
one_end kinds f k l d e alternates skew near a b = grind (arith, cases_lt, ends_apart)

-- the same place on two lanes
near_place : (n k l : ℕ) → k ≤ n → l ≤ n → AreNear k l → AreNear (n - k) (n - l)
near_place n k l a b near = let c = near.0 in let d = near.1 in (omega arith, omega arith)

-- an edge of the first triple is not far past column f
bounded : (n k l m p q r : ℕ) → k ≤ n → AreNear k l → AreNear k m → max p (max q r) ≤ max (n - k) (max (n - l) (n - m)) → p + k ≤ n + 70
bounded n k l m p q r le a b least = grind (arith, le-max_left, max-le)

bounded_second : (n k l m p q r : ℕ) → l ≤ n → AreNear k l → AreNear l m → max p (max q r) ≤ max (n - k) (max (n - l) (n - m)) → q + l ≤ n + 70
bounded_second n k l m p q r le a b least = grind (arith, le-max_left, le-max_right, max-le)

bounded_third : (n k l m p q r : ℕ) → m ≤ n → AreNear k m → AreNear l m → max p (max q r) ≤ max (n - k) (max (n - l) (n - m)) → r + m ≤ n + 70
bounded_third n k l m p q r le a b least = grind (arith, le-max_right, max-le)

-- what the law says of three lists of bits
abbrev Found : List Period → ℕ → List ℕ → ℕ → List Bool → List Bool → List Bool → Type 0
Found ps offset skews f x y z = (p q r : ℕ) × IsFirst x y z p q r × ((i : ℕ) × EndsControl ps i × (i + 1 ≤ f) × BeginColumn offset skews (i + 1) p q r)

found_of : (ps : List Period) (offset : ℕ) (skews : List ℕ) (f : ℕ) (x y z u v w : List Bool) → x ≡ u → y ≡ v → z ≡ w → Found ps offset skews f u v w → Found ps offset skews f x y z
found_of ps offset skews f x y z u v w ex ey ez h =
    subst (λ xs. Found ps offset skews f xs y z) (sym ex) (subst (λ ys. Found ps offset skews f u ys z) (sym ey) (subst (λ zs. Found ps offset skews f u v zs) (sym ez) h))

-- a tap each of whose lanes holds column f
record HoldsEach (received : List Column) (k1 k2 k3 n1 n2 n3 f : ℕ) : Type 0 where
  blue : Holds (blues received) k1 n1 f
  green : Holds (greens received) k2 n2 f
  red : Holds (reds received) k3 n3 f

-- there is a triple at column f
here : (ps : List Period) (sent received : List Column) (f : ℕ) → ReceivedFreely ps sent received → SparesUntil ps sent received f → IsAfterControl (kinds_of ps) f
    → (k1 k2 k3 n1 n2 n3 : ℕ) → HoldsEach received k1 k2 k3 n1 n2 n3 f → AreNear k1 k2 → AreNear k2 k3 → AreNear k1 k3
    → IsTriple (part_of (blues received) k1 n1) (part_of (greens received) k2 n2) (part_of (reds received) k3 n3) (10 * f - k1) (10 * f - k2) (10 * f - k3)
here ps sent received f reception spares after k1 k2 k3 n1 n2 n3 h n12 n23 n13 = grind (arith, alternating ps reception.conforming, lanes_until ps sent received f reception spares, end_edge, near_place)

-- a first full alignment, whose largest edge is at most that of the triple there, is the end of one control period
first_end : (ps : List Period) (sent received : List Column) (f : ℕ) → ReceivedFreely ps sent received → SparesUntil ps sent received f → IsAfterControl (kinds_of ps) f
    → (offset : ℕ) (skews : List ℕ) (n1 n2 n3 : ℕ) → HasSmallSkew skews
    → HoldsEach received (offset + slice_index skews 0) (offset + slice_index skews 1) (offset + slice_index skews 2) n1 n2 n3 f
    → (p q r : ℕ)
    → IsFirst (part_of (blues received) (offset + slice_index skews 0) n1) (part_of (greens received) (offset + slice_index skews 1) n2) (part_of (reds received) (offset + slice_index skews 2) n3) p q r
    → (i : ℕ) × EndsControl ps i × (i + 1 ≤ f) × BeginColumn offset skews (i + 1) p q r
first_end ps sent received f reception spares after offset skews n1 n2 n3 small h p q r first =
    let kinds = kinds_of ps in
    let alternates = alternating ps reception.conforming in
    let lanes = lanes_until ps sent received f reception spares in
    let k1 = offset + slice_index skews 0 in
    let k2 = offset + slice_index skews 1 in
    let k3 = offset + slice_index skews 2 in
    let n12 = near_from offset (slice_index skews 0) (slice_index skews 1) small.blue_green in
    let n23 = near_from offset (slice_index skews 1) (slice_index skews 2) small.green_red in
    let n13 = near_from offset (slice_index skews 0) (slice_index skews 2) small.blue_red in
    let at_f : IsGuard (kind_at kinds f) = subst IsGuard (sym after.opens) tt in
    let n = 10 * f in
    let b1 = h.blue.begins in
    let b2 = h.green.begins in
    let b3 = h.red.begins in
    let t = first.triple in
    let least = first.least (n - k1) (n - k2) (n - k3) (here ps sent received f reception spares after k1 k2 k3 n1 n2 n3 h n12 n23 n13) in
    let a = edge_until kinds f (blues received) _ alternates lanes.blue at_f k1 n1 p h.blue t.blue (bounded n k1 k2 k3 p q r (omega arith) n12 n13 least) in
    let b = edge_until kinds f (greens received) _ alternates lanes.green at_f k2 n2 q h.green t.green (bounded_second n k1 k2 k3 p q r (omega arith) n12 n23 least) in
    let c = edge_until kinds f (reds received) _ alternates lanes.red at_f k3 n3 r h.red t.red (bounded_third n k1 k2 k3 p q r (omega arith) n13 n23 least) in
    let ab = one_end kinds f k1 k2 p q alternates n12 t.blue_green a b in
    let ac = one_end kinds f k1 k3 p r alternates n13 t.blue_red a c in
    let pa = a.3 in
    let pb = b.3 in
    let pc = c.3 in (
      a.0,
      a.1,
      a.2,
      record {
        blue = flat p offset (slice_index skews 0) _ pa;
        green = flat q offset (slice_index skews 1) _ (omega arith);
        red = flat r offset (slice_index skews 2) _ (omega arith);
      },
    )

-- of lanes that have a triple
some_first : (ps : List Period) (offset : ℕ) (skews : List ℕ) (f : ℕ) (x y z : List Bool) (d e g : ℕ) → IsTriple x y z d e g
    → ((p q r : ℕ) × IsFirst x y z p q r) ⊎ ((p q r : ℕ) → IsTriple x y z p q r → ⊥)
    → ((p q r : ℕ) → IsFirst x y z p q r → (i : ℕ) × EndsControl ps i × (i + 1 ≤ f) × BeginColumn offset skews (i + 1) p q r) → Found ps offset skews f x y z
some_first ps offset skews f x y z d e g triple (inl is) then = (is.0, is.1, is.2, is.3, then is.0 is.1 is.2 is.3)
some_first ps offset skews f x y z d e g triple (inr none) then = absurd (none d e g triple)

found : (ps : List Period) (sent received : List Column) (f : ℕ) → ReceivedFreely ps sent received → SparesUntil ps sent received f → IsAfterControl (kinds_of ps) f
    → (offset : ℕ) (skews : List ℕ) (n1 n2 n3 : ℕ) → HasSmallSkew skews
    → HoldsEach received (offset + slice_index skews 0) (offset + slice_index skews 1) (offset + slice_index skews 2) n1 n2 n3 f
    → Found ps offset skews f (part_of (blues received) (offset + slice_index skews 0) n1) (part_of (greens received) (offset + slice_index skews 1) n2) (part_of (reds received) (offset + slice_index skews 2) n3)
found ps sent received f reception spares after offset skews n1 n2 n3 small h =
    let k1 = offset + slice_index skews 0 in
    let k2 = offset + slice_index skews 1 in
    let k3 = offset + slice_index skews 2 in
    let n12 = near_from offset (slice_index skews 0) (slice_index skews 1) small.blue_green in
    let n23 = near_from offset (slice_index skews 1) (slice_index skews 2) small.green_red in
    let n13 = near_from offset (slice_index skews 0) (slice_index skews 2) small.blue_red in
    some_first ps offset skews f _ _ _ (10 * f - k1) (10 * f - k2) (10 * f - k3)
    (here ps sent received f reception spares after k1 k2 k3 n1 n2 n3 h n12 n23 n13)
    (first_decided (part_of (blues received) k1 n1) (part_of (greens received) k2 n2) (part_of (reds received) k3 n3))
    (first_end ps sent received f reception spares after offset skews n1 n2 n3 small h)

holds_of : (words : List ℕ) (offset : ℕ) (skews counts : List ℕ) (f lane : ℕ) (bits : List Bool) → lane < 3 → IsPart words (offset + slice_index skews lane) (slice_index counts lane) bits
    → HoldsEnd offset skews counts f → Holds words (offset + slice_index skews lane) (slice_index counts lane) f
holds_of words offset skews counts f lane bits lt part h = record { begins = h.begins lane lt; reaches = h.reaches lane lt; within = part.within }

pub first_until : FirstUntil
first_until ps sent received reception offset skews counts x y z tapped small f aligns =
    let a = tapped.blue_part in
    let b = tapped.green_part in
    let c = tapped.red_part in
    found_of ps offset skews f x y z _ _ _ a.bits_are b.bits_are c.bits_are
    (found ps sent received f reception aligns.spares aligns.after offset skews (slice_index counts 0) (slice_index counts 1) (slice_index counts 2) small
    (record {
      blue = holds_of (blues received) offset skews counts f 0 x (omega arith) a aligns.holds;
      green = holds_of (greens received) offset skews counts f 1 y (omega arith) b aligns.holds;
      red = holds_of (reds received) offset skews counts f 2 z (omega arith) c aligns.holds;
    }))
