-- At a good control period an earlier alignment with another skew is refuted, or by it too something opens: by it the control period
-- ends at the second of the three lanes.
use Rattle.std.proofs.Common.{◌≡◌, ◌⊎◌, ℕ, ◌+◌, ◌-◌, ◌*◌, ◌/◌, ◌%◌, ◌<◌, ◌≤◌, Bool, true, false, List, ap, ◌∙◌, sym, subst, arith, inl, inr, refl, Some, nat_le}
use Rattle.std.proofs.lemmas.Bool.{cases_lt}
use Rattle.tmds_word.specs.Bits.{window}
use Rattle.tmds_word.specs.Column.{Column}
use Rattle.tmds_word.specs.Taps.{AreNear}
use Rattle.terc4.specs.Tables.{is_control}
use Rattle.terc4.specs.Columns.{one_if, is_control_column}
use Rattle.period_grammar.specs.Heard.{Kind, neither, video, island, opened}
use Rattle.lane_align.specs.Lanes.{HasControl, IsEdge}
use Rattle.lane_align.proofs.Controls.{one_lock}
use Rattle.lane_deskew.specs.Triples.{IsTriple}
use Rattle.lane_deskew.specs.Aligned.{aligned_column}
use Rattle.link_sink.specs.Sinks.{Fed}
use Rattle.relock_sink.specs.Rivals.{middle, columns_before, IsConfirmed, IsLaterBand, HaveSameSkew, IsRefuted}
use Rattle.relock_sink.specs.Doubts.{IsContender}
use Rattle.relock_laws.specs.Settled.{EndsNineteen}
use Rattle.relock_laws.specs.Refuted.{GoesOn, IsWholePeriod, OpensAt, PeriodRefutes}

-- a character of a lane whole characters before or after the edge of a good control period: a control word before it, none after it
record IsCharacter (xs : List Bool) (e place : ℕ) : Type 0 where
  word : ℕ
  here : window xs place ≡ Some word
  before : place < e → is_control word ≡ true
  after : e ≤ place → place < e + 150 → is_control word ≡ false

character : (xs : List Bool) (e place : ℕ) → EndsNineteen xs e → GoesOn xs e → e ≤ place + 190 → place ≤ e + 150 → place % 10 ≡ e % 10 → IsCharacter xs e place
character xs e place good on low high whole = elim (cases_lt place e) [
  | inl early ↦
      let begins = good.begins in
      let k = (place + 190 - e) / 10 in
      let at : e - 190 + 10 * k ≡ place = omega arith in
      let c = subst (HasControl xs) at (good.controls k (omega arith)) in
      record { word = c.word; here = c.here; before = λ lt. c.control; after = λ le lt. absurd (omega arith) }
  | inr late ↦
      let k = (place - e) / 10 in
      let at : e + 10 * k ≡ place = omega arith in
      let w = on.whole k (omega arith) in
      record {
        word = w.0;
        here = ap (window xs) (sym at) ∙ w.1;
        before = λ lt. absurd (omega arith);
        after = λ le lt. on.payload k w.0 (omega arith) w.1;
      }
]

-- the edges of a lane of two alignments lie whole characters apart
pub whole_apart : (xs : List Bool) (p d : ℕ) → IsEdge xs p → IsEdge xs d → p % 10 ≡ d % 10
whole_apart xs p d a b = let same = one_lock xs a.lock b.lock a.is_lock b.is_lock in let x = a.aligned in let y = b.aligned in omega arith

-- the column of three characters
pub column_of_windows : (fed : Fed) (p q r j u v w : ℕ) → window fed.blue (p - 120 + 10 * j) ≡ Some u → window fed.green (q - 120 + 10 * j) ≡ Some v → window fed.red (r - 120 + 10 * j) ≡ Some w
    → aligned_column fed.blue fed.green fed.red p q r j ≡ Some (record { blue = u; green = v; red = w })
unfolding aligned_column
column_of_windows fed p q r j u v w a b c = grind arith

two_control : (a b c : Bool) → (a ≡ true) × (b ≡ true) ⊎ ((a ≡ true) × (c ≡ true) ⊎ (b ≡ true) × (c ≡ true)) → nat_le 2 (one_if a + one_if b + one_if c) ≡ true
unfolding one_if
two_control a b c h = grind arith

two_others : (a b c : Bool) → (a ≡ false) × (b ≡ false) ⊎ ((a ≡ false) × (c ≡ false) ⊎ (b ≡ false) × (c ≡ false)) → nat_le 2 (one_if a + one_if b + one_if c) ≡ false
unfolding one_if
two_others a b c h = grind arith

control_of : (c : Column) → nat_le 2 (one_if (is_control c.blue) + one_if (is_control c.green) + one_if (is_control c.red)) ≡ true → is_control_column c ≡ true
unfolding is_control_column
control_of c h = h

no_control_of : (c : Column) → nat_le 2 (one_if (is_control c.blue) + one_if (is_control c.green) + one_if (is_control c.red)) ≡ false → is_control_column c ≡ false
unfolding is_control_column
no_control_of c h = h

-- one of the three columns about the place where the lanes' control period ends by the first alignment
lane_character : (xs : List Bool) (p d c m : ℕ) → IsEdge xs p → IsEdge xs d → EndsNineteen xs d → GoesOn xs d → p < d → c ≤ (d - p) / 10 + 14 → (d - p) / 10 ≤ c + 14 → m ≤ 2
    → IsCharacter xs d (p - 120 + 10 * (11 + c + m))
lane_character xs p d c m own edge good on later few many le =
    let same = whole_apart xs p d own edge in
    let past = own.past in
    character xs d (p - 120 + 10 * (11 + c + m)) good on (omega arith) (omega arith) (omega arith)

-- the second of three numbers is not past two of them, and two of them are not past it
two_from : (a b c : ℕ) → (middle a b c ≤ a) × (middle a b c ≤ b) ⊎ ((middle a b c ≤ a) × (middle a b c ≤ c) ⊎ (middle a b c ≤ b) × (middle a b c ≤ c))
two_from a b c = elim (cases_lt a (middle a b c)) [
  | inl less ↦ inr (inr (omega arith, omega arith))
  | inr more ↦ elim (cases_lt b (middle a b c)) [
    | inl less ↦ inr (inl (more, omega arith))
    | inr also ↦ inl (more, also)
  ]
]

two_until : (a b c : ℕ) → (a ≤ middle a b c) × (b ≤ middle a b c) ⊎ ((a ≤ middle a b c) × (c ≤ middle a b c) ⊎ (b ≤ middle a b c) × (c ≤ middle a b c))
two_until a b c = elim (cases_lt (middle a b c) a) [
  | inl less ↦ inr (inr (omega arith, omega arith))
  | inr more ↦ elim (cases_lt (middle a b c) b) [
    | inl less ↦ inr (inl (more, omega arith))
    | inr also ↦ inl (more, also)
  ]
]

-- lanes are near each other at both alignments, so their numbers of columns between the two are
steps_near : (p q d e : ℕ) → AreNear p q → AreNear d e → p < d → q < e → p % 10 ≡ d % 10 → q % 10 ≡ e % 10 → (d - p) / 10 ≤ (e - q) / 10 + 14
steps_near p q d e own there a b x y = let u = own.0 in let v = own.1 in let w = there.0 in let z = there.1 in omega arith

pub record IsNearAll (a b c m : ℕ) : Type 0 where
  pub first_over : m ≤ a + 14
  pub first_under : a ≤ m + 14
  pub second_over : m ≤ b + 14
  pub second_under : b ≤ m + 14
  pub third_over : m ≤ c + 14
  pub third_under : c ≤ m + 14

near_middle : (a b c : ℕ) → a ≤ b + 14 → b ≤ a + 14 → b ≤ c + 14 → c ≤ b + 14 → a ≤ c + 14 → c ≤ a + 14 → IsNearAll a b c (middle a b c)
near_middle a b c ab ba bc cb ac ca = record {
  first_over = omega arith;
  first_under = omega arith;
  second_over = omega arith;
  second_under = omega arith;
  third_over = omega arith;
  third_under = omega arith;
}

-- how many columns there are between two alignments on each lane, and the second of these numbers
pub record IsBetween (fed : Fed) (p q r d e f c : ℕ) : Type 0 where
  pub blue_whole : p % 10 ≡ d % 10
  pub green_whole : q % 10 ≡ e % 10
  pub red_whole : r % 10 ≡ f % 10
  pub near : IsNearAll ((d - p) / 10) ((e - q) / 10) ((f - r) / 10) c

pub between : (fed : Fed) (p q r d e f : ℕ) → IsConfirmed fed p q r → IsTriple fed.blue fed.green fed.red d e f → p < d → q < e → r < f
    → IsBetween fed p q r d e f (columns_before p q r d e f)
between fed p q r d e f own u x y z =
    let t = own.first.triple in
    let b = whole_apart fed.blue p d t.blue u.blue in
    let g = whole_apart fed.green q e t.green u.green in
    let w = whole_apart fed.red r f t.red u.red in
    record {
      blue_whole = b;
      green_whole = g;
      red_whole = w;
      near = near_middle ((d - p) / 10) ((e - q) / 10) ((f - r) / 10)
          (steps_near p q d e t.blue_green u.blue_green x y b g) (steps_near q p e d (flip p q t.blue_green) (flip d e u.blue_green) y x g b)
          (steps_near q r e f t.green_red u.green_red y z g w) (steps_near r q f e (flip q r t.green_red) (flip e f u.green_red) z y w g)
          (steps_near p r d f t.blue_red u.blue_red x z b w) (steps_near r p f d (flip p r t.blue_red) (flip d f u.blue_red) z x w b);
    }
  where
    flip : (i j : ℕ) → AreNear i j → AreNear j i
    flip i j n = (n.1, n.0)

-- a column by the first alignment, about the place where the control period ends
record IsColumnAbout (fed : Fed) (p q r d e f c m : ℕ) : Type 0 where
  blue : IsCharacter fed.blue d (p - 120 + 10 * (11 + c + m))
  green : IsCharacter fed.green e (q - 120 + 10 * (11 + c + m))
  red : IsCharacter fed.red f (r - 120 + 10 * (11 + c + m))

column_about : (fed : Fed) (p q r d e f c m : ℕ) → IsConfirmed fed p q r → IsWholePeriod fed d e f → p < d → q < e → r < f → IsBetween fed p q r d e f c → m ≤ 2
    → IsColumnAbout fed p q r d e f c m
column_about fed p q r d e f c m own period x y z n le =
    let t = own.first.triple in
    let u = period.triple in
    record {
      blue = lane_character fed.blue p d c m t.blue u.blue period.blue period.blue_on x n.near.first_over n.near.first_under le;
      green = lane_character fed.green q e c m t.green u.green period.green period.green_on y n.near.second_over n.near.second_under le;
      red = lane_character fed.red r f c m t.red u.red period.red period.red_on z n.near.third_over n.near.third_under le;
    }

abbrev column_at : (fed : Fed) (p q r d e f c m : ℕ) → IsColumnAbout fed p q r d e f c m → Column
column_at fed p q r d e f c m is = record { blue = is.blue.word; green = is.green.word; red = is.red.word }

is_column : (fed : Fed) (p q r d e f c m j : ℕ) (is : IsColumnAbout fed p q r d e f c m) → 11 + c + m ≡ j → aligned_column fed.blue fed.green fed.red p q r j ≡ Some (column_at fed p q r d e f c m is)
is_column fed p q r d e f c m j is at =
    subst (λ n. aligned_column fed.blue fed.green fed.red p q r n ≡ Some (column_at fed p q r d e f c m is)) at
    (column_of_windows fed p q r (11 + c + m) is.blue.word is.green.word is.red.word is.blue.here is.green.here is.red.here)

-- a control word one column before the end, where the lane's control period ends no sooner; none with it, where it ends no later
ends_later : (xs : List Bool) (p d c : ℕ) → 120 ≤ p → p < d → p % 10 ≡ d % 10 → (is : IsCharacter xs d (p - 120 + 10 * (11 + c + 0))) → c ≤ (d - p) / 10 → is_control is.word ≡ true
ends_later xs p d c past later whole is le = is.before (omega arith)

ended : (xs : List Bool) (p d c : ℕ) → 120 ≤ p → p < d → p % 10 ≡ d % 10 → (is : IsCharacter xs d (p - 120 + 10 * (11 + c + 1))) → c ≤ (d - p) / 10 + 14 → (d - p) / 10 ≤ c → is_control is.word ≡ false
ended xs p d c past later whole is few le = is.after (omega arith) (omega arith)

is_past : (xs : List Bool) (p : ℕ) → IsEdge xs p → 120 ≤ p
is_past xs p edge = let past = edge.past in omega arith

control_last : (fed : Fed) (p q r d e f : ℕ) → IsConfirmed fed p q r → p < d → q < e → r < f → IsBetween fed p q r d e f (columns_before p q r d e f)
    → (is : IsColumnAbout fed p q r d e f (columns_before p q r d e f) 0) → is_control_column (column_at fed p q r d e f (columns_before p q r d e f) 0 is) ≡ true
control_last fed p q r d e f own x y z n is =
    let t = own.first.triple in
    let c = columns_before p q r d e f in
    let b : c ≤ (d - p) / 10 → is_control is.blue.word ≡ true = ends_later fed.blue p d c (is_past fed.blue p t.blue) x n.blue_whole is.blue in
    let g : c ≤ (e - q) / 10 → is_control is.green.word ≡ true = ends_later fed.green q e c (is_past fed.green q t.green) y n.green_whole is.green in
    let w : c ≤ (f - r) / 10 → is_control is.red.word ≡ true = ends_later fed.red r f c (is_past fed.red r t.red) z n.red_whole is.red in
    control_of (column_at fed p q r d e f c 0 is)
    (two_control (is_control is.blue.word) (is_control is.green.word) (is_control is.red.word)
    (elim (two_from ((d - p) / 10) ((e - q) / 10) ((f - r) / 10)) [
      | inl two ↦ inl (b two.0, g two.1)
      | inr other ↦ elim other [
        | inl two ↦ inr (inl (b two.0, w two.1))
        | inr two ↦ inr (inr (g two.0, w two.1))
      ]
    ]))

no_control_first : (fed : Fed) (p q r d e f : ℕ) → IsConfirmed fed p q r → p < d → q < e → r < f → IsBetween fed p q r d e f (columns_before p q r d e f)
    → (is : IsColumnAbout fed p q r d e f (columns_before p q r d e f) 1) → is_control_column (column_at fed p q r d e f (columns_before p q r d e f) 1 is) ≡ false
no_control_first fed p q r d e f own x y z n is =
    let t = own.first.triple in
    let c = columns_before p q r d e f in
    let b : (d - p) / 10 ≤ c → is_control is.blue.word ≡ false = ended fed.blue p d c (is_past fed.blue p t.blue) x n.blue_whole is.blue n.near.first_over in
    let g : (e - q) / 10 ≤ c → is_control is.green.word ≡ false = ended fed.green q e c (is_past fed.green q t.green) y n.green_whole is.green n.near.second_over in
    let w : (f - r) / 10 ≤ c → is_control is.red.word ≡ false = ended fed.red r f c (is_past fed.red r t.red) z n.red_whole is.red n.near.third_over in
    no_control_of (column_at fed p q r d e f c 1 is)
    (two_others (is_control is.blue.word) (is_control is.green.word) (is_control is.red.word)
    (elim (two_until ((d - p) / 10) ((e - q) / 10) ((f - r) / 10)) [
      | inl two ↦ inl (b two.0, g two.1)
      | inr other ↦ elim other [
        | inl two ↦ inr (inl (b two.0, w two.1))
        | inr two ↦ inr (inr (g two.0, w two.1))
      ]
    ]))

-- its edges are later ones at which a guard band is received whole
pub later_period : (fed : Fed) (p q r d e f : ℕ) → IsConfirmed fed p q r → IsWholePeriod fed d e f → p < d → q < e → r < f → IsLaterBand fed p q r d e f
later_period fed p q r d e f own period x y z = record { own = own; triple = period.triple; blue_later = x; green_later = y; red_later = z; band = period.band }

-- so the edges where it ends contend with the first alignment
pub contends : (fed : Fed) (p q r d e f : ℕ) → IsConfirmed fed p q r → IsWholePeriod fed d e f → p < d → q < e → r < f → (HaveSameSkew p q r d e f → ⊥)
    → IsContender fed p q r d e f
contends fed p q r d e f own period x y z other =
    let c = columns_before p q r d e f in
    let n = between fed p q r d e f own period.triple x y z in
    let zero_is = column_about fed p q r d e f c 0 own period x y z n (omega arith) in
    let one_is = column_about fed p q r d e f c 1 own period x y z n (omega arith) in
    let two_is = column_about fed p q r d e f c 2 own period x y z n (omega arith) in
    record {
      later = later_period fed p q r d e f own period x y z;
      other_skew = other;
      period = record {
        last = column_at fed p q r d e f c 0 zero_is;
        first = column_at fed p q r d e f c 1 one_is;
        second = column_at fed p q r d e f c 2 two_is;
        is_last = is_column fed p q r d e f c 0 (11 + c) zero_is (omega arith);
        is_first = is_column fed p q r d e f c 1 (11 + c + 1) one_is (omega arith);
        is_second = is_column fed p q r d e f c 2 (11 + c + 2) two_is (omega arith);
        control = control_last fed p q r d e f own x y z n zero_is;
        ends = no_control_first fed p q r d e f own x y z n one_is;
      };
    }

pub period_refutes : PeriodRefutes
period_refutes fed p q r d e f own period x y z other = by (opened is.period.first is.period.second) refl
  where
    c : ℕ
    c = columns_before p q r d e f

    is : IsContender fed p q r d e f
    is = contends fed p q r d e f own period x y z other

    moved : (i j : ℕ) (column : Column) → i ≡ j → aligned_column fed.blue fed.green fed.red p q r i ≡ Some column → aligned_column fed.blue fed.green fed.red p q r j ≡ Some column
    moved i j column at = subst (λ n. aligned_column fed.blue fed.green fed.red p q r n ≡ Some column) at

    opens : (k : Kind) → opened is.period.first is.period.second ≡ k → (k ≡ neither → ⊥) → IsRefuted fed p q r d e f ⊎ OpensAt fed p q r (12 + c)
    opens k kind apart = inr (record {
      first = is.period.first;
      second = is.period.second;
      is_first = moved (11 + c + 1) (12 + c) is.period.first (omega arith) is.period.is_first;
      is_second = moved (11 + c + 2) (12 + c + 1) is.period.second (omega arith) is.period.is_second;
      something = λ none. apart (sym kind ∙ none);
    })

    by : (k : Kind) → opened is.period.first is.period.second ≡ k → IsRefuted fed p q r d e f ⊎ OpensAt fed p q r (12 + c)
    by video kind = opens video kind (λ e. cc)
    by island kind = opens island kind (λ e. cc)
    by neither kind = inl (record { later = is.later; other_skew = is.other_skew; period = record { ending = is.period; nothing = kind } })
