-- The premises can be met.
use Rattle.std.proofs.Common.{◌≡◌, ℕ, ◌+◌, ◌-◌, ◌/◌, ◌<◌, ◌≤◌, ◌⊎◌, Bool, true, false, not, ◌||◌, ◌==◌, [], ◌∷◌, get_or, refl, ap, ◌∙◌, sym, arith, inl, inr, eqb-true}
use Rattle.std.proofs.lemmas.Bool.{cases_lt}
use Rattle.std.proofs.lemmas.List.{length-map}
use Rattle.tmds_word.specs.Column.{blues, greens, reds}
use Rattle.tmds_word.specs.Taps.{part_of}
use Rattle.tmds_word.proofs.Below.{passes_below, passes_at}
use Rattle.terc4.specs.Tables.{video_guard, island_guard, control_words, terc_words, is_in, is_control}
use Rattle.island_pack.specs.Kinds.{kinds_in, kinds_of, kind_at}
use Rattle.island_pack.specs.Periods.{values_of}
use Rattle.link_laws.specs.Laws.{EndsControl}
use Rattle.link_laws.proofs.Computed.{or_second}
use Rattle.link_laws.proofs.Aligning.{first_until}
use Rattle.link_laws.proofs.Example.{skews, counts, tapped, aligns}
use Rattle.link_laws.proofs.Freely.{free_received}
use Rattle.link_laws.proofs.Stream.{stream, sent, damaged, long_damaged, received_damaged, damaged_spared, damaged_example}
use Rattle.link_sink.specs.Sinks.{Fed}
use Rattle.track_laws.specs.Laws.{Received}
use Rattle.track_laws.proofs.SlipExample as slips
use Rattle.relock_sink.specs.Refuting.{IsLastUnrefuted}
use Rattle.relock_laws.specs.RefutingLaws.{HasUnrefutedExample, HasSlipFirstExample}
use Rattle.relock_laws.proofs.Examples.{small}
use Rattle.relock_laws.proofs.Last.{until_is_last}
use Rattle.relock_laws.proofs.Refuting.{between}
use Rattle.relock_laws.proofs.SlipUnrefuted.{slip_ends_alone}
use Rattle.relock_laws.proofs.Spared.{RunEnds, run_ends}
use Rattle.relock_laws.proofs.Standing.{until_stands}
use Rattle.relock_laws.proofs.Undoubted.{own_first}
use Rattle.relock_laws.proofs.UndoubtedExample.{is_control_kind, no_control}
use Rattle.relock_laws.proofs.Unrefuted.{not_let_go, last_unrefuted}

abbrev x : Fed
x = record { blue = part_of (blues damaged) 7 863; green = part_of (greens damaged) 77 793; red = part_of (reds damaged) 42 828 }

-- Control periods end with three columns of the stream, the last of which no other columns follow.

abbrev ends_there : ℕ → Bool
ends_there n = not (is_control_kind (kind_at (kinds_of stream) n)) || (is_control_kind (kind_at (kinds_of stream) (n + 1)) || ((n == 23) || (n == 38)))

ends_test : passes_below 86 ends_there ≡ true
unfolding passes_below stream kinds_of kinds_in values_of
ends_test = refl

either_of : (a b : Bool) → (a || b) ≡ true → (a ≡ true) ⊎ (b ≡ true)
either_of true b h = inl refl
either_of false b h = inr h

two_ends : (j : ℕ) → j < 86 → EndsControl stream j → (j ≡ 23) ⊎ (j ≡ 38)
two_ends j lt e =
    let here : is_control_kind (kind_at (kinds_of stream) j) ≡ true = ap is_control_kind e.here in
    let then : is_control_kind (kind_at (kinds_of stream) (j + 1)) ≡ false = no_control (kind_at (kinds_of stream) (j + 1)) e.then in
    elim (either_of _ _ (or_second _ _ (or_second _ _ (passes_at 86 ends_there j ends_test lt) (ap not here)) then)) [
      | inl first ↦ inl (eqb-true j 23 first)
      | inr second ↦ inr (eqb-true j 38 second)
    ]

-- After the first the red lane has no twelve control characters in a row.

abbrev reds_other : ℕ → Bool
reds_other n = not (is_control (get_or (reds damaged) n 0))

others_test : (reds_other 24 ≡ true) × (reds_other 30 ≡ true) × (reds_other 41 ≡ true) × (reds_other 52 ≡ true) × (reds_other 63 ≡ true) × (reds_other 74 ≡ true)
unfolding damaged values_of is_control is_in control_words terc_words video_guard island_guard
others_test = (refl, refl, refl, refl, refl, refl)

no_run_over : (m n : ℕ) → RunEnds (reds damaged) m → reds_other n ≡ true → n ≤ m → m ≤ n + 11 → ⊥
no_run_over m n run other low high =
    let far = run.far in
    let at : m - 11 + (n - (m - 11)) ≡ n = omega arith in
    let control : is_control (get_or (reds damaged) n 0) ≡ true = ap (λ k. is_control (get_or (reds damaged) k 0)) (sym at) ∙ run.controls (n - (m - 11)) (omega arith) in
    clash_not (is_control (get_or (reds damaged) n 0)) control other
  where
    clash_not : (b : Bool) → b ≡ true → not b ≡ true → ⊥
    clash_not true is none = cc
    clash_not false is none = cc

no_run : (m : ℕ) → 24 ≤ m → RunEnds (reds damaged) m → ⊥
no_run m late run =
    let within = run.within in
    let long = long_damaged in
    let size = length-map damaged (λ c. c.red) in
    elim (cases_lt m 36) [
      | inl a ↦ no_run_over m 24 run others_test.0 (omega arith) (omega arith)
      | inr past ↦ elim (cases_lt m 42) [
        | inl b ↦ no_run_over m 30 run others_test.1 (omega arith) (omega arith)
        | inr past_b ↦ elim (cases_lt m 53) [
          | inl c ↦ no_run_over m 41 run others_test.2 (omega arith) (omega arith)
          | inr past_c ↦ elim (cases_lt m 64) [
            | inl d ↦ no_run_over m 52 run others_test.3 (omega arith) (omega arith)
            | inr past_d ↦ elim (cases_lt m 75) [
              | inl e ↦ no_run_over m 63 run others_test.4 (omega arith) (omega arith)
              | inr past_e ↦ no_run_over m 74 run others_test.5 (omega arith) (omega arith)
            ]
          ]
        ]
      ]
    ]

unrefuted : IsLastUnrefuted x
unrefuted =
    let free = free_received stream sent damaged received_damaged in
    let reception : Received stream sent damaged 7 skews counts x = record { reception = received_damaged; tapped = tapped damaged long_damaged } in
    let until = aligns damaged damaged_spared in
    last_unrefuted x (until_is_last stream sent damaged 7 skews counts x reception small 24 until) (λ p q r d e f.
    not_let_go x p q r d e f (until_stands stream sent damaged 7 skews counts x reception small 24 until p q r d e f) (λ is.
    let now = is.contender.later in
    let own = own_first stream sent damaged free 7 skews counts x reception.tapped small 24 until p q r now.own.first in
    let first = two_ends (own.a + 11) (omega (arith, own.upto)) own.ends in
    let near = between x p q r d e f now.own now.triple now.blue_later now.green_later now.red_later in
    let past = now.own.first.triple.red.past in
    let later = now.red_later in
    let whole = near.red_whole in
    no_run (own.a + (11 + (f - r) / 10)) (late own.a own.upto first (f - r) (omega arith))
    (run_ends (reds damaged) x.red r 0 own.a f (own.a + (11 + (f - r) / 10)) own.are.red now.triple.red (omega arith) whole (omega arith) (omega arith))))
  where
    late : (a : ℕ) → a + 12 ≤ 24 → (a + 11 ≡ 23) ⊎ (a + 11 ≡ 38) → (n : ℕ) → 10 ≤ n → 24 ≤ a + (11 + n / 10)
    late a upto (inl first) n more = omega arith
    late a upto (inr second) n more = absurd (omega arith)

pub unrefuted_example : HasUnrefutedExample
unrefuted_example =
    let until = aligns damaged damaged_spared in
    let first = first_until stream sent damaged (free_received stream sent damaged received_damaged) 7 skews counts _ _ _ (tapped damaged long_damaged) small 24 until in
    (stream, sent, damaged, counts, 24, x, record { example = damaged_example counts until; aligned = (first.0, first.1, first.2, first.3); last = unrefuted })

pub slip_first_example : HasSlipFirstExample
slip_first_example =
    let h = slips.example in
    let is = h.9 in
    let ends = slip_ends_alone h.0 h.1 h.2 7 (0 ∷ 70 ∷ 35 ∷ []) h.3 h.4 h.5 0 400 3 h.6 h.7 is.reception is.slips is.in_line in
    let end = ends.ends 0 h.8 is.end in
    (h.0, h.1, h.2, h.3, h.4, h.5, h.6, h.7, h.8, is, end, ends.then 0 h.8 end)
