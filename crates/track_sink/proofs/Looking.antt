-- How far a lane was looked through.
use Rattle.tmds_word.specs.Bits.{bytes_bits}
use Rattle.std.proofs.Common.{◌≡◌, ℕ, ◌+◌, ◌-◌, ◌<◌, ◌≤◌, zero, suc, max, Bool, List, length, drop, min, Option, Some, None, ◌∙◌, sym, subst, arith, inl, inr, length-drop}
use Rattle.std.specs.Prelude.{MatchOption, IfSome}
use Rattle.std.proofs.lemmas.Bool.{cases_lt}
use Rattle.std.proofs.lemmas.List.{take_all}
use Rattle.lane_align.specs.Lanes.{IsRun}
use Rattle.lane_align.proofs.Controls.{run_within}
use Rattle.lane_track.specs.Strays.{IsStray, IsFirstStray}
use Rattle.lane_track.specs.Scouts.{HoldsBits, HasSought}
use Rattle.link_sink.specs.Sinks.{Fed}
use Rattle.track_sink.specs.Epochs.{lane_of, IsEnd}
use Rattle.track_sink.specs.Lents.{IsLent}
use Rattle.track_sink.specs.Seeking.{AreSought, StrayAt, last_stray}
use Rattle.track_sink.specs.declared.strays.Strays.{Strays}
use Rattle.track_sink.specs.declared.watch.LentBits.{LentBits}

-- past the last place that is decided there is nothing to find
no_late_run : (xs : List Bool) (s p : ℕ) → length xs ≤ s + 119 → s ≤ p → IsRun xs p → ⊥
no_late_run xs s p long after run = let within = run_within xs p run in omega arith

pub sought_past : (xs : List Bool) (s t : ℕ) (lock : Option ℕ) → length xs ≤ s + 119 → s ≤ t → HasSought xs s lock → HasSought xs t lock
sought_past xs s t None long order was =
    let no_run : (p : ℕ) → p < t → IsRun xs p → ⊥ = λ p lt run. elim (cases_lt p s) [
      | inl before ↦ was.lock p before run
      | inr late ↦ no_late_run xs s p long late run
    ] in
    record { lock = no_run; none = λ p lt stray. no_run p lt stray.run }
sought_past xs s t (Some l) long order was =
    let seen = was.lock.1 in
    record {
      lock = (was.lock.0, omega arith);
      none = λ p lt stray. elim (cases_lt p s) [
        | inl before ↦ was.none p before stray
        | inr late ↦ no_late_run xs s p long late stray.run
      ];
    }

-- a lane of which all bits from a place on are lent
pub holds_rest : (lane : LentBits) (xs : List Bool) (base : ℕ) → IsLent lane base xs → 0 < lane.count
    → HoldsBits (drop lane.skip (bytes_bits lane.bytes.now)) xs base lane.count
holds_rest lane xs base lent some =
    let many = lent.many in
    let long = length-drop base xs in
    record { within = omega arith; same = lent.bits ∙ sym (take_all lane.count (drop base xs) (omega arith)) }

-- nothing is left to look at
pub sought_none : (xs : List Bool) (count base from until last : ℕ) (lock : Option ℕ) → count ≡ length (drop base xs) → base ≤ from → from ≤ until → last ≡ min (count - 119) (until - base) → last ≤ from - base
    → HasSought xs from lock → HasSought xs until lock
sought_none xs count base from until last lock is after order e none was =
    let long : count ≡ length xs - base = is ∙ length-drop base xs in
    elim (cases_lt from until) [
      | inl more ↦ sought_past xs from until lock (omega arith) order was
      | inr all ↦ let same : from ≡ until = omega arith in subst (λ n. HasSought xs n lock) same was
    ]

-- the places that were looked at are all that are decided
pub sought_all : (xs : List Bool) (count base until last : ℕ) (lock : Option ℕ) → count ≡ length (drop base xs) → base ≤ until → 0 < last → last ≡ min (count - 119) (until - base)
    → HasSought xs (base + last) lock → HasSought xs until lock
sought_all xs count base until last lock is after some e was =
    let long : count ≡ length xs - base = is ∙ length-drop base xs in
    elim (cases_lt (base + last) until) [
      | inl more ↦ sought_past xs (base + last) until lock (omega arith) (omega arith) was
      | inr all ↦ let same : base + last ≡ until = omega arith in subst (λ n. HasSought xs n lock) same was
    ]

-- The least stray of three lanes.

-- a lane has none before a place
abbrev NoneBefore : List Bool → ℕ → Type 0
NoneBefore xs n = (p : ℕ) → p < n → IsStray xs p → ⊥

-- what a scout found of a lane
abbrev IsFound : List Bool → ℕ → Option ℕ → Option ℕ → Type 0
IsFound xs until lock found = MatchOption found (HasSought xs until lock) (λ p. IsFirstStray xs p)

-- where the search of the next lane ends
abbrev IsEndOf : ℕ → ℕ → Option ℕ → ℕ → Type 0
IsEndOf from until found end = MatchOption found (end ≡ until) (λ p. end ≡ max p from)

-- none of the places before that end is one
none_before : (xs : List Bool) (from until end : ℕ) (was lock found : Option ℕ) → HasSought xs from was → IsFound xs until lock found → IsEndOf from until found end → NoneBefore xs end
none_before xs from until end was lock None before sought e = λ p lt stray. sought.none p (omega (arith, e)) stray
none_before xs from until end was lock (Some q) before first e = λ p lt stray. elim (cases_lt p q) [
  | inl less ↦ first.least p less stray
  | inr more ↦ before.none p (omega (arith, e)) stray
]

-- a stray that was found lies at that end
found_at : (xs : List Bool) (from until end p : ℕ) (was : Option ℕ) → HasSought xs from was → IsFirstStray xs p → IsEndOf from until (Some p) end → end ≡ p
found_at xs from until end p was before first e = elim (cases_lt p from) [
  | inl less ↦ absurd (before.none p less first.stray)
  | inr more ↦ omega (arith, e)
]

-- it is an end, where the lanes before have none up to it, and those after none before it
is_end : (fed : Fed) (lane place : ℕ) → lane < 3 → IsStray (lane_of fed lane) place → ((l : ℕ) → l < lane → NoneBefore (lane_of fed l) (place + 1))
    → ((l : ℕ) → lane ≤ l → l < 3 → NoneBefore (lane_of fed l) place) → IsEnd fed lane place
is_end fed lane place few stray before after = record {
  within = few;
  stray = stray;
  least = λ l p lt found. elim (cases_lt place p) [
    | inl later ↦ inl later
    | inr not_later ↦ elim (cases_lt l lane) [
      | inl lesser ↦ absurd (before l lesser p (omega arith) found)
      | inr greater ↦ elim (cases_lt p place) [
        | inl less ↦ absurd (after l greater lt p less found)
        | inr same ↦ inr (omega arith, greater)
      ]
    ]
  ];
}

end_from : (from until end : ℕ) (found : Option ℕ) → from ≤ until → IsEndOf from until found end → from ≤ end
end_from from until end None order e = omega (arith, order, e)
end_from from until end (Some p) order e = omega (arith, e)

end_within : (from until end : ℕ) (found : Option ℕ) → from ≤ until → IfSome found (λ p. p < until) → IsEndOf from until found end → end ≤ until
end_within from until end None order within e = omega (arith, e)
end_within from until end (Some p) order within e = omega (arith, order, within, e)

-- of each lane the places before an end are looked through, and the end of the next lane is the place that was found
module _ (fed : Fed) (w : Strays) (from until one two : ℕ) (t u v : Option ℕ)
    (was_blue : HasSought fed.blue from t) (was_green : HasSought fed.green from u) (was_red : HasSought fed.red from v) (order : from ≤ until) where
  pub first_end : (a b c : Option ℕ)
      → IsFound fed.blue until w.blue.lock a → IfSome a (λ p. p < until) → IsEndOf from until a one
      → IsFound fed.green one w.green.lock b → IfSome b (λ p. p < one) → IsEndOf from one b two
      → IsFound fed.red two w.red.lock c → IfSome c (λ p. p < two)
      → MatchOption (last_stray a b c) (AreSought w until fed) (λ end. StrayAt fed end)
  first_end a b (Some p) fa wa ea fb wb eb fc wc = is_end fed 2 p (omega arith) fc.stray before after
    where
      less : two ≤ one
      less = end_within from one two b (end_from from until one a order ea) wb eb

      before : (l : ℕ) → l < 2 → NoneBefore (lane_of fed l) (p + 1)
      before zero lt q early = none_before fed.blue from until one t w.blue.lock a was_blue fa ea q (omega (arith, less, wc))
      before (suc zero) lt q early = none_before fed.green from one two u w.green.lock b was_green fb eb q (omega (arith, wc))
      before (suc (suc l)) lt q early = absurd (omega arith)

      after : (l : ℕ) → 2 ≤ l → l < 3 → NoneBefore (lane_of fed l) p
      after zero le lt q early = absurd (omega arith)
      after (suc zero) le lt q early = absurd (omega arith)
      after (suc (suc l)) le lt q early = fc.least q early
  first_end a (Some p) None fa wa ea fb wb eb fc wc = is_end fed 1 p (omega arith) fb.stray before after
    where
      here : two ≡ p
      here = found_at fed.green from one two p u was_green fb eb

      before : (l : ℕ) → l < 1 → NoneBefore (lane_of fed l) (p + 1)
      before zero lt q early = none_before fed.blue from until one t w.blue.lock a was_blue fa ea q (omega (arith, wb))
      before (suc l) lt q early = absurd (omega arith)

      after : (l : ℕ) → 1 ≤ l → l < 3 → NoneBefore (lane_of fed l) p
      after zero le lt q early = absurd (omega arith)
      after (suc zero) le lt q early = fb.least q early
      after (suc (suc l)) le lt q early = fc.none q (omega (arith, here))
  first_end (Some p) None None fa wa ea fb wb eb fc wc = is_end fed 0 p (omega arith) fa.stray before after
    where
      here : one ≡ p
      here = found_at fed.blue from until one p t was_blue fa ea

      before : (l : ℕ) → l < 0 → NoneBefore (lane_of fed l) (p + 1)
      before l lt = absurd (omega arith)

      after : (l : ℕ) → 0 ≤ l → l < 3 → NoneBefore (lane_of fed l) p
      after zero le lt q early = fa.least q early
      after (suc zero) le lt q early = fb.none q (omega (arith, here))
      after (suc (suc l)) le lt q early = fc.none q (omega (arith, here, eb))
  first_end None None None fa wa ea fb wb eb fc wc =
      let P : ℕ → Type 0 = λ n. HasSought fed.green n w.green.lock in
      let Q : ℕ → Type 0 = λ n. HasSought fed.red n w.red.lock in
      record { blue = fa; green = subst P ea fb; red = subst Q (eb ∙ ea) fc }
