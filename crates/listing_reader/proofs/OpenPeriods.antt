-- Periods of which the last one, a control period, is still open.
use Rattle.std.proofs.Common.{◌≡◌, ℕ, ◌+◌, ◌≤◌, ◌==◌, Bool, true, false, not, ◌&&◌, List, [], ◌∷◌, ◌++◌, length, refl, ap, arith, Option, Some}
use Rattle.std.specs.Prelude.{nat_le, nat_lt}
use Rattle.std.specs.List.{list_all}
use Rattle.island_pack.specs.Periods.{ControlRun, Period, control, video, island, values_of, has_preamble, ISLAND_PREAMBLE, period_columns, columns_of}
use Rattle.island_pack.specs.declared.ranges.TheConstants.{COLUMN_LIMIT}
use Rattle.source_end.specs.Kept.{capped}
use Rattle.source_end.specs.Refusals.{last_period, is_control_last, is_in_range, is_in_order, is_long_enough}
use Rattle.source_end.proofs.Turns.{columns_of-more, left as first_of, right as second_of}
use Rattle.listing_reader.specs.Causes.{announces_island}
use Rattle.listing_reader.specs.Drafts.{with_run}
use Rattle.listing_reader.specs.Reported.{with_open}
use Rattle.listing_reader.proofs.Feeds.{both}

pub last_of_more : (ps : List Period) (p : Period) → last_period (ps ++ p ∷ []) ≡ Some p
last_of_more [] p = refl
last_of_more (q ∷ []) p = refl
last_of_more (q ∷ (r ∷ ps)) p = last_of_more (r ∷ ps) p

-- a first run after no control period
first_run : (ps : List Period) (r : ControlRun) → is_control_last (last_period ps) ≡ false → with_run ps r ≡ ps ++ control (r ∷ []) ∷ []
first_run [] r turn = refl
first_run (control rs ∷ []) r turn = absurd cc
first_run (video bytes ∷ []) r turn = refl
first_run (island x ∷ []) r turn = refl
first_run (control rs ∷ (q ∷ ps)) r turn = ap (λ (xs : List Period). control rs ∷ xs) (first_run (q ∷ ps) r turn)
first_run (video bytes ∷ (q ∷ ps)) r turn = ap (λ (xs : List Period). video bytes ∷ xs) (first_run (q ∷ ps) r turn)
first_run (island x ∷ (q ∷ ps)) r turn = ap (λ (xs : List Period). island x ∷ xs) (first_run (q ∷ ps) r turn)

-- a run more in the control period at the end
next_run : (ps : List Period) (rs : List ControlRun) (r : ControlRun) → with_run (ps ++ control rs ∷ []) r ≡ ps ++ control (rs ++ r ∷ []) ∷ []
next_run [] rs r = refl
next_run (control qs ∷ []) rs r = refl
next_run (video bytes ∷ []) rs r = refl
next_run (island x ∷ []) rs r = refl
next_run (control qs ∷ (q ∷ ps)) rs r = ap (λ (xs : List Period). control qs ∷ xs) (next_run (q ∷ ps) rs r)
next_run (video bytes ∷ (q ∷ ps)) rs r = ap (λ (xs : List Period). video bytes ∷ xs) (next_run (q ∷ ps) rs r)
next_run (island x ∷ (q ∷ ps)) rs r = ap (λ (xs : List Period). island x ∷ xs) (next_run (q ∷ ps) rs r)

pub run_more : (ps : List Period) (rs : List ControlRun) (r : ControlRun) → is_control_last (last_period ps) ≡ false → with_run (with_open ps rs) r ≡ with_open ps (rs ++ r ∷ [])
run_more ps rs r h = grind (arith, first_run, next_run)

pub columns_open : (ps : List Period) (rs : List ControlRun) → columns_of (with_open ps rs) ≡ columns_of ps + length (values_of rs)
unfolding values_of period_columns
columns_open ps rs = grind (arith, columns_of-more)

-- Ranges.

passes_more : (p : ControlRun → Bool) (rs : List ControlRun) (r : ControlRun) → list_all p rs ≡ true → p r ≡ true → list_all p (rs ++ r ∷ []) ≡ true
passes_more p [] r h k = both (p r) true k refl
passes_more p (q ∷ rs) r h k = both (p q) (list_all p (rs ++ r ∷ [])) (first_of (p q) (list_all p rs) h) (passes_more p rs r (second_of (p q) (list_all p rs) h) k)

pub in_range_more : (rs : List ControlRun) (r : ControlRun) → is_in_range (control rs) ≡ true → (nat_lt r.value 64 && (nat_le 1 r.count && nat_le r.count COLUMN_LIMIT)) ≡ true → is_in_range (control (rs ++ r ∷ [])) ≡ true
unfolding is_in_range
in_range_more rs r h range = passes_more (λ q. nat_lt q.value 64 && (nat_le 1 q.count && nat_le q.count COLUMN_LIMIT)) rs r h range

pub none_in_range : (rs : List ControlRun) → rs ≡ [] → is_in_range (control rs) ≡ true
unfolding is_in_range
none_in_range rs h = grind arith

-- The end.

not_long : (before : Option Period) → is_control_last before ≡ false → is_long_enough before ≡ false
not_long before h = grind arith

pub control_last : (ps : List Period) (rs : List ControlRun) → is_control_last (last_period ps) ≡ false → not (length rs == 0) ≡ is_control_last (last_period (with_open ps rs))
control_last ps rs h = grind (arith, last_of_more)

pub long_enough : (ps : List Period) (rs : List ControlRun) (m : ℕ) → is_control_last (last_period ps) ≡ false → m ≡ capped (length (values_of rs)) → nat_le 12 m ≡ is_long_enough (last_period (with_open ps rs))
unfolding values_of
long_enough ps rs m h k = grind (arith, not_long, last_of_more)

pub announces : (ps : List Period) (rs : List ControlRun) → is_control_last (last_period ps) ≡ false → has_preamble ISLAND_PREAMBLE (values_of rs) ≡ announces_island (last_period (with_open ps rs))
unfolding values_of has_preamble
announces ps rs h = grind (arith, last_of_more)

-- The control period that is closed.

pub in_turn : (before : Option Period) (runs : List ControlRun) → is_control_last before ≡ false → is_in_order before (control runs) ≡ true
in_turn before runs h = grind arith

pub le_test : (a b : ℕ) → a ≤ b → nat_le a b ≡ true
le_test a b h = grind arith

pub le_from : (a b : ℕ) → nat_le a b ≡ true → a ≤ b
le_from a b h = grind arith
