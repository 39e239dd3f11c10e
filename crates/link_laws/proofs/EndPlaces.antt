-- Where the control periods of spelled columns end.
use Rattle.std.proofs.Common.{◌≡◌, ℕ, ◌+◌, ◌≤◌, List, [], ◌∷◌, ◌++◌, length, replicate, refl, arith, ◌⊎◌, length-append}
use Rattle.std.proofs.lemmas.List.{length-replicate}
use Rattle.link_laws.specs.Alternating.{IsMiddle, IsAlternating, last, more}
use Rattle.link_laws.proofs.Shapes.{middle_video, middle_island, EndsLater, where_ends, ends_alone, ends_late as alternating_late}
use Rattle.island_pack.specs.Periods.{ControlRun, Period, control, video, island, values_of, period_columns}
use Rattle.island_pack.specs.Kinds.{Kind, control_column, kinds_in, kinds_of, EndsAt}
use Rattle.link_laws.proofs.Conformed.{IsInner, Follows, ends, goes_on}

inner_middle : (vs : List ℕ) (x : Period) → IsInner vs x → IsMiddle (kinds_in x)
unfolding IsInner
inner_middle vs (control runs) h = absurd h
inner_middle vs (video bytes) h = middle_video bytes h.1.some
inner_middle vs (island x) h = middle_island x h.1.some

-- control columns of these values, and the periods after them
abbrev pub kinds_from : List ℕ → List Period → List Kind
kinds_from vs tail = replicate (length vs) control_column ++ kinds_of tail

follows_alternating : (vs : List ℕ) (tail : List Period) → Follows vs tail → IsAlternating (kinds_from vs tail)
unfolding kinds_of kinds_in
follows_alternating _ _ (ends vs h) = last (length vs) h.long
follows_alternating _ _ (goes_on vs x runs rest h v f) =
    more (length vs) (kinds_in x) (kinds_from (values_of runs) rest) h.long (inner_middle vs x v) (follows_alternating (values_of runs) rest f)

-- the end is that of the first control period, or of one after the next period
pub ends_first : (vs : List ℕ) (x : Period) (rest : List Period) (i : ℕ) → IsInner vs x → EndsAt (kinds_from vs (x ∷ rest)) i
    → (i + 1 ≡ length vs) ⊎ EndsLater (kinds_in x) (kinds_of rest) (length vs) i
unfolding kinds_of
ends_first vs x rest i v h = where_ends (length vs) (kinds_in x) (kinds_of rest) i (inner_middle vs x v) h

pub ends_only : (vs : List ℕ) (i : ℕ) → EndsAt (kinds_from vs []) i → i + 1 ≡ length vs
unfolding kinds_of
ends_only vs i h = ends_alone (length vs) i h

pub control_kinds : (runs : List ControlRun) (rest : List Period) → kinds_of (control runs ∷ rest) ≡ kinds_from (values_of runs) rest
unfolding kinds_of kinds_in
control_kinds runs rest = refl

pub ends_late : (vs : List ℕ) (tail : List Period) → Follows vs tail → (i : ℕ) → EndsAt (kinds_from vs tail) i → 11 ≤ i
ends_late vs tail f i e = alternating_late (kinds_from vs tail) (follows_alternating vs tail f) i e

pub kinds_size : (x : Period) → length (kinds_in x) ≡ period_columns x
unfolding kinds_in period_columns
kinds_size x = grind (arith, length-replicate, length-append)
