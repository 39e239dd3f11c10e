-- Lists in which control periods take turns with periods that fit them, whatever fits: they grow by one, and end.
use Rattle.std.proofs.Common.{◌≡◌, ℕ, Bool, true, false, ◌&&◌, List, [], ◌∷◌, ◌++◌, sym, ◌∙◌}
use Rattle.std.specs.Prelude.{Option, Some, None}
use Rattle.std.specs.List.{list_all}
use Rattle.island_pack.specs.Periods.{ControlRun, DataIsland, Period, control, video, island}
use Rattle.island_pack.specs.Conforming.{is_run, is_control_period}
use Rattle.source_end.specs.Refusals.{last_period, is_long_enough}
use Rattle.source_end.proofs.Turns.{left, right, both, period_is}

-- such lists, of which the last control period may still be short or not: which periods fit a control period before them
pub record Alternates (fits : List ControlRun → Period → Bool) (so_far conforms : List Period → Bool) : Type 0 where
  pub no_control : (runs more : List ControlRun) → fits runs (control more) ≡ false
  pub nothing : so_far [] ≡ true
  pub first : (runs : List ControlRun) → so_far (control runs ∷ []) ≡ list_all is_run runs
  pub next : (runs : List ControlRun) (p : Period) (ps : List Period) → so_far (control runs ∷ (p ∷ ps)) ≡ (is_control_period runs && (fits runs p && so_far ps))
  pub no_video : (bytes : List ℕ) (ps : List Period) → so_far (video bytes ∷ ps) ≡ false
  pub no_island : (x : DataIsland) (ps : List Period) → so_far (island x ∷ ps) ≡ false
  pub last : (runs : List ControlRun) → conforms (control runs ∷ []) ≡ is_control_period runs
  pub then : (runs : List ControlRun) (p : Period) (ps : List Period) → conforms (control runs ∷ (p ∷ ps)) ≡ (is_control_period runs && (fits runs p && conforms ps))

-- a period that may follow: a control period in its range, or one that fits the control period before it, which is long enough
abbrev AreRuns : Period → Type 0
AreRuns (control runs) = list_all is_run runs ≡ true
AreRuns (video bytes) = ⊥
AreRuns (island x) = ⊥

abbrev pub GoesOn : (List ControlRun → Period → Bool) → Option Period → Period → Type 0
GoesOn fits None p = AreRuns p
GoesOn fits (Some (control runs)) p = (is_long_enough (Some (control runs)) ≡ true) × (fits runs p ≡ true)
GoesOn fits (Some (video bytes)) p = AreRuns p
GoesOn fits (Some (island x)) p = AreRuns p

takes_turns : {fits : List ControlRun → Period → Bool} {so_far conforms : List Period → Bool} → Alternates fits so_far conforms
    → (runs more : List ControlRun) → so_far (control runs ∷ (control more ∷ [])) ≡ true → ⊥
takes_turns {fits} {so_far} a runs more h =
    let fit = right (is_control_period runs) (fits runs (control more) && so_far []) (sym (a.next runs (control more) []) ∙ h) in
    cc (left (fits runs (control more)) (so_far []) fit, a.no_control runs more)

pub grown : {fits : List ControlRun → Period → Bool} {so_far conforms : List Period → Bool} → Alternates fits so_far conforms
    → (ps : List Period) (p : Period) → so_far ps ≡ true → GoesOn fits (last_period ps) p → so_far (ps ++ p ∷ []) ≡ true
grown a [] (control runs) h g = a.first runs ∙ g
grown a [] (video bytes) h g = absurd g
grown a [] (island x) h g = absurd g
grown a (video bytes ∷ ps) p h g = absurd (cc (h, a.no_video bytes ps))
grown a (island x ∷ ps) p h g = absurd (cc (h, a.no_island x ps))
grown {fits} {so_far} a (control runs ∷ []) p h g =
    a.next runs p [] ∙ both (is_control_period runs) _ (period_is runs (sym (a.first runs) ∙ h) g.0) (both (fits runs p) (so_far []) g.1 a.nothing)
grown a (control runs ∷ (control more ∷ [])) p h g = absurd (takes_turns a runs more h)
grown {fits} {so_far} a (control runs ∷ (video bytes ∷ [])) p h g =
    let is = sym (a.next runs (video bytes) []) ∙ h in
    a.next runs (video bytes) (p ∷ [])
    ∙ both (is_control_period runs) _ (left _ _ is) (both (fits runs (video bytes)) (so_far (p ∷ [])) (left _ _ (right (is_control_period runs) _ is)) (grown a [] p a.nothing g))
grown {fits} {so_far} a (control runs ∷ (island x ∷ [])) p h g =
    let is = sym (a.next runs (island x) []) ∙ h in
    a.next runs (island x) (p ∷ [])
    ∙ both (is_control_period runs) _ (left _ _ is) (both (fits runs (island x)) (so_far (p ∷ [])) (left _ _ (right (is_control_period runs) _ is)) (grown a [] p a.nothing g))
grown {fits} {so_far} a (control runs ∷ (q ∷ (r ∷ ps))) p h g =
    let is = sym (a.next runs q (r ∷ ps)) ∙ h in
    let fit = right (is_control_period runs) _ is in
    a.next runs q ((r ∷ ps) ++ p ∷ [])
    ∙ both (is_control_period runs) _ (left _ _ is) (both (fits runs q) (so_far ((r ∷ ps) ++ p ∷ [])) (left _ _ fit) (grown a (r ∷ ps) p (right (fits runs q) _ fit) g))

pub ended : {fits : List ControlRun → Period → Bool} {so_far conforms : List Period → Bool} → Alternates fits so_far conforms
    → (ps : List Period) → so_far ps ≡ true → is_long_enough (last_period ps) ≡ true → conforms ps ≡ true
ended a [] h k = absurd (cc k)
ended a (video bytes ∷ ps) h k = absurd (cc (h, a.no_video bytes ps))
ended a (island x ∷ ps) h k = absurd (cc (h, a.no_island x ps))
ended a (control runs ∷ []) h k = a.last runs ∙ period_is runs (sym (a.first runs) ∙ h) k
ended a (control runs ∷ (control more ∷ [])) h k = absurd (takes_turns a runs more h)
ended a (control runs ∷ (video bytes ∷ [])) h k = absurd (cc k)
ended a (control runs ∷ (island x ∷ [])) h k = absurd (cc k)
ended {fits} {so_far} {conforms} a (control runs ∷ (q ∷ (r ∷ ps))) h k =
    let is = sym (a.next runs q (r ∷ ps)) ∙ h in
    let fit = right (is_control_period runs) _ is in
    a.then runs q (r ∷ ps)
    ∙ both (is_control_period runs) _ (left _ _ is) (both (fits runs q) (conforms (r ∷ ps)) (left _ _ fit) (ended a (r ∷ ps) (right (fits runs q) _ fit) k))
