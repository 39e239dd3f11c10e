-- What is reported between two changes.
use Rattle.std.proofs.Common.{arith, ◌≡◌, List, [], ◌∷◌, ◌++◌, Bool, true, false, ◌||◌, if◌then◌else◌, refl, sym, ap, subst, ◌∙◌, reverse}
use Rattle.std.proofs.lemmas.Bool.{or_right}
use Rattle.std.proofs.lemmas.List.{reverse-append, append_assoc, reverse-reverse}
use Rattle.frame_build.specs.FrameEvent.{FrameEvent}
use Rattle.frame_build.specs.Change.{is_change, changes_at, has_change, since_change, IsBetweenChanges}

pub reverse-around : (before : List FrameEvent) (event : FrameEvent) (after : List FrameEvent) → reverse (before ++ event ∷ after) ≡ reverse after ++ event ∷ reverse before
reverse-around before event after =
    reverse-append before (event ∷ after)
    ∙ ap (λ (xs : List FrameEvent). xs ++ reverse before) (reverse-append (event ∷ []) after)
    ∙ append_assoc (reverse after) (event ∷ []) (reverse before)

-- no change is heard at any event of `later`, reported after `past`; both have the newest first
abbrev pub IsUnchanged : List FrameEvent → List FrameEvent → Type 0
IsUnchanged [] past = Unit {0}
IsUnchanged (event ∷ later) past = (is_change event (later ++ past) ≡ false) × IsUnchanged later past

pub since_change-unchanged : (later past : List FrameEvent) (first : FrameEvent) → is_change first past ≡ true → IsUnchanged later (first ∷ past) → since_change (later ++ first ∷ past) ≡ later
since_change-unchanged [] past first opens unchanged = ap (λ (b : Bool). if b then [] else first ∷ since_change past) opens
since_change-unchanged (event ∷ later) past first opens unchanged = grind (arith, since_change-unchanged later past first opens)

pub has_change-after : (later past : List FrameEvent) (first : FrameEvent) → is_change first past ≡ true → has_change (later ++ first ∷ past) ≡ true
has_change-after [] past first opens = ap (λ (b : Bool). b || has_change past) opens
has_change-after (event ∷ later) past first opens = or_right _ _ (has_change-after later past first opens)

-- nothing changes, from each event
IsUnchanged-each : (later past : List FrameEvent) → ((newer : List FrameEvent) (event : FrameEvent) (older : List FrameEvent) → later ≡ newer ++ event ∷ older → is_change event (older ++ past) ≡ false) → IsUnchanged later past
IsUnchanged-each [] past each = tt
IsUnchanged-each (event ∷ later) past each =
    (each [] event later refl, IsUnchanged-each later past (λ newer other older is. each (event ∷ newer) other older (ap (λ (xs : List FrameEvent). event ∷ xs) is)))

-- and to each event
IsUnchanged-at : (newer : List FrameEvent) (event : FrameEvent) (older past : List FrameEvent) → IsUnchanged (newer ++ event ∷ older) past → is_change event (older ++ past) ≡ false
IsUnchanged-at [] event older past unchanged = unchanged.0
IsUnchanged-at (first ∷ newer) event older past unchanged = IsUnchanged-at newer event older past unchanged.1

-- the last change, and what was reported since
pub record LastChange (past : List FrameEvent) : Type 0 where
  pub later : List FrameEvent
  pub first : FrameEvent
  pub older : List FrameEvent
  pub parts : past ≡ later ++ first ∷ older
  pub opens : is_change first older ≡ true
  pub unchanged : IsUnchanged later (first ∷ older)

before_change : (event : FrameEvent) (past : List FrameEvent) → is_change event past ≡ false → LastChange past → LastChange (event ∷ past)
before_change event past same was =
    record {
      later = event ∷ was.later;
      first = was.first;
      older = was.older;
      parts = ap (λ (xs : List FrameEvent). event ∷ xs) was.parts;
      opens = was.opens;
      unchanged = (subst (λ (xs : List FrameEvent). is_change event xs ≡ false) was.parts same, was.unchanged);
    }

pub last_change : (past : List FrameEvent) → has_change past ≡ true → LastChange past
last_change [] has = cc
last_change (event ∷ past) has = step (is_change event past) refl has (λ h. last_change past h)
  where
    step : (b : Bool) → is_change event past ≡ b → (b || has_change past) ≡ true → (has_change past ≡ true → LastChange past) → LastChange (event ∷ past)
    step true opens has before = record { later = []; first = event; older = past; parts = refl; opens = opens; unchanged = tt }
    step false same has before = before_change event past same (before has)

-- what is reported between two changes changes nothing
pub unchanged-between : (before : List FrameEvent) (first : FrameEvent) (between : List FrameEvent) (last : FrameEvent) → IsBetweenChanges before first between last → IsUnchanged (reverse between) (first ∷ reverse before)
unchanged-between before first between last is =
    IsUnchanged-each (reverse between) (first ∷ reverse before)
    (λ newer event older parts.
    subst (λ (xs : List FrameEvent). is_change event xs ≡ false)
    (reverse-around before first (reverse older) ∙ ap (λ (xs : List FrameEvent). xs ++ first ∷ reverse before) (reverse-reverse older))
    (is.unchanged (reverse older) event (reverse newer)
    (sym (reverse-reverse between) ∙ ap (λ (xs : List FrameEvent). reverse xs) parts ∙ reverse-around newer event older)))

-- between the change at `last` and the last one before it nothing changes
pub between-last : (reported : List FrameEvent) (last : FrameEvent) (was : LastChange (reverse reported)) → changes_at reported last ≡ true → (reported ≡ reverse was.older ++ was.first ∷ reverse was.later) × IsBetweenChanges (reverse was.older) was.first (reverse was.later) last
between-last reported last was closes =
    let parts : reported ≡ reverse was.older ++ was.first ∷ reverse was.later =
    sym (reverse-reverse reported) ∙ ap (λ (xs : List FrameEvent). reverse xs) was.parts ∙ reverse-around was.later was.first was.older in (
      parts,
      record {
        opens = subst (λ (xs : List FrameEvent). is_change was.first xs ≡ true) (sym (reverse-reverse was.older)) was.opens;
        unchanged = grind (arith, reverse-reverse, reverse-around, IsUnchanged-at);
        closes = subst (λ (xs : List FrameEvent). changes_at xs last ≡ true) parts closes;
      },
    )
