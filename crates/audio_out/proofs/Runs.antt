-- The last run of samples, of which the first alone starts a block, with one sample more.
use Rattle.std.proofs.Common.{◌≡◌, ℕ, ◌+◌, ◌<◌, ◌≤◌, Bool, true, false, ◌||◌, ◌&&◌, ◌==◌, cond, List, [], ◌∷◌, ◌++◌, length, map, refl, ap, ap₂, ◌∙◌, arith, length-append, length-take-le, take, ◌⊎◌, inl, inr}
use Rattle.std.proofs.lemmas.Bool.{cases_lt, lt-leb, le-leb, ne_eqb}
use Rattle.std.specs.Prelude.{not, Option, Some, None, is_some, if◌then◌else◌}
use Rattle.tmds_word.specs.Bits.{bytes_of, number}
use Rattle.std.proofs.lemmas.List.{length-map, map-append}
use Rattle.std.proofs.lemmas.List.Folds.{list_any-append}
use Rattle.audio_packets.specs.declared.sample.Sample.{Sample}
use Rattle.audio_out.specs.declared.blocks.BlockStatus.{BlockStatus}
use Rattle.audio_out.specs.Blocks.{OpenBlock, IsBlocksAfter, last_run, open_run, block_of, status_of, full_status, left_status, right_status}

abbrev starts : Sample → Bool
starts s = s.start

-- a run with one sample more, where there is one
unfoldable grown : List Sample → Sample → List Sample
grown [] s = []
grown (r ∷ run) s = r ∷ (run ++ s ∷ [])

or_false : (b : Bool) → (b || false) ≡ b
or_false b = grind arith

later_found : (a b : Bool) (x y : List Sample) → cond (a && not (b || true)) x y ≡ y
later_found a b x y = grind arith

-- where a later sample starts a block, the run begins there
later_starts : (past : List Sample) (s : Sample) → s.start ≡ true → last_run (past ++ s ∷ []) ≡ s ∷ []
unfolding last_run
later_starts [] s h = ap (λ b. cond (b && true) (s ∷ []) []) h
later_starts (p ∷ past) s h = grind (arith, list_any-append, later_found, later_starts past s h)

-- else the run goes on, where there is one
goes_on : (past : List Sample) (s : Sample) → s.start ≡ false → last_run (past ++ s ∷ []) ≡ grown (last_run past) s
unfolding last_run grown
goes_on [] s h = ap (λ b. cond (b && true) (s ∷ []) []) h
goes_on (p ∷ past) s h = grind (arith, list_any-append, or_false, goes_on past s h)

grown_is : (run : List Sample) (s : Sample) → 0 < length run → grown run s ≡ run ++ s ∷ []
unfolding grown
grown_is run s h = grind arith

length-grown : (run : List Sample) (s : Sample) → 0 < length run → length (grown run s) ≡ length run + 1
length-grown run s lt = ap length (grown_is run s lt) ∙ length-append run (s ∷ [])

none_grown : (s : Sample) → grown [] s ≡ []
unfolding grown
none_grown s = refl

empty : (run : List Sample) → length run ≡ 0 → run ≡ []
empty [] h = refl
empty (r ∷ run) h = absurd (omega arith)

abbrev IsOpen : List Sample → List Sample → Type 0
IsOpen kept run = ((kept ≡ run) × (length run ≤ 192)) ⊎ ((kept ≡ []) × (192 < length run))

open_cases : (samples : List Sample) → IsOpen (open_run samples) (last_run samples)
unfolding open_run
open_cases samples = grind (arith, cases_lt, lt-leb, le-leb)

-- a sample that goes on with no block, or with a full one
pub dropped : (past : List Sample) (s : Sample) (old : OpenBlock) → s.start ≡ false → (length old.left ≡ 0) ⊎ (length old.left ≡ 192) → IsBlocksAfter old past
    → IsBlocksAfter (record { left = []; right = [] }) (past ++ s ∷ []) × (None ≡ block_of (past ++ s ∷ []))
unfolding open_run block_of
dropped past s old h size was = grind (arith, length-map, goes_on, open_cases, length-grown, empty, none_grown, lt-leb, ne_eqb)

full_is : (l r : List Bool) (run : List Sample) → l ≡ map left_status run → r ≡ map right_status run
    → full_status (record { left = l; right = r }) ≡ (if length run == 192 then Some (status_of run) else None)
full_is l r run p q =
    ap₂ (λ x y. full_status (record { left = x; right = y })) p q
    ∙ ap (λ n. if n == 192 then Some (status_of run) else None) (length-map run left_status)

-- a run of fewer than 192 samples, and one more
pub grew : (past : List Sample) (s : Sample) (r : List Sample) (base now : OpenBlock) → last_run (past ++ s ∷ []) ≡ r ++ s ∷ [] → length r < 192
    → base.left ≡ map left_status r → base.right ≡ map right_status r → now.left ≡ base.left ++ left_status s ∷ [] → now.right ≡ base.right ++ right_status s ∷ []
    → IsBlocksAfter now (past ++ s ∷ []) × (full_status now ≡ block_of (past ++ s ∷ []))
unfolding block_of open_run
grew past s r base now e lt bl br nl nr = grind (arith, length-append, le-leb, map-append, full_is)

-- a block's first sample
pub began : (past : List Sample) (s : Sample) (base now : OpenBlock) → s.start ≡ true → base.left ≡ [] → base.right ≡ []
    → now.left ≡ base.left ++ left_status s ∷ [] → now.right ≡ base.right ++ right_status s ∷ []
    → IsBlocksAfter now (past ++ s ∷ []) × (full_status now ≡ block_of (past ++ s ∷ []))
began past s base now h bl br nl nr = grew past s [] base now (later_starts past s h) (omega arith) bl br nl nr

-- any other of a block that is not full
pub went_on : (past : List Sample) (s : Sample) (base now : OpenBlock) → s.start ≡ false → 0 < length base.left → length base.left < 192 → IsBlocksAfter base past
    → now.left ≡ base.left ++ left_status s ∷ [] → now.right ≡ base.right ++ right_status s ∷ []
    → IsBlocksAfter now (past ++ s ∷ []) × (full_status now ≡ block_of (past ++ s ∷ []))
went_on past s base now h some few was nl nr =
    let many : length base.left ≡ length (open_run past) = ap length was.left ∙ length-map (open_run past) left_status in
    elim (open_cases past) [
      | inl same ↦
          let long : 0 < length (last_run past) = omega (arith, many, ap length same.0) in
          grew past s (last_run past) base now (goes_on past s h ∙ grown_is (last_run past) s long) (omega (arith, many, ap length same.0))
          (was.left ∙ ap (map left_status) same.0) (was.right ∙ ap (map right_status) same.0) nl nr
      | inr long ↦ absurd (omega (arith, many, ap length long.0))
    ]

-- the status of what is kept of samples is that of their last block
pub status_is : (past : List Sample) (now : OpenBlock) → IsBlocksAfter now past → full_status now ≡ block_of past
unfolding block_of
status_is past now was = grind (arith, full_is, open_cases, ne_eqb)

abbrev status_if : Bool → BlockStatus → Option BlockStatus
status_if b status = if b then Some status else None

some_if : (b : Bool) (status : BlockStatus) → is_some (status_if b status) ≡ b
some_if b status = grind arith

pub is_full : (now : OpenBlock) → is_some (full_status now) ≡ (length now.left == 192)
is_full now = some_if (length now.left == 192) (record { left = bytes_of 24 (number now.left); right = bytes_of 24 (number now.right) })

pub not_full : (now : OpenBlock) → (length now.left == 192) ≡ false → full_status now ≡ None
not_full now h = ap (λ b. status_if b (record { left = bytes_of 24 (number now.left); right = bytes_of 24 (number now.right) })) h

-- how many bits a part of 192 has
pub length-part : (n : ℕ) (xs ys : List Bool) → ys ≡ take n xs → n ≤ 192 → length xs ≡ 192 → length ys ≡ n
length-part n xs ys e le len = ap length e ∙ length-take-le n xs (omega arith)
