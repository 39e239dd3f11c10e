-- Where a control period begins on a lane, and where the one begins that ends at an edge. A period between two control periods has
-- two guard characters and a pixel at least (HDMI 1.4, section 5.2), so a lane that is received as it was sent shows three others
-- before each beginning; that these are asked for is this project's own rule.
use Rattle.std.specs.Prelude.{◌≡◌, ℕ, ◌+◌, ◌-◌, ◌*◌, ◌%◌, ◌<◌, ◌≤◌, Bool, List, Option, MatchOption}
use Rattle.lane_align.specs.Lanes.{HasControl, IsLock}

-- a control character, past the run of the lock, that follows three others
pub record IsBegin (xs : List Bool) (q : ℕ) : Type 0 where
  pub lock : ℕ
  pub is_lock : IsLock xs lock
  pub past : lock + 150 ≤ q
  pub aligned : q % 10 ≡ lock % 10
  pub control : HasControl xs q
  pub others : (k : ℕ) → k < 3 → HasControl xs (q - 10 - 10 * k) → ⊥

-- the last of these before a place
pub record IsBeginOf (xs : List Bool) (e q : ℕ) : Type 0 where
  pub begins : IsBegin xs q
  pub before : q < e
  pub last : (r : ℕ) → IsBegin xs r → r < e → r ≤ q

-- what that is: None where there is none
abbrev pub IsLastBegin : List Bool → ℕ → Option ℕ → Type 0
IsLastBegin xs e found = MatchOption found ((q : ℕ) → IsBegin xs q → e ≤ q) (λ q. IsBeginOf xs e q)
