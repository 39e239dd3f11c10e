-- Sixteen columns that are heard at once.
use Rattle.std.specs.Prelude.{ℕ, ◌≡◌, ◌≤◌, ◌+◌, ◌-◌, ◌*◌, ◌%◌, ◌^◌, ◌==◌, cond, List, [], ◌∷◌, length, slice_index, ℤ, pos, ◌-ℤ◌}
use Rattle.std.specs.Int.Bits.{bit_xor, bit_and, bit_or}
use Rattle.std.specs.Simd.Lanes.{mask_l}
use Rattle.terc4.specs.Tables.{is_control}
use Rattle.tmds_code.specs.Lanes.{disparity_of}
use Rattle.tmds_code.specs.Vectors.{HasLanes}
use Rattle.tmds_code.specs.Sixteen.{wrongs, at_step}
use Rattle.period_grammar.specs.declared.sixteen.LaneFront.{LaneFront}

-- 0 exactly where the low eight bits and the upper two are those of a control word
abbrev pub control_rest : ℕ → ℕ → ℕ
control_rest l h = bit_xor (bit_xor l 171) ((0 + (2 ^ 8 - bit_and h 1)) % 2 ^ 8)

abbrev pub lane_control : ℕ → ℕ → ℕ
lane_control l h = cond (control_rest l h == 0) 255 0

-- two of three
abbrev pub two_of : ℕ → ℕ → ℕ → ℕ
two_of b g r = bit_or (bit_and b g) (bit_and (bit_or b g) r)

-- 255 for each of sixteen words that is a control word, else 0
pub record AreControls (v ws : List ℕ) : Type 0 where
  pub long : length ws ≡ 16
  pub has : HasLanes v (λ k. cond (is_control (slice_index ws k)) 255 0)

-- the bytes of pixels: red, green, blue of each
abbrev pub pixels : List ℕ → List ℕ → List ℕ → List ℕ
pixels [] g b = []
pixels (r ∷ rs) [] b = []
pixels (r ∷ rs) (g ∷ gs) [] = []
pixels (r ∷ rs) (g ∷ gs) (b ∷ bs) = r ∷ (g ∷ (b ∷ pixels rs gs bs))

-- what is kept of a lane's words that were judged from a step on: which are wrong, and their ones
pub record IsHeard (step : ℕ) (ws : List ℕ) (lane : LaneFront) : Type 0 where
  pub wrong : lane.wrong ≡ mask_l (wrongs (at_step step) ws)
  pub balance : disparity_of ws ≡ pos (2 * lane.ones) -ℤ pos (10 * length ws)
  pub few : lane.ones ≤ 10 * length ws

-- the step of a disparity, where a rightly coded lane may have it
abbrev pub IsStepOf : ℤ → ℕ → Type 0
IsStepOf disparity step = (k : ℕ) → k ≤ 8 → disparity ≡ at_step k → step ≡ k
