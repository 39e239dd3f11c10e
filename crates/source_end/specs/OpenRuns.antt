-- The runs of a control period that goes on, the last of which may still grow.
use Rattle.std.specs.Prelude.{Bool, true, false, List, [], ◌∷◌, Option, Some, None}
use Rattle.island_pack.specs.Periods.{ControlRun, Period, control}

abbrev pub last_run : Option ControlRun → List ControlRun
last_run None = []
last_run (Some run) = run ∷ []

-- where there are runs, there is a last one
abbrev pub is_begun : List ControlRun → Option ControlRun → Bool
is_begun [] last = true
is_begun (r ∷ rs) None = false
is_begun (r ∷ rs) (Some run) = true

-- the control period of runs, if there are some
abbrev pub open_period : List ControlRun → List Period
open_period [] = []
open_period (r ∷ rs) = control (r ∷ rs) ∷ []
