-- One column that goes on with the run or the line that is open, so that nothing is reported at it.
use Rattle.std.proofs.Common.{arith, ◌≡◌, ℕ, Bool, true, false, not, ◌&&◌, ◌==◌, List, [], refl, ◌∙◌, eqb-true}
use Rattle.tmds_word.specs.Column.{Column}
use Rattle.terc4.specs.Columns.{is_control_column, one_if}
use Rattle.period_grammar.specs.Cut.{Stretch, runs}
use Rattle.terc4.specs.Tables.{is_control}
use Rattle.period_grammar.specs.Column.{value_of}
use Rattle.period_grammar.specs.GoesOn.{is_whole, goes_on, goes_on_run}
use Rattle.period_grammar.specs.Heard.{other_words}
use Rattle.period_grammar.specs.LineSeen.{LineSeen}
use Rattle.period_grammar.specs.ControlAfter.{IsControlAfter}
use Rattle.period_grammar.specs.Stands.{IsStretchAfter, closed, going_on}
use Rattle.period_grammar.specs.declared.island.Island.{Island}
use Rattle.period_grammar.specs.declared.control.ControlState.{ControlState}
use Rattle.period_grammar.specs.declared.phase.Phase.TheVariants.{Control, First, Noise, Video}
use Rattle.period_grammar.proofs.Leads.{no_change, goes_run}
use Rattle.period_grammar.proofs.Phases.{close_control}

-- a column of this value, all of whose words are control words
pub record IsWhole (v : ℕ) (c : Column) : Type 0 where
  pub value : v ≡ value_of c
  pub blue : is_control c.blue ≡ true
  pub green : is_control c.green ≡ true
  pub red : is_control c.red ≡ true

pub both : (a b : Bool) → (a && b) ≡ true → (a ≡ true) × (b ≡ true)
both a b h = grind arith

pub whole_is : (v : ℕ) (c : Column) → is_whole v c ≡ true → IsWhole v c
whole_is v c e = grind (arith, both, eqb-true)

-- a column that goes on with the run that is kept
pub whole_going : (kept : ControlState) (control : List Column) (c : Column) → IsControlAfter kept control → goes_on_run (runs control) c ≡ true → IsWhole kept.value c
whole_going kept control c was e =
    whole_is kept.value c (both (not (kept.run == 0)) (is_whole kept.value c) (goes_run (runs control) kept.value kept.run was.run c ∙ e)).1

pub is_column : (v : ℕ) (c : Column) → IsWhole v c → is_control_column c ≡ true
unfolding is_control_column one_if
is_column v c whole = rw (whole.blue, whole.green, whole.red) refl

pub tells_no_word : (v n : ℕ) (c : Column) → IsWhole v c → other_words n c ≡ []
unfolding other_words
tells_no_word v n c whole = rw (whole.blue, whole.green, whole.red) refl

pub still_control : (kept : ControlState) (line : LineSeen) (isle : Island) (n : ℕ) (x : Stretch) → IsStretchAfter Control kept line isle n x → IsControlAfter kept (going_on x)
still_control kept line isle n x h = grind arith

pub closes_nothing : (kept : ControlState) (line : LineSeen) (isle : Island) (n b : ℕ) (c : Column) (x : Stretch) → IsWhole kept.value c → IsStretchAfter Control kept line isle n x → [] ≡ closed (value_of c) b x
closes_nothing kept line isle n b c x whole was = close_control kept line isle n [] (value_of c) (λ control h. no_change kept control (value_of c) h whole.value) x b was

-- what goes on in a control period, and in a line
pub control_goes : (kept : ControlState) (line : LineSeen) (isle : Island) (n : ℕ) (c : Column) (x : Stretch) → IsStretchAfter Control kept line isle n x → goes_on_run (runs (going_on x)) c ≡ goes_on x c
control_goes kept line isle n c x h = grind arith

pub line_goes : (kept : ControlState) (line : LineSeen) (isle : Island) (n start : ℕ) (c : Column) (x : Stretch) → IsStretchAfter (Video start) kept line isle n x → is_control_column c ≡ false → true ≡ goes_on x c
line_goes kept line isle n start c x h e = grind arith

pub first_stays : (kept : ControlState) (line : LineSeen) (isle : Island) (n start p q digit : ℕ) (c : Column) (x : Stretch) → IsStretchAfter (First start p q digit) kept line isle n x → false ≡ goes_on x c
first_stays kept line isle n start p q digit c x h = grind arith

pub noise_stays : (kept : ControlState) (line : LineSeen) (isle : Island) (n : ℕ) (c : Column) (x : Stretch) → IsStretchAfter Noise kept line isle n x → false ≡ goes_on x c
noise_stays kept line isle n c x h = grind arith
