-- The first fault decides.
use Rattle.std.proofs.Common.{arith, ◌≡◌, Bool, true, false, List, refl, Option, Some, None, ◌+◌, sym, subst, ◌∙◌, Result, Ok, Err}
use Rattle.std.specs.Prelude.{nat_le}
use Rattle.island_pack.specs.Periods.{Period, period_columns, columns_of}
use Rattle.island_pack.specs.declared.ranges.TheConstants.{COLUMN_LIMIT}
use Rattle.source_end.specs.declared.items.ItemFault.{ItemFault}
use Rattle.source_end.specs.declared.items.ItemFault.TheVariants.{Range, Order, Control, Preamble, Long, NoMemory}
use Rattle.source_end.specs.DviPeriods.{dvi_columns, dvi_columns_of}
use Rattle.source_end.specs.Refusals.{last_period, is_in_range, is_in_order, has_control, is_announced, is_control_last, is_long_enough, unless, push_fault, dvi_push_fault, close_fault, AnswersFault}

abbrev pub first : Bool → Bool → Bool → Bool → Bool → Option ItemFault
first a b c d e = unless a Range (unless b Order (unless c Control (unless d Preamble (unless e Long None))))

pub push_fault_is : (periods : List Period) (p : Period) → push_fault periods p ≡ first (is_in_range p) (is_in_order (last_period periods) p) (has_control (last_period periods) p) (is_announced (last_period periods) p) (nat_le (columns_of periods + period_columns p) COLUMN_LIMIT)
unfolding push_fault
push_fault_is periods p = refl

pub at_none : (a b c d e : Bool) → a ≡ true → b ≡ true → c ≡ true → d ≡ true → e ≡ true → first a b c d e ≡ None
at_none a b c d e h k l m p = grind arith

abbrev pub last_first : Bool → Bool → Option ItemFault
last_first a b = unless a Order (unless b Control None)

pub close_fault_is : (periods : List Period) → close_fault periods ≡ last_first (is_control_last (last_period periods)) (is_long_enough (last_period periods))
unfolding close_fault
close_fault_is periods = refl

pub close_order : (a b : Bool) → a ≡ false → last_first a b ≡ Some Order
close_order a b h = grind arith

pub close_control : (a b : Bool) → a ≡ true → b ≡ false → last_first a b ≡ Some Control
close_control a b h k = grind arith

pub ends_long : (periods : List Period) → close_fault periods ≡ None → is_long_enough (last_period periods) ≡ true
ends_long periods h = grind (arith, close_fault_is)

pub close_none : (a b : Bool) → a ≡ true → b ≡ true → last_first a b ≡ None
close_none a b h k = grind arith

-- the five tests of an item that has no fault
pub record AllHold (a b c d e : Bool) : Type 0 where
  pub range : a ≡ true
  pub order : b ≡ true
  pub control : c ≡ true
  pub preamble : d ≡ true
  pub room : e ≡ true

pub none_holds : (a b c d e : Bool) → first a b c d e ≡ None → AllHold a b c d e
none_holds a b c d e h = grind arith

-- the same of a push

pub push_none : (periods : List Period) (p : Period) → is_in_range p ≡ true → is_in_order (last_period periods) p ≡ true → has_control (last_period periods) p ≡ true → is_announced (last_period periods) p ≡ true → nat_le (columns_of periods + period_columns p) COLUMN_LIMIT ≡ true → push_fault periods p ≡ None
push_none periods p h i j k l = push_fault_is periods p ∙ at_none (is_in_range p) (is_in_order (last_period periods) p) (has_control (last_period periods) p) (is_announced (last_period periods) p) (nat_le (columns_of periods + period_columns p) COLUMN_LIMIT) h i j k l

pub dvi_push_fault_is : (periods : List Period) (p : Period) → dvi_push_fault periods p ≡ first (is_in_range p) (is_in_order (last_period periods) p) (has_control (last_period periods) p) true (nat_le (dvi_columns_of periods + dvi_columns p) COLUMN_LIMIT)
unfolding dvi_push_fault
dvi_push_fault_is periods p = refl

-- what the answer then is
pub answers : (fault : ItemFault) (seen : Option ItemFault) → seen ≡ Some fault → AnswersFault {T = Unit {0}} seen (Err fault)
answers fault seen e = subst (λ (f : Option ItemFault). AnswersFault {T = Unit {0}} f (Err fault)) (sym e) refl

pub answers_ok : (result : Result (Unit {0}) ItemFault) (seen : Option ItemFault) → seen ≡ None → result ≡ Ok tt → AnswersFault seen result
answers_ok result seen e is = subst (λ (f : Option ItemFault). AnswersFault f result) (sym e) (subst (λ (r : Result (Unit {0}) ItemFault). AnswersFault None r) (sym is) tt)

pub answers_err : (result : Result (Unit {0}) ItemFault) (seen : Option ItemFault) → seen ≡ None → result ≡ Err NoMemory → AnswersFault seen result
answers_err result seen e is = subst (λ (f : Option ItemFault). AnswersFault f result) (sym e) (subst (λ (r : Result (Unit {0}) ItemFault). AnswersFault None r) (sym is) refl)

-- a test that was asked of the same value
