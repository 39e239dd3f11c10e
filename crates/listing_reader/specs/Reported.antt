-- What the reader of a listing keeps of the lines that it has taken.
use Rattle.std.specs.Prelude.{◌≡◌, ◌+◌, ◌*◌, ◌≤◌, true, List, [], ◌∷◌, ◌++◌, length, Option, Some, None, Result, Ok, Err}
use Rattle.std.specs.List.{list_all}
use Rattle.island_pack.specs.Periods.{ControlRun, DataIsland, Period, control, columns_of}
use Rattle.island_pack.specs.Conforming.{is_sync_pair, is_packet}
use Rattle.island_pack.specs.declared.ranges.TheConstants.{COLUMN_LIMIT}
use Rattle.source_end.specs.Refusals.{last_period, is_long_enough}
use Rattle.source_end.specs.declared.items.ItemFault.{ItemFault}
use Rattle.source_end.specs.declared.items.ItemFault.TheVariants.{Range as range_fault, Order as order_fault, Control as control_fault, Preamble as preamble_fault, Long as long_fault, NoMemory as no_memory}
use Rattle.listing_reader.specs.declared.fault.ListCause.{ListCause}
use Rattle.listing_reader.specs.declared.fault.ListCause.TheVariants.{Range, Order, Control, Preamble, Long}
use Rattle.listing_reader.specs.declared.teller.Refusal.{Refusal}
use Rattle.listing_reader.specs.declared.teller.Refusal.TheVariants.{Cause, NoMemory}
use Rattle.listing_reader.specs.Causes.{announces_island}
use Rattle.listing_reader.specs.Drafts.{OpenIsland, Draft}

-- periods and the control period that is still open
abbrev pub with_open : List Period → List ControlRun → List Period
with_open periods [] = periods
with_open periods (r ∷ runs) = periods ++ control (r ∷ runs) ∷ []

-- an island whose closing guard is still to follow
abbrev pub unclosed : Option DataIsland → Option OpenIsland
unclosed None = None
unclosed (Some x) = Some (record { opening = x.opening; packets = x.packets })

-- periods and the island after them
abbrev pub drafted : List Period → Option DataIsland → Draft
drafted periods island = record { periods = periods; opened = unclosed island }

-- an island that stands after the control period that announces it
pub record IsBegun (periods : List Period) (x : DataIsland) : Type 0 where
  pub long : is_long_enough (last_period periods) ≡ true
  pub announced : announces_island (last_period periods) ≡ true
  pub opening : is_sync_pair x.opening ≡ true
  pub packets : list_all is_packet x.packets ≡ true
  pub few : length x.packets ≤ 18
  pub room : columns_of periods + (2 + 32 * length x.packets) ≤ COLUMN_LIMIT

-- no island, or such a one
abbrev pub MayStand : List Period → Option DataIsland → Type 0
MayStand periods None = Unit {0}
MayStand periods (Some x) = IsBegun periods x

-- a cause is given exactly where there is one, but for want of memory
abbrev pub AnswersCause : {T : Type 0} → Option ListCause → Result T Refusal → Type 0
AnswersCause (Some cause) (Ok done) = ⊥
AnswersCause (Some cause) (Err (Cause found)) = found ≡ cause
AnswersCause (Some cause) (Err NoMemory) = Unit {0}
AnswersCause None (Ok done) = Unit {0}
AnswersCause None (Err (Cause found)) = ⊥
AnswersCause None (Err NoMemory) = Unit {0}

-- what a fault of an item is in a listing
abbrev pub RefusesAs : ItemFault → Refusal → Type 0
RefusesAs no_memory refusal = refusal ≡ NoMemory
RefusesAs range_fault refusal = refusal ≡ Cause Range
RefusesAs order_fault refusal = refusal ≡ Cause Order
RefusesAs control_fault refusal = refusal ≡ Cause Control
RefusesAs preamble_fault refusal = refusal ≡ Cause Preamble
RefusesAs long_fault refusal = refusal ≡ Cause Long
